-- `blocks::last_on` ends: the measure is the number of blocks that are owed. Assumes nothing.
use Rattle.blocks.proofs.+last_on.Given as goal

abbrev pub decreases-last_on : goal.decreases-last_on
decreases-last_on l = l.owed
