-- `visits::visit_on` ends: the measure is the number of blocks that are owed. Assumes nothing.
use Rattle.visits.proofs.+visit_on.Given as goal

abbrev pub decreases-visit_on : goal.decreases-visit_on
decreases-visit_on l = l.owed
