-- `script::sum` meets its contract: what is summed and what is left make the sum. Assumes nothing.
use Rattle.std.proofs.Common.{◌≡◌, ◌<◌, drop}
use Rattle.script.specs.Words.{summed, sum_of}
use Rattle.script.proofs.sum.Given as goal

abbrev pub invariant-loop-word : goal.invariant-loop-word
invariant-loop-word l = (l.h < 4294967291) × (summed l.h (drop l.word-index l.words) ≡ sum_of l.words)
