-- `copying::move_words` meets its contract: after k turns the first k words stand. Assumes nothing.
use Rattle.std.proofs.Common.{◌≡◌, length, ◌+◌}
use lib.ListN.{take}
use lib.Seq.{sets}
use Rattle.words.specs.Words.{part}
use Rattle.copying.proofs.move_words.Given as goal

abbrev pub invariant-loop-k : goal.invariant-loop-k
invariant-loop-k l = (length l.memory ≡ length l.initial.memory) × (l.memory ≡ sets l.initial.memory l.to (take l.k (part l.initial.memory l.from (l.from + l.n))))
