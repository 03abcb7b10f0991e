-- `words::copy` meets its contract: after i turns the first i words are those of `from`. Assumes nothing.
use Rattle.std.proofs.Common.{◌≡◌, length}
use mathlib.Core.List.{◌++◌}
use lib.ListN.{take, drop}
use Rattle.words.proofs.copy.Given as goal

abbrev pub invariant-loop-i : goal.invariant-loop-i
invariant-loop-i l = (length l.to ≡ length l.from) × (l.to ≡ take l.i l.from ++ drop l.i l.initial.to)
