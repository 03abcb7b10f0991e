-- `script::fill` meets its contract: after i turns the first i words rise. Assumes nothing.
use Rattle.std.proofs.Common.{◌≡◌, ◌+◌, ◌%◌, ◌++◌, drop}
use Rattle.script.specs.Words.{rising}
use Rattle.script.proofs.fill.Given as goal

abbrev pub invariant-loop-word : goal.invariant-loop-word
invariant-loop-word l = (l.words ≡ rising l.f l.word-index ++ drop l.word-index l.initial.words) × (l.next ≡ (l.f + l.word-index) % 4294967296)
