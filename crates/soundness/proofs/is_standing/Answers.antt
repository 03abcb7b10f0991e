-- `soundness::is_standing` meets its contract. Assumes nothing.
use mathlib.Core.Path.{sym, ◌∙◌}
use borrow.Author.Tests.{tests}
use Rattle.std.proofs.Common.{rules}
use Rattle.sound.proofs.Tests.{yes_first}
use Rattle.soundness.proofs.Places.{stand_holds}
use Rattle.soundness.proofs.is_standing.Goals as goal

pub returns-then-is_other-2 : goal.returns-then-is_other-2
returns-then-is_other-2 c = yes_first _ _ _ (sym c.is_other-in-2.ensures ∙ c.if-is_other-2.true) (search (tests, rules)) ∙ sym (stand_holds c.args.s c.args.memory.now c.args.j c.in-2.is)
