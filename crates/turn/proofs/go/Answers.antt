-- `turn::go` meets its contract. Assumes nothing.
use mathlib.Core.Path.{◌∙◌}
use Rattle.carrying.proofs.Ways.{then_stop, then_go}
use Rattle.stages_keep.specs.Steps.{gone}
use Rattle.turn.proofs.Resumes.{resume_carries}
use Rattle.turn.proofs.go.Goals as goal

pub returns-in_default : goal.returns-in_default
unfolding gone
returns-in_default c = then_stop _ (c.resume-a.ensures ∙ rw c.start-r.ensures) c.in_default.is

pub carry_from-requires : goal.carry_from-requires
carry_from-requires c = resume_carries c.args.s c.args.memory.now c.args.j c.args.p c.requires (c.resume-a.ensures ∙ rw c.start-r.ensures) c.in-Done.is

pub returns : goal.returns
unfolding gone
returns c = then_go _ (c.resume-a.ensures ∙ rw c.start-r.ensures) c.in-Done.is c.carry_from.ensures
