-- `turn::resume` meets its contract: by the stage. Assumes nothing.
use mathlib.Core.Path.{sym, ◌∙◌}
use native.Mathlib.Omega.{arith}
use Rattle.turn.proofs.Resumes.{resumed_clear, resumed_two, resumed_three, at_three, resume_collects}
use Rattle.turn.proofs.resume.Goals as goal

pub collect_from-requires : goal.collect_from-requires
collect_from-requires c = resume_collects c.args.s c.args.memory.now c.args.j c.args.p c.requires.sound_at c.args.r c.requires.r_value (omega arith)

pub returns-in-0 : goal.returns-in-0
returns-in-0 c = c.collect_from.ensures ∙ sym (resumed_clear c.args.s c.args.memory.now c.args.j c.args.p c.args.r (omega arith))

pub returns-in-2 : goal.returns-in-2
returns-in-2 c = c.deliver.ensures ∙ sym (resumed_two c.args.s c.args.memory.now c.args.j c.args.p c.args.r (omega arith))

pub hand_on-requires : goal.hand_on-requires
hand_on-requires c = at_three c.args.s c.args.memory.now c.args.j c.args.p c.requires.sound_at (omega arith) (λ e. absurd (omega arith))

pub returns-in_default : goal.returns-in_default
returns-in_default c = c.hand_on.ensures ∙ sym (resumed_three c.args.s c.args.memory.now c.args.j c.args.p c.args.r (omega arith) (λ e. absurd (omega arith)))
