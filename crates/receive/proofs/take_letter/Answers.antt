-- `receive::take_letter` meets its contract: by what is found. Assumes nothing.
use Rattle.receive.proofs.Outcomes.{found-holds, found-took, vain_took}
use mathlib.Core.Path.{sym, ◌∙◌}
use Rattle.receive.proofs.take_letter.Goals as goal

pub take_at-requires : goal.take_at-requires
take_at-requires c = found-holds c.args.s c.args.node.now c.args.q c.args.source c.requires c.task_at-at.ensures.is _ (sym c.find.ensures ∙ c.in-Some.is)

pub returns-in-Some : goal.returns-in-Some
returns-in-Some c = found-took c.args.s c.args.node.now c.args.q c.args.source c.requires c.task_at-at.ensures.is _ (sym c.find.ensures ∙ c.in-Some.is) c.args.out.now c.take_at.ensures

pub returns-in-None : goal.returns-in-None
returns-in-None c = vain_took c.args.s c.args.node.now c.args.q c.args.source c.requires c.task_at-at.ensures.is c.args.out.now (sym c.find.ensures ∙ c.in-None.is) c.in_vain.ensures.answer c.in_vain.ensures.stored
