-- `mail::mail_receive` meets its contract. Assumes nothing.
use Rattle.answers.proofs.Told.{told_by}
use Rattle.receive.specs.Outcome.{told as told_received}
use Rattle.mail.proofs.Door.{receives}
use Rattle.mail.proofs.mail_receive.Goals as goal

pub returns : goal.returns
returns c = receives _ _ _ _ c.receive.ensures (told_by _ told_received _ c.answer_to.ensures.done c.answer_to.ensures.refused)
