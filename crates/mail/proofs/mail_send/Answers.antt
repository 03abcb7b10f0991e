-- `mail::mail_send` meets its contract. Assumes nothing.
use Rattle.answers.proofs.Told.{told_by}
use Rattle.posting.specs.Told.{told as told_sent}
use Rattle.mail.proofs.Door.{sends}
use Rattle.mail.proofs.mail_send.Goals as goal

pub returns : goal.returns
returns c = sends _ _ _ _ c.send.ensures (told_by _ told_sent _ c.answer_to.ensures.done c.answer_to.ensures.refused)
