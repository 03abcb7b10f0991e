-- `mail::mail_set_up` meets its contract. Assumes nothing.
use Rattle.answers.proofs.Told.{told_by}
use Rattle.setup.specs.Outcome.{told as told_set_up}
use Rattle.mail.proofs.Door.{sets_up}
use Rattle.mail.proofs.mail_set_up.Goals as goal

pub returns : goal.returns
returns c = sets_up _ _ _ _ _ _ _ c.set_up.ensures (told_by _ told_set_up _ c.answer_to.ensures.done c.answer_to.ensures.refused)
