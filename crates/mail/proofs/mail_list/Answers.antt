-- `mail::mail_list` meets its contract. Assumes nothing.
use Rattle.answers.proofs.Told.{told_by}
use Rattle.listing.specs.Outcome.{told as told_listed}
use Rattle.mail.proofs.Door.{lists}
use Rattle.mail.proofs.mail_list.Goals as goal

pub returns : goal.returns
returns c = lists _ _ c.list.ensures (told_by _ told_listed _ c.answer_to.ensures.done c.answer_to.ensures.refused)
