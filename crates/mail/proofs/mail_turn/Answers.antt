-- `mail::mail_turn` meets its contract. Assumes nothing.
use Rattle.answers.proofs.Told.{told_by}
use Rattle.turn.specs.Outcome.{told as told_turned}
use Rattle.mail.proofs.Door.{turns}
use Rattle.mail.proofs.mail_turn.Goals as goal

pub returns : goal.returns
returns c = turns _ c.turn.ensures (told_by _ told_turned _ c.answer_to.ensures.done c.answer_to.ensures.refused)
