-- What a send tells, as the program and C see it: 'What comes back'.
use Rattle.std.specs.Prelude.{Result, Ok, Err}
use Rattle.answers.specs.declared.Answer.{Answer}
use Rattle.answers.specs.Numbers.{bare, done, not_sound, first_not_bound, other_not_bound, body_too_long, too_few_blocks, queue_full}
use Rattle.posting.specs.declared.Sent.{Sent}
use Rattle.posting.specs.declared.SendRefusal.{SendRefusal}
use Rattle.posting.specs.declared.SendRefusal.TheVariants.{NotSound, SourceNotBound, DestinationNotBound, BodyTooLong, TooFewBlocks, QueueFull}

-- the document's number and values for each case: 'Send answers blocks taken'
abbrev pub told : Result Sent SendRefusal → Answer
told (Ok sent) = record { number = done; first = sent.blocks; second = 0; third = 0 }
told (Err NotSound) = bare not_sound
told (Err SourceNotBound) = bare first_not_bound
told (Err DestinationNotBound) = bare other_not_bound
told (Err BodyTooLong) = bare body_too_long
told (Err TooFewBlocks) = bare too_few_blocks
told (Err QueueFull) = bare queue_full
