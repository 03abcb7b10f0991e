-- What receive answers and leaves, for any memory, tasks and out: 'Receive', 'What comes back'.
use Rattle.std.specs.Prelude.{cond, ◌||◌, List, ℕ, eqb, Err, Ok, Result}
use Rattle.settings.specs.declared.Settings.{Settings}
use Rattle.layout.specs.Places.{node, with_node}
use Rattle.tasks.specs.Table.{node_of, queue_of, is_bound}
use Rattle.sound.specs.Reading.{settings_in, table_in}
use Rattle.sound.specs.Sound.{sound}
use Rattle.answers.specs.declared.Answer.{Answer}
use Rattle.answers.specs.Numbers.{bare, done, not_sound, first_not_bound, other_not_bound, no_such_letter, no_such_letter_queue_full, out_shorter_than_body}
use Rattle.receive.specs.Take.{took}
use Rattle.receive.specs.declared.Received.{Received}
use Rattle.receive.specs.declared.ReceiveRefusal.{ReceiveRefusal}
use Rattle.receive.specs.declared.ReceiveRefusal.TheVariants.{NotSound, DestinationNotBound, SourceNotBound, NoLetter, NoLetterQueueFull, OutTooShort}

-- the document's number and values for each case: 'receive answers source and body length'
abbrev pub told : Result Received ReceiveRefusal → Answer
told (Ok got) = record { number = done; first = got.source; second = got.words; third = 0 }
told (Err NotSound) = bare not_sound
told (Err DestinationNotBound) = bare first_not_bound
told (Err SourceNotBound) = bare other_not_bound
told (Err NoLetter) = bare no_such_letter
told (Err NoLetterQueueFull) = bare no_such_letter_queue_full
told (Err OutTooShort) = bare out_shorter_than_body

-- what a receive answers, and the memory and out after it
pub record Outcome : Type 0 where
  pub answer : Result Received ReceiveRefusal
  pub memory : List ℕ
  pub out : List ℕ

module _ (memory : List ℕ) (destination source : ℕ) (out : List ℕ) where
  abbrev pub settings : Settings
  settings = settings_in memory

  abbrev pub refused_by : Result Received ReceiveRefusal → Outcome
  refused_by a = record { answer = a; memory = memory; out = out }

  -- the destination's node, and its queue there
  abbrev pub home : ℕ
  home = node_of (table_in memory) destination

  unfoldable pub collected : Outcome
  collected =
      let t = took settings (node settings memory home) (queue_of (table_in memory) destination) source out in
      record { answer = t.answer; memory = with_node settings memory home t.stretch; out = t.out }

  -- 'Order: .. receive 1, 2, 3, then 8 before 7, then 9'
  unfoldable pub receive : Outcome
  receive =
      cond (sound memory)
      (cond (is_bound (table_in memory) destination)
      (cond (eqb source 0 || is_bound (table_in memory) source) collected (refused_by (Err SourceNotBound)))
      (refused_by (Err DestinationNotBound)))
      (refused_by (Err NotSound))
