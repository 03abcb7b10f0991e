-- What list answers and leaves, for any memory and out: 'List', 'What comes back'. It changes no memory.
use Rattle.std.specs.Prelude.{cond, List, ℕ, ◌*◌, leb, length, Err, Ok, Result}
use Rattle.layout.specs.Numbers.{list_words}
use Rattle.letters.specs.Letter.{onto}
use Rattle.sound.specs.Reading.{settings_in}
use Rattle.sound.specs.Sound.{sound}
use Rattle.answers.specs.declared.Answer.{Answer}
use Rattle.answers.specs.Numbers.{bare, done, not_sound, out_shorter_than_list}
use Rattle.showing.specs.declared.Shown.{Shown}
use Rattle.showing.specs.List.{listed, laid_out}
use Rattle.listing.specs.declared.Listed.{Listed}
use Rattle.listing.specs.declared.ListRefusal.{ListRefusal}
use Rattle.listing.specs.declared.ListRefusal.TheVariants.{NotSound, OutTooShort}

-- the document's number and values for each case: 'list answers the number of letters, also with 11'
abbrev pub told : Result Listed ListRefusal → Answer
told (Ok x) = record { number = done; first = x.letters; second = 0; third = 0 }
told (Err NotSound) = bare not_sound
told (Err (OutTooShort letters)) = record { number = out_shorter_than_list; first = letters; second = 0; third = 0 }

-- what a list answers, and out after it
pub record Outcome : Type 0 where
  pub answer : Result Listed ListRefusal
  pub out : List ℕ

module _ (memory out : List ℕ) where
  abbrev pub letters : List Shown
  letters = listed (settings_in memory) memory

  -- 'list 1, 11'; 'the rest of out stays'
  unfoldable pub list : Outcome
  list =
      cond (sound memory)
      (cond (leb (length letters * list_words) (length out))
      (record { answer = Ok (record { letters = length letters }); out = onto (laid_out letters) out })
      (record { answer = Err (OutTooShort (length letters)); out = out }))
      (record { answer = Err NotSound; out = out })
