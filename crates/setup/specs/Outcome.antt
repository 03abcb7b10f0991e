-- What set up answers and leaves, for any settings, table and memory: 'Set up', 'What comes back'.
use Rattle.std.specs.Prelude.{cond, List, ℕ, Result, Ok, Err, eqb, length}
use Rattle.settings.specs.declared.Settings.{Settings}
use Rattle.settings.specs.Range.{in_range}
use Rattle.layout.specs.Places.{memory_size}
use Rattle.tasks.specs.Table.{right_table}
use Rattle.answers.specs.declared.Answer.{Answer}
use Rattle.answers.specs.Numbers.{bare, done, setting_out_of_range, wrong_table, other_size}
use Rattle.setup.specs.Fresh.{fresh_memory}
use Rattle.setup.specs.declared.SetUpRefusal.{SetUpRefusal}
use Rattle.setup.specs.declared.SetUpRefusal.TheVariants.{SettingOutOfRange, WrongTable, OtherSize}

-- the document's number and values for each case
abbrev pub told : Result Unit SetUpRefusal → Answer
told (Ok _) = bare done
told (Err SettingOutOfRange) = bare setting_out_of_range
told (Err WrongTable) = bare wrong_table
told (Err OtherSize) = bare other_size

-- what a set up answers, and the memory after it
pub record Outcome : Type 0 where
  pub answer : Result Unit SetUpRefusal
  pub memory : List ℕ

-- 'set up 13, 14, 15', none of which changes anything; else done
unfoldable pub set_up : Settings → List ℕ → List ℕ → Outcome
set_up s table memory =
    cond (in_range s)
    (cond (right_table table)
    (cond (eqb (length memory) (memory_size s))
    (record { answer = Ok tt; memory = fresh_memory s table })
    (record { answer = Err OtherSize; memory = memory }))
    (record { answer = Err WrongTable; memory = memory }))
    (record { answer = Err SettingOutOfRange; memory = memory })
