-- The table of 'What comes back': a name for each number, and the answer of a refusal that has no values.
use Rattle.std.specs.Prelude.{ℕ}
use Rattle.answers.specs.declared.Answer.{Answer}

abbrev pub done : ℕ
done = 0

abbrev pub not_sound : ℕ
not_sound = 1

abbrev pub first_not_bound : ℕ
first_not_bound = 2

abbrev pub other_not_bound : ℕ
other_not_bound = 3

abbrev pub body_too_long : ℕ
body_too_long = 4

abbrev pub too_few_blocks : ℕ
too_few_blocks = 5

abbrev pub queue_full : ℕ
queue_full = 6

abbrev pub no_such_letter : ℕ
no_such_letter = 7

abbrev pub no_such_letter_queue_full : ℕ
no_such_letter_queue_full = 8

abbrev pub out_shorter_than_body : ℕ
out_shorter_than_body = 9

abbrev pub acknowledge_queue_full : ℕ
acknowledge_queue_full = 10

abbrev pub out_shorter_than_list : ℕ
out_shorter_than_list = 11

abbrev pub unknown_record : ℕ
unknown_record = 12

abbrev pub setting_out_of_range : ℕ
setting_out_of_range = 13

abbrev pub wrong_table : ℕ
wrong_table = 14

abbrev pub other_size : ℕ
other_size = 15

-- 'Other refusals answer zeroes': the number alone
abbrev pub bare : ℕ → Answer
bare n = record { number = n; first = 0; second = 0; third = 0 }
