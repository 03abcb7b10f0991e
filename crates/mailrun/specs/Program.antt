-- What the program answers to a record of bytes, and the memory after it: 'The program'.
use Rattle.std.specs.Prelude.{cond, List, ℕ, ◌+◌, ◌*◌, eqb, length, get_or, replicate}
use Rattle.answers.specs.declared.Answer.{Answer}
use Rattle.answers.specs.Numbers.{bare, unknown_record}
use Rattle.posting.specs.Told.{told as told_sent}
use Rattle.send.specs.Outcome.{send}
use Rattle.receive.specs.Outcome.{receive, told as told_received}
use Rattle.turn.specs.Outcome.{turn, told as told_turned}
use Rattle.script.specs.Words.{rising}

-- what a record answers, and the memory after it
pub record Outcome : Type 0 where
  pub answer : Answer
  pub memory : List ℕ

-- 'f in four bytes, low byte first'
abbrev pub word_from : List ℕ → ℕ
word_from r = get_or r 4 0 + get_or r 5 0 * 256 + (get_or r 6 0 + get_or r 7 0 * 256) * 65536

-- 'kind (1 send, 2 receive, 3 turn), first task, second task, body length in words'; 'Body word i is f + i modulo 2^32'
unfoldable pub sent : List ℕ → List ℕ → Outcome
sent m r =
    let o = send m (get_or r 1 0) (get_or r 2 0) (rising (word_from r) (get_or r 3 0)) in
    record { answer = told_sent o.answer; memory = o.memory }

-- 'receive ignores length and f, with a 255-word out'; 'Receive: source, length, first word or 0'
unfoldable pub received : List ℕ → List ℕ → Outcome
received m r =
    let o = receive m (get_or r 1 0) (get_or r 2 0) (replicate 255 0) in
    let a = told_received o.answer in
    record { answer = record { number = a.number; first = a.first; second = a.second; third = get_or o.out 0 0 }; memory = o.memory }

-- 'A turn ignores the rest'
unfoldable pub turned : List ℕ → Outcome
turned m = record { answer = told_turned (turn m).answer; memory = (turn m).memory }

abbrev pub unknown : List ℕ → Outcome
unknown m = record { answer = bare unknown_record; memory = m }

-- 'Unknown kind or a short last record: 12 and zeroes'
unfoldable pub played : List ℕ → List ℕ → Outcome
played m r =
    cond (eqb (length r) 8)
    (cond (eqb (get_or r 0 0) 1) (sent m r)
    (cond (eqb (get_or r 0 0) 2) (received m r)
    (cond (eqb (get_or r 0 0) 3) (turned m) (unknown m))))
    (unknown m)
