-- A letter taken from a node's task queue: 'Receive'.
use Rattle.std.specs.Prelude.{Bool, cond, ◌&&◌, not, List, ℕ, ◌+◌, eqb, leb, length, get_or, drop, Err, None, Ok, Option, Result, Some}
use Rattle.settings.specs.declared.Settings.{Settings}
use Rattle.layout.specs.Places.{empty_word, task_at}
use Rattle.layout.specs.Numbers.{header_words, source_task_word}
use Rattle.blocks.specs.Moves.{given_back}
use Rattle.letters.specs.Letter.{onto}
use Rattle.queues.specs.Queue.{task_kind, items, item_at}
use Rattle.queues.specs.Moves.{counted}
use Rattle.taking.specs.Find.{found}
use Rattle.taking.specs.Take.{taken_out}
use Rattle.sound.specs.Letters.{chain_from, words_from}
use Rattle.receive.specs.declared.Received.{Received}
use Rattle.receive.specs.declared.ReceiveRefusal.{ReceiveRefusal}
use Rattle.receive.specs.declared.ReceiveRefusal.TheVariants.{NoLetter, NoLetterQueueFull, OutTooShort}

-- what taking answers, and the stretch and out after it
pub record Took : Type 0 where
  pub answer : Result Received ReceiveRefusal
  pub stretch : List ℕ
  pub out : List ℕ

module _ (s : Settings) (stretch : List ℕ) (q source : ℕ) where
  -- 'source not 0, and the task queue's items have reached T'
  unfoldable pub filled : Bool
  filled = not (eqb source 0) && leb s.t (items (task_kind s) stretch (task_at s q))

  -- 8 before 7; the empty count rises
  unfoldable pub in_vain : List ℕ → Took
  in_vain out =
      record { answer = cond filled (Err NoLetterQueueFull) (Err NoLetter); stretch = counted stretch (task_at s q + empty_word); out = out }

  -- the letter at place k of the queue: its first block, its source and its body
  abbrev pub block_of : ℕ → ℕ
  block_of k = item_at (task_kind s) stretch (task_at s q) k

  abbrev pub source_of : ℕ → ℕ
  source_of k = get_or (words_from s stretch (block_of k)) source_task_word 0

  abbrev pub body_of : ℕ → List ℕ
  body_of k = drop header_words (words_from s stretch (block_of k))

  -- 'The chain is given back', after the item has left the queue
  unfoldable pub emptied : ℕ → List ℕ
  emptied k = given_back s (taken_out s stretch (task_at s q) k) (length (chain_from s stretch (block_of k))) (block_of k)

  -- 'The body goes to the front of out, the rest of out stays'
  unfoldable pub took_at : ℕ → List ℕ → Took
  took_at k out =
      cond (leb (length (body_of k)) (length out))
      (record { answer = Ok (record { source = source_of k; words = length (body_of k) }); stretch = emptied k; out = onto (body_of k) out })
      (record { answer = Err OutTooShort; stretch = stretch; out = out })

  abbrev pub took_by : Option ℕ → List ℕ → Took
  took_by (Some k) out = took_at k out
  took_by None out = in_vain out

  -- 'Source 0 takes the first letter; otherwise the first from that source'
  unfoldable pub took : List ℕ → Took
  took out = took_by (found s stretch (task_at s q) source) out
