-- A letter put into a node's stretch: blocks taken, words written, the first block appended: 'Send'.
use Rattle.std.specs.Prelude.{Bool, true, false, cond, List, ℕ, ◌+◌, length, get_or, Err, Ok, Result}
use Rattle.settings.specs.declared.Settings.{Settings}
use Rattle.layout.specs.Places.{first_free_at, room_at, send_at, task_at, full_word, task_full_word}
use Rattle.blocks.specs.Chain.{needs}
use Rattle.blocks.specs.Moves.{enough, taken}
use Rattle.letters.specs.Letter.{written}
use Rattle.queues.specs.declared.Full.{Full}
use Rattle.queues.specs.Queue.{send_kind}
use Rattle.queues.specs.Moves.{counted, appended, append_answer}
use Rattle.gaps.specs.Close.{task_appended, task_answer}
use Rattle.posting.specs.declared.Goal.{Goal}
use Rattle.posting.specs.declared.Goal.TheVariants.{Task, Node}
use Rattle.posting.specs.declared.Sent.{Sent}
use Rattle.posting.specs.declared.SendRefusal.{SendRefusal}
use Rattle.posting.specs.declared.SendRefusal.TheVariants.{TooFewBlocks, QueueFull}

-- the queue takes one more, its gaps closed
abbrev pub took_it : Result Unit Full → Bool
took_it (Ok _) = true
took_it (Err _) = false

-- what posting answers, and the stretch after it
pub record Posted : Type 0 where
  pub answer : Result Sent SendRefusal
  pub stretch : List ℕ

module _ (s : Settings) (stretch : List ℕ) where
  -- 'to the destination's task queue if on the same node, else to the send queue for that node'
  unfoldable pub has_room : Goal → Bool
  has_room (Task q) = took_it (task_answer s stretch (task_at s q))
  has_room (Node k) = took_it (append_answer (send_kind s) stretch (send_at s k))

  unfoldable pub appended_to : Goal → ℕ → List ℕ
  appended_to (Task q) b = task_appended s stretch (task_at s q) b
  appended_to (Node k) b = appended (send_kind s) stretch (send_at s k) b

-- the word that counts the appends which found the queue full
unfoldable pub full_of : Settings → Goal → ℕ
full_of s (Task q) = task_at s q + task_full_word
full_of s (Node k) = send_at s k + full_word

-- 'Takes blocks in the source's node, writes header and body, and appends the first block'
unfoldable pub put_in : Settings → List ℕ → Goal → List ℕ → List ℕ
put_in s stretch goal ws =
    let first = get_or stretch first_free_at 0 in
    appended_to s (written s (taken s stretch (needs s (length ws))) first ws) goal first

-- 5: the room count rises; 6: the queue's full count rises, and 'the free list and every block' stay; else the letter is put in
unfoldable pub posted : Settings → List ℕ → Goal → List ℕ → Posted
posted s stretch goal ws =
    cond (enough s stretch (needs s (length ws)))
    (cond (has_room s stretch goal)
    (record { answer = Ok (record { blocks = needs s (length ws) }); stretch = put_in s stretch goal ws })
    (record { answer = Err QueueFull; stretch = counted stretch (full_of s goal) }))
    (record { answer = Err TooFewBlocks; stretch = counted stretch room_at })
