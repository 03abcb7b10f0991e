-- What send answers and leaves, for any memory, tasks and body: 'Send', 'What comes back'.
use Rattle.std.specs.Prelude.{Bool, cond, ◌&&◌, List, ℕ, ◌+◌, eqb, leb, length, Err, Result}
use Rattle.settings.specs.declared.Settings.{Settings}
use Rattle.layout.specs.Places.{node, with_node}
use Rattle.layout.specs.Numbers.{header_words, greatest_body}
use Rattle.tasks.specs.Table.{node_of, queue_of, is_bound}
use Rattle.blocks.specs.Chain.{needs}
use Rattle.sound.specs.Reading.{settings_in, table_in}
use Rattle.sound.specs.Sound.{sound}
use Rattle.letters.specs.Made.{letter_of}
use Rattle.posting.specs.Letter.{header_of}
use Rattle.posting.specs.Post.{posted}
use Rattle.posting.specs.declared.Goal.{Goal}
use Rattle.posting.specs.declared.Goal.TheVariants.{Task, Node}
use Rattle.posting.specs.declared.Sent.{Sent}
use Rattle.posting.specs.declared.SendRefusal.{SendRefusal}
use Rattle.posting.specs.declared.SendRefusal.TheVariants.{NotSound, SourceNotBound, DestinationNotBound, BodyTooLong}

-- what a send answers, and the memory after it
pub record Outcome : Type 0 where
  pub answer : Result Sent SendRefusal
  pub memory : List ℕ

abbrev pub refused_by : Result Sent SendRefusal → List ℕ → Outcome
refused_by a memory = record { answer = a; memory = memory }

-- 'body over 1,019, or needs over M blocks': of a body of n words
unfoldable pub fits : Settings → ℕ → Bool
fits s n = leb n greatest_body && leb (needs s (header_words + n)) s.m

-- 'to the destination's task queue if on the same node, else to the send queue for that node'
unfoldable pub goal_of : ℕ → ℕ → ℕ → Goal
goal_of from to queue = cond (eqb from to) (Task queue) (Node to)

-- a letter's words posted in node i: 'a change to one node is made in that node's stretch alone'
unfoldable pub posted_in : Settings → List ℕ → ℕ → Goal → List ℕ → Outcome
posted_in s memory i goal words =
    let p = posted s (node s memory i) goal words in
    record { answer = p.answer; memory = with_node s memory i p.stretch }

module _ (memory : List ℕ) (source destination : ℕ) (body : List ℕ) where
  abbrev pub settings : Settings
  settings = settings_in memory

  -- the source's node, in which the blocks are taken, and the destination's
  abbrev pub home : ℕ
  home = node_of (table_in memory) source

  abbrev pub away : ℕ
  away = node_of (table_in memory) destination

  unfoldable pub delivered : Outcome
  delivered =
      posted_in settings memory home (goal_of home away (queue_of (table_in memory) destination)) (letter_of (header_of (table_in memory) source destination) body)

  -- 'Order: send 1, 2, 3, 4, 5, 6'
  unfoldable pub send : Outcome
  send =
      cond (sound memory)
      (cond (is_bound (table_in memory) source)
      (cond (is_bound (table_in memory) destination)
      (cond (fits settings (length body)) delivered (refused_by (Err BodyTooLong) memory))
      (refused_by (Err DestinationNotBound) memory))
      (refused_by (Err SourceNotBound) memory))
      (refused_by (Err NotSound) memory)
