-- The two steps of a postman's turn, stage by stage: 'Turn'.
use Rattle.std.specs.Prelude.{Bool, cond, ◌||◌, List, ℕ, zero, suc, ◌+◌, ◌-◌, eqb, length, get_or, Err, Ok, Result}
use Rattle.settings.specs.declared.Settings.{Settings}
use Rattle.layout.specs.Places.{nodes, first_free_at, room_at, send_at, ack_at, task_at, node, with_node}
use Rattle.layout.specs.Numbers.{destination_task_word}
use Rattle.tasks.specs.Table.{queue_of}
use Rattle.blocks.specs.Chain.{needs}
use Rattle.blocks.specs.Moves.{enough, taken, given_back}
use Rattle.letters.specs.Letter.{copied}
use Rattle.queues.specs.declared.Full.{Full}
use Rattle.queues.specs.Queue.{send_kind, ack_kind}
use Rattle.queues.specs.Moves.{counted, appended, append_answer, dropped}
use Rattle.gaps.specs.Close.{task_appended, task_answer}
use Rattle.answers.specs.Numbers.{too_few_blocks, queue_full, acknowledge_queue_full}
use Rattle.sound.specs.Reading.{table_in, send_items, ack_items}
use Rattle.sound.specs.Letters.{chain_from, told_length, words_from}
use Rattle.postman.specs.declared.Stage.{Stage}
use Rattle.postman.specs.declared.Stage.TheVariants.{Done, Stopped}
use Rattle.postman.specs.declared.Position.{Position}
use Rattle.postman.specs.declared.Round.{Round}
use Rattle.postman.specs.Round.{Did, did, Post, post, stopped, one_letter, blocks_back, stage, and_then, into}

-- what an append found: it went in, or the queue was full, its count has risen, and that stops the stage with its number
abbrev pub on_append : Result Unit Full → ℕ → Stage
on_append (Ok _) number = Done
on_append (Err _) number = Stopped number

module _ (s : Settings) (j : ℕ) where
  -- ---- step 1: 'each item of acknowledge queue j, oldest first: drop it, give its chain back in j'
  unfoldable pub collected : List ℕ → ℕ → Round → Post
  collected m i r =
      let x = get_or (ack_items s m i j) 0 0 in
      let n = length (chain_from s (node s m j) x) in
      let m₁ = with_node s m i (dropped (ack_kind s) (node s m i) (ack_at s j)) in
      post (with_node s m₁ j (given_back s (node s m₁ j) n x)) (blocks_back r n)

  -- k items of node i
  unfoldable pub collected_all : ℕ → List ℕ → ℕ → Round → Post
  collected_all zero m i r = post m r
  collected_all (suc k) m i r = into (collected m i r) (λ m' r'. collected_all k m' i r')

  -- 'On nodes 0 to 5 but j': the n nodes from i on; j's own queue has none
  unfoldable pub collected_from : ℕ → List ℕ → ℕ → Round → Post
  collected_from zero m i r = post m r
  collected_from (suc n) m i r = into (collected_all (length (ack_items s m i j)) m i r) (λ m' r'. collected_from n m' (i + 1) r')

  -- ---- step 2, of the first item of send queue j on node i
  abbrev pub first_of : List ℕ → ℕ → ℕ
  first_of m i = get_or (send_items s m i j) 0 0

  -- the block that begins the copy: the first of j's free list
  abbrev pub space_of : List ℕ → ℕ
  space_of m = get_or (node s m j) first_free_at 0

  -- stage 1: 'take space in j; copy'
  unfoldable pub copied_in : List ℕ → ℕ → Did
  copied_in m i =
      let x = first_of m i in
      let told = told_length s (node s m i) x in
      let m₁ = with_node s m j (taken s (node s m j) (needs s told)) in
      cond (enough s (node s m j) (needs s told))
      (did (copied s m₁ told i x j (space_of m)) Done)
      (did (with_node s m j (counted (node s m j) room_at)) (Stopped too_few_blocks))

  -- the queue of the task that the letter begun by block c in node j is for
  abbrev pub queue_for : List ℕ → ℕ → ℕ
  queue_for m c = task_at s (queue_of (table_in m) (get_or (words_from s (node s m j) c) destination_task_word 0))

  -- stage 2: 'append to the task queue, closing gaps as above', the copy that block c begins
  unfoldable pub queued : List ℕ → ℕ → Did
  queued m c =
      did (with_node s m j (task_appended s (node s m j) (queue_for m c) c)) (on_append (task_answer s (node s m j) (queue_for m c)) queue_full)

  -- 'drop the send item'
  abbrev pub send_dropped : List ℕ → ℕ → List ℕ
  send_dropped m i = with_node s m i (dropped (send_kind s) (node s m i) (send_at s j))

  -- stage 3: 'append the source's block to j's acknowledge queue for that node'
  unfoldable pub acknowledged : List ℕ → ℕ → Did
  acknowledged m i =
      did (with_node s m j (appended (ack_kind s) (node s m j) (ack_at s i) (first_of m i)))
      (on_append (append_answer (ack_kind s) (node s m j) (ack_at s i)) acknowledge_queue_full)

  -- from each stage on
  unfoldable pub handed_on : List ℕ → ℕ → Round → Post
  handed_on m i r = stage (acknowledged m i) (stopped r 3 i 0) (λ m'. post (send_dropped m' i) r)

  unfoldable pub delivered : List ℕ → ℕ → ℕ → Round → Post
  delivered m i c r = stage (queued m c) (stopped r 2 i c) (λ m'. handed_on m' i (one_letter r))

  unfoldable pub carried : List ℕ → ℕ → Round → Post
  carried m i r = stage (copied_in m i) (stopped r 1 i 0) (λ m'. delivered m' i (space_of m) r)

  -- k letters of node i
  unfoldable pub carried_all : ℕ → List ℕ → ℕ → Round → Post
  carried_all zero m i r = post m r
  carried_all (suc k) m i r = and_then (carried m i r) (λ m' r'. carried_all k m' i r')

  -- 'each first item of send queue j until empty', on the n nodes from i on; j's own queue has none
  unfoldable pub carried_from : ℕ → List ℕ → ℕ → Round → Post
  carried_from zero m i r = post m r
  carried_from (suc n) m i r = and_then (carried_all (length (send_items s m i j)) m i r) (λ m' r'. carried_from n m' (i + 1) r')

  -- when step 1 runs: at stage 0 and stage 1
  unfoldable pub clears_first : ℕ → Bool
  clears_first stage = eqb stage 0 || eqb stage 1

  -- 'Next time, stage 1 does step 1 and then tries that letter again; stages 2 and 3 go straight to their append'
  unfoldable pub resumed : List ℕ → Position → Round → Post
  resumed m p r =
      cond (clears_first p.stage) (collected_from nodes m 0 r)
      (cond (eqb p.stage 2) (delivered m p.other p.held r) (handed_on m p.other r))

  -- 'All then go on through that queue and higher nodes'
  unfoldable pub gone : List ℕ → Position → Round → Post
  gone m p r = and_then (resumed m p r) (λ m' r'. carried_from (nodes - p.other) m' p.other r')
