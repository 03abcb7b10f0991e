-- A SOUND MEMORY STAYS SOUND THROUGH A SEND, done or refused, and what the send does to the machine. Assumes nothing.
--     send-sound     the memory after it is sound; send_fixed     its size, settings and task table stay
--     send_changes     what each answer says of the machine before and after
--     send_refused, send-done, send_allowed     the same of a send that is refused, and of one that is done
use Rattle.std.specs.Prelude.{Err, Ok, Result}
use mathlib.Core.Path.{◌≡◌, refl, sym, ap, ◌∙◌, subst}
use mathlib.Core.Bool.{true, false}
use mathlib.Core.List.{List, [], ◌∷◌, ◌++◌}
use Prim.Native.Nat.{ℕ, ◌+◌, ◌≤◌, ◌<◌}
use native.Mathlib.Omega.{arith}
use lib.ListN.{length, get_or, drop}
use borrow.Author.Tests.{leb-true}
use Rattle.words.proofs.Lists.{put, put_same, put_other, split, same?, same_ok}
use Rattle.settings.specs.declared.Settings.{Settings}
use Rattle.layout.specs.Places.{node_size, node, with_node, send_at, task_at}
use Rattle.tasks.specs.Table.{node_of, queue_of, is_bound}
use Rattle.tasks.proofs.Laws.{seat-within}
use Rattle.blocks.specs.Chain.{needs, free}
use Rattle.blocks.specs.Moves.{enough}
use Rattle.queues.specs.Queue.{send_kind}
use Rattle.queues.specs.Moves.{appended, counted}
use Rattle.gaps.specs.Close.{task_appended}
use Rattle.sound.specs.Reading.{settings_in, table_in}
use Rattle.sound.specs.Queues.{task_of}
use Rattle.sound.specs.Sound.{sound}
use Rattle.letters.specs.Made.{letter_of}
use Rattle.posting.specs.Letter.{header_of}
use Rattle.posting.specs.Post.{Posted, has_room, appended_to, full_of, put_in}
use Rattle.posting.proofs.Frames.{post-few, post_full, post-done}
use Rattle.posting.specs.declared.Goal.{Goal}
use Rattle.posting.specs.declared.Goal.TheVariants.{Task, Node as ToNode}
use Rattle.posting.specs.declared.Sent.{Sent}
use Rattle.posting.specs.declared.SendRefusal.{SendRefusal}
use Rattle.posting.specs.declared.SendRefusal.TheVariants.{NotSound, SourceNotBound, DestinationNotBound, BodyTooLong, TooFewBlocks, QueueFull}
use Rattle.send.specs.Outcome.{Outcome, refused_by, fits, goal_of, posted_in, delivered, send}
use Rattle.send.proofs.Outcomes.{fits_both, goal_same, goal_other}
use Rattle.machine.specs.Machine.{Letter, Node, Machine}
use Rattle.machine.specs.Spelled.{node_from, machine_of}
use Rattle.machine.specs.Represents.{Right, RepresentsAt}
use Rattle.machine.proofs.Sound.{sound_represents}
use Rattle.machine.proofs.Gives.{gives_stretch}
use Rattle.moves.specs.Letters.{live_ones}
use Rattle.moves.proofs.Made.{placed}
use Rattle.moves.proofs.Items.{live_more, live_twice}
use Rattle.moves.proofs.Queues.{length-counted}
use Rattle.moves.proofs.Formed.{with_nodes, at_here, at_other}
use Rattle.moves.proofs.Works.{needs_some}
use Rattle.moves.proofs.Kept.{send_task_kept, send-gap-kept, send-queue-kept}
use Rattle.machine.specs.Same.{Fixed, Unchanged}
use Rattle.send_keeps.specs.Sends.{place_of, new_letter, Sends, Change, Allowed}
use Rattle.moves.proofs.Seats.{bound_some, task_is}
use Rattle.send_keeps.proofs.Letter.{letter-long, right_task_lem, right_send_lem}
use Rattle.send_keeps.proofs.After.{new_sound, new_fixed, new_stands, new_free, new_letters}
use Rattle.send_keeps.proofs.Refused.{room_keeps, task_full_keeps, send_full_keeps}
use Rattle.send_keeps.proofs.Done.{laid_in, begins, send-long, task_long, send_less, task_cases}

same_machine : (m : Machine) → Unchanged m m
same_machine m =
    record {
      stands = record { turn = refl; stage = λ j h. refl; other = λ j h. refl };
      free = λ k h. refl;
      letters = λ k p h g. refl;
    }

same_words : (memory : List ℕ) → Fixed memory memory
same_words memory = record { size = refl; settings = refl; table = refl }

module _ (memory : List ℕ) (e : sound memory ≡ true) where
  abbrev s : Settings
  s = settings_in memory

  abbrev m : Machine
  m = machine_of memory

  rep : RepresentsAt (settings_in memory) memory (machine_of memory)
  rep = sound_represents memory e

  -- what is said of the memory after it
  abbrev Safe : List ℕ → Type 0
  Safe after = (sound after ≡ true) × Fixed memory after

  -- ---- refused
  unchanged : Safe memory × Unchanged m m
  unchanged = ((e, same_words memory), same_machine m)

  quiet : (i : ℕ) → i < 6 → (l : List ℕ) → length l ≡ node_size s → RepresentsAt s (with_node s memory i l) (with_nodes m m.node)
      → Safe (with_node s memory i l) × Unchanged m (machine_of (with_node s memory i l))
  quiet i h l long r = (
    (new_sound s memory m rep i h l long refl m.node r, new_fixed s memory m rep i h l long refl m.node r),
    record {
      stands = new_stands s memory m rep i h l long refl m.node r;
      free = new_free s memory m rep i h l long refl m.node r;
      letters = new_letters s memory m rep i h l long refl m.node r;
    },
  )

  module _ (i : ℕ) (h : i < 6) (ws : List ℕ) (five : 1 ≤ length ws) where
    abbrev l : List ℕ
    l = node s memory i

    abbrev n : ℕ
    n = needs s (length ws)

    -- what is said of an outcome
    abbrev Good : Goal → Outcome → Type 0
    Good goal o = Safe o.memory × Change m (machine_of o.memory) i (place_of goal) ws o.answer

    some : 1 ≤ n
    some = needs_some s rep.core.range (length ws) five

    has-blocks : enough s l n ≡ true → n ≤ length (m.node i).free
    unfolding enough node_from
    has-blocks y = leb-true n (length (free s l)) y

    count_long : (a : ℕ) → length (counted l a) ≡ node_size s
    count_long a = length-counted l a ∙ (gives_stretch s memory rep.size m.node rep.core i h).long

    -- ---- by the tests on the way
    by_tests : (goal : Goal)
        → (enough s l n ≡ true → has_room s l goal ≡ true → Safe (with_node s memory i (put_in s l goal ws)) × Sends m (machine_of (with_node s memory i (put_in s l goal ws))) i (place_of goal) n ws)
        → Safe (with_node s memory i (counted l (full_of s goal))) × Unchanged m (machine_of (with_node s memory i (counted l (full_of s goal))))
        → Good goal (posted_in s memory i goal ws)
    unfolding posted_in
    by_tests goal put full =
        let Q : Posted → Type 0 = λ x. Good goal (record { answer = x.answer; memory = with_node s memory i x.stretch }) in
        split (enough s l n)
        (λ y. split (has_room s l goal)
        (λ z. subst Q (post-done s l goal ws n refl (put_in s l goal ws) (sym y) (sym z) refl) (put y z))
        (λ z. subst Q (post_full s l goal ws n refl (counted l (full_of s goal)) (sym y) (sym z) refl) full))
        (λ y. subst Q (post-few s l goal ws n refl (counted l 1) (sym y) refl) (quiet i h (counted l 1) (count_long 1) (room_keeps s memory m rep i h)))

    -- ---- done: the machine has the new letter behind those kept at place p
    module _ (has : needs s (length ws) ≤ length (m.node i).free) (p : ℕ) (hi : p < 77) (stretch : List ℕ) (long : length stretch ≡ node_size s) (kept : List Letter) where
      abbrev L : Letter
      L = new_letter (m.node i).free n ws

      abbrev fr : List ℕ
      fr = drop n (m.node i).free

      abbrev N' : ℕ → Node
      N' = put m.node i (placed (m.node i) (drop n (m.node i).free) p (kept ++ L ∷ []))

      free_here : (N' i).free ≡ fr
      unfolding placed
      free_here = ap (λ (Z : Node). Z.free) (put_same m.node i (placed (m.node i) fr p (kept ++ L ∷ [])))

      put-sends : live_ones kept ≡ live_ones ((m.node i).letters p) → (p < 13 → kept ≡ (m.node i).letters p) → RepresentsAt s (with_node s memory i stretch) (with_nodes m N')
          → Safe (with_node s memory i stretch) × Sends m (machine_of (with_node s memory i stretch)) i p n ws
      put-sends live whole r =
          let at : ((machine_of (with_node s memory i stretch)).node i).letters p ≡ kept ++ L ∷ [] =
          new_letters s memory m rep i h stretch long refl N' r i p h (omega arith) ∙ at_here m.node i fr p (kept ++ L ∷ []) in (
            (new_sound s memory m rep i h stretch long refl N' r, new_fixed s memory m rep i h stretch long refl N' r),
            record {
              stands = new_stands s memory m rep i h stretch long refl N' r;
              behind = ap live_ones at ∙ live_more kept L (begins s memory m rep i h n ws some has) ∙ ap (λ (x : List Letter). x ++ L ∷ []) live;
              sent = λ z. at ∙ ap (λ (x : List Letter). x ++ L ∷ []) (whole z);
              elsewhere = λ k q c d ne. new_letters s memory m rep i h stretch long refl N' r k q c d ∙ at_other m.node i fr p (kept ++ L ∷ []) k q ne;
              has = has;
              takes = new_free s memory m rep i h stretch long refl N' r i h ∙ free_here;
              free = λ k c ne. new_free s memory m rep i h stretch long refl N' r k c ∙ ap (λ (Z : Node). Z.free) (put_other m.node i (placed (m.node i) fr p (kept ++ L ∷ [])) k ne);
            },
          )

    -- ---- to a send queue
    module _ (k : ℕ) (g : k < 6) (away : i ≡ k → ⊥) (right : Right (table_in memory) i (1 + k) ws) where
      sent : enough s l n ≡ true → has_room s l (ToNode k) ≡ true → Safe (with_node s memory i (put_in s l (ToNode k) ws)) × Sends m (machine_of (with_node s memory i (put_in s l (ToNode k) ws))) i (1 + k) n ws
      unfolding has_room appended_to put_in
      sent y room =
          put-sends (has-blocks y) (1 + k) (omega arith) (appended (send_kind s) (laid_in s l ws) (send_at s k) (get_or l 0 0)) (send-long s memory m rep i h ws k) ((m.node i).letters (1 + k)) refl (λ z. refl)
          (send-queue-kept s memory m rep i k h g (λ z. away (sym z)) ws right (has-blocks y) (send_less s memory m rep i h k g room))

      send_full : Safe (with_node s memory i (counted l (full_of s (ToNode k)))) × Unchanged m (machine_of (with_node s memory i (counted l (full_of s (ToNode k)))))
      unfolding full_of
      send_full = quiet i h (counted l (send_at s k + 2)) (count_long (send_at s k + 2)) (send_full_keeps s memory m rep i h k g)

      to-node : Good (ToNode k) (posted_in s memory i (ToNode k) ws)
      to-node = by_tests (ToNode k) sent send_full

    -- ---- to a task queue
    module _ (q : ℕ) (g : q < 64) (bound : task_of (table_in memory) i q ≡ 0 → ⊥) (right : Right (table_in memory) i (13 + q) ws) where
      kept : enough s l n ≡ true → has_room s l (Task q) ≡ true → Safe (with_node s memory i (put_in s l (Task q) ws)) × Sends m (machine_of (with_node s memory i (put_in s l (Task q) ws))) i (13 + q) n ws
      unfolding has_room appended_to put_in
      kept y room =
          let ls : List Letter = (m.node i).letters (13 + q) in
          let l₃ : List ℕ = task_appended s (laid_in s l ws) (task_at s q) (get_or l 0 0) in
          let has = has-blocks y in
          task_cases s memory m rep i h q g room
          (λ less.
          put-sends has (13 + q) (omega arith) l₃ (task_long s memory m rep i h ws q) ls refl (λ z. refl)
          (send_task_kept s memory m rep i q h g ws right bound has less))
          (λ full gaps.
          put-sends has (13 + q) (omega arith) l₃ (task_long s memory m rep i h ws q) (live_ones ls) (live_twice ls) (λ z. absurd (omega arith))
          (send-gap-kept s memory m rep i q h g ws right bound has full gaps))

      task_full : Safe (with_node s memory i (counted l (full_of s (Task q)))) × Unchanged m (machine_of (with_node s memory i (counted l (full_of s (Task q)))))
      unfolding full_of
      task_full = quiet i h (counted l (task_at s q + 3)) (count_long (task_at s q + 3)) (task_full_keeps s memory m rep i h q g)

      to_task : Good (Task q) (posted_in s memory i (Task q) ws)
      to_task = by_tests (Task q) kept task_full

  -- ---- the whole send
  module _ (source destination : ℕ) (body : List ℕ) where
    abbrev table : List ℕ
    table = table_in memory

    abbrev from : ℕ
    from = node_of (table_in memory) source

    abbrev to : ℕ
    to = node_of (table_in memory) destination

    abbrev queue : ℕ
    queue = queue_of (table_in memory) destination

    abbrev words : List ℕ
    words = letter_of (header_of (table_in memory) source destination) body

    abbrev goal : Goal
    goal = goal_of (node_of (table_in memory) source) (node_of (table_in memory) destination) (queue_of (table_in memory) destination)

    -- what is said of the outcome
    abbrev Holds : Outcome → Type 0
    Holds o = Safe o.memory × Change m (machine_of o.memory) from (place_of goal) words o.answer

    deliver : is_bound table source ≡ true → is_bound table destination ≡ true → true ≡ fits s (length body) → Holds (posted_in s memory from goal words)
    deliver bs bd ft =
        let short = (fits_both s (length body) ft).0 in
        let hs = seat-within table source rep.table bs in
        let hd = seat-within table destination rep.table bd in
        let hi : from < 6 = omega arith in
        let five : 1 ≤ length words = omega (arith, letter-long table source destination body) in
        same? from to
        (λ q t.
        subst (λ (x : Goal). Good from hi words five x (posted_in s memory from x words)) (goal_same from to queue q)
        (to_task from hi words five queue (omega arith)
        (λ z. bound_some table rep.table destination bd (sym (task_is table rep.table destination bd) ∙ ap (λ (x : ℕ). task_of table x queue) (sym q) ∙ z))
        (right_task_lem table rep.table source destination bs bd body short q (omega arith))))
        (λ q t.
        subst (λ (x : Goal). Good from hi words five x (posted_in s memory from x words)) (goal_other from to queue q)
        (to-node from hi words five to (omega arith) q (right_send_lem table rep.table source destination bs bd body short (omega arith))))

    -- the outcome, by the tests on the way
    is-delivered : is_bound table source ≡ true → is_bound table destination ≡ true → fits s (length body) ≡ true → send memory source destination body ≡ posted_in s memory from goal words
    unfolding send delivered
    is-delivered bs bd ft = rw (e, bs, bd, ft)

    is-long : is_bound table source ≡ true → is_bound table destination ≡ true → fits s (length body) ≡ false → send memory source destination body ≡ refused_by (Err BodyTooLong) memory
    unfolding send
    is-long bs bd ft = rw (e, bs, bd, ft)

    is_other_lem : is_bound table source ≡ true → is_bound table destination ≡ false → send memory source destination body ≡ refused_by (Err DestinationNotBound) memory
    unfolding send
    is_other_lem bs bd = rw (e, bs, bd)

    is_first : is_bound table source ≡ false → send memory source destination body ≡ refused_by (Err SourceNotBound) memory
    unfolding send
    is_first bs = rw (e, bs)

    holds : Holds (send memory source destination body)
    holds =
        split (is_bound table source)
        (λ bs. split (is_bound table destination)
        (λ bd. split (fits s (length body))
        (λ ft. subst Holds (sym (is-delivered bs bd ft)) (deliver bs bd (sym ft)))
        (λ ft. subst Holds (sym (is-long bs bd ft)) unchanged))
        (λ bd. subst Holds (sym (is_other_lem bs bd)) unchanged))
        (λ bs. subst Holds (sym (is_first bs)) unchanged)

    -- ---- what a done send says of its tasks and blocks
    abbrev Says : Outcome → Type 0
    Says o = (n : ℕ) → o.answer ≡ Ok (record { blocks = n }) → Allowed s table source destination n words

    posted-says : is_bound table source ≡ true → is_bound table destination ≡ true → Says (posted_in s memory from goal words)
    unfolding posted_in
    posted-says bs bd =
        let l : List ℕ = node s memory from in
        let k : ℕ = needs s (length words) in
        let Q : Posted → Type 0 = λ x. (n : ℕ) → x.answer ≡ Ok (record { blocks = n }) → Allowed s table source destination n words in
        split (enough s l k)
        (λ y. split (has_room s l goal)
        (λ z. subst Q (post-done s l goal words k refl (put_in s l goal words) (sym y) (sym z) refl) (λ n d. record { from = bs; to = bd; blocks = sym (ap (λ (x : Sent). x.blocks) (same_ok d)) }))
        (λ z. subst Q (post_full s l goal words k refl (counted l (full_of s goal)) (sym y) (sym z) refl) (λ n d. absurd (let z : ◌≡◌ {A = ℕ} 0 1 = cc in omega arith))))
        (λ y. subst Q (post-few s l goal words k refl (counted l 1) (sym y) refl) (λ n d. absurd (let z : ◌≡◌ {A = ℕ} 0 1 = cc in omega arith)))

    says : Says (send memory source destination body)
    says =
        split (is_bound table source)
        (λ bs. split (is_bound table destination)
        (λ bd. split (fits s (length body))
        (λ ft. subst Says (sym (is-delivered bs bd ft)) (posted-says bs bd))
        (λ ft. subst Says (sym (is-long bs bd ft)) (λ n d. absurd (let z : ◌≡◌ {A = ℕ} 0 1 = cc in omega arith))))
        (λ bd. subst Says (sym (is_other_lem bs bd)) (λ n d. absurd (let z : ◌≡◌ {A = ℕ} 0 1 = cc in omega arith))))
        (λ bs. subst Says (sym (is_first bs)) (λ n d. absurd (let z : ◌≡◌ {A = ℕ} 0 1 = cc in omega arith)))

refuses : (m m' : Machine) (i p : ℕ) (ws : List ℕ) (a : Result Sent SendRefusal) → Change m m' i p ws a → ((n : ℕ) → a ≡ Ok (record { blocks = n }) → ⊥) → Unchanged m m'
refuses m m' i p ws (Ok sent) c f = absurd (f sent.blocks refl)
refuses m m' i p ws (Err NotSound) c f = c
refuses m m' i p ws (Err SourceNotBound) c f = c
refuses m m' i p ws (Err DestinationNotBound) c f = c
refuses m m' i p ws (Err BodyTooLong) c f = c
refuses m m' i p ws (Err TooFewBlocks) c f = c
refuses m m' i p ws (Err QueueFull) c f = c

-- ---- for every memory
module _ (memory : List ℕ) (source destination : ℕ) (body : List ℕ) where
  abbrev goal_at : ℕ
  goal_at = place_of (goal_of (node_of (table_in memory) source) (node_of (table_in memory) destination) (queue_of (table_in memory) destination))

  is_unsound : sound memory ≡ false → send memory source destination body ≡ refused_by (Err NotSound) memory
  unfolding send
  is_unsound e = rw e

  -- A SOUND MEMORY STAYS SOUND
  pub send-sound : sound memory ≡ true → sound (send memory source destination body).memory ≡ true
  send-sound e = (holds memory e source destination body).0.0

  -- the size, the settings and the task table stay
  pub send_fixed : Fixed memory (send memory source destination body).memory
  send_fixed =
      split (sound memory)
      (λ e. (holds memory e source destination body).0.1)
      (λ e. subst (λ (o : Outcome). Fixed memory o.memory) (sym (is_unsound e)) (same_words memory))

  -- WHAT A SEND DOES TO THE MACHINE, by its answer
  pub send_changes : Change (machine_of memory) (machine_of (send memory source destination body).memory) (node_of (table_in memory) source)
      (place_of (goal_of (node_of (table_in memory) source) (node_of (table_in memory) destination) (queue_of (table_in memory) destination)))
      (letter_of (header_of (table_in memory) source destination) body) (send memory source destination body).answer
  send_changes =
      split (sound memory)
      (λ e. (holds memory e source destination body).1)
      (λ e. subst (λ (o : Outcome). Change (machine_of memory) (machine_of o.memory) (node_of (table_in memory) source) goal_at (letter_of (header_of (table_in memory) source destination) body) o.answer)
      (sym (is_unsound e)) (same_machine (machine_of memory)))

  -- REFUSED: the machine stays
  pub send_refused : ((n : ℕ) → (send memory source destination body).answer ≡ Ok (record { blocks = n }) → ⊥) → Unchanged (machine_of memory) (machine_of (send memory source destination body).memory)
  send_refused f =
      refuses (machine_of memory) (machine_of (send memory source destination body).memory) (node_of (table_in memory) source) goal_at (letter_of (header_of (table_in memory) source destination) body)
      (send memory source destination body).answer send_changes f

  module _ (n : ℕ) (done : (send memory source destination body).answer ≡ Ok (record { blocks = n })) where
    -- DONE: one letter more at the end of one queue
    pub send-done : Sends (machine_of memory) (machine_of (send memory source destination body).memory) (node_of (table_in memory) source)
        (place_of (goal_of (node_of (table_in memory) source) (node_of (table_in memory) destination) (queue_of (table_in memory) destination)))
        n (letter_of (header_of (table_in memory) source destination) body)
    send-done =
        subst (λ (a : Result Sent SendRefusal). Change (machine_of memory) (machine_of (send memory source destination body).memory) (node_of (table_in memory) source) goal_at (letter_of (header_of (table_in memory) source destination) body) a)
        done send_changes

    -- between bound tasks alone, with the blocks that the letter needs
    pub send_allowed : Allowed (settings_in memory) (table_in memory) source destination n (letter_of (header_of (table_in memory) source destination) body)
    send_allowed =
        split (sound memory)
        (λ e. says memory e source destination body n done)
        (λ e. absurd (let d = sym (ap (λ (o : Outcome). o.answer) (is_unsound e)) ∙ done in let z : ◌≡◌ {A = ℕ} 0 1 = cc in omega arith))
