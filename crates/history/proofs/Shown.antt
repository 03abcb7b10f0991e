-- THE LIST SHOWS THE LETTERS ON THE WAY: of the records that it writes those of a pair, each read at the node and block it names. Assumes nothing.
use Rattle.std.specs.Prelude.{Err, Ok, Result}
use mathlib.Core.Path.{◌≡◌, refl, sym, ap, ap₂, ◌∙◌, subst}
use mathlib.Core.Bool.{Bool, true, false, cond, ◌&&◌}
use mathlib.Core.List.{List, [], ◌∷◌, ◌++◌, map, append-nil}
use Prim.Native.Nat.{ℕ, zero, suc, ◌+◌, ◌*◌, ◌≤◌, ◌<◌}
use native.Mathlib.Omega.{arith}
use lib.Dec.{eqb, leb, ltb}
use lib.ListN.{length, get_or, drop}
use borrow.Author.Tests.{eq-eqb, ne_eqb, ltb-true}
use Rattle.words.specs.Words.{all}
use Rattle.words.proofs.Lists.{split, same?, and-true, and-false, all_head, same_ok}
use Rattle.settings.specs.declared.Settings.{Settings}
use Rattle.layout.specs.Places.{node, task_ids}
use Rattle.tasks.specs.Table.{node_of, queue_of, is_bound, right_table}
use Rattle.tasks.proofs.Laws.{seat_below}
use Rattle.letters.specs.Letter.{onto}
use Rattle.queues.specs.Items.{live}
use Rattle.sound.specs.Reading.{settings_in, table_in, stage_of, other_of, send_items, task_items}
use Rattle.sound.specs.Letters.{words_from, right_letter}
use Rattle.sound.specs.Blocks.{begun}
use Rattle.sound.specs.Sound.{sound}
use Rattle.sound.proofs.Gives.{gives_table, gives_range}
use Rattle.sound.proofs.Held.{gives_at, right_parts}
use Rattle.showing.specs.declared.Shown.{Shown}
use Rattle.listing.specs.declared.Listed.{Listed}
use Rattle.listing.specs.declared.ListRefusal.{ListRefusal}
use Rattle.listing.specs.declared.ListRefusal.TheVariants.{OutTooShort}
use Rattle.showing.specs.List.{handed_over, shown, from_task, from_send, waiting, from_nodes, of_task, of_tasks, listed, laid_out}
use Rattle.listing.specs.Outcome.{list}
use Rattle.machine.specs.Machine.{first, words_of}
use Rattle.machine.specs.Spelled.{letter_from, node_from, machine_of}
use Rattle.machine.proofs.Spelled.{first_from_lem}
use Rattle.machine.proofs.Places.{shown-send, shown_task, begun-low, begun_task}
use Rattle.moves.specs.Letters.{live_ones}
use Rattle.stages_keep.specs.Way.{those, between, in_queue, to_carry, on_the_way}
use Rattle.stages_keep.proofs.Headers.{header-says, send-says, task_says}
use Rattle.stages_keep.proofs.Way.{those-append}
use Rattle.history.specs.Demand.{shown_in}

module _ (memory : List ℕ) (a b : ℕ) where
  abbrev s : Settings
  s = settings_in memory

  abbrev t : List ℕ
  t = table_in memory

  -- the letter that block x begins in node i
  abbrev W : ℕ → ℕ → List ℕ
  W i x = words_from s (node s memory i) x

  -- of the records those of the pair, each read where it says
  unfoldable picked : List Shown → List (List ℕ)
  picked [] = []
  picked (x ∷ xs) = cond (eqb x.source a && eqb x.destination b) (W x.holder x.block ∷ picked xs) (picked xs)

  -- ---- the words that list writes are its records
  laid-shown : (xs : List Shown) (rest : List ℕ) → shown_in memory a b (length xs) (laid_out xs ++ rest) ≡ picked xs
  unfolding shown_in laid_out picked
  laid-shown [] rest = refl
  laid-shown (x ∷ xs) rest =
      ap (λ (l : List (List ℕ)). cond (eqb x.source a && eqb x.destination b) (W x.holder x.block ∷ l) l) (laid-shown xs rest)

  picked_append : (xs ys : List Shown) → picked (xs ++ ys) ≡ picked xs ++ picked ys
  unfolding picked
  picked_append [] ys = refl
  picked_append (x ∷ xs) ys =
      split (eqb x.source a && eqb x.destination b)
      (λ e. rw e (ap (λ (l : List (List ℕ)). W x.holder x.block ∷ l) (picked_append xs ys)))
      (λ e. rw e (picked_append xs ys))

  -- ---- a task's letters
  -- those of another task are of another pair
  task_none : (c i : ℕ) → (c ≡ b → ⊥) → (bs : List ℕ) → picked (from_task s memory c i bs) ≡ []
  unfolding picked from_task shown
  task_none c i n [] = refl
  task_none c i n (x ∷ bs) = rw (ne_eqb c b n, and-false (eqb (get_or (W i x) 0 0) a)) (task_none c i n bs)

  send_none : (c i : ℕ) → (c ≡ b → ⊥) → (bs : List ℕ) → picked (from_send s memory c i bs) ≡ []
  unfolding picked from_send shown
  send_none c i n [] = refl
  send_none c i n (x ∷ bs) =
      split (eqb (get_or (W i x) 2 0) c)
      (λ e. rw e (rw (ne_eqb c b n, and-false (eqb (get_or (W i x) 0 0) a)) (send_none c i n bs)))
      (λ e. rw e (send_none c i n bs))

  nodes_none : (c i n : ℕ) → (c ≡ b → ⊥) → picked (from_nodes s memory c i n) ≡ []
  unfolding from_nodes picked
  nodes_none c i zero f = refl
  nodes_none c i (suc n) f =
      picked_append (from_nodes s memory c i n) (from_send s memory c n (waiting s memory i n))
      ∙ ap₂ (λ (x y : List (List ℕ)). x ++ y) (nodes_none c i n f) (send_none c n f (waiting s memory i n))

  of_none : (c : ℕ) → (c ≡ b → ⊥) → picked (of_task s memory c) ≡ []
  unfolding of_task picked
  of_none c n =
      split (is_bound t c)
      (λ e. rw e (picked_append (from_task s memory c (node_of t c) (live (task_items s memory (node_of t c) (queue_of t c)))) (from_nodes s memory c (node_of t c) 6)
      ∙ ap₂ (λ (x y : List (List ℕ)). x ++ y) (task_none c (node_of t c) n (live (task_items s memory (node_of t c) (queue_of t c)))) (nodes_none c (node_of t c) 6 n)))
      (λ e. rw e)

  -- of all the tasks' letters b's alone are left
  below_none : (n : ℕ) → n ≤ b → picked (of_tasks s memory n) ≡ []
  unfolding of_tasks picked
  below_none zero l = refl
  below_none (suc n) l =
      picked_append (of_tasks s memory n) (of_task s memory n) ∙ ap₂ (λ (x y : List (List ℕ)). x ++ y) (below_none n (omega arith)) (of_none n (λ e. omega arith))

  above_own : (n : ℕ) → b < n → picked (of_tasks s memory n) ≡ picked (of_task s memory b)
  unfolding of_tasks
  above_own zero l = absurd (omega arith)
  above_own (suc n) l =
      picked_append (of_tasks s memory n) (of_task s memory n)
      ∙ same? n b
      (λ e z. rw e (ap (λ (x : List (List ℕ)). x ++ picked (of_task s memory b)) (below_none b (omega arith))))
      (λ e z. ap₂ (λ (x y : List (List ℕ)). x ++ y) (above_own n (omega arith)) (of_none n e) ∙ append-nil (picked (of_task s memory b)))

  -- ---- b's own letters
  -- those in its task queue are all for b
  task_own : (i : ℕ) (p : ℕ → Bool) → ((x : ℕ) → p x ≡ true → get_or (W i x) 2 0 ≡ b) → (bs : List ℕ) → all p bs ≡ true → picked (from_task s memory b i bs) ≡ those (between a b) (map (W i) bs)
  unfolding picked from_task shown those between
  task_own i p f [] e = refl
  task_own i p f (x ∷ bs) e =
      let h = all_head p x bs e in
      let z : get_or (W i x) 2 0 ≡ b = f x h.0 in
      rw (z, task_own i p f bs h.1)

  send_own : (i : ℕ) (bs : List ℕ) → picked (from_send s memory b i bs) ≡ those (between a b) (map (W i) bs)
  unfolding picked from_send shown those between
  send_own i [] = refl
  send_own i (x ∷ bs) =
      split (eqb (get_or (W i x) 2 0) b)
      (λ e. rw e (rw (eq-eqb b b refl, send_own i bs)))
      (λ e. rw e (rw (and-false (eqb (get_or (W i x) 0 0) a)) (send_own i bs)))

  -- those in another node than a's are not from a
  send-away : (i : ℕ) → (i ≡ node_of t a → ⊥) → (p : ℕ → Bool) → ((x : ℕ) → p x ≡ true → node_of t (get_or (W i x) 0 0) ≡ i) → (bs : List ℕ) → all p bs ≡ true → those (between a b) (map (W i) bs) ≡ []
  unfolding those between
  send-away i n p f [] e = refl
  send-away i n p f (x ∷ bs) e =
      let h = all_head p x bs e in
      rw (ne_eqb (get_or (W i x) 0 0) a (λ z. n (sym (f x h.0) ∙ ap (node_of t) z))) (send-away i n p f bs h.1)

  -- ---- in a sound memory
  module _ (ok : sound memory ≡ true) (y : is_bound (table_in memory) b ≡ true) (x : is_bound (table_in memory) a ≡ true) where
    abbrev k : ℕ
    k = node_of t b

    abbrev q : ℕ
    q = queue_of t b

    abbrev j : ℕ
    j = node_of t a

    right : right_table t ≡ true
    right = gives_table memory ok

    k6 : k < 6
    k6 = (seat_below t b right y).0

    q64 : q < 64
    q64 = (seat_below t b right y).1

    j6 : j < 6
    j6 = (seat_below t a right x).0

    -- a letter in b's queue is for b
    for_b : (z : ℕ) → right_letter s (node s memory k) t k (13 + q) z ≡ true → get_or (W k z) 2 0 ≡ b
    for_b z e = task_says t right b y (W k z) (right_parts s (node s memory k) t k (13 + q) z e).place

    -- a letter in node i's send queue comes from a task on i
    from_i : (i z : ℕ) → right_letter s (node s memory i) t i (1 + k) z ≡ true → node_of t (get_or (W i z) 0 0) ≡ i
    from_i i z e =
        let h = right_parts s (node s memory i) t i (1 + k) z e in
        (header-says t (W i z) h.header).from ∙ (send-says t i k (W i z) k6 h.place).0

    task_all : all (right_letter s (node s memory k) t k (13 + q)) (live (task_items s memory k q)) ≡ true
    task_all =
        let e : begun s memory k (13 + q) ≡ live (task_items s memory k q) = begun_task s memory k (13 + q) (omega arith) (omega (arith, q64)) ∙ ap live (shown_task s memory k q q64) in
        subst (λ (l : List ℕ). all (right_letter s (node s memory k) t k (13 + q)) l ≡ true) e (gives_at memory ok k k6 (13 + q) (omega (arith, q64)))

    send_all : (i : ℕ) → i < 6 → all (right_letter s (node s memory i) t i (1 + k)) (send_items s memory i k) ≡ true
    send_all i h =
        let e : begun s memory i (1 + k) ≡ send_items s memory i k = begun-low s memory i (1 + k) (omega (arith, k6)) ∙ shown-send s memory i k k6 in
        subst (λ (l : List ℕ). all (right_letter s (node s memory i) t i (1 + k)) l ≡ true) e (gives_at memory ok i h (1 + k) (omega (arith, k6)))

    all_drop : (p : ℕ → Bool) (l : List ℕ) → all p l ≡ true → all p (drop 1 l) ≡ true
    all_drop p [] e = e
    all_drop p (z ∷ l) e = (all_head p z l e).1

    waiting_all : (i : ℕ) → i < 6 → all (right_letter s (node s memory i) t i (1 + k)) (waiting s memory k i) ≡ true
    unfolding waiting
    waiting_all i h =
        split (handed_over memory k i)
        (λ e. rw e (all_drop (right_letter s (node s memory i) t i (1 + k)) (send_items s memory i k) (send_all i h)))
        (λ e. rw e (send_all i h))

    -- from all the nodes a's alone
    below_nodes : (n : ℕ) → n ≤ j → n ≤ 6 → picked (from_nodes s memory b k n) ≡ []
    unfolding from_nodes picked
    below_nodes zero l m = refl
    below_nodes (suc n) l m =
        picked_append (from_nodes s memory b k n) (from_send s memory b n (waiting s memory k n))
        ∙ ap₂ (λ (u v : List (List ℕ)). u ++ v) (below_nodes n (omega arith) (omega arith))
        (send_own n (waiting s memory k n) ∙ send-away n (λ e. omega arith) (right_letter s (node s memory n) t n (1 + k)) (from_i n) (waiting s memory k n) (waiting_all n (omega arith)))

    above_nodes : (n : ℕ) → j < n → n ≤ 6 → picked (from_nodes s memory b k n) ≡ those (between a b) (map (W j) (waiting s memory k j))
    unfolding from_nodes
    above_nodes zero l m = absurd (omega arith)
    above_nodes (suc n) l m =
        picked_append (from_nodes s memory b k n) (from_send s memory b n (waiting s memory k n))
        ∙ same? n j
        (λ e z. rw e (ap₂ (λ (u v : List (List ℕ)). u ++ v) (below_nodes j (omega arith) (omega arith)) (send_own j (waiting s memory k j))))
        (λ e z. ap₂ (λ (u v : List (List ℕ)). u ++ v) (above_nodes n (omega arith) (omega arith))
        (send_own n (waiting s memory k n) ∙ send-away n e (right_letter s (node s memory n) t n (1 + k)) (from_i n) (waiting s memory k n) (waiting_all n (omega arith)))
        ∙ append-nil (those (between a b) (map (W j) (waiting s memory k j))))

    -- ---- the machine that the memory spells
    live-words : (i : ℕ) (bs : List ℕ) → map words_of (live_ones (map (letter_from s (node s memory i)) bs)) ≡ map (W i) (live bs)
    unfolding live_ones live letter_from
    live-words i [] = refl
    live-words i (z ∷ bs) =
        let f : first (letter_from s (node s memory i) z) ≡ z = first_from_lem s (node s memory i) (gives_range memory ok) z in
        split (eqb z 0)
        (λ e. rw (f, e) (live-words i bs))
        (λ e. rw (f, e) (ap (λ (l : List (List ℕ)). W i z ∷ l) (live-words i bs)))

    plain-words : (i : ℕ) (bs : List ℕ) → map words_of (map (letter_from s (node s memory i)) bs) ≡ map (W i) bs
    unfolding letter_from
    plain-words i [] = refl
    plain-words i (z ∷ bs) = ap (λ (l : List (List ℕ)). W i z ∷ l) (plain-words i bs)

    queue-words : in_queue (machine_of memory) k q ≡ map (W k) (live (task_items s memory k q))
    unfolding in_queue node_from
    queue-words = ap (λ (l : List ℕ). map words_of (live_ones (map (letter_from s (node s memory k)) l))) (shown_task s memory k q q64) ∙ live-words k (task_items s memory k q)

    carry_words : map words_of (to_carry (machine_of memory) j k) ≡ map (W j) (waiting s memory k j)
    unfolding to_carry waiting handed_over node_from
    carry_words =
        ap (λ (l : List ℕ). map words_of (cond (eqb (stage_of memory k) 3 && eqb (other_of memory k) j) (drop 1 (map (letter_from s (node s memory j)) l)) (map (letter_from s (node s memory j)) l))) (shown-send s memory j k k6)
        ∙ both (eqb (stage_of memory k) 3 && eqb (other_of memory k) j) (send_items s memory j k)
      where
        first-gone : (l : List ℕ) → map words_of (drop 1 (map (letter_from s (node s memory j)) l)) ≡ map (W j) (drop 1 l)
        first-gone [] = refl
        first-gone (z ∷ l) = plain-words j l

        both : (c : Bool) (l : List ℕ) → map words_of (cond c (drop 1 (map (letter_from s (node s memory j)) l)) (map (letter_from s (node s memory j)) l)) ≡ map (W j) (cond c (drop 1 l) l)
        both true l = first-gone l
        both false l = plain-words j l

    picked_own : picked (of_task s memory b) ≡ on_the_way (table_in memory) (machine_of memory) a b
    unfolding of_task on_the_way
    picked_own =
        rw y (picked_append (from_task s memory b k (live (task_items s memory k q))) (from_nodes s memory b k 6)
        ∙ ap₂ (λ (u v : List (List ℕ)). u ++ v) (task_own k (right_letter s (node s memory k) t k (13 + q)) for_b (live (task_items s memory k q)) task_all) (above_nodes 6 j6 (omega arith))
        ∙ sym (those-append (between a b) (map (W k) (live (task_items s memory k q))) (map (W j) (waiting s memory k j)))
        ∙ ap₂ (λ (u v : List (List ℕ)). those (between a b) (u ++ v)) (sym queue-words) (sym carry_words))

    below_256 : b < 256
    unfolding is_bound
    below_256 = ltb-true b task_ids (and-true (ltb b task_ids) _ y).0

    -- WHERE THE LIST HAS ROOM, its words show the letters on the way
    pub list-shows : (out : List ℕ) (n : ℕ) → (list memory out).answer ≡ Ok (record { letters = n }) → shown_in memory a b n (list memory out).out ≡ on_the_way (table_in memory) (machine_of memory) a b
    unfolding list onto
    list-shows out n e =
        let xs : List Shown = listed s memory in
        split (leb (length xs * 6) (length out))
        (λ r.
        let d : ◌≡◌ {A = Result Listed ListRefusal} (Ok (record { letters = length xs })) (Ok (record { letters = n })) = rw (ok, r) at e in
        let z : length xs ≡ n = ap (λ (x : Listed). x.letters) (same_ok d) in
        rw (ok, r) (ap (λ (m : ℕ). shown_in memory a b m (laid_out xs ++ drop (length (laid_out xs)) out)) (sym z) ∙ laid-shown xs (drop (length (laid_out xs)) out) ∙ above_own 256 below_256 ∙ picked_own))
        (λ r. absurd (not_done (length xs) n (rw (ok, r) at e)))
      where
        not_done : (u v : ℕ) → ◌≡◌ {A = Result Listed ListRefusal} (Err (OutTooShort u)) (Ok (record { letters = v })) → ⊥
        not_done u v c = let z : ◌≡◌ {A = ℕ} 0 1 = cc in omega arith
