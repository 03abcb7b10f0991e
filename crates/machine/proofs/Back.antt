-- WHAT REPRESENTS A WELL-FORMED MACHINE IS SOUND, and the machine is the one that the memory spells. Assumes nothing.
use mathlib.Core.Path.{◌≡◌, refl, sym, ap, ap₂, ◌∙◌, subst}
use mathlib.Core.Bool.{Bool, true, ◌&&◌, ◌||◌, not}
use mathlib.Core.List.{List, [], ◌∷◌, map}
use mathlib.Core.Logic.{⊎_elim}
use Prim.Native.Nat.{ℕ, suc, ◌+◌, ◌-◌, ◌*◌, ◌≤◌, ◌<◌}
use native.Mathlib.Nat.{zero-mul}
use native.Mathlib.Omega.{arith}
use lib.Dec.{eqb, leb}
use lib.ListN.{length, get_or, take}
use lib.Seq.{get_or-take}
use borrow.Author.Tests.{eq-eqb, ne_eqb, le-leb}
use Rattle.words.specs.Words.{every, all}
use Rattle.words.specs.Count.{occurs, down_from}
use Rattle.words.proofs.Count.{hit_self, down_in, down_range, count_most, sum_le}
use Rattle.words.proofs.Lists.{same?, le_or_lt, and-true, and-join, every_all, all_at, same_alike}
use Rattle.settings.specs.declared.Settings.{Settings}
use Rattle.settings.specs.Range.{InRange}
use Rattle.layout.specs.Places.{node, memory_size, gap_word, send_at, ack_at, task_at}
use Rattle.layout.specs.Asked.{Stretch}
use Rattle.layout.proofs.NodeRows.{start-send, start_ack, start_task, width_task}
use Rattle.tasks.specs.Table.{right_table}
use Rattle.blocks.specs.Chain.{needs, after, text}
use Rattle.blocks.proofs.Chains.{Leads, text_in}
use Rattle.blocks.proofs.Rows.{rows, first_rows, list_is, after_is, text_rows}
use Rattle.letters.proofs.Rows.{needs-enough}
use Rattle.letters.proofs.Copies.{node-stretch}
use Rattle.queues.specs.Queue.{send_kind, ack_kind, task_kind}
use Rattle.queues.specs.Items.{live, gap_flag}
use Rattle.queues.proofs.Items.{FirstLive}
use Rattle.queues.proofs.InRow.{room-send, room_ack, room_task}
use Rattle.sound.specs.Reading.{settings_in, held_of, table_in, send_items, ack_items, task_items}
use Rattle.sound.specs.Queues.{in_shape, task_of, is_block, none_to_itself, none_unbound, right_send, right_ack, right_task}
use Rattle.sound.specs.Letters.{chain_from, ends_well, told_length, words_from, right_length, right_letter}
use Rattle.sound.specs.Positions.{names_other, holds_copy, right_position, held}
use Rattle.sound.specs.Blocks.{begun, visits, each_once}
use Rattle.sound.specs.Sound.{sound}
use Rattle.machine.specs.Machine.{Letter, first, firsts, Live, words_of, Machine, All, many}
use Rattle.machine.specs.Spelled.{letter_from, shown, node_from, machine_of}
use Rattle.machine.specs.Core.{rows_of, Held, Core}
use Rattle.machine.specs.Represents.{Right, RightPosition, WellFormed, Shows, RepresentsAt, Represents}
use Rattle.machine.proofs.Letters.{length-firsts, alive, first_in_lem, Among}
use Rattle.machine.proofs.Places.{at_place, seat-send, line-send, seat_ack, line_ack, seat_task, line_task, kind-send, kind_ack, kind_task, row_ring, row_word, shown-hand, shown-transit, shown-send, shown_ack, shown_task, begun-low, begun_task}
use Rattle.machine.proofs.Facts.{Facts, facts_sound}
use Rattle.machine.proofs.Counts.{sum_same, letters_at, count-visits}

-- each number that stands in the list passes: all pass
in_all : (p : ℕ → Bool) (l : List ℕ) → ((x : ℕ) → 1 ≤ occurs x l → p x ≡ true) → all p l ≡ true
unfolding all
in_all p [] f = refl
in_all p (y ∷ l) f = and-join (p y) (all p l) (f y (omega (arith, hit_self y))) (in_all p l (λ x o. f x (omega arith)))

-- ---- a node's words
module _ (s : Settings) (l : List ℕ) (st : Stretch s l) where
  abbrev r : InRange s
  r = st.range

  -- a chain
  module _ (b : ℕ) (c : List ℕ) (h : Leads s.b (rows s l) b c 0) (few : (x : ℕ) → occurs x c ≤ occurs x (down_from s.m)) where
    in_c : (x : ℕ) → 1 ≤ occurs x c → (1 ≤ x) × (x ≤ s.m)
    in_c x o = down_range s.m x (omega (arith, few x))

    chain_back : chain_from s l b ≡ c
    chain_back = list_is s r l s.m b c (λ x o. (in_c x o).0) (count_most s.m c few) h

    ends-back : ends_well s l b ≡ true
    unfolding ends_well
    ends-back =
        rw chain_back
        (and-join (all (λ x. leb 1 x && leb x s.m) c) (eqb (after s l (length c) b) 0)
        (in_all (λ x. leb 1 x && leb x s.m) c (λ x o. and-join (leb 1 x) (leb x s.m) (le-leb 1 x (in_c x o).0) (le-leb x s.m (in_c x o).1)))
        (eq-eqb (after s l (length c) b) 0 (after_is s r l b c 0 (λ x o. (in_c x o).0) h)))

  -- a letter
  module _ (table : List ℕ) (i p : ℕ) (L : Letter) (h : Held s (rows s l) L) (v : Live L → Right table i p L.words) (few : (x : ℕ) → occurs x L.chain ≤ occurs x (down_from s.m)) where
    pub chain_is : chain_from s l (first L) ≡ L.chain
    chain_is = chain_back (first L) L.chain h.leads few

    text_is : text s l (chain_from s l (first L)) ≡ text_in s.b (rows s l) L.chain
    text_is = ap (text s l) chain_is ∙ text_rows s r l L.chain (λ x o. (in_c (first L) L.chain h.leads few x o).0)

    pub told_is : told_length s l (first L) ≡ length L.words
    told_is =
        ap (λ (t : List ℕ). get_or t 4 0) text_is
        ∙ ⊎_elim
        (λ g.
        let w = v g in
        sym (get_or-take (length L.words) (text_in s.b (rows s l) L.chain) 4 0 w.least) ∙ ap (λ (t : List ℕ). get_or t 4 0) h.reads ∙ w.told)
        (λ g.
        let z : length L.chain ≡ 0 = omega arith in
        let y : length L.words ≤ 0 * (s.b - 1) = rw (sym z ∙ h.blocks) (needs-enough s r (length L.words)) in
        nothing L.chain z ∙ omega (arith, zero-mul (s.b - 1)))
        (le_or_lt 1 (length L.chain))
      where
        nothing : (c : List ℕ) → length c ≡ 0 → get_or (text_in s.b (rows s l) c) 4 0 ≡ 0
        nothing [] z = refl
        nothing (x ∷ c) z = absurd (omega arith)

    pub words_is : words_from s l (first L) ≡ L.words
    unfolding words_from
    words_is = ap₂ (λ (n : ℕ) (t : List ℕ). take n t) told_is text_is ∙ h.reads

    -- THE LETTER IS WHAT ITS FIRST BLOCK BEGINS
    pub letter-back : letter_from s l (first L) ≡ L
    unfolding letter_from
    letter-back = ap₂ (λ (c w : List ℕ). record { chain = c; words = w }) chain_is words_is

    length_right : Live L → right_length s l (first L) ≡ true
    unfolding right_length
    length_right g =
        let w = v g in
        let n : ℕ = length L.words in
        rw (told_is, le-leb 5 n w.least, le-leb n 1024 w.most) (eq-eqb (length (chain_from s l (first L))) (needs s n) (ap length chain_is ∙ h.blocks))

    letter_right_lem : Live L → right_letter s l table i p (first L) ≡ true
    unfolding right_letter
    letter_right_lem g =
        let w = v g in
        rw (ends-back (first L) L.chain h.leads few, length_right g, words_is, w.header) w.place

  -- the letters of a place
  module _ (table : List ℕ) (i p : ℕ) where
    abbrev Good : Letter → Type 0
    Good L = Live L → Right table i p L.words

    abbrev test : ℕ → Bool
    test = right_letter s l table i p

    pub letters-back : (ls : List Letter) → Among s.m ls → All (Held s (rows s l)) ls → All Good ls → map (letter_from s l) (firsts ls) ≡ ls
    letters-back [] m h v = refl
    letters-back (L ∷ ls) m h v =
        ap₂ (λ (X : Letter) (k : List Letter). X ∷ k) (letter-back table i p L h.0 v.0 (λ x. omega (arith, m x))) (letters-back ls (λ x. omega (arith, m x)) h.1 v.1)

    pub tests_back : (ls : List Letter) → Among s.m ls → All (Held s (rows s l)) ls → All Good ls → All Live ls → all test (firsts ls) ≡ true
    unfolding all
    tests_back [] m h v a = refl
    tests_back (L ∷ ls) m h v a =
        and-join (test (first L)) (all test (firsts ls)) (letter_right_lem table i p L h.0 v.0 (λ x. omega (arith, m x)) a.0) (tests_back ls (λ x. omega (arith, m x)) h.1 v.1 a.1)

    pub tests_live : (ls : List Letter) → Among s.m ls → All (Held s (rows s l)) ls → All Good ls → all test (live (firsts ls)) ≡ true
    unfolding all live
    tests_live [] m h v = refl
    tests_live (L ∷ ls) m h v =
        let k = tests_live ls (λ x. omega (arith, m x)) h.1 v.1 in
        same? (first L) 0
        (λ q e. rw e k)
        (λ q e. rw e (and-join (test (first L)) (all test (live (firsts ls))) (letter_right_lem table i p L h.0 v.0 (λ x. omega (arith, m x)) (alive L q)) k))

    -- the words of the first letter
    pub front_back : (ls : List Letter) → Among s.m ls → All (Held s (rows s l)) ls → All Good ls → 1 ≤ length ls → words_from s l (get_or (firsts ls) 0 0) ∷ [] ≡ take 1 (map words_of ls)
    front_back [] m h v n = absurd (omega arith)
    front_back (L ∷ ls) m h v n = ap (λ (k : List ℕ). k ∷ []) (words_is table i p L h.0 v.0 (λ x. omega (arith, m x)))

-- ---- first blocks are blocks
blocks-back : (m : ℕ) (ls : List Letter) → Among m ls → All Live ls → all (λ b. leb 1 b && leb b m) (firsts ls) ≡ true
unfolding all
blocks-back m [] a v = refl
blocks-back m (L ∷ ls) a v =
    let i = down_range m (first L) (omega (arith, a (first L), first_in_lem L v.0)) in
    and-join (leb 1 (first L) && leb (first L) m) (all (λ b. leb 1 b && leb b m) (firsts ls))
    (and-join (leb 1 (first L)) (leb (first L) m) (le-leb 1 (first L) i.0) (le-leb (first L) m i.1))
    (blocks-back m ls (λ x. omega (arith, a x)) v.1)

items_back : (m : ℕ) (ls : List Letter) → Among m ls → all (λ b. leb b m) (firsts ls) ≡ true
unfolding all
items_back m [] a = refl
items_back m (L ∷ ls) a =
    and-join (leb (first L) m) (all (λ b. leb b m) (firsts ls))
    (same? (first L) 0
    (λ q e. rw q (le-leb 0 m (omega arith)))
    (λ q e. let i = down_range m (first L) (omega (arith, a (first L), first_in_lem L (alive L q))) in le-leb (first L) m i.1))
    (items_back m ls (λ x. omega (arith, a x)))

first_test : (xs : List ℕ) → FirstLive xs → eqb (length xs) 0 || not (eqb (get_or xs 0 0) 0) ≡ true
first_test xs f =
    same? (length xs) 0
    (λ q e. rw e)
    (λ q e. rw (e, ne_eqb (get_or xs 0 0) 0 (f (omega arith))))

module _ (s : Settings) (memory : List ℕ) (M : Machine) (size : length memory ≡ memory_size s) (core : Core s (rows_of s memory) M.node)
    (shows : Shows s memory M) (formed : WellFormed (table_in memory) M) where
  abbrev w : InRange s
  w = core.range

  stretch : (i : ℕ) → i < 6 → Stretch s (node s memory i)
  stretch i h = node-stretch s memory (record { range = core.range; long = size }) i h

  abbrev ls : ℕ → ℕ → List Letter
  ls i p = (M.node i).letters p

  among : (i p : ℕ) → i < 6 → p < 78 → Among s.m (ls i p)
  among i p h g = λ b. omega (arith, core.once i b h, sum_le 78 (λ k. many b (ls i k)) p g)

  -- ---- queues
  send-back : (i k : ℕ) → i < 6 → k < 6 → (in_shape (send_kind s) (node s memory i) (send_at s k) ≡ true) × (send_items s memory i k ≡ firsts (ls i (1 + k)))
  send-back i k h g =
      row_ring s (node s memory i) (stretch i h) (send_kind s) (1 + k) (omega arith) (room-send s w (1 + k) (omega arith) (omega arith)) (send_at s k) (start-send s k (omega arith)) (firsts (ls i (1 + k)))
      (rw (kind-send s k g, seat-send i k g, line-send i k g) at (core.queues i (1 + k) h (omega arith) (omega arith)))

  -- acknowledge queue k on node i shows node k's letters at place 7 + i
  ack_back : (i k : ℕ) → i < 6 → k < 6 → (in_shape (ack_kind s) (node s memory i) (ack_at s k) ≡ true) × (ack_items s memory i k ≡ firsts (ls k (7 + i)))
  ack_back i k h g =
      row_ring s (node s memory i) (stretch i h) (ack_kind s) (7 + k) (omega arith) (room_ack s w (7 + k) (omega arith) (omega arith)) (ack_at s k) (start_ack s k (omega arith)) (firsts (ls k (7 + i)))
      (rw (kind_ack s i h, seat_ack k i h, line_ack k i h) at (core.queues k (7 + i) g (omega arith) (omega arith)))

  task_back : (i q : ℕ) → i < 6 → q < 64 → (in_shape (task_kind s) (node s memory i) (task_at s q) ≡ true) × (task_items s memory i q ≡ firsts (ls i (13 + q)))
  task_back i q h g =
      row_ring s (node s memory i) (stretch i h) (task_kind s) (13 + q) (omega arith) (room_task s w (13 + q) (omega arith) (omega arith)) (task_at s q) (start_task s q (omega arith)) (firsts (ls i (13 + q)))
      (rw (kind_task s q g, seat_task i q g, line_task i q g) at (core.queues i (13 + q) h (omega arith) (omega arith)))

  sends : (i k : ℕ) → i < 6 → k < 6 → right_send s memory i k ≡ true
  unfolding right_send
  sends i k h g =
      let e = send-back i k h g in
      rw (e.0, e.1)
      (and-join (none_to_itself s memory i k (firsts (ls i (1 + k)))) (all (is_block s memory i) (firsts (ls i (1 + k))))
      (same? k i (λ q t. rw (t, q, formed.order.itself i h)) (λ q t. rw t))
      (blocks-back s.m (ls i (1 + k)) (among i (1 + k) h (omega arith)) (formed.order.live i (1 + k) h (omega arith))))

  acks : (i k : ℕ) → i < 6 → k < 6 → right_ack s memory i k ≡ true
  unfolding right_ack
  acks i k h g =
      let e = ack_back i k h g in
      rw (e.0, e.1)
      (and-join (none_to_itself s memory i k (firsts (ls k (7 + i)))) (all (is_block s memory i) (firsts (ls k (7 + i))))
      (same? k i (λ q t. rw (t, q, formed.order.itself_ack i h)) (λ q t. rw t))
      (blocks-back s.m (ls k (7 + i)) (among k (7 + i) g (omega arith)) (formed.order.live k (7 + i) g (omega arith))))

  flag-back : (i q : ℕ) → i < 6 → q < 64 → get_or (node s memory i) (task_at s q + gap_word) 0 ≡ gap_flag (firsts (ls i (13 + q)))
  flag-back i q h g =
      sym (row_word s (node s memory i) (stretch i h) (task_kind s) (13 + q) (omega arith) (room_task s w (13 + q) (omega arith) (omega arith)) (task_at s q) (start_task s q (omega arith)) 2
      (rw (width_task s (13 + q) (omega arith) (omega arith)) (omega arith)))
      ∙ shows.flags i q h g

  tasks : (i q : ℕ) → i < 6 → q < 64 → right_task s memory i q ≡ true
  unfolding right_task
  tasks i q h g =
      let e = task_back i q h g in
      let xs : List ℕ = firsts (ls i (13 + q)) in
      rw (e.0, e.1, items_back s.m (ls i (13 + q)) (among i (13 + q) h (omega arith)), first_test xs (formed.order.fronts i q h g))
      (and-join (none_unbound s memory i q xs) (eqb (get_or (node s memory i) (task_at s q + gap_word) 0) (gap_flag xs))
      (same? (task_of (table_in memory) i q) 0 (λ z t. rw (t, formed.order.unbound i q h g z)) (λ z t. rw t))
      (eq-eqb (get_or (node s memory i) (task_at s q + gap_word) 0) (gap_flag xs) (flag-back i q h g)))

  -- ---- the hand
  module _ (j : ℕ) (h : j < 6) where
    abbrev pos : RightPosition M j
    pos = formed.positions j h

    -- in stage 2 the hand holds one letter
    one : M.stage j ≡ 2 → length (ls j 0) ≡ 1
    one q =
        let n = pos.waits (omega arith) in
        sym (length-words (ls j 0)) ∙ ap length (pos.copy q) ∙ first_one (ls (M.other j) (1 + j)) n
      where
        length-words : (k : List Letter) → length (map words_of k) ≡ length k
        length-words [] = refl
        length-words (L ∷ k) = ap suc (length-words k)

        first_one : (k : List Letter) → 1 ≤ length k → length (take 1 (map words_of k)) ≡ 1
        first_one [] n = absurd (omega arith)
        first_one (L ∷ k) n = refl

    hand-back : held s memory j ≡ firsts (ls j 0)
    unfolding held
    hand-back =
        same? (M.stage j) 2
        (λ q e. rw (shows.stage j h, e, shows.hand j h) (single (ls j 0) (one q)))
        (λ q e. rw (shows.stage j h, e, pos.hand q))
      where
        single : (k : List Letter) → length k ≡ 1 → get_or (firsts k) 0 0 ∷ [] ≡ firsts k
        single [] n = absurd (omega arith)
        single (L ∷ []) n = refl
        single (L ∷ K ∷ k) n = absurd (omega arith)

  -- ---- what the words show are the letters' first blocks
  shown-back : (i p : ℕ) → i < 6 → p < 77 → shown s memory i p ≡ firsts (ls i p)
  shown-back i p h g =
      same? p 0
      (λ q e. rw q (shown-hand s memory i ∙ hand-back i h))
      (λ q e.
      at_place (λ (p : ℕ). shown s memory i p ≡ firsts (ls i p))
      (λ k u. shown-send s memory i k u ∙ (send-back i k h u).1)
      (λ k u. shown_ack s memory i k u ∙ (ack_back k i u h).1)
      (λ q u. shown_task s memory i q u ∙ (task_back i q h u).1)
      p (omega arith) g)

  -- THE MACHINE IS THE ONE THAT THE MEMORY SPELLS
  letters_same : (i p : ℕ) → i < 6 → p < 78 → letters_at s memory i p ≡ ls i p
  letters_same i p h g =
      same? p 77
      (λ q e. rw (q, shown-transit s memory i, formed.order.still i h))
      (λ q e.
      ap (map (letter_from s (node s memory i))) (shown-back i p h (omega arith))
      ∙ letters-back s (node s memory i) (stretch i h) (table_in memory) i p (ls i p) (among i p h g) (core.letters i p h g) (formed.order.letters i p h (omega arith)))

  few-free : (i : ℕ) → i < 6 → (x : ℕ) → occurs x (M.node i).free ≤ occurs x (down_from s.m)
  few-free i h x = omega (arith, core.once i x h)

  free-leads : (i : ℕ) → i < 6 → Leads s.b (rows_of s memory i) (get_or (node s memory i) 0 0) (M.node i).free 0
  free-leads i h = rw (first_rows s w (node s memory i)) (core.free i h)

  free_same : (i : ℕ) → i < 6 → chain_from s (node s memory i) (get_or (node s memory i) 0 0) ≡ (M.node i).free
  free_same i h = chain_back s (node s memory i) (stretch i h) (get_or (node s memory i) 0 0) (M.node i).free (free-leads i h) (few-free i h)

  -- ---- every block exactly once
  onces : (i : ℕ) → i < 6 → each_once s memory i ≡ true
  unfolding each_once
  onces i h =
      and-join (ends_well s (node s memory i) (get_or (node s memory i) 0 0)) (every s.m (λ b. eqb (occurs (suc b) (visits s memory i)) 1))
      (ends-back s (node s memory i) (stretch i h) (get_or (node s memory i) 0 0) (M.node i).free (free-leads i h) (few-free i h))
      (every_all (λ b. eqb (occurs (suc b) (visits s memory i)) 1) s.m (λ b g. eq-eqb (occurs (suc b) (visits s memory i)) 1 (total (suc b) ∙ down_in s.m (suc b) (omega arith) (omega arith))))
    where
      total : (x : ℕ) → occurs x (visits s memory i) ≡ occurs x (down_from s.m)
      total x =
          count-visits s memory i x
          ∙ ap₂ (λ (a b : ℕ). a + b) (ap (occurs x) (free_same i h)) (sum_same 78 (λ p. many x (letters_at s memory i p)) (λ p. many x (ls i p)) (λ p g. ap (many x) (letters_same i p h g)))
          ∙ core.once i x h

  letters : (i p : ℕ) → i < 6 → p < 77 → all (right_letter s (node s memory i) (table_in memory) i p) (begun s memory i p) ≡ true
  letters i p h g =
      let u = core.letters i p h (omega arith) in
      let v = formed.order.letters i p h g in
      let a = among i p h (omega arith) in
      ⊎_elim
      (λ b. rw (begun_task s memory i p b g, shown-back i p h g) (tests_live s (node s memory i) (stretch i h) (table_in memory) i p (ls i p) a u v))
      (λ b. rw (begun-low s memory i p b, shown-back i p h g) (tests_back s (node s memory i) (stretch i h) (table_in memory) i p (ls i p) a u v (formed.order.live i p h b)))
      (le_or_lt 13 p)

  -- ---- positions
  module _ (j : ℕ) (h : j < 6) where
    abbrev o : ℕ
    o = M.other j

    names-back : 1 ≤ M.stage j → names_other s memory j ≡ true
    unfolding names_other
    names-back z =
        let p = formed.positions j h in
        let n = p.names z in
        rw (shows.other j h, le-leb o 5 n, ne_eqb o j (p.another z), (send-back o j (omega arith) h).1, length-firsts (ls o (1 + j)))
        (le-leb 1 (length (ls o (1 + j))) (p.waits z))

    front : (i p : ℕ) → i < 6 → p < 77 → 1 ≤ length (ls i p) → words_from s (node s memory i) (get_or (firsts (ls i p)) 0 0) ∷ [] ≡ take 1 (map words_of (ls i p))
    front i p a g n = front_back s (node s memory i) (stretch i a) (table_in memory) i p (ls i p) (among i p a (omega arith)) (core.letters i p a (omega arith)) (formed.order.letters i p a g) n

    copy-back : M.stage j ≡ 2 → holds_copy s memory j ≡ true
    unfolding holds_copy
    copy-back q =
        let p = formed.positions j h in
        let n = p.names (omega arith) in
        let d = one j h q in
        let e : words_from s (node s memory j) (get_or (firsts (ls j 0)) 0 0) ∷ [] ≡ words_from s (node s memory o) (get_or (firsts (ls o (1 + j))) 0 0) ∷ [] =
        front j 0 h (omega arith) (omega arith) ∙ ap (take 1) (p.copy q) ∙ take_one (map words_of (ls o (1 + j))) ∙ sym (front o (1 + j) (omega arith) (omega arith) (p.waits (omega arith))) in
        let f : words_from s (node s memory j) (get_or (firsts (ls j 0)) 0 0) ≡ words_from s (node s memory o) (get_or (firsts (ls o (1 + j))) 0 0) = ap (λ (k : List (List ℕ)). get_or k 0 []) e in
        rw (shows.other j h, shows.hand j h, (send-back o j (omega arith) h).1, f) (same_alike (words_from s (node s memory o) (get_or (firsts (ls o (1 + j))) 0 0)))
      where
        take_one : (k : List (List ℕ)) → take 1 (take 1 k) ≡ take 1 k
        take_one [] = refl
        take_one (x ∷ k) = refl

    held_back : M.stage j ≡ 2 → (leb 1 (held_of memory j) ≡ true) × (leb (held_of memory j) s.m ≡ true)
    held_back q =
        let d = one j h q in
        let e = all_at (λ b. leb 1 b && leb b s.m) (firsts (ls j 0)) (blocks-back s.m (ls j 0) (among j 0 h (omega arith)) (formed.order.live j 0 h (omega arith))) 0 (rw (length-firsts (ls j 0)) (omega arith)) in
        rw (shows.hand j h) (and-true (leb 1 (get_or (firsts (ls j 0)) 0 0)) (leb (get_or (firsts (ls j 0)) 0 0) s.m) e)

    position : right_position s memory j ≡ true
    unfolding right_position
    position =
        let p = formed.positions j h in
        same? (M.stage j) 0
        (λ q e. rw (shows.stage j h, e, shows.other j h, p.none q, shows.hand j h, p.hand (λ z. omega arith)))
        (λ q e.
        rw (shows.stage j h, e, le-leb (M.stage j) 3 p.most, names-back (omega arith))
        (same? (M.stage j) 2
        (λ q' e'. rw (e', (held_back q').0, (held_back q').1) (copy-back q'))
        (λ q' e'. rw (e', shows.hand j h, p.hand q'))))

  pub facts_back : right_table (table_in memory) ≡ true → Facts s memory
  facts_back table =
      record {
        range = w;
        size = size;
        turn = rw shows.turn formed.turn;
        table = table;
        sends = sends;
        acks = acks;
        tasks = tasks;
        positions = position;
        onces = onces;
        letters = letters;
      }

pub represents_sound : (memory : List ℕ) (m : Machine) → Represents memory m → sound memory ≡ true
represents_sound memory m e =
    facts_sound memory (facts_back (settings_in memory) memory m e.size e.core e.shows e.formed e.table)

-- the same with settings that are those that stand in the memory
pub represents_sound_at : (s : Settings) (memory : List ℕ) (m : Machine) → settings_in memory ≡ s → RepresentsAt s memory m → sound memory ≡ true
represents_sound_at s memory m q e = represents_sound memory m (subst (λ (x : Settings). RepresentsAt x memory m) (sym q) e)

-- THE MACHINE IS DETERMINED: what a memory represents is what it spells
module _ (memory : List ℕ) (m : Machine) (e : Represents memory m) where
  pub same_turn : (machine_of memory).turn ≡ m.turn
  same_turn = e.shows.turn

  pub same_stage : (j : ℕ) → j < 6 → (machine_of memory).stage j ≡ m.stage j
  same_stage = e.shows.stage

  pub same_other : (j : ℕ) → j < 6 → (machine_of memory).other j ≡ m.other j
  same_other = e.shows.other

  pub same_free : (i : ℕ) → i < 6 → ((machine_of memory).node i).free ≡ (m.node i).free
  unfolding node_from
  same_free = free_same (settings_in memory) memory m e.size e.core e.shows e.formed

  pub same_letters : (i p : ℕ) → i < 6 → p < 78 → ((machine_of memory).node i).letters p ≡ (m.node i).letters p
  unfolding node_from
  same_letters = letters_same (settings_in memory) memory m e.size e.core e.shows e.formed
