-- A SOUND MEMORY REPRESENTS THE MACHINE THAT IT SPELLS. Assumes nothing.
use mathlib.Core.Path.{◌≡◌, refl, sym, ap, ◌∙◌, subst}
use mathlib.Core.Bool.{Bool, true, false, cond, ◌&&◌, ◌||◌, not, false≢true}
use mathlib.Core.List.{List, [], ◌∷◌, map}
use mathlib.Core.Logic.{⊎_elim}
use Prim.Native.Nat.{ℕ, zero, suc, ◌+◌, ◌-◌, ◌≤◌, ◌<◌}
use native.Mathlib.Omega.{arith}
use lib.Dec.{eqb, leb}
use lib.ListN.{length, get_or, take}
use borrow.Author.Tests.{eq-eqb, ne_eqb, eqb-true, leb-true}
use Rattle.words.specs.Words.{every, all}
use Rattle.words.specs.Count.{occurs, sum, down_from}
use Rattle.words.proofs.Count.{down_in, down_out, down_zero}
use Rattle.words.proofs.Lists.{same?, le_or_lt, and-true, every_at, alike_same}
use Rattle.settings.specs.declared.Settings.{Settings}
use Rattle.settings.specs.Range.{InRange}
use Rattle.layout.specs.Places.{node, gap_word, send_at, ack_at, task_at}
use Rattle.layout.specs.Rows.{width}
use Rattle.layout.specs.Asked.{Stretch}
use Rattle.layout.proofs.NodeRows.{start-send, start_ack, start_task, width_task, row_fits}
use Rattle.words.proofs.Rows.{length-row}
use Rattle.blocks.proofs.Chains.{Leads}
use Rattle.blocks.proofs.Rows.{first_rows}
use Rattle.letters.proofs.Copies.{node-stretch}
use Rattle.queues.specs.Queue.{send_kind, ack_kind, task_kind}
use Rattle.queues.specs.Items.{gap_flag}
use Rattle.queues.proofs.Items.{FirstLive}
use Rattle.queues.proofs.Ring.{Ring}
use Rattle.queues.proofs.InRow.{room-send, room_ack, room_task}
use Rattle.sound.specs.Reading.{settings_in, turn_in, stage_of, other_of, held_of, table_in, send_items, ack_items, task_items}
use Rattle.sound.specs.Queues.{in_shape, task_of, is_block, none_to_itself, none_unbound, first_live, right_send, right_ack, right_task}
use Rattle.sound.specs.Letters.{chain_from, ends_well, words_from, right_letter}
use Rattle.sound.specs.Positions.{names_other, holds_copy, right_position, held}
use Rattle.sound.specs.Blocks.{visits, each_once}
use Rattle.sound.specs.Sound.{sound}
use Rattle.machine.specs.Machine.{Letter, gap, Live, words_of, Machine, All, many}
use Rattle.machine.specs.Spelled.{letter_from, shown, node_from, machine_of}
use Rattle.machine.specs.Core.{rows_of, seat, line, kind, Held, Core}
use Rattle.machine.specs.Represents.{Right, RightPosition, InOrder, WellFormed, Shows, Represents}
use Rattle.machine.proofs.Places.{at_place, seat-send, line-send, seat_ack, line_ack, seat_task, line_task, kind-send, kind_ack, kind_task, ring_row, row_word, shown-hand, shown-transit, shown-send, shown_ack, shown_task, begun-low, begun_task}
use Rattle.machine.proofs.Facts.{Facts, sound_facts}
use Rattle.machine.proofs.Counts.{sum_none, empty, gap-held, letters_at, count-visits}
use Rattle.machine.proofs.Spelled.{list-zero, firsts_from, live_from, zero_from, ends_in, ends-leads, letter-ends, held_from, right_from, all_from, all-live_from}

-- a letter's blocks are at most m
abbrev Below : ℕ → Letter → Type 0
Below m L = (x : ℕ) → 1 ≤ occurs x L.chain → x ≤ m

many-out : (m x : ℕ) (ls : List Letter) → m < x → All (Below m) ls → many x ls ≡ 0
many-out m x [] h a = refl
many-out m x (L ∷ ls) h a =
    let z : occurs x L.chain ≡ 0 = none (occurs x L.chain) (λ o. let g = a.0 x o in omega arith) in
    omega (arith, many-out m x ls h a.1)
  where
    none : (k : ℕ) → (1 ≤ k → ⊥) → k ≡ 0
    none zero f = refl
    none (suc k) f = absurd (f (omega arith))

many-zero : (s : Settings) (l xs : List ℕ) → many 0 (map (letter_from s l) xs) ≡ 0
many-zero s l [] = refl
many-zero s l (b ∷ xs) = omega (arith, zero_from s l b, many-zero s l xs)

first_live_lem : (xs : List ℕ) → eqb (length xs) 0 || not (eqb (get_or xs 0 0) 0) ≡ true → FirstLive xs
first_live_lem xs e = λ h z.
    let n : eqb (length xs) 0 ≡ false = ne_eqb (length xs) 0 (λ q. omega arith) in
    let y : eqb (get_or xs 0 0) 0 ≡ true = eq-eqb (get_or xs 0 0) 0 z in
    false≢true (rw (n, y) at e)

words_from_lem : (s : Settings) (l : List ℕ) (b : ℕ) → (letter_from s l b).words ≡ words_from s l b
unfolding letter_from
words_from_lem s l b = refl

module _ (s : Settings) (memory : List ℕ) (f : Facts s memory) where
  abbrev r : InRange s
  r = f.range

  stretch : (i : ℕ) → i < 6 → Stretch s (node s memory i)
  stretch i h = node-stretch s memory (record { range = f.range; long = f.size }) i h

  -- ---- the third rule taken apart
  send_parts : (i k : ℕ) → i < 6 → k < 6
      → (in_shape (send_kind s) (node s memory i) (send_at s k) ≡ true) × (none_to_itself s memory i k (send_items s memory i k) ≡ true) × (all (is_block s memory i) (send_items s memory i k) ≡ true)
  unfolding right_send
  send_parts i k h g =
      let a = and-true (in_shape (send_kind s) (node s memory i) (send_at s k)) _ (f.sends i k h g) in
      let b = and-true (none_to_itself s memory i k (send_items s memory i k)) (all (is_block s memory i) (send_items s memory i k)) a.1 in
      (a.0, b.0, b.1)

  ack_parts : (i k : ℕ) → i < 6 → k < 6
      → (in_shape (ack_kind s) (node s memory i) (ack_at s k) ≡ true) × (none_to_itself s memory i k (ack_items s memory i k) ≡ true) × (all (is_block s memory i) (ack_items s memory i k) ≡ true)
  unfolding right_ack
  ack_parts i k h g =
      let a = and-true (in_shape (ack_kind s) (node s memory i) (ack_at s k)) _ (f.acks i k h g) in
      let b = and-true (none_to_itself s memory i k (ack_items s memory i k)) (all (is_block s memory i) (ack_items s memory i k)) a.1 in
      (a.0, b.0, b.1)

  task_parts : (i q : ℕ) → i < 6 → q < 64
      → (in_shape (task_kind s) (node s memory i) (task_at s q) ≡ true) × (none_unbound s memory i q (task_items s memory i q) ≡ true)
      × (first_live s memory i (task_items s memory i q) ≡ true) × (get_or (node s memory i) (task_at s q + gap_word) 0 ≡ gap_flag (task_items s memory i q))
  unfolding right_task
  task_parts i q h g =
      let xs : List ℕ = task_items s memory i q in
      let w : Bool = eqb (get_or (node s memory i) (task_at s q + 2) 0) (gap_flag xs) in
      let a = and-true (in_shape (task_kind s) (node s memory i) (task_at s q)) _ (f.tasks i q h g) in
      let b = and-true (none_unbound s memory i q xs) _ a.1 in
      let c = and-true (all (λ b. leb b s.m) xs) (first_live s memory i xs && w) b.1 in
      let d = and-true (first_live s memory i xs) w c.1 in
      (a.0, b.0, d.0, eqb-true (get_or (node s memory i) (task_at s q + 2) 0) (gap_flag xs) d.1)

  -- ---- the queues
  ring_at : (i p : ℕ) → i < 6 → 1 ≤ p → p < 77 → Ring (kind s p) (rows_of s memory (seat i p) (line i p)) 0 (shown s memory i p)
  ring_at i p l h g =
      at_place (λ (p : ℕ). Ring (kind s p) (rows_of s memory (seat i p) (line i p)) 0 (shown s memory i p))
      (λ k u.
      rw (kind-send s k u, seat-send i k u, line-send i k u, shown-send s memory i k u)
      (ring_row s (node s memory i) (stretch i l) (send_kind s) (1 + k) (omega arith) (room-send s r (1 + k) (omega arith) (omega arith)) (send_at s k) (start-send s k (omega arith)) (send_parts i k l u).0))
      (λ k u.
      rw (kind_ack s k u, seat_ack i k u, line_ack i k u, shown_ack s memory i k u)
      (ring_row s (node s memory k) (stretch k u) (ack_kind s) (7 + i) (omega arith) (room_ack s r (7 + i) (omega arith) (omega arith)) (ack_at s i) (start_ack s i (omega arith)) (ack_parts k i u l).0))
      (λ q u.
      rw (kind_task s q u, seat_task i q u, line_task i q u, shown_task s memory i q u)
      (ring_row s (node s memory i) (stretch i l) (task_kind s) (13 + q) (omega arith) (room_task s r (13 + q) (omega arith) (omega arith)) (task_at s q) (start_task s q (omega arith)) (task_parts i q l u).0))
      p h g

  -- ---- the letters
  abbrev test : ℕ → ℕ → ℕ → Bool
  test i p = right_letter s (node s memory i) (table_in memory) i p

  -- what holds of each letter that passes the test, and of a gap, holds of every letter at a place
  each : (P : Letter → Type 0) (i p : ℕ) → i < 6 → p < 77 → ((b : ℕ) → test i p b ≡ true → P (letter_from s (node s memory i) b)) → P gap → All P (letters_at s memory i p)
  each P i p h g k z =
      ⊎_elim
      (λ a. all-live_from s (node s memory i) (test i p) P k z (shown s memory i p) (rw (begun_task s memory i p a g) at (f.letters i p h g)))
      (λ a. all_from s (node s memory i) (test i p) P k (shown s memory i p) (rw (begun-low s memory i p a) at (f.letters i p h g)))
      (le_or_lt 13 p)

  letters-held : (i p : ℕ) → i < 6 → p < 78 → All (Held s (rows_of s memory i)) (letters_at s memory i p)
  letters-held i p h g =
      same? p 77
      (λ q t. rw (q, shown-transit s memory i) tt)
      (λ q t. each (Held s (rows_of s memory i)) i p h (omega arith) (λ b e. held_from s (node s memory i) (stretch i h) (table_in memory) i p b e) (gap-held s r (rows_of s memory i)))

  right_letter_lem : (i p b : ℕ) → i < 6 → test i p b ≡ true → Right (table_in memory) i p (letter_from s (node s memory i) b).words
  unfolding letter_from
  right_letter_lem i p b h e = right_from s (node s memory i) (stretch i h) (table_in memory) i p b e

  letters_right_lem : (i p : ℕ) → i < 6 → p < 77 → All (λ L. Live L → Right (table_in memory) i p L.words) (letters_at s memory i p)
  letters_right_lem i p h g =
      each (λ (L : Letter). Live L → Right (table_in memory) i p L.words) i p h g (λ b e k. right_letter_lem i p b h e) (λ k. absurd (omega arith))

  below_letter : (i p b : ℕ) → i < 6 → test i p b ≡ true → Below s.m (letter_from s (node s memory i) b)
  unfolding letter_from
  below_letter i p b h e = λ x o. (ends_in s (node s memory i) r b (letter-ends s (node s memory i) (stretch i h) (table_in memory) i p b e) x o).1

  letters_below : (i p : ℕ) → i < 6 → p < 77 → All (Below s.m) (letters_at s memory i p)
  letters_below i p h g = each (Below s.m) i p h g (λ b e. below_letter i p b h e) (λ x o. absurd (omega arith))

  -- ---- positions taken apart
  module _ (j : ℕ) (h : j < 6) where
    abbrev stage : ℕ
    stage = stage_of memory j

    abbrev rest : Bool
    rest = cond (eqb (stage_of memory j) 2) (leb 1 (held_of memory j) && (leb (held_of memory j) s.m && holds_copy s memory j)) (eqb (held_of memory j) 0)

    at_rest_lem : stage ≡ 0 → (other_of memory j ≡ 0) × (held_of memory j ≡ 0)
    unfolding right_position
    at_rest_lem z =
        let e : eqb (other_of memory j) 0 && eqb (held_of memory j) 0 ≡ true = rw (eq-eqb stage 0 z) at (f.positions j h) in
        let a = and-true (eqb (other_of memory j) 0) (eqb (held_of memory j) 0) e in
        (eqb-true (other_of memory j) 0 a.0, eqb-true (held_of memory j) 0 a.1)

    at_work : 1 ≤ stage → (stage ≤ 3) × (names_other s memory j ≡ true) × (rest ≡ true)
    unfolding right_position
    at_work z =
        let e : leb stage 3 && (names_other s memory j && rest) ≡ true = rw (ne_eqb stage 0 (λ q. omega arith)) at (f.positions j h) in
        let a = and-true (leb stage 3) (names_other s memory j && rest) e in
        let b = and-true (names_other s memory j) rest a.1 in
        (leb-true stage 3 a.0, b.0, b.1)

    named : 1 ≤ stage → (other_of memory j ≤ 5) × (other_of memory j ≡ j → ⊥) × (1 ≤ length (send_items s memory (other_of memory j) j))
    unfolding names_other
    named z =
        let o : ℕ = other_of memory j in
        let n : ℕ = length (send_items s memory o j) in
        let a = and-true (leb o 5) (not (eqb o j) && leb 1 n) (at_work z).1 in
        let b = and-true (not (eqb o j)) (leb 1 n) a.1 in
        (leb-true o 5 a.0, (λ q. false≢true (rw (eq-eqb o j q) at b.0)), leb-true 1 n b.1)

    held_none : (stage ≡ 2 → ⊥) → held_of memory j ≡ 0
    held_none n =
        same? stage 0 (λ q t. (at_rest_lem q).1)
        (λ q t. eqb-true (held_of memory j) 0 (rw (ne_eqb stage 2 n) at (at_work (omega arith)).2))

    held_some : stage ≡ 2 → (1 ≤ held_of memory j) × (holds_copy s memory j ≡ true)
    held_some q =
        let e : leb 1 (held_of memory j) && (leb (held_of memory j) s.m && holds_copy s memory j) ≡ true = rw (eq-eqb stage 2 q) at (at_work (omega arith)).2 in
        let a = and-true (leb 1 (held_of memory j)) (leb (held_of memory j) s.m && holds_copy s memory j) e in
        (leb-true 1 (held_of memory j) a.0, (and-true (leb (held_of memory j) s.m) (holds_copy s memory j) a.1).1)

    -- the hand
    hand_none : (stage ≡ 2 → ⊥) → shown s memory j 0 ≡ []
    unfolding held
    hand_none n = shown-hand s memory j ∙ rw (ne_eqb stage 2 n)

    hand_some : stage ≡ 2 → shown s memory j 0 ≡ held_of memory j ∷ []
    unfolding held
    hand_some q = shown-hand s memory j ∙ rw (eq-eqb stage 2 q)

    hand_first : held_of memory j ≡ get_or (shown s memory j 0) 0 0
    hand_first =
        same? stage 2
        (λ q t. sym (ap (λ (l : List ℕ). get_or l 0 0) (hand_some q)))
        (λ q t. held_none q ∙ sym (ap (λ (l : List ℕ). get_or l 0 0) (hand_none q)))

  -- ---- gaps stand in task queues alone
  live-block : (i b : ℕ) → is_block s memory i b ≡ true → Live (letter_from s (node s memory i) b)
  live-block i b e = live_from s (node s memory i) r b (leb-true 1 b (and-true (leb 1 b) (leb b s.m) e).0)

  letters-live : (i p : ℕ) → i < 6 → p < 13 → All Live (letters_at s memory i p)
  letters-live i p h g =
      same? p 0
      (λ q t. rw q (hand i h))
      (λ q t.
      at_place (λ (p : ℕ). p < 13 → All Live (letters_at s memory i p))
      (λ k u v. rw (shown-send s memory i k u) (all_from s (node s memory i) (is_block s memory i) Live (live-block i) (send_items s memory i k) (send_parts i k h u).2))
      (λ k u v. rw (shown_ack s memory i k u) (all_from s (node s memory i) (is_block s memory i) Live (live-block i) (ack_items s memory k i) (ack_parts k i u h).2))
      (λ q u v. absurd (omega arith))
      p (omega arith) (omega arith) g)
    where
      hand : (i : ℕ) → i < 6 → All Live (letters_at s memory i 0)
      hand i h =
          same? (stage_of memory i) 2
          (λ q t. rw (hand_some i h q) (live_from s (node s memory i) r (held_of memory i) (held_some i h q).0, tt))
          (λ q t. rw (hand_none i h q) tt)

  -- ---- every block exactly once
  module _ (i : ℕ) (h : i < 6) where
    abbrev l : List ℕ
    l = node s memory i

    abbrev fr : List ℕ
    fr = chain_from s (node s memory i) (get_or (node s memory i) 0 0)

    once_parts : (ends_well s l (get_or l 0 0) ≡ true) × (every s.m (λ b. eqb (occurs (suc b) (visits s memory i)) 1) ≡ true)
    unfolding each_once
    once_parts = and-true (ends_well s l (get_or l 0 0)) (every s.m (λ b. eqb (occurs (suc b) (visits s memory i)) 1)) (f.onces i h)

    once_of : (x : ℕ) → occurs x fr + sum 78 (λ p. many x (letters_at s memory i p)) ≡ occurs x (down_from s.m)
    once_of x =
        same? x 0
        (λ q t.
        rw q
        (let a = list-zero s l s.m (get_or l 0 0) in
        omega (arith, sum_none 78 (λ p. many 0 (letters_at s memory i p)) (λ p g. many-zero s l (shown s memory i p)), down_zero s.m)))
        (λ q t.
        ⊎_elim
        (λ g.
        let d : suc (x - 1) ≡ x = omega arith in
        let e : occurs (suc (x - 1)) (visits s memory i) ≡ 1 = eqb-true (occurs (suc (x - 1)) (visits s memory i)) 1 (every_at (λ b. eqb (occurs (suc b) (visits s memory i)) 1) s.m once_parts.1 (x - 1) (omega arith)) in
        sym (count-visits s memory i x) ∙ (rw d at e) ∙ sym (down_in s.m x (omega arith) g))
        (λ g.
        let a : many x (record { chain = fr; words = [] } ∷ []) ≡ 0 = many-out s.m x (record { chain = fr; words = [] } ∷ []) g ((λ y o. (ends_in s l r (get_or l 0 0) once_parts.0 y o).1), tt) in
        let b : sum 78 (λ p. many x (letters_at s memory i p)) ≡ 0 = sum_none 78 (λ p. many x (letters_at s memory i p)) (λ p u.
        same? p 77
        (λ w v. rw (w, shown-transit s memory i))
        (λ w v. many-out s.m x (letters_at s memory i p) g (letters_below i p h (omega arith)))) in
        omega (arith, down_out s.m x g))
        (le_or_lt x s.m))

  -- ---- the machine
  abbrev M : Machine
  M = record { turn = turn_in memory; stage = stage_of memory; other = other_of memory; node = node_from s memory }

  core_of : Core s (rows_of s memory) (node_from s memory)
  unfolding node_from
  core_of =
      record {
        range = r;
        sizes = λ i w h g. length-row (width s) (node s memory i) w (rw (stretch i h).long (row_fits s w g));
        free = λ i h. subst (λ (b : ℕ). Leads s.b (rows_of s memory i) b (chain_from s (node s memory i) (get_or (node s memory i) 0 0)) 0)
            (first_rows s r (node s memory i)) (ends-leads s (node s memory i) r (get_or (node s memory i) 0 0) (once_parts i h).0);
        queues = λ i p h g k. rw (firsts_from s (node s memory i) r (shown s memory i p)) (ring_at i p h g k);
        letters = letters-held;
        once = λ i x h. once_of i h x;
      }

  shows_of : Shows s memory M
  unfolding node_from
  shows_of =
      record {
        turn = refl;
        stage = λ j h. refl;
        other = λ j h. refl;
        hand = λ j h. hand_first j h ∙ ap (λ (xs : List ℕ). get_or xs 0 0) (sym (firsts_from s (node s memory j) r (shown s memory j 0)));
        flags = λ i q h g.
            row_word s (node s memory i) (stretch i h) (task_kind s) (13 + q) (omega arith) (room_task s r (13 + q) (omega arith) (omega arith)) (task_at s q) (start_task s q (omega arith)) 2
            (rw (width_task s (13 + q) (omega arith) (omega arith)) (omega arith))
            ∙ (task_parts i q h g).3
            ∙ sym (ap gap_flag (firsts_from s (node s memory i) r (shown s memory i (13 + q)) ∙ shown_task s memory i q g));
      }

  none-itself : (i k : ℕ) (xs : List ℕ) → none_to_itself s memory i k xs ≡ true → k ≡ i → xs ≡ []
  none-itself i k xs e q = empty xs (eqb-true (length xs) 0 (rw (eq-eqb k i q) at e))

  copy_is : (j : ℕ) → j < 6 → holds_copy s memory j ≡ true
      → words_from s (node s memory j) (held_of memory j) ≡ words_from s (node s memory (other_of memory j)) (get_or (send_items s memory (other_of memory j) j) 0 0)
  unfolding holds_copy
  copy_is j h e =
      alike_same (words_from s (node s memory j) (held_of memory j)) (words_from s (node s memory (other_of memory j)) (get_or (send_items s memory (other_of memory j) j) 0 0)) e

  position_of_lem : (j : ℕ) → j < 6 → RightPosition M j
  unfolding node_from
  position_of_lem j h =
      record {
        none = λ z. (at_rest_lem j h z).0;
        most = same? (stage_of memory j) 0 (λ q t. omega arith) (λ q t. (at_work j h (omega arith)).0);
        names = λ z. (named j h z).0;
        another = λ z. (named j h z).1;
        waits = λ z. rw (shown-send s memory (other_of memory j) j h, lib_length (letter_from s (node s memory (other_of memory j))) (send_items s memory (other_of memory j) j)) (named j h z).2;
        hand = λ n. rw (hand_none j h n);
        copy = λ q. rw (hand_some j h q, shown-send s memory (other_of memory j) j h) (copy (send_items s memory (other_of memory j) j) (named j h (omega arith)).2 (copied q));
      }
    where
      lib_length : (g : ℕ → Letter) (xs : List ℕ) → length (map g xs) ≡ length xs
      lib_length g [] = refl
      lib_length g (x ∷ xs) = ap suc (lib_length g xs)

      copied : stage_of memory j ≡ 2 → words_from s (node s memory j) (held_of memory j) ≡ words_from s (node s memory (other_of memory j)) (get_or (send_items s memory (other_of memory j) j) 0 0)
      copied q = copy_is j h (held_some j h q).1

      copy : (xs : List ℕ) → 1 ≤ length xs → words_from s (node s memory j) (held_of memory j) ≡ words_from s (node s memory (other_of memory j)) (get_or xs 0 0)
          → map words_of (map (letter_from s (node s memory j)) (held_of memory j ∷ [])) ≡ take 1 (map words_of (map (letter_from s (node s memory (other_of memory j))) xs))
      copy [] n e = absurd (omega arith)
      copy (x ∷ xs) n e = ap (λ (w : List ℕ). w ∷ []) (words_from_lem s (node s memory j) (held_of memory j) ∙ e ∙ sym (words_from_lem s (node s memory (other_of memory j)) x))

  order_of : InOrder (table_in memory) (node_from s memory)
  unfolding node_from
  order_of =
      record {
        still = λ i h. rw (shown-transit s memory i);
        live = letters-live;
        fronts = λ i q h g. rw (firsts_from s (node s memory i) r (shown s memory i (13 + q)), shown_task s memory i q g) (first_live_lem (task_items s memory i q) (task_parts i q h g).2);
        itself = λ i h. rw (shown-send s memory i i h, none-itself i i (send_items s memory i i) (send_parts i i h h).1 refl);
        itself_ack = λ i h. rw (shown_ack s memory i i h, none-itself i i (ack_items s memory i i) (ack_parts i i h h).1 refl);
        unbound = λ i q h g z. rw (shown_task s memory i q g, empty (task_items s memory i q) (eqb-true (length (task_items s memory i q)) 0 (rw (eq-eqb (task_of (table_in memory) i q) 0 z) at (task_parts i q h g).1)));
        letters = letters_right_lem;
      }

  formed_of : WellFormed (table_in memory) M
  formed_of =
      record {
        turn = f.turn;
        order = order_of;
        positions = position_of_lem;
      }

pub sound_represents : (memory : List ℕ) → sound memory ≡ true → Represents memory (machine_of memory)
sound_represents memory e =
    let f = sound_facts memory e in
    record {
      size = f.size;
      table = f.table;
      core = core_of (settings_in memory) memory f;
      shows = shows_of (settings_in memory) memory f;
      formed = formed_of (settings_in memory) memory f;
    }
