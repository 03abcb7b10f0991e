-- A queue as the list of its items: what append, drop, a store in it and a store outside it do to that list. Assumes nothing.
use Rattle.std.specs.Prelude.{Err, Ok}
use mathlib.Core.Path.{◌≡◌, refl, sym, ap, ◌∙◌}
use mathlib.Core.Logic.{◌≢◌, ◌⊎◌, inl, inr, ⊎_elim}
use mathlib.Core.List.{List, [], ◌∷◌, ◌++◌}
use Prim.Native.Nat.{ℕ, zero, suc, ◌+◌, ◌-◌, ◌%◌, ◌≤◌, ◌<◌}
use native.Mathlib.Nat.{mod-lt, mod-add-mod, add-mod_right, add-zero}
use native.Mathlib.Numerals.{add-one}
use native.Mathlib.Omega.{arith}
use lib.ListN.{length, get_or, set, length-set, length-append, get_or-eq_default}
use lib.Seq.{get_or-set_same, get_or-set_other, get_or-append_seam}
use borrow.Author.Tests.{lt-ltb, le-ltb}
use Rattle.words.specs.Words.{more}
use Rattle.words.proofs.Lists.{same?, le_or_lt}
use Rattle.queues.specs.declared.Kind.{Kind}
use Rattle.queues.specs.Queue.{start, items, slot_from, slot_at, item_at, run, contents, Placed, Queue}
use Rattle.queues.specs.Moves.{counted, added, appended, append_answer, dropped}
use Rattle.queues.proofs.Round.{places_apart}

-- ONE STATEMENT: the queue at word q of l holds the items xs, and every slot behind them holds 0
pub record Ring (k : Kind) (l : List ℕ) (q : ℕ) (xs : List ℕ) : Type 0 where
  pub placed : Placed k l q
  pub begins : start k l q < k.slots
  pub count : items k l q ≡ length xs
  pub fits : length xs ≤ k.slots
  pub slots : (i : ℕ) → i < k.slots → item_at k l q i ≡ get_or xs i 0

pub get_or_snoc : (p : List ℕ) (x j : ℕ) → j ≢ length p → get_or (p ++ (x ∷ [])) j 0 ≡ get_or p j 0
get_or_snoc [] x zero h = absurd (h refl)
get_or_snoc [] x (suc j) h = refl
get_or_snoc (y ∷ p) x zero h = refl
get_or_snoc (y ∷ p) x (suc j) h = get_or_snoc p x j (λ e. h (ap suc e))

-- ---- the same as a well-formed queue whose items are xs
module _ (k : Kind) (l : List ℕ) (q : ℕ) where
  step : (i j : ℕ) → i + 1 + j ≡ i + suc j
  step i j = omega arith

  pub length_run : (i n : ℕ) → length (run k l q i n) ≡ n
  unfolding run
  length_run i zero = refl
  length_run i (suc n) = ap suc (length_run (i + 1) n)

  pub get_or-run : (i n j : ℕ) → j < n → get_or (run k l q i n) j 0 ≡ item_at k l q (i + j)
  unfolding run
  get_or-run i zero j h = absurd (omega arith)
  get_or-run i (suc n) zero h = rw (add-zero i)
  get_or-run i (suc n) (suc j) h = get_or-run (i + 1) n j (omega arith) ∙ ap (item_at k l q) (step i j)

  pub run_is : (i : ℕ) (xs : List ℕ) → ((j : ℕ) → j < length xs → item_at k l q (i + j) ≡ get_or xs j 0) → run k l q i (length xs) ≡ xs
  unfolding run
  run_is i [] h = refl
  run_is i (x ∷ xs) h =
      let e : item_at k l q i ≡ x = rw (add-zero i) at (h 0 (omega arith)) in
      rw (e, run_is (i + 1) xs (λ j p. ap (item_at k l q) (step i j) ∙ h (suc j) (omega arith)))

  -- the items from place i on, of n
  pub run_step : (i n : ℕ) → i < n → run k l q i (n - i) ≡ item_at k l q i ∷ run k l q (i + 1) (n - (i + 1))
  unfolding run
  run_step i n h = let e : n - i ≡ suc (n - (i + 1)) = omega arith in rw e

  pub run_none : (i n : ℕ) → n ≤ i → run k l q i (n - i) ≡ []
  unfolding run
  run_none i n h = let e : n - i ≡ 0 = omega arith in rw e

  -- one item more at the end
  pub run_more : (i n : ℕ) → run k l q i (n + 1) ≡ run k l q i n ++ item_at k l q (i + n) ∷ []
  unfolding run
  run_more i n = rw (add-one n) (snoc i n)
    where
      snoc : (i n : ℕ) → run k l q i (suc n) ≡ run k l q i n ++ item_at k l q (i + n) ∷ []
      snoc i zero = rw (add-zero i)
      snoc i (suc n) = ap (λ (t : List ℕ). item_at k l q i ∷ t) (snoc (i + 1) n ∙ ap (λ (j : ℕ). run k l q (i + 1) n ++ item_at k l q j ∷ []) (step i n))

  pub ring_of : Queue k l q → Ring k l q (contents k l q)
  ring_of w =
      let n = length_run 0 (items k l q) in
      record {
        placed = w.placed;
        begins = w.begins;
        count = sym n;
        fits = omega (arith, w.count);
        slots = λ i h. ⊎_elim
            (λ m. w.rest i m h ∙ sym (get_or-eq_default (contents k l q) 0 {n = i} (omega arith)))
            (λ m. sym (get_or-run 0 (items k l q) i m ∙ ap (item_at k l q) (omega arith)))
            (le_or_lt (items k l q) i);
      }

  module _ {xs : List ℕ} (r : Ring k l q xs) where
    pub ring_queue : Queue k l q
    ring_queue =
        let c = r.count in
        let f = r.fits in
        record {
          placed = r.placed;
          begins = r.begins;
          count = omega arith;
          rest = λ i a h. r.slots i h ∙ get_or-eq_default xs 0 {n = i} (omega arith);
        }

    pub ring_contents : contents k l q ≡ xs
    ring_contents = rw r.count (run_is 0 xs (λ j p. ap (item_at k l q) (omega arith) ∙ r.slots j (omega (arith, r.fits))))

-- ---- a store that is none of start, items and slots: outside the queue, or at another word of its head
abbrev pub Off : Kind → ℕ → ℕ → Type 0
Off k q a = (a < q) ⊎ (((q + 2 ≤ a) × (a < q + k.head)) ⊎ (q + (k.head + k.slots) ≤ a))

module _ (k : Kind) (l : List ℕ) (q : ℕ) (xs : List ℕ) (r : Ring k l q xs) where
  pub ring_off : (a v : ℕ) → Off k q a → Ring k (set l a v) q xs
  ring_off a v o =
      let p = r.placed in
      let c = r.count in
      let s : ℕ = start k l q in
      let n₀ : q ≢ a = λ z. ⊎_elim (λ h. omega arith) (λ t. ⊎_elim (λ h. omega arith) (λ h. omega arith) t) o in
      let n₁ : q + 1 ≢ a = λ z. ⊎_elim (λ h. omega arith) (λ t. ⊎_elim (λ h. omega arith) (λ h. omega arith) t) o in
      let e₀ : get_or (set l a v) q 0 ≡ s = get_or-set_other l a q v 0 n₀ in
      record {
        placed = record { lies = rw length-set p.lies; some = p.some; small = p.small; low = p.low; high = p.high };
        begins = rw e₀ r.begins;
        count = get_or-set_other l a (q + 1) v 0 n₁ ∙ c;
        fits = r.fits;
        slots = λ i h.
            let m = mod-lt (s + i) {m = k.slots} (omega arith) in
            let n₂ : slot_from k q s i ≢ a = λ z. ⊎_elim (λ g. omega arith) (λ t. ⊎_elim (λ g. omega arith) (λ g. omega arith) t) o in
            rw e₀ (get_or-set_other l a (slot_from k q s i) v 0 n₂ ∙ r.slots i h);
      }

  -- the full count
  pub ring_counted : Ring k (counted l (q + k.full)) q xs
  unfolding counted
  ring_counted = let p = r.placed in ring_off (q + k.full) (more (get_or l (q + k.full) 0)) (inr (inl (omega arith)))

  -- a store at place i
  pub ring_set : (i v : ℕ) → i < length xs → Ring k (set l (slot_at k l q i) v) q (set xs i v)
  ring_set i v h =
      let p = r.placed in
      let f = r.fits in
      let s : ℕ = start k l q in
      let a : ℕ = slot_from k q s i in
      let m = mod-lt (s + i) {m = k.slots} (omega arith) in
      let e₀ : get_or (set l a v) q 0 ≡ s = get_or-set_other l a q v 0 (λ e. omega arith) in
      record {
        placed = record { lies = rw length-set p.lies; some = p.some; small = p.small; low = p.low; high = p.high };
        begins = rw e₀ r.begins;
        count = get_or-set_other l a (q + 1) v 0 (λ e. omega arith) ∙ r.count ∙ sym (length-set xs i v);
        fits = rw length-set f;
        slots = λ j g. rw e₀ (same? j i
            (λ e t. rw e (get_or-set_same l a v 0 (omega arith) ∙ sym (get_or-set_same xs i v 0 h)))
            (λ e t. get_or-set_other l a (slot_from k q s j) v 0 (λ y. places_apart s j i k.slots g (omega arith) e (omega arith)) ∙ r.slots j g ∙ sym (get_or-set_other xs i j v 0 e)));
      }

  -- APPEND, where there is room
  pub ring_added : (x : ℕ) → length xs < k.slots → Ring k (added k l q x) q (xs ++ x ∷ [])
  unfolding added
  ring_added x room =
      let p = r.placed in
      let c = r.count in
      let s : ℕ = start k l q in
      let n : ℕ = items k l q in
      let a : ℕ = slot_from k q s n in
      let m = mod-lt (s + n) {m = k.slots} (omega arith) in
      let l₁ : List ℕ = set l a x in
      let l₂ : List ℕ = set l₁ (q + 1) (n + 1) in
      let e₀ : get_or l₂ q 0 ≡ s = get_or-set_other l₁ (q + 1) q (n + 1) 0 (λ e. omega arith) ∙ get_or-set_other l a q x 0 (λ e. omega arith) in
      record {
        placed = record { lies = simp length-set p.lies; some = p.some; small = p.small; low = p.low; high = p.high };
        begins = rw e₀ r.begins;
        count = get_or-set_same l₁ (q + 1) (n + 1) 0 (rw length-set (omega arith)) ∙ sym (length-append xs (x ∷ []) ∙ ap (λ (j : ℕ). j + 1) (sym c));
        fits = rw (length-append xs (x ∷ [])) (omega arith);
        slots = λ i h. rw e₀
            (get_or-set_other l₁ (q + 1) (slot_from k q s i) (n + 1) 0 (λ e. omega arith)
            ∙ same? i n
            (λ e t. rw e (get_or-set_same l a x 0 (omega arith) ∙ sym (ap (λ (j : ℕ). get_or (xs ++ x ∷ []) j 0) c ∙ get_or-append_seam xs x [] 0)))
            (λ e t. get_or-set_other l a (slot_from k q s i) x 0 (λ y. places_apart s i n k.slots h (omega arith) e (omega arith)) ∙ r.slots i h ∙ sym (get_or_snoc xs x i (λ y. e (y ∙ sym c)))));
      }

  pub ring_room : (x : ℕ) → length xs < k.slots → appended k l q x ≡ added k l q x
  unfolding appended
  ring_room x h = rw (lt-ltb (items k l q) k.slots (omega (arith, r.count)))

  pub ring_full : (x : ℕ) → k.slots ≤ length xs → appended k l q x ≡ counted l (q + k.full)
  unfolding appended
  ring_full x h = rw (le-ltb (items k l q) k.slots (omega (arith, r.count)))

  pub answer-room : length xs < k.slots → append_answer k l q ≡ Ok tt
  unfolding append_answer
  answer-room h = rw (lt-ltb (items k l q) k.slots (omega (arith, r.count)))

  pub answer_full : k.slots ≤ length xs → append_answer k l q ≡ Err (record {})
  unfolding append_answer
  answer_full h = rw (le-ltb (items k l q) k.slots (omega (arith, r.count)))

-- DROP
module _ (k : Kind) (l : List ℕ) (q x : ℕ) (xs : List ℕ) (r : Ring k l q (x ∷ xs)) where
  pub ring_first : item_at k l q 0 ≡ x
  ring_first = r.slots 0 (omega (arith, r.placed.some))

  pub ring_dropped : Ring k (dropped k l q) q xs
  unfolding dropped
  ring_dropped =
      let p = r.placed in
      let c = r.count in
      let f = r.fits in
      let S : ℕ = k.slots in
      let s : ℕ = start k l q in
      let n : ℕ = items k l q in
      let a : ℕ = slot_from k q s 0 in
      let t : ℕ = (s + 1) % S in
      let m = mod-lt (s + 0) {m = S} (omega arith) in
      let m' = mod-lt (s + 1) {m = S} (omega arith) in
      let l₁ : List ℕ = set l a 0 in
      let l₂ : List ℕ = set l₁ q t in
      let l₃ : List ℕ = set l₂ (q + 1) (n - 1) in
      let e₀ : get_or l₃ q 0 ≡ t = get_or-set_other l₂ (q + 1) q (n - 1) 0 (λ e. omega arith) ∙ get_or-set_same l₁ q t 0 (rw length-set (omega arith)) in
      record {
        placed = record { lies = simp length-set p.lies; some = p.some; small = p.small; low = p.low; high = p.high };
        begins = rw e₀ m';
        count = get_or-set_same l₂ (q + 1) (n - 1) 0 (simp length-set (omega arith)) ∙ omega arith;
        fits = omega arith;
        slots = λ i h. rw e₀
            (get_or-set_other l₂ (q + 1) (slot_from k q t i) (n - 1) 0 (λ e. omega arith)
            ∙ get_or-set_other l₁ q (slot_from k q t i) t 0 (λ e. omega arith)
            ∙ ap (λ (j : ℕ). get_or l₁ (q + (k.head + j)) 0) (mod-add-mod (s + 1) S i)
            ∙ same? (i + 1) S
            (λ e z.
            let d : s + 1 + i ≡ s + S = omega arith in
            let g : q + (k.head + (s + 1 + i) % S) ≡ a = rw (d, add-mod_right, add-zero) in
            rw g (get_or-set_same l a 0 0 (omega arith) ∙ sym (get_or-eq_default xs 0 {n = i} (omega arith))))
            (λ e z.
            let d : s + 1 + i ≡ s + (i + 1) = omega arith in
            rw d (get_or-set_other l a (slot_from k q s (i + 1)) 0 0 (λ y. places_apart s (i + 1) 0 S (omega arith) (omega arith) (λ u. omega arith) (omega arith))
            ∙ r.slots (i + 1) (omega arith)
            ∙ ap (λ (j : ℕ). get_or (x ∷ xs) j 0) (add-one i))));
      }
