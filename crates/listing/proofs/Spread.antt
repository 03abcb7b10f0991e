-- Letters placed from the right ranks on stand by task: each task's one behind the other, and the tasks' too. Assumes nothing.
use mathlib.Core.Path.{◌≡◌, refl, sym, ap, ap₂, subst, ◌∙◌}
use mathlib.Core.List.{List, [], ◌∷◌, ◌++◌, append-nil, append_assoc}
use mathlib.Core.Logic.{◌⊎◌, inl, inr, ⊎_elim}
use Prim.Native.Nat.{ℕ, zero, suc, ◌+◌, ◌-◌, ◌*◌, ◌≤◌, ◌<◌}
use native.Mathlib.Nat.{add-zero, zero-add}
use native.Mathlib.Omega.{arith}
use lib.ListN.{length, get_or, drop, set, length-append, length-set, length-drop, get_or-append}
use lib.Seq.{sets, length-sets, get_or-set_same, get_or-set_other, get_or-append-add, get_or-drop, ext_get_or}
use borrow.Author.Tests.{eq-eqb, ne_eqb}
use Rattle.words.proofs.Lists.{same?, le_or_lt}
use Rattle.layout.specs.Places.{task_ids}
use Rattle.layout.specs.Numbers.{list_words}
use Rattle.letters.specs.Letter.{onto}
use Rattle.showing.specs.declared.Shown.{Shown}
use Rattle.showing.specs.List.{laid_out}
use Rattle.listing.specs.Asked.{Rows, placed}
use Rattle.listing.proofs.Orders.{below, climbs}
use Rattle.listing.proofs.Placing.{rows, place, for_task, for_append}
use Rattle.listing.proofs.Laying.{laid-append, length-laid, letter-room}

-- ---- a word of a list after a run of stores
sets_below : (l : List ℕ) (a : ℕ) (p : List ℕ) (k : ℕ) → k < a → get_or (sets l a p) k 0 ≡ get_or l k 0
sets_below l a [] k h = refl
sets_below l a (v ∷ p) k h = sets_below (set l a v) (suc a) p k (omega arith) ∙ get_or-set_other l a k v 0 (λ e. omega arith)

sets_above : (l : List ℕ) (a : ℕ) (p : List ℕ) (k : ℕ) → a + length p ≤ k → get_or (sets l a p) k 0 ≡ get_or l k 0
sets_above l a [] k h = refl
sets_above l a (v ∷ p) k h = sets_above (set l a v) (suc a) p k (omega arith) ∙ get_or-set_other l a k v 0 (λ e. omega arith)

sets_in : (l : List ℕ) (a : ℕ) (p : List ℕ) (j : ℕ) → a + length p ≤ length l → j < length p → get_or (sets l a p) (a + j) 0 ≡ get_or p j 0
sets_in l a [] j h g = absurd (omega arith)
sets_in l a (v ∷ p) zero h g =
    let e : a + 0 ≡ a = omega arith in
    rw e (sets_below (set l a v) (suc a) p a (omega arith) ∙ get_or-set_same l a v 0 (omega arith))
sets_in l a (v ∷ p) (suc j) h g =
    let e : a + suc j ≡ suc a + j = omega arith in
    rw e (sets_in (set l a v) (suc a) p j (rw (length-set l a v) (omega arith)) (omega arith))

-- ---- the letters xs stand in out behind n letters
pub record Stands (out : List ℕ) (n : ℕ) (xs : List Shown) : Type 0 where
  pub words : (k : ℕ) → k < length xs * list_words → get_or out (n * list_words + k) 0 ≡ get_or (laid_out xs) k 0

stands_none : (out : List ℕ) (n : ℕ) → Stands out n []
stands_none out n = record { words = λ k h. absurd (omega arith) }

-- letters behind letters
stands-join : (out : List ℕ) (n : ℕ) (xs ys : List Shown) → Stands out n xs → Stands out (n + length xs) ys → Stands out n (xs ++ ys)
stands-join out n xs ys a b = record { words = words }
  where
    words : (k : ℕ) → k < length (xs ++ ys) * list_words → get_or out (n * list_words + k) 0 ≡ get_or (laid_out (xs ++ ys)) k 0
    words k h =
        ⊎_elim
        (λ g.
        let m : ℕ = k - length (laid_out xs) in
        let e : n * list_words + k ≡ (n + length xs) * list_words + m = omega (arith, length-laid xs) in
        let f : k ≡ length (laid_out xs) + m = omega arith in
        ap (λ (z : ℕ). get_or out z 0) e
        ∙ b.words m (omega (arith, length-laid xs, length-append xs ys))
        ∙ sym (get_or-append-add (laid_out xs) (laid_out ys) m 0)
        ∙ ap₂ (λ (l : List ℕ) (z : ℕ). get_or l z 0) (sym (laid-append xs ys)) (sym f))
        (λ g.
        a.words k (omega (arith, length-laid xs))
        ∙ sym (get_or-append (laid_out xs) (laid_out ys) 0 k g)
        ∙ ap (λ (l : List ℕ). get_or l k 0) (sym (laid-append xs ys)))
        (le_or_lt (length (laid_out xs)) k)

-- what is stored elsewhere leaves them
stands-apart : (out : List ℕ) (n : ℕ) (xs : List Shown) (a : ℕ) (x : Shown) → Stands out n xs → (n + length xs ≤ a) ⊎ (a + 1 ≤ n)
    → Stands (sets out (a * list_words) (laid_out (x ∷ []))) n xs
stands-apart out n xs a x s d =
    record {
      words = λ k h.
          ⊎_elim
          (λ g. sets_below out (a * list_words) (laid_out (x ∷ [])) (n * list_words + k) (omega arith) ∙ s.words k h)
          (λ g. sets_above out (a * list_words) (laid_out (x ∷ [])) (n * list_words + k) (omega (arith, length-laid (x ∷ []))) ∙ s.words k h)
          d;
    }

-- a letter that is laid stands
stands_one : (out : List ℕ) (a : ℕ) (x : Shown) → a * list_words + list_words ≤ length out → Stands (sets out (a * list_words) (laid_out (x ∷ []))) a (x ∷ [])
stands_one out a x h = record { words = λ k g. sets_in out (a * list_words) (laid_out (x ∷ [])) k (omega (arith, length-laid (x ∷ []))) (omega (arith, length-laid (x ∷ []))) }

-- ---- each letter is for a task
abbrev pub Ids : List Shown → Type 0
Ids [] = Unit {0}
Ids (x ∷ xs) = (x.destination < task_ids) × Ids xs

-- ---- letters all, by task
module _ (all : List Shown) where
  unfoldable pub sorted : ℕ → List Shown
  sorted zero = []
  sorted (suc n) = sorted n ++ for_task n all

  sorted_more : (n : ℕ) → length (sorted (suc n)) ≡ length (sorted n) + length (for_task n all)
  unfolding sorted
  sorted_more n = length-append (sorted n) (for_task n all)

  sorted_le : (m n : ℕ) → m ≤ n → length (sorted m) ≤ length (sorted n)
  sorted_le = climbs (λ n. length (sorted n)) (λ n. omega (arith, sorted_more n))

  -- of all letters those of `past` are placed; out was `old`, which has room for all
  pub record Spread (old : List ℕ) (past : List Shown) (r : Rows) : Type 0 where
    pub long : length r.ranks ≡ task_ids
    pub size : length r.out ≡ length old
    pub rank : (t : ℕ) → t < task_ids → get_or r.ranks t 0 ≡ length (sorted t) + length (for_task t past)
    pub stands : (t : ℕ) → t < task_ids → Stands r.out (length (sorted t)) (for_task t past)
    pub rest : (k : ℕ) → length (sorted task_ids) * list_words ≤ k → get_or r.out k 0 ≡ get_or old k 0

  module _ (old : List ℕ) (room : length (sorted task_ids) * list_words ≤ length old) where
    -- one letter more
    module _ (past : List Shown) (x : Shown) (left : List Shown) (q : all ≡ past ++ x ∷ left) (h : x.destination < task_ids) (r : Rows) (i : Spread old past r) where
      abbrev d : ℕ
      d = x.destination

      abbrev n : ℕ
      n = get_or r.ranks d 0

      fewer : (t : ℕ) → length (for_task t past) ≤ length (for_task t all)
      fewer t = rw q (rw (for_append t past (x ∷ left), length-append (for_task t past) (for_task t (x ∷ left))) (omega arith))

      own : length (for_task d past) + 1 ≤ length (for_task d all)
      own = rw q (rw (for_append d past (x ∷ left), length-append (for_task d past) (for_task d (x ∷ left)), eq-eqb d d refl) (omega arith))

      next : n + 1 ≤ length (sorted (suc d))
      next = omega (arith, i.rank d h, own, sorted_more d)

      within : n * list_words + list_words ≤ length r.out
      within = omega (arith, next, i.size, sorted_le (suc d) task_ids (omega arith))

      abbrev laid : List ℕ
      laid = sets r.out (n * list_words) (laid_out (x ∷ []))

      same : for_task d (past ++ x ∷ []) ≡ for_task d past ++ x ∷ []
      same = for_append d past (x ∷ []) ∙ rw (eq-eqb d d refl)

      other : (t : ℕ) → (d ≡ t → ⊥) → for_task t (past ++ x ∷ []) ≡ for_task t past
      other t e = for_append t past (x ∷ []) ∙ rw (ne_eqb d t e) (append-nil (for_task t past))

      own-stands : Stands laid (length (sorted d)) (for_task d past ++ x ∷ [])
      own-stands =
          let e = i.rank d h in
          stands-join laid (length (sorted d)) (for_task d past) (x ∷ [])
          (stands-apart r.out (length (sorted d)) (for_task d past) n x (i.stands d h) (inl (omega arith)))
          (rw (← e) (stands_one r.out n x within))

      other-stands : (t : ℕ) → t < task_ids → (d ≡ t → ⊥) → Stands laid (length (sorted t)) (for_task t past)
      other-stands t g e =
          stands-apart r.out (length (sorted t)) (for_task t past) n x (i.stands t g)
          (⊎_elim
          (λ l. inr (omega (arith, next, sorted_le (suc d) t (below d t l e))))
          (λ l. inl (omega (arith, i.rank d h, fewer t, sorted_more t, sorted_le (suc t) d (omega arith))))
          (le_or_lt d t))

      step_out : Spread old (past ++ x ∷ []) (rows (set r.ranks d (n + 1)) laid)
      step_out =
          record {
            long = length-set r.ranks d (n + 1) ∙ i.long;
            size = length-sets r.out (n * list_words) (laid_out (x ∷ [])) ∙ i.size;
            rank = ranked;
            stands = λ t g. same? d t (λ e z. rw (← e) (rw same own-stands)) (λ e z. rw (other t e) (other-stands t g e));
            rest = λ k l. sets_above r.out (n * list_words) (laid_out (x ∷ [])) k (omega (arith, length-laid (x ∷ []), next, sorted_le (suc d) task_ids (omega arith))) ∙ i.rest k l;
          }
        where
          ranked : (t : ℕ) → t < task_ids → get_or (set r.ranks d (n + 1)) t 0 ≡ length (sorted t) + length (for_task t (past ++ x ∷ []))
          ranked t g =
              same? d t
              (λ e z. rw (← e) (get_or-set_same r.ranks d (n + 1) 0 (omega (arith, i.long)) ∙ omega (arith, i.rank d h, ap length same, length-append (for_task d past) (x ∷ []))))
              (λ e z. get_or-set_other r.ranks d t (n + 1) 0 (λ y. e (sym y)) ∙ i.rank t g ∙ ap (λ (l : List Shown). length (sorted t) + length l) (sym (other t e)))

      step : Spread old (past ++ x ∷ []) (place x r)
      step = rw (← letter-room x n r.out within) step_out

    -- all that are left
    pub spread : (left past : List Shown) (r : Rows) → all ≡ past ++ left → Ids left → Spread old past r → Spread old (past ++ left) (placed left r)
    unfolding placed
    spread [] past r q h i = rw (append-nil past) i
    spread (x ∷ left) past r q h i =
        let e = append_assoc past (x ∷ []) left in
        subst (λ (l : List Shown). Spread old l (placed left (place x r))) e
        (spread left (past ++ x ∷ []) (place x r) (q ∙ sym e) h.1 (step past x left q h.0 r i))

    pub spread_none : (ranks : List ℕ) → length ranks ≡ task_ids → ((t : ℕ) → t < task_ids → get_or ranks t 0 ≡ length (sorted t)) → Spread old [] (rows ranks old)
    spread_none ranks l e =
        record {
          long = l;
          size = refl;
          rank = λ t g. e t g ∙ sym (add-zero (length (sorted t)));
          stands = λ t g. stands_none old (length (sorted t));
          rest = λ k g. refl;
        }

    -- where all are placed they stand from the front of out on, by task
    module _ (r : Rows) (i : Spread old all r) where
      stand : (m : ℕ) → m ≤ task_ids → Stands r.out 0 (sorted m)
      unfolding sorted
      stand zero h = stands_none r.out 0
      stand (suc m) h =
          stands-join r.out 0 (sorted m) (for_task m all) (stand m (omega arith)) (rw (zero-add (length (sorted m))) (i.stands m (omega arith)))

      abbrev ws : List ℕ
      ws = laid_out (sorted task_ids)

      pub all_stand : r.out ≡ onto ws old
      unfolding onto
      all_stand = ext_get_or 0 r.out (ws ++ drop (length ws) old) lengths each
        where
          lengths : length r.out ≡ length (ws ++ drop (length ws) old)
          lengths = i.size ∙ omega (arith, length-append ws (drop (length ws) old), length-drop (length ws) old, length-laid (sorted task_ids))

          each : (k : ℕ) → k < length r.out → get_or r.out k 0 ≡ get_or (ws ++ drop (length ws) old) k 0
          each k h =
              ⊎_elim
              (λ g.
              let m : ℕ = k - length ws in
              let e : length ws + m ≡ k = omega arith in
              i.rest k (omega (arith, length-laid (sorted task_ids)))
              ∙ ap (λ (z : ℕ). get_or old z 0) (sym e)
              ∙ sym (get_or-drop (length ws) old m 0)
              ∙ sym (get_or-append-add ws (drop (length ws) old) m 0)
              ∙ ap (λ (z : ℕ). get_or (ws ++ drop (length ws) old) z 0) e)
              (λ g.
              let e : k ≡ 0 * list_words + k = omega arith in
              ap (λ (z : ℕ). get_or r.out z 0) e
              ∙ (stand task_ids (omega arith)).words k (omega (arith, length-laid (sorted task_ids)))
              ∙ sym (get_or-append ws (drop (length ws) old) 0 k g))
              (le_or_lt (length ws) k)
