-- What a turn of each loop passes, and what the test of `is_from` tells. Assumes nothing.
use Rattle.std.specs.Prelude.{None, Some}
use mathlib.Core.Path.{◌≡◌, refl, ap, ◌∙◌}
use mathlib.Core.Bool.{Bool, true, false}
use mathlib.Core.List.{List}
use Prim.Native.Nat.{ℕ, zero, suc, ◌+◌, ◌-◌, ◌≤◌, ◌<◌}
use native.Mathlib.Nat.{add-zero}
use native.Mathlib.Omega.{arith}
use lib.Dec.{eqb}
use lib.ListN.{get_or, set}
use borrow.Author.Tests.{eq-eqb, ne_eqb}
use Rattle.settings.specs.declared.Settings.{Settings}
use Rattle.layout.specs.Places.{block_at, gap_word}
use Rattle.queues.specs.declared.Kind.{Kind}
use Rattle.queues.specs.Queue.{item_at, slot_at, run, items, contents, task_kind}
use Rattle.queues.specs.Moves.{dropped}
use Rattle.queues.specs.Items.{gap_flag}
use Rattle.taking.specs.Find.{from, wanted, first_from}
use Rattle.taking.specs.Take.{cleared, first_out, out, flagged, taken_out}

down : (n : ℕ) → 0 < n → n ≡ suc (n - 1)
down n h = omega arith

module _ (k : Kind) (l : List ℕ) (q : ℕ) where
  -- ---- the zeroes at the front
  pub cleared_more : (n : ℕ) → 0 < n → item_at k l q 0 ≡ 0 → cleared k q n l ≡ cleared k q (n - 1) (dropped k l q)
  unfolding cleared
  cleared_more n h e = ap (λ (m : ℕ). cleared k q m l) (down n h) ∙ go (n - 1)
    where
      go : (m : ℕ) → cleared k q (suc m) l ≡ cleared k q m (dropped k l q)
      go m = rw (eq-eqb (item_at k l q 0) 0 e)

  pub cleared-stop : (n : ℕ) → (item_at k l q 0 ≡ 0 → ⊥) → cleared k q n l ≡ l
  unfolding cleared
  cleared-stop zero h = refl
  cleared-stop (suc n) h = rw (ne_eqb (item_at k l q 0) 0 h)

  pub cleared_none : (n : ℕ) → n ≡ 0 → cleared k q n l ≡ l
  unfolding cleared
  cleared_none n e = rw e

  -- ---- from place i on, of n items
  module _ (i n : ℕ) (h : i < n) where
    left : n - i ≡ suc (n - (i + 1))
    left = omega arith

    pub flag-gap : item_at k l q i ≡ 0 → gap_flag (run k l q i (n - i)) ≡ 1
    unfolding run gap_flag
    flag-gap e = rw (left, eq-eqb (item_at k l q i) 0 e)

    pub flag-live : (item_at k l q i ≡ 0 → ⊥) → gap_flag (run k l q i (n - i)) ≡ gap_flag (run k l q (i + 1) (n - (i + 1)))
    unfolding run gap_flag
    flag-live e = ap (λ (m : ℕ). gap_flag (run k l q i m)) left ∙ rw (ne_eqb (item_at k l q i) 0 e)

    pub first_here : (p : ℕ → Bool) → p (item_at k l q i) ≡ true → first_from p i (run k l q i (n - i)) ≡ Some i
    unfolding run first_from
    first_here p e = rw (left, e)

    pub first-later : (p : ℕ → Bool) → p (item_at k l q i) ≡ false → first_from p i (run k l q i (n - i)) ≡ first_from p (i + 1) (run k l q (i + 1) (n - (i + 1)))
    unfolding run first_from
    first-later p e = ap (λ (m : ℕ). first_from p i (run k l q i m)) left ∙ rw e

  module _ (i n : ℕ) (h : n ≤ i) where
    over : n - i ≡ 0
    over = omega arith

    pub first_none : (p : ℕ → Bool) → first_from p i (run k l q i (n - i)) ≡ None
    unfolding run first_from
    first_none p = rw over

    pub flag_none : gap_flag (run k l q i (n - i)) ≡ 0
    unfolding run gap_flag
    flag_none = rw over

  -- ---- taking out
  pub out_first : (i : ℕ) → i ≡ 0 → {m : List ℕ} → m ≡ dropped k l q → cleared k q (items k m q) m ≡ out k l q i
  unfolding out first_out
  out_first i e f = rw (e, f)

  pub out_further : (i : ℕ) → (i ≡ 0 → ⊥) → set l (slot_at k l q i) 0 ≡ out k l q i
  unfolding out
  out_further i h = rw (ne_eqb i 0 h)

-- what the store of `take_out` makes
pub taken_is : (s : Settings) (l : List ℕ) (q i : ℕ) {k : Kind} {m : List ℕ} {v : ℕ} → k ≡ task_kind s → m ≡ out k l q i → v ≡ gap_flag (contents k m q)
    → set m (q + gap_word) v ≡ taken_out s l q i
unfolding flagged
taken_is s l q i e f g = rw (g, f, e)

-- ---- the test
module _ (s : Settings) (l : List ℕ) (source b : ℕ) where
  pub from_any : source ≡ 0 → true ≡ from s l source b
  unfolding from
  from_any e = rw (eq-eqb source 0 e)

  pub from_one : (source ≡ 0 → ⊥) → (at : ℕ) → at ≡ block_at s b → eqb (get_or l at 0) source ≡ from s l source b
  unfolding from
  from_one g at e = rw (ne_eqb source 0 g, e, add-zero (block_at s b))

  -- a gap is not wanted, and another item where it is from the source
  pub wanted-gap : b ≡ 0 → wanted s l source b ≡ false
  unfolding wanted
  wanted-gap e = rw (eq-eqb b 0 e)

  pub wanted_from : (b ≡ 0 → ⊥) → wanted s l source b ≡ from s l source b
  unfolding wanted
  wanted_from g = rw (ne_eqb b 0 g)

-- a gap at place i is passed over: what is found from there on is what is found behind it
pub gap_passed : (s : Settings) (l : List ℕ) (source : ℕ) (k : Kind) (q i n b : ℕ) → i < n → b ≡ item_at k l q i → b ≡ 0
    → first_from (wanted s l source) i (run k l q i (n - i)) ≡ first_from (wanted s l source) (i + 1) (run k l q (i + 1) (n - (i + 1)))
gap_passed s l source k q i n b h e g = first-later k l q i n h (wanted s l source) (rw (← e) (wanted-gap s l source b g))
