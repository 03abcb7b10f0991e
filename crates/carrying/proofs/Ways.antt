-- One law for each way that a step and a turn go on. Assumes nothing.
use mathlib.Core.Path.{◌≡◌, ◌∙◌, subst}
use mathlib.Core.List.{List}
use Prim.Native.Nat.{ℕ, suc, ◌+◌, ◌-◌, ◌≤◌, ◌<◌}
use native.Mathlib.Omega.{arith}
use lib.ListN.{length}
use Rattle.std.proofs.Common.{add-one}
use Rattle.settings.specs.declared.Settings.{Settings}
use Rattle.sound.specs.Reading.{send_items, ack_items}
use Rattle.postman.specs.declared.Stage.{Stage}
use Rattle.postman.specs.declared.Stage.TheVariants.{Done, Stopped}
use Rattle.postman.specs.declared.Round.{Round}
use Rattle.postman.specs.Round.{Post, post, on_stage, and_then, into}
use Rattle.stages_keep.specs.Steps.{carried, carried_all, carried_from, collected, collected_all, collected_from}

on_done : (h : Stage) (a b : Post) → h ≡ Done → b ≡ on_stage h a b
on_done h a b e = rw e

-- ---- after what may stop
module _ (f : List ℕ → Round → Post) {p : Post} {m : List ℕ} {r : Round} where
  pub then_stop : {n : ℕ} → post m r ≡ p → r.how ≡ Stopped n → post m r ≡ and_then p f
  unfolding and_then
  then_stop e t = rw (← e, t)

  pub then_go : {q : Post} → post m r ≡ p → r.how ≡ Done → q ≡ f m r → q ≡ and_then p f
  unfolding and_then
  then_go {q} e t u = subst (λ (x : Post). q ≡ and_then x f) e (u ∙ on_done r.how (post m r) (f m r) t)

from_none : (i : ℕ) → 6 ≤ i → 6 - i ≡ 0
from_none i h = omega arith

from_some : (i : ℕ) → i < 6 → 6 - i ≡ suc (6 - (i + 1))
from_some i h = omega arith

module _ (s : Settings) (j : ℕ) where
  -- ---- step 2 on one node: no letter left, a letter that stopped, a letter that went through
  module _ (k : ℕ) (m : List ℕ) (i : ℕ) (r : Round) where
    pub all_none : k ≡ 0 → post m r ≡ carried_all s j k m i r
    unfolding carried_all
    all_none e = rw e

    module _ (l : ℕ) {m' : List ℕ} {a : Round} (h : k ≡ l + 1) (e : post m' a ≡ carried s j m i r) where
      pub all-stop : {n : ℕ} → a.how ≡ Stopped n → post m' a ≡ carried_all s j k m i r
      unfolding carried_all
      all-stop t = rw (h, add-one l) (then_stop _ e t)

      pub all_go : {q : Post} → a.how ≡ Done → q ≡ carried_all s j l m' i a → q ≡ carried_all s j k m i r
      unfolding carried_all
      all_go t u = rw (h, add-one l) (then_go _ e t u)

  -- ---- step 2 on the nodes from i on
  module _ (m : List ℕ) (i : ℕ) (r : Round) where
    pub nodes_none : 6 ≤ i → post m r ≡ carried_from s j (6 - i) m i r
    unfolding carried_from
    nodes_none h = rw (from_none i h)

    module _ {k : ℕ} {m' : List ℕ} {a : Round} (h : i < 6) (w : k ≡ length (send_items s m i j)) (e : post m' a ≡ carried_all s j k m i r) where
      pub nodes-stop : {n : ℕ} → a.how ≡ Stopped n → post m' a ≡ carried_from s j (6 - i) m i r
      unfolding carried_from
      nodes-stop t = rw (from_some i h) (then_stop _ (rw w at e) t)

      pub nodes_go : {q : Post} → a.how ≡ Done → q ≡ carried_from s j (6 - (i + 1)) m' (i + 1) a → q ≡ carried_from s j (6 - i) m i r
      unfolding carried_from
      nodes_go t u = rw (from_some i h) (then_go _ (rw w at e) t u)

  -- ---- step 1, which never stops
  module _ (m : List ℕ) (i : ℕ) (r : Round) where
    pub back_none : (k : ℕ) → k ≡ 0 → post m r ≡ collected_all s j k m i r
    unfolding collected_all
    back_none k e = rw e

    pub back_go : (k l : ℕ) {m' : List ℕ} {a : Round} {q : Post} → k ≡ l + 1 → post m' a ≡ collected s j m i r → q ≡ collected_all s j l m' i a → q ≡ collected_all s j k m i r
    unfolding collected_all into
    back_go k l h e u = rw (h, add-one l, ← e) u

    pub backs_none : 6 ≤ i → post m r ≡ collected_from s j (6 - i) m i r
    unfolding collected_from
    backs_none h = rw (from_none i h)

    pub backs_go : {k : ℕ} {m' : List ℕ} {a : Round} {q : Post} → i < 6 → k ≡ length (ack_items s m i j) → post m' a ≡ collected_all s j k m i r
        → q ≡ collected_from s j (6 - (i + 1)) m' (i + 1) a → q ≡ collected_from s j (6 - i) m i r
    unfolding collected_from into
    backs_go h w e u = rw (from_some i h, ← w, ← e) u
