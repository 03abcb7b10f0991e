-- How far each step lets the round's two sums rise. Assumes nothing.
use mathlib.Core.Path.{◌≡◌, refl, ◌∙◌}
use mathlib.Core.List.{List}
use Prim.Native.Nat.{ℕ, zero, suc, ◌+◌, ◌*◌, ◌≤◌}
use native.Mathlib.Omega.{arith}
use lib.ListN.{length, get_or}
use Rattle.settings.specs.declared.Settings.{Settings}
use Rattle.layout.specs.Places.{node}
use Rattle.blocks.proofs.Moves.{length-list}
use Rattle.sound.specs.Reading.{ack_items}
use Rattle.postman.specs.declared.Stage.{Stage}
use Rattle.postman.specs.declared.Stage.TheVariants.{Done, Stopped}
use Rattle.postman.specs.declared.Round.{Round}
use Rattle.postman.specs.Round.{Did, Post, post, on_stage, stage, and_then, into, stopped, one_letter}
use Rattle.stages_keep.specs.Steps.{queued, acknowledged, copied_in, send_dropped, space_of, handed_on, delivered, carried, carried_all, collected, collected_all, collected_from}

by-stage : (P : Post → Type 0) (h : Stage) (a b : Post) → P a → P b → P (on_stage h a b)
by-stage P Done a b x y = y
by-stage P (Stopped n) a b x y = x

abbrev Most : ℕ → Post → Type 0
Most n p = p.round.letters ≤ n

stage-most : (n : ℕ) (d : Did) (stop : Stage → Round) (go : List ℕ → Post) → (stop d.how).letters ≤ n → Most n (go d.memory) → Most n (stage d stop go)
unfolding stage
stage-most n d stop go x y = by-stage (Most n) d.how (post d.memory (stop d.how)) (go d.memory) x y

module _ (s : Settings) (j : ℕ) where
  -- ---- letters
  pub handed-most : (m : List ℕ) (i : ℕ) (r : Round) → (handed_on s j m i r).round.letters ≤ r.letters
  unfolding handed_on
  handed-most m i r = stage-most r.letters (acknowledged s j m i) (stopped r 3 i 0) (λ m'. post (send_dropped s j m' i) r) (omega arith) (omega arith)

  pub delivered-most : (m : List ℕ) (i c : ℕ) (r : Round) → (delivered s j m i c r).round.letters ≤ r.letters + 1
  unfolding delivered
  delivered-most m i c r =
      stage-most (r.letters + 1) (queued s j m c) (stopped r 2 i c) (λ m'. handed_on s j m' i (one_letter r)) (omega arith)
      (handed-most (queued s j m c).memory i (one_letter r))

  pub carried-most : (m : List ℕ) (i : ℕ) (r : Round) → (carried s j m i r).round.letters ≤ r.letters + 1
  unfolding carried
  carried-most m i r =
      stage-most (r.letters + 1) (copied_in s j m i) (stopped r 1 i 0) (λ m'. delivered s j m' i (space_of s j m) r) (omega arith)
      (delivered-most (copied_in s j m i).memory i (space_of s j m) r)

  pub all_most : (k : ℕ) (m : List ℕ) (i : ℕ) (r : Round) → (carried_all s j k m i r).round.letters ≤ r.letters + k
  unfolding carried_all and_then
  all_most zero m i r = omega arith
  all_most (suc k) m i r =
      let p : Post = carried s j m i r in
      let h = carried-most m i r in
      let y = all_most k p.memory i p.round in
      by-stage (Most (r.letters + suc k)) p.round.how p (carried_all s j k p.memory i p.round) (omega arith) (omega arith)

  -- ---- blocks given back
  module _ (b : s.m ≤ 1024) where
    pub collected-back : (m : List ℕ) (i : ℕ) (r : Round) → (collected s j m i r).round.back ≤ r.back + 1024
    unfolding collected
    collected-back m i r = let h = length-list s (node s m j) s.m (get_or (ack_items s m i j) 0 0) in omega arith

    pub all_back : (k : ℕ) (m : List ℕ) (i : ℕ) (r : Round) → (collected_all s j k m i r).round.back ≤ r.back + 1024 * k
    unfolding collected_all into
    all_back zero m i r = omega arith
    all_back (suc k) m i r =
        let p : Post = collected s j m i r in
        omega (arith, collected-back m i r, all_back k p.memory i p.round)

  -- ---- step 1 leaves the letters, and how the round stands
  pub collected_same : (m : List ℕ) (i : ℕ) (r : Round) → ((collected s j m i r).round.letters ≡ r.letters) × ((collected s j m i r).round.how ≡ r.how)
  unfolding collected
  collected_same m i r = (refl, refl)

  pub all_same : (k : ℕ) (m : List ℕ) (i : ℕ) (r : Round) → ((collected_all s j k m i r).round.letters ≡ r.letters) × ((collected_all s j k m i r).round.how ≡ r.how)
  unfolding collected_all into
  all_same zero m i r = (refl, refl)
  all_same (suc k) m i r =
      let p : Post = collected s j m i r in
      let x = all_same k p.memory i p.round in
      let y = collected_same m i r in
      (x.0 ∙ y.0, x.1 ∙ y.1)

  pub from_same : (n : ℕ) (m : List ℕ) (i : ℕ) (r : Round) → ((collected_from s j n m i r).round.letters ≡ r.letters) × ((collected_from s j n m i r).round.how ≡ r.how)
  unfolding collected_from into
  from_same zero m i r = (refl, refl)
  from_same (suc n) m i r =
      let k = length (ack_items s m i j) in
      let p : Post = collected_all s j k m i r in
      let x = from_same n p.memory (i + 1) p.round in
      let y = all_same k m i r in
      (x.0 ∙ y.0, x.1 ∙ y.1)
