-- What a memory that is sound with a postman at a position gives, said of the memory itself. Assumes nothing.
use mathlib.Core.Path.{◌≡◌, sym, ap, ◌∙◌, subst, fun_ext}
use mathlib.Core.Bool.{Bool, true, cond, ◌&&◌, ◌||◌, not, false≢true}
use mathlib.Core.List.{List, [], ◌∷◌}
use Prim.Native.Nat.{ℕ, ◌+◌, ◌-◌, ◌≤◌, ◌<◌}
use native.Mathlib.Omega.{arith}
use lib.Dec.{eqb, leb}
use lib.ListN.{length, get_or}
use borrow.Author.Tests.{eq-eqb, ne_eqb, leb-true, eqb-true}
use Rattle.words.specs.Words.{every, all}
use Rattle.words.proofs.Lists.{and-true, every_at, all_head, all_at}
use Rattle.settings.specs.declared.Settings.{Settings}
use Rattle.layout.specs.Places.{nodes, task_queues, nodes_at, send_at, ack_at, task_at, node}
use Rattle.layout.specs.Rows.{by_row}
use Rattle.layout.specs.Asked.{Stretch, Sized}
use Rattle.layout.proofs.Fits.{nodes_fit}
use Rattle.layout.proofs.NodeRows.{by_ack}
use Rattle.tasks.specs.Table.{right_table}
use Rattle.blocks.specs.Asked.{FreeList}
use Rattle.queues.specs.Queue.{Queue, send_kind, ack_kind, task_kind, contents}
use Rattle.queues.specs.Items.{live}
use Rattle.sound.specs.Reading.{settings_in, table_in, stage_of, held_of, send_items, ack_items, task_items}
use Rattle.sound.specs.Queues.{in_shape, none_to_itself, right_send, right_ack, right_task, right_queues}
use Rattle.sound.specs.Letters.{right_letter}
use Rattle.sound.specs.Positions.{names_other, holds_copy, right_position, held}
use Rattle.sound.specs.Blocks.{begun}
use Rattle.sound.specs.Sound.{sound}
use Rattle.sound.proofs.Gives.{gives_table, gives_queues, gives_position, gives_sized, gives_stretch, gives_send, gives_ack, gives_task, gives_free}
use Rattle.sound.proofs.Held.{Right, right_parts, gives_at, send_right}
use Rattle.postman.specs.declared.Position.{Position}
use Rattle.postman.specs.Position.{standing, at}
use Rattle.postman.specs.Asked.{SoundAt}
use Rattle.stages_keep.proofs.Standing.{stand_node, stand_table, stand_settings, stand_length, stand_stage, stand_held}
use Rattle.lending.specs.Asked.{Lent}

-- ---- more of what a sound memory gives
module _ (m : List ℕ) (e : sound m ≡ true) (i : ℕ) (h : i < 6) where
  abbrev s : Settings
  s = settings_in m

  none : (k n : ℕ) → (not (eqb k i) || eqb n 0) ≡ true → 1 ≤ n → i ≡ k → ⊥
  none k n t l q = false≢true (rw (eq-eqb k i (sym q), ne_eqb n 0 (λ z. omega arith)) at t)

  -- 'a node's queues to itself .. have no items'
  send_none : (k : ℕ) → k < 6 → 1 ≤ length (send_items s m i k) → i ≡ k → ⊥
  unfolding right_queues right_send
  send_none k g =
      let a = every_at (right_send s m i) 6 (and-true (every nodes (right_send s m i)) _ (gives_queues m e i h)).0 k g in
      none k (length (send_items s m i k)) (and-true (none_to_itself s m i k (send_items s m i k)) _ (and-true (in_shape (send_kind s) (node s m i) (send_at s k)) _ a).1).0

  ack_none : (k : ℕ) → k < 6 → 1 ≤ length (ack_items s m i k) → i ≡ k → ⊥
  unfolding right_queues right_ack
  ack_none k g =
      let b = (and-true (every nodes (right_send s m i)) _ (gives_queues m e i h)).1 in
      let a = every_at (right_ack s m i) 6 (and-true (every nodes (right_ack s m i)) (every task_queues (right_task s m i)) b).0 k g in
      none k (length (ack_items s m i k)) (and-true (none_to_itself s m i k (ack_items s m i k)) _ (and-true (in_shape (ack_kind s) (node s m i) (ack_at s k)) _ a).1).0

  abbrev test : ℕ → ℕ → Bool
  test p = right_letter s (node s m i) (table_in m) i p

  -- the letters of node i that node k has acknowledged
  ack_right : (k : ℕ) → k < 6 → (n : ℕ) → n < length (ack_items s m k i) → Right s (node s m i) (table_in m) i (7 + k) (get_or (ack_items s m k i) n 0)
  unfolding begun
  ack_right k g n l =
      let d : 7 + k - 7 ≡ k = omega arith in
      let q : by_row (7 + k) (held s m i) (send_items s m i (7 + k - 1)) (ack_items s m (7 + k - 7) i) (live (task_items s m i (7 + k - 13))) [] ≡ ack_items s m k i =
      by_ack (7 + k) (held s m i) (send_items s m i (7 + k - 1)) (ack_items s m (7 + k - 7) i) (live (task_items s m i (7 + k - 13))) [] (omega arith) (omega arith)
      ∙ ap (λ (x : ℕ). ack_items s m x i) d in
      right_parts s (node s m i) (table_in m) i (7 + k) (get_or (ack_items s m k i) n 0)
      (all_at (test (7 + k)) (ack_items s m k i) (rw q at (gives_at m e i h (7 + k) (omega arith))) n l)

  -- the letter in the postman's hand
  hand_right : stage_of m i ≡ 2 → Right s (node s m i) (table_in m) i 0 (held_of m i)
  unfolding begun held
  hand_right two =
      let a : all (test 0) (held_of m i ∷ []) ≡ true = rw (eq-eqb (stage_of m i) 2 two) at (gives_at m e i h 0 (omega arith)) in
      right_parts s (node s m i) (table_in m) i 0 (held_of m i) (all_head (test 0) (held_of m i) [] a).0

  -- stage 3 is the last, and 'only stage 2 holds a block (else 0)'
  last : 3 ≤ stage_of m i → (stage_of m i ≡ 3) × (held_of m i ≡ 0)
  unfolding right_position
  last l =
      let a : leb (stage_of m i) 3 && (names_other s m i && cond (eqb (stage_of m i) 2) (leb 1 (held_of m i) && (leb (held_of m i) s.m && holds_copy s m i)) (eqb (held_of m i) 0)) ≡ true =
      rw (ne_eqb (stage_of m i) 0 (λ y. omega arith)) at (gives_position m e i h) in
      let b = and-true (leb (stage_of m i) 3) _ a in
      let f = leb-true (stage_of m i) 3 b.0 in
      let c : eqb (held_of m i) 0 ≡ true = rw (ne_eqb (stage_of m i) 2 (λ y. omega arith)) at (and-true (names_other s m i) _ b.1).1 in
      (omega arith, eqb-true (held_of m i) 0 c)

-- ---- a memory that is sound with node j's postman at p
module _ (s : Settings) (m : List ℕ) (j : ℕ) (p : Position) (g : SoundAt s m j p) where
  abbrev m' : List ℕ
  m' = standing m j p

  abbrev s' : Settings
  s' = settings_in m'

  is : s ≡ s'
  is = g.settings ∙ sym (stand_settings m j p g.postman)

  -- a fact of stretches, table and settings
  over : (P : Settings → (ℕ → List ℕ) → List ℕ → Type 0) → P s' (node s' m') (table_in m') → P s (node s m) (table_in m)
  over P x =
      let a : P s (node s m') (table_in m') = subst (λ (z : Settings). P z (node z m') (table_in m')) (sym is) x in
      let b : P s (node s m) (table_in m') = subst (λ (w : ℕ → List ℕ). P s w (table_in m')) (fun_ext (λ i. stand_node s m j p g.postman i)) a in
      subst (λ (t : List ℕ). P s (node s m) t) (stand_table m j p g.postman) b

  pub stood_sized : Sized s m
  stood_sized =
      let z : Sized s m' = subst (λ (z : Settings). Sized z m') (sym is) (gives_sized m' g.holds) in
      record { range = z.range; long = sym (stand_length m j p) ∙ z.long }

  pub stood_long : nodes_at ≤ length m
  stood_long = omega (arith, stood_sized.long, nodes_fit s)

  pub stood_lent : (i : ℕ) → i < 6 → Lent s m i
  stood_lent i h = record { sized = stood_sized; there = h }

  pub stood_table : right_table (table_in m) ≡ true
  stood_table = over (λ (z : Settings) (w : ℕ → List ℕ) (t : List ℕ). right_table t ≡ true) (gives_table m' g.holds)

  module _ (i : ℕ) (h : i < 6) where
    pub stood_stretch : Stretch s (node s m i)
    stood_stretch = over (λ (z : Settings) (w : ℕ → List ℕ) (t : List ℕ). Stretch z (w i)) (gives_stretch m' g.holds i h)

    pub stood_free : FreeList s (node s m i)
    stood_free = over (λ (z : Settings) (w : ℕ → List ℕ) (t : List ℕ). FreeList z (w i)) (gives_free m' g.holds i h)

    pub stood_task : (q : ℕ) → q < 64 → Queue (task_kind s) (node s m i) (task_at s q)
    stood_task q l = over (λ (z : Settings) (w : ℕ → List ℕ) (t : List ℕ). Queue (task_kind z) (w i) (task_at z q)) (gives_task m' g.holds i h q l).queue

    module _ (k : ℕ) (l : k < 6) where
      pub stood_send : Queue (send_kind s) (node s m i) (send_at s k)
      stood_send = over (λ (z : Settings) (w : ℕ → List ℕ) (t : List ℕ). Queue (send_kind z) (w i) (send_at z k)) (gives_send m' g.holds i h k l)

      pub stood_ack : Queue (ack_kind s) (node s m i) (ack_at s k)
      stood_ack = over (λ (z : Settings) (w : ℕ → List ℕ) (t : List ℕ). Queue (ack_kind z) (w i) (ack_at z k)) (gives_ack m' g.holds i h k l)

      -- a node sends nothing to itself, and acknowledges nothing
      pub stood_other : 1 ≤ length (send_items s m i k) → i ≡ k → ⊥
      stood_other =
          over (λ (z : Settings) (w : ℕ → List ℕ) (t : List ℕ). 1 ≤ length (contents (send_kind z) (w i) (send_at z k)) → i ≡ k → ⊥) (send_none m' g.holds i h k l)

      pub stood_away : 1 ≤ length (ack_items s m i k) → i ≡ k → ⊥
      stood_away =
          over (λ (z : Settings) (w : ℕ → List ℕ) (t : List ℕ). 1 ≤ length (contents (ack_kind z) (w i) (ack_at z k)) → i ≡ k → ⊥) (ack_none m' g.holds i h k l)

      -- the letters of a send queue, and those acknowledged
      pub stood_sent : (n : ℕ) → n < length (send_items s m i k) → Right s (node s m i) (table_in m) i (1 + k) (get_or (send_items s m i k) n 0)
      stood_sent n =
          over (λ (z : Settings) (w : ℕ → List ℕ) (t : List ℕ). n < length (contents (send_kind z) (w i) (send_at z k)) → Right z (w i) t i (1 + k) (get_or (contents (send_kind z) (w i) (send_at z k)) n 0))
          (λ d. send_right m' g.holds i h k l n d)

      pub stood_acked : (n : ℕ) → n < length (ack_items s m k i) → Right s (node s m i) (table_in m) i (7 + k) (get_or (ack_items s m k i) n 0)
      stood_acked n =
          over (λ (z : Settings) (w : ℕ → List ℕ) (t : List ℕ). n < length (contents (ack_kind z) (w k) (ack_at z i)) → Right z (w i) t i (7 + k) (get_or (contents (ack_kind z) (w k) (ack_at z i)) n 0))
          (λ d. ack_right m' g.holds i h k l n d)

-- ---- at stage 2, and at stage 3
module _ (s : Settings) (m : List ℕ) (j stage i c : ℕ) (g : SoundAt s m j (at stage i c)) where
  pub stood_held : stage ≡ 2 → Right s (node s m j) (table_in m) j 0 c
  stood_held two =
      let p : Position = at stage i c in
      let l = stood_long s m j p g in
      let r = hand_right (standing m j p) g.holds j g.postman (stand_stage m j p g.postman l ∙ two) in
      let q = subst (λ (x : ℕ). Right (settings_in (standing m j p)) (node (settings_in (standing m j p)) (standing m j p) j) (table_in (standing m j p)) j 0 x) (stand_held m j p g.postman l) r in
      over s m j p g (λ (z : Settings) (w : ℕ → List ℕ) (t : List ℕ). Right z (w j) t j 0 c) q

  pub stood_last : 3 ≤ stage → (stage ≡ 3) × (c ≡ 0)
  stood_last l =
      let p : Position = at stage i c in
      let f = stood_long s m j p g in
      let v = stand_stage m j p g.postman f in
      let r = last (standing m j p) g.holds j g.postman (omega arith) in
      (sym v ∙ r.0, sym (stand_held m j p g.postman f) ∙ r.1)
