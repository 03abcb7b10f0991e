-- What each function of a step asks of the next, had from what it was given. Assumes nothing.
use mathlib.Core.Path.{◌≡◌, sym, ap, ◌∙◌, subst}
use mathlib.Core.List.{List}
use Prim.Native.Nat.{ℕ, zero, suc, ◌+◌, ◌*◌, ◌≤◌, ◌<◌}
use native.Mathlib.Omega.{arith}
use lib.ListN.{length}
use Rattle.words.proofs.Lists.{put_other}
use Rattle.settings.specs.declared.Settings.{Settings}
use Rattle.settings.specs.Range.{InRange}
use Rattle.layout.specs.Asked.{Sized}
use Rattle.layout.specs.Places.{nodes, send_at, ack_at, node, with_node}
use Rattle.queues.specs.Queue.{Queue, send_kind, ack_kind, items}
use Rattle.queues.specs.Moves.{appended}
use Rattle.queues.proofs.Views.{length-contents, length-appended}
use Rattle.sound.specs.Reading.{send_items, ack_items}
use Rattle.moves.proofs.Memory.{with_node_lem}
use Rattle.postman.specs.declared.Stage.{Stage}
use Rattle.postman.specs.declared.Stage.TheVariants.{Done}
use Rattle.postman.specs.declared.Position.{Position}
use Rattle.postman.specs.declared.Round.{Round}
use Rattle.postman.specs.Position.{at, at_rest}
use Rattle.postman.specs.Round.{Did, did, Post, post, on_stage, into, blocks_back}
use Rattle.postman.specs.Asked.{SoundAt, Waits, Owes}
use Rattle.stages_keep.specs.Steps.{first_of, space_of, copied_in, queued, acknowledged, carried, carried_all, collected, collected_all, collected_from}
use Rattle.stages_keep.proofs.Laws.{copied-stands, queued-stands, carried_next, carried_all_lem, collected_next, names_in, names_apart, names-waits}
use Rattle.lending.specs.Asked.{Lent, HasFirst}
use Rattle.stages.specs.Asked.{GaveBack}
use Rattle.stages.proofs.Stood.{stood_sized, stood_lent, stood_stretch, stood_send, stood_ack}
use Rattle.stages.proofs.Copying.{with_sized}
use Rattle.carrying.specs.Asked.{Delivers, Carries, CarriesFrom, Collects, CollectsFrom}
use Rattle.carrying.proofs.Sums.{carried-most, all_most, collected-back, all_back}

-- ---- how many items a queue of node i for j has
module _ (s : Settings) (m : List ℕ) (j : ℕ) (g : SoundAt s m j at_rest) where
  pub rest_sized : Sized s m
  rest_sized = stood_sized s m j at_rest g

  pub rest_range : InRange s
  rest_range = rest_sized.range

  pub rest_lent : Lent s m j
  rest_lent = stood_lent s m j at_rest g j g.postman

  module _ (i : ℕ) (h : i < nodes) where
    pub sends : Queue (send_kind s) (node s m i) (send_at s j)
    sends = stood_send s m j at_rest g i h j g.postman

    pub acks : Queue (ack_kind s) (node s m i) (ack_at s j)
    acks = stood_ack s m j at_rest g i h j g.postman

    pub sends_count : items (send_kind s) (node s m i) (send_at s j) ≡ length (send_items s m i j)
    sends_count = sym (length-contents (send_kind s) (node s m i) (send_at s j) sends)

    pub acks_count : items (ack_kind s) (node s m i) (ack_at s j) ≡ length (ack_items s m i j)
    acks_count = sym (length-contents (ack_kind s) (node s m i) (ack_at s j) acks)

    pub sends-few : length (send_items s m i j) ≤ 255
    sends-few = omega (arith, sends_count, sends.count, sends.placed.small)

    pub acks_few : length (ack_items s m i j) ≤ 255
    acks_few = omega (arith, acks_count, acks.count, acks.placed.small)

-- ---- a stage that was done
went : (s : Settings) (j : ℕ) (p q : Position) {d : Did} {m : List ℕ} {h : Stage} → did m h ≡ d → h ≡ Done → SoundAt s d.memory j (on_stage d.how p q) → SoundAt s m j q
went s j p q {d} {m} {h} e t x =
    let y : SoundAt s m j (on_stage h p q) = subst (λ (z : Did). SoundAt s z.memory j (on_stage z.how p q)) (sym e) x in
    subst (λ (z : Stage). SoundAt s m j (on_stage z p q)) t y

-- stage 3: the send item is still there
module _ (s : Settings) (m : List ℕ) (j i : ℕ) (g : SoundAt s m j (at 3 i 0)) where
  names : (i < 6) × (1 ≤ length (send_items s m i j))
  names = (names_in s m j i 3 0 g (omega arith), names-waits s m j i 3 0 g (omega arith))

  pub hand_there : i < nodes
  hand_there = names.0

  abbrev u : List ℕ
  u = appended (ack_kind s) (node s m j) (ack_at s i) (first_of s j m i)

  pub hand_first : {m₁ : List ℕ} {h : Stage} → did m₁ h ≡ acknowledged s j m i → HasFirst s m₁ i j
  unfolding acknowledged
  hand_first {m₁} e =
      let z = stood_sized s m j (at 3 i 0) g in
      let l = length-appended (ack_kind s) (node s m j) (ack_at s i) (first_of s j m i) ∙ (stood_stretch s m j (at 3 i 0) g j g.postman).long in
      let f : m₁ ≡ with_node s m j u = ap (λ (d : Did). d.memory) e in
      let n : node s m₁ i ≡ node s m i =
      rw f (with_node_lem s m z.long j g.postman u l i ∙ put_other (node s m) j u i (names_apart s m j i 3 0 g (omega arith))) in
      record {
        lent = record { sized = rw f (with_sized s m z j g.postman u l); there = names.0 };
        own = g.postman;
        queue = rw n (stood_send s m j (at 3 i 0) g i names.0 j g.postman);
        some = rw n names.1;
      }

-- stage 2
pub deliver_there : (s : Settings) (m : List ℕ) (j i c : ℕ) → SoundAt s m j (at 2 i c) → i < nodes
deliver_there s m j i c g = names_in s m j i 2 c g (omega arith)

module _ (s : Settings) (m : List ℕ) (j i c : ℕ) (r : Round) (g : Delivers s m j i c r) where
  pub deliver_hand : {m₁ : List ℕ} {h : Stage} → did m₁ h ≡ queued s j m c → h ≡ Done → SoundAt s m₁ j (at 3 i 0)
  deliver_hand e t = went s j (at 2 i c) (at 3 i 0) e t (queued-stands s m j i c g.stands)

-- stage 1
module _ (s : Settings) (m : List ℕ) (j i : ℕ) (r : Round) (g : Carries s m j i 1 r) where
  pub carry_deliver : {c : ℕ} {m₁ : List ℕ} {h : Stage} → c ≡ space_of s j m → did m₁ h ≡ copied_in s j m i → h ≡ Done → Delivers s m₁ j i c r
  carry_deliver {c} {m₁} f e t =
      let x : SoundAt s m₁ j (at 2 i (space_of s j m)) = went s j (at 1 i 0) (at 2 i (space_of s j m)) e t (copied-stands s m j i g.waits) in
      record { stands = rw f x; few = g.few }

-- ---- step 2 on one node
module _ (s : Settings) (m : List ℕ) (j i k l : ℕ) (r : Round) (g : Carries s m j i k r) (h : k ≡ l + 1) where
  pub all_next : {m₁ : List ℕ} {a : Round} → post m₁ a ≡ carried s j m i r → a.how ≡ Done → Carries s m₁ j i l a
  all_next {m₁} {a} e t =
      let w : Waits s m j i (l + 1) = subst (λ (n : ℕ). Waits s m j i n) h g.waits in
      let d : (carried s j m i r).round.how ≡ Done = subst (λ (p : Post). p.round.how ≡ Done) e t in
      let x : Waits s m₁ j i l = subst (λ (p : Post). Waits s p.memory j i l) (sym e) (carried_next s m j i l r w d) in
      let y : a.letters ≤ r.letters + 1 = subst (λ (p : Post). p.round.letters ≤ r.letters + 1) (sym e) (carried-most s j m i r) in
      record { waits = x; few = omega (arith, g.few) }

-- ---- step 2 on the nodes from i on
module _ (s : Settings) (m : List ℕ) (j i : ℕ) (r : Round) (g : CarriesFrom s m j i r) (h : i < 6) {k : ℕ} (e : k ≡ length (send_items s m i j)) where
  pub from_all : Carries s m j i k r
  from_all =
      let l = sends-few s m j g.stands i h in
      let f = g.few in
      record { waits = record { stands = g.stands; there = h; letters = omega arith }; few = omega arith }

  pub from_next : {m₁ : List ℕ} {a : Round} → post m₁ a ≡ carried_all s j k m i r → a.how ≡ Done → CarriesFrom s m₁ j (i + 1) a
  from_next {m₁} {a} q t =
      let l = sends-few s m j g.stands i h in
      let f = g.few in
      let d : (carried_all s j k m i r).round.how ≡ Done = subst (λ (p : Post). p.round.how ≡ Done) q t in
      let x : SoundAt s m₁ j at_rest = subst (λ (p : Post). SoundAt s p.memory j at_rest) (sym q) (carried_all_lem s m j i k r g.going from_all.waits d) in
      let y : a.letters ≤ r.letters + k = subst (λ (p : Post). p.round.letters ≤ r.letters + k) (sym q) (all_most s j k m i r) in
      record { stands = x; going = t; few = omega arith }

-- ---- step 1
pub gave : (s : Settings) (m : List ℕ) (j i : ℕ) (r : Round) {n : ℕ} {m₁ : List ℕ} {a : Round} → GaveBack s m j i n m₁ → a ≡ blocks_back r n → post m₁ a ≡ collected s j m i r
unfolding collected
gave s m j i r g e = rw (e, g.memory r, g.blocks)

module _ (s : Settings) (m : List ℕ) (j i k : ℕ) (r : Round) (g : Collects s m j i k r) where
  blocks-few : s.m ≤ 1024
  blocks-few = (stood_sized s m j at_rest g.owes.stands).range.m.high

  module _ (l : ℕ) (h : k ≡ l + 1) where
    pub back_next : {m₁ : List ℕ} {a : Round} → post m₁ a ≡ collected s j m i r → Collects s m₁ j i l a
    back_next {m₁} {a} e =
        let w : Owes s m j i (l + 1) = subst (λ (n : ℕ). Owes s m j i n) h g.owes in
        let x : Owes s m₁ j i l = subst (λ (p : Post). Owes s p.memory j i l) (sym e) (collected_next s m j i l r w) in
        let y : a.back ≤ r.back + 1024 = subst (λ (p : Post). p.round.back ≤ r.back + 1024) (sym e) (collected-back s j blocks-few m i r) in
        record { owes = x; few = omega (arith, g.few) }

-- each item given back, the postman stands as he did
module _ (s : Settings) (j i : ℕ) where
  pub all-owes : (k : ℕ) (m : List ℕ) (r : Round) → Owes s m j i k → SoundAt s (collected_all s j k m i r).memory j at_rest
  unfolding collected_all into
  all-owes zero m r w = w.stands
  all-owes (suc k) m r w =
      let z : suc k ≡ k + 1 = omega arith in
      let v : Owes s m j i (k + 1) = subst (λ (n : ℕ). Owes s m j i n) z w in
      all-owes k (collected s j m i r).memory (collected s j m i r).round (collected_next s m j i k r v)

module _ (s : Settings) (m : List ℕ) (j i : ℕ) (r : Round) (g : CollectsFrom s m j i r) (h : i < 6) {k : ℕ} (e : k ≡ length (ack_items s m i j)) where
  pub backs_all : Collects s m j i k r
  backs_all =
      let l = acks_few s m j g.stands i h in
      let f = g.few in
      record { owes = record { stands = g.stands; there = h; items = omega arith }; few = omega arith }

  pub backs_next : {m₁ : List ℕ} {a : Round} → post m₁ a ≡ collected_all s j k m i r → CollectsFrom s m₁ j (i + 1) a
  backs_next {m₁} {a} q =
      let l = acks_few s m j g.stands i h in
      let f = g.few in
      let b = (stood_sized s m j at_rest g.stands).range.m.high in
      let x : SoundAt s m₁ j at_rest = subst (λ (p : Post). SoundAt s p.memory j at_rest) (sym q) (all-owes s j i k m r backs_all.owes) in
      let y : a.back ≤ r.back + 1024 * k = subst (λ (p : Post). p.round.back ≤ r.back + 1024 * k) (sym q) (all_back s j b k m i r) in
      record { stands = x; few = omega arith }

-- and so after the nodes from i on
pub from-stands : (s : Settings) (j n : ℕ) (m : List ℕ) (i : ℕ) (r : Round) → n + i ≤ 6 → SoundAt s m j at_rest → SoundAt s (collected_from s j n m i r).memory j at_rest
unfolding collected_from into
from-stands s j zero m i r l g = g
from-stands s j (suc n) m i r l g =
    let k = length (ack_items s m i j) in
    from-stands s j n (collected_all s j k m i r).memory (i + 1) (collected_all s j k m i r).round (omega arith)
    (all-owes s j i k m r (record { stands = g; there = omega arith; items = omega arith }))
