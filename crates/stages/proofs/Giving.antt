-- Step 1: an acknowledged item dropped, and its chain given back. Assumes nothing.
use mathlib.Core.Path.{◌≡◌, sym, ap, ◌∙◌}
use mathlib.Core.List.{List}
use Prim.Native.Nat.{ℕ, ◌+◌, ◌≤◌, ◌<◌}
use native.Mathlib.Omega.{arith}
use lib.ListN.{length, get_or}
use Rattle.words.proofs.Lists.{put_other}
use Rattle.settings.specs.declared.Settings.{Settings}
use Rattle.settings.specs.Range.{InRange}
use Rattle.layout.specs.Places.{ack_at, node_size, node, with_node}
use Rattle.layout.specs.Asked.{Stretch, Sized}
use Rattle.blocks.specs.Chain.{needs}
use Rattle.blocks.specs.Moves.{given_back}
use Rattle.blocks.proofs.Moves.{length-list}
use Rattle.queues.specs.declared.Kind.{Kind}
use Rattle.queues.specs.Queue.{Queue, ack_kind, items, item_at}
use Rattle.queues.specs.Moves.{dropped}
use Rattle.queues.proofs.Views.{length-contents, contents_item, length-dropped}
use Rattle.sound.specs.Reading.{table_in, ack_items}
use Rattle.sound.specs.Letters.{chain_from, told_length}
use Rattle.sound.proofs.Held.{Right}
use Rattle.sound.proofs.Right.{right_least, right_most, right_needs, right_lies}
use Rattle.moves.proofs.Memory.{with_node_lem}
use Rattle.postman.specs.declared.Round.{Round}
use Rattle.postman.specs.Position.{at_rest}
use Rattle.postman.specs.Asked.{SoundAt, Owes}
use Rattle.stages_keep.specs.Steps.{collected}
use Rattle.lending.specs.Asked.{Lent, Begins, HasQueue, MayReturn}
use Rattle.stages.specs.Asked.{GaveBack}
use Rattle.stages.proofs.Stood.{stood_sized, stood_lent, stood_stretch, stood_ack, stood_away, stood_acked}
use Rattle.stages.proofs.Copying.{needs_some, with_sized}

module _ (s : Settings) (m : List ℕ) (j i : ℕ) (w : Owes s m j i 1) where
  abbrev g : SoundAt s m j at_rest
  g = w.stands

  sized : Sized s m
  sized = stood_sized s m j at_rest g

  pub owes-range : InRange s × (j < 6)
  owes-range = (sized.range, g.postman)

  queue : Queue (ack_kind s) (node s m i) (ack_at s j)
  queue = stood_ack s m j at_rest g i w.there j g.postman

  apart : j ≡ i → ⊥
  apart e = stood_away s m j at_rest g i w.there j g.postman w.items (sym e)

  abbrev item : ℕ
  item = get_or (ack_items s m i j) 0 0

  right : Right s (node s m j) (table_in m) j (7 + i) item
  right = stood_acked s m j at_rest g j g.postman i w.there 0 (omega (arith, w.items))

  st : Stretch s (node s m j)
  st = stood_stretch s m j at_rest g j g.postman

  abbrev u : List ℕ
  u = dropped (ack_kind s) (node s m i) (ack_at s j)

  u_long : length u ≡ node_size s
  u_long = length-dropped (ack_kind s) (node s m i) (ack_at s j) ∙ (stood_stretch s m j at_rest g i w.there).long

  abbrev told : ℕ
  told = told_length s (node s m j) item

  owed : length (chain_from s (node s m j) item) ≡ needs s told
  owed = right_needs s (node s m j) st item right.ends right.long

  module _ {k : Kind} {q : ℕ} (ek : k ≡ ack_kind s) (eq : q ≡ ack_at s j) where
    pub owes-queue : HasQueue s m i k q × (0 < items k (node s m i) q)
    owes-queue =
        let z : 0 < items (ack_kind s) (node s m i) (ack_at s j) = omega (arith, w.items, length-contents (ack_kind s) (node s m i) (ack_at s j) queue) in
        (rw (ek, eq) (record { lent = stood_lent s m j at_rest g i w.there; queue = queue }), rw eq z)

    module _ {m₁ : List ℕ} {x : ℕ} (em : m₁ ≡ with_node s m i (dropped k (node s m i) q)) (ex : x ≡ item_at k (node s m i) q 0) where
      is_item : x ≡ item
      is_item = ex ∙ rw (ek, eq) (contents_item (ack_kind s) (node s m i) (ack_at s j) queue 0 (omega (arith, queue.placed.some)))

      is_left : m₁ ≡ with_node s m i u
      is_left = em ∙ rw (ek, eq)

      -- node j's stretch is as it was
      same : node s m₁ j ≡ node s m j
      same = rw is_left (with_node_lem s m sized.long i w.there u u_long j ∙ put_other (node s m) i u j apart)

      lent : Lent s m₁ j
      lent = record { sized = rw is_left (with_sized s m sized i w.there u u_long); there = g.postman }

      pub owes-begins : Begins s m₁ j x
      owes-begins = record { lent = lent; ends = rw (same, is_item) right.ends; long = rw (same, is_item) right.long }

      module _ {t : ℕ} (et : t ≡ told_length s (node s m₁ j) x) where
        is-told : t ≡ told
        is-told = et ∙ rw (same, is_item)

        pub owes-small : InRange s × (t ≤ 4294967295)
        owes-small = (sized.range, omega (arith, is-told, right_most s (node s m j) st item right.ends right.long))

        module _ {n : ℕ} (en : n ≡ needs s t) where
          is-many : n ≡ needs s told
          is-many = en ∙ ap (needs s) is-told

          some : 1 ≤ n
          some =
              let l = right_least s (node s m j) st item right.ends right.long in
              omega (arith, is-many, needs_some s sized.range told (omega arith))

          pub owes-returns : MayReturn s m₁ j x n
          owes-returns =
              record {
                lent = lent;
                walks = rw (same, is_item, is-many) (right_lies s (node s m j) st item right.ends right.long told (omega arith)).walks;
                some = some;
              }

          left : {m₂ : List ℕ} → m₂ ≡ with_node s m₁ j (given_back s (node s m₁ j) n x) → (r : Round) → m₂ ≡ (collected s j m i r).memory
          unfolding collected
          left f r = f ∙ rw (is-many ∙ sym owed, is_item, is_left)

          pub gave_back : {m₂ : List ℕ} → m₂ ≡ with_node s m₁ j (given_back s (node s m₁ j) n x) → GaveBack s m j i n m₂
          gave_back f =
              record {
                memory = left f;
                blocks = is-many ∙ sym owed;
                most = omega (arith, is-many, owed, length-list s (node s m j) s.m item, sized.range.m.high);
              }
