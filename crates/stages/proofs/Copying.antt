-- Stage 1: the first letter of a send queue, the space for it, and its copy. Assumes nothing.
use Rattle.std.specs.Prelude.{None, Option, Some}
use mathlib.Core.Path.{◌≡◌, sym, ap, ◌∙◌}
use mathlib.Core.Bool.{true, false}
use mathlib.Core.List.{List}
use Prim.Native.Nat.{ℕ, ◌+◌, ◌-◌, ◌*◌, ◌≤◌, ◌<◌}
use native.Mathlib.Nat.{zero-mul}
use native.Mathlib.Omega.{arith}
use lib.ListN.{length, get_or}
use borrow.Author.Tests.{leb-true}
use Rattle.words.proofs.Lists.{same?, put_other, told_no, told_yes}
use Rattle.words.proofs.Parts.{splice-part}
use Rattle.settings.specs.declared.Settings.{Settings}
use Rattle.settings.specs.Range.{InRange}
use Rattle.layout.specs.Places.{first_free_at, room_at, send_at, node_at, node_end, node_size, node, with_node}
use Rattle.layout.specs.Asked.{Stretch, Sized}
use Rattle.layout.proofs.MemoryRows.{stretch-fits}
use Rattle.blocks.specs.Chain.{needs, free}
use Rattle.blocks.specs.Moves.{enough, taken, taken_answer}
use Rattle.blocks.proofs.Moves.{length-list, length_taken, taken-stretch, take_chained}
use Rattle.letters.specs.Letter.{copied}
use Rattle.letters.specs.Asked.{Lies}
use Rattle.letters.proofs.Rows.{needs-enough}
use Rattle.letters.proofs.Copies.{lies_chained}
use Rattle.copying.specs.Asked.{Copies}
use Rattle.queues.specs.declared.Kind.{Kind}
use Rattle.queues.specs.Queue.{send_kind, items}
use Rattle.queues.specs.Moves.{counted, dropped}
use Rattle.queues.proofs.Views.{length-contents}
use Rattle.sound.specs.Reading.{table_in}
use Rattle.sound.specs.Letters.{chain_from, told_length}
use Rattle.sound.proofs.Held.{Right}
use Rattle.sound.proofs.Right.{right_least, right_most, right_needs, right_lies}
use Rattle.moves.proofs.Memory.{with_node_lem, node_with, with_long}
use Rattle.postman.specs.declared.Stage.TheVariants.{Done, Stopped}
use Rattle.postman.specs.Position.{at_rest}
use Rattle.postman.specs.Round.{did}
use Rattle.postman.specs.Asked.{SoundAt, Waits}
use Rattle.stages_keep.specs.Steps.{first_of, copied_in, send_dropped}
use Rattle.lending.specs.Asked.{Lent, Begins, HasFirst, MayTake}
use Rattle.stages.proofs.Stood.{stood_sized, stood_lent, stood_stretch, stood_free, stood_send, stood_other, stood_sent}

-- ---- the first item of a send queue
module _ (s : Settings) (m : List ℕ) (i j : ℕ) (g : HasFirst s m i j) {k : Kind} {q : ℕ} (ek : k ≡ send_kind s) (eq : q ≡ send_at s j) where
  pub first_some : 0 < items k (node s m i) q
  first_some = let z : 0 < items (send_kind s) (node s m i) (send_at s j) = omega (arith, g.some, length-contents (send_kind s) (node s m i) (send_at s j) g.queue) in rw eq z

  pub first-dropped : {m₁ : List ℕ} → m₁ ≡ with_node s m i (dropped k (node s m i) q) → m₁ ≡ send_dropped s j m i
  first-dropped e = e ∙ rw (ek, eq)

-- some words need a block
pub needs_some : (s : Settings) → InRange s → (k : ℕ) → 1 ≤ k → 1 ≤ needs s k
needs_some s r k h =
    same? (needs s k) 0
    (λ q t. let z : needs s k * (s.b - 1) ≡ 0 = ap (λ (j : ℕ). j * (s.b - 1)) q ∙ zero-mul (s.b - 1) in absurd (omega (arith, needs-enough s r k)))
    (λ q t. omega arith)

-- a stretch of its size put anew leaves the memory's size
pub with_sized : (s : Settings) (m : List ℕ) → Sized s m → (j : ℕ) → j < 6 → (l : List ℕ) → length l ≡ node_size s → Sized s (with_node s m j l)
with_sized s m z j h l e = record { range = z.range; long = with_long s m z.long j h l e ∙ z.long }

-- its own stretch put anew leaves the memory
with_same : (s : Settings) (m : List ℕ) → Sized s m → (j : ℕ) → j < 6 → with_node s m j (node s m j) ≡ m
with_same s m z j h = splice-part m (node_at s j) (node_end s j) (omega arith) (omega (arith, stretch-fits s j h, z.long))

-- ---- stage 1
module _ (s : Settings) (m : List ℕ) (j i : ℕ) (w : Waits s m j i 1) where
  abbrev g : SoundAt s m j at_rest
  g = w.stands

  pub waits-sized : Sized s m
  waits-sized = stood_sized s m j at_rest g

  pub waits_first : HasFirst s m i j
  waits_first =
      record {
        lent = stood_lent s m j at_rest g i w.there;
        own = g.postman;
        queue = stood_send s m j at_rest g i w.there j g.postman;
        some = w.letters;
      }

  apart : i ≡ j → ⊥
  apart = stood_other s m j at_rest g i w.there j g.postman w.letters

  module _ {x : ℕ} (ex : x ≡ first_of s j m i) where
    right : Right s (node s m i) (table_in m) i (1 + j) x
    right = rw ex (stood_sent s m j at_rest g i w.there j g.postman 0 (omega (arith, w.letters)))

    st : Stretch s (node s m i)
    st = stood_stretch s m j at_rest g i w.there

    pub waits-begins : Begins s m i x
    waits-begins = record { lent = stood_lent s m j at_rest g i w.there; ends = right.ends; long = right.long }

    module _ {t : ℕ} (et : t ≡ told_length s (node s m i) x) where
      pub waits-least : 5 ≤ t
      waits-least = omega (arith, et, right_least s (node s m i) st x right.ends right.long)

      pub waits-most : t ≤ 1024
      waits-most = omega (arith, et, right_most s (node s m i) st x right.ends right.long)

      pub waits-small : InRange s × (t ≤ 4294967295)
      waits-small = (waits-sized.range, omega (arith, waits-most))

      lies : Lies s (node s m i) t x
      lies = right_lies s (node s m i) st x right.ends right.long t (omega (arith, et))

      module _ {n : ℕ} (en : n ≡ needs s t) where
        some : 1 ≤ n
        some = omega (arith, en, needs_some s waits-sized.range t (omega (arith, waits-least)))

        most : n ≤ s.m
        most =
            let q : n ≡ length (chain_from s (node s m i) x) = en ∙ ap (needs s) et ∙ sym (right_needs s (node s m i) st x right.ends right.long) in
            omega (arith, q, length-list s (node s m i) s.m x)

        pub waits-takes : MayTake s m j n
        waits-takes =
            record {
              lent = stood_lent s m j at_rest g j g.postman;
              takes =
                  record {
                    stretch = stood_stretch s m j at_rest g j g.postman;
                    free = stood_free s m j at_rest g j g.postman;
                    some = some;
                    most = most;
                  };
            }

        abbrev u : List ℕ
        u = taken s (node s m j) n

        stj : Stretch s (node s m j)
        stj = stood_stretch s m j at_rest g j g.postman

        u_long : length u ≡ node_size s
        u_long = length_taken s (node s m j) n ∙ stj.long

        module _ {m₁ : List ℕ} {a : Option ℕ} (em : m₁ ≡ with_node s m j u) (ea : a ≡ taken_answer s (node s m j) n) where
          sized₁ : Sized s m₁
          sized₁ = rw em (with_sized s m waits-sized j g.postman u u_long)

          -- too few blocks
          module _ (e : a ≡ None) where
            not-enough : enough s (node s m j) n ≡ false
            unfolding taken_answer
            not-enough =
                told_no (enough s (node s m j) n) (Some (get_or (node s m j) 0 0)) None a ea (λ q. let z : ◌≡◌ {A = ℕ} 0 1 = cc in omega arith) e

            same : m₁ ≡ m
            unfolding taken
            same = em ∙ rw not-enough (with_same s m waits-sized j g.postman)

            pub short_lent : Lent s m₁ j
            short_lent = record { sized = sized₁; there = g.postman }

            pub short_is : {m₂ : List ℕ} → m₂ ≡ with_node s m₁ j (counted (node s m₁ j) room_at) → did m₂ (Stopped 5) ≡ copied_in s j m i
            unfolding copied_in
            short_is {m₂} f =
                let d : enough s (node s m j) (needs s (told_length s (node s m i) (first_of s j m i))) ≡ false = rw (en, et, ex) at not-enough in
                let h : m₂ ≡ with_node s m j (counted (node s m j) room_at) = rw same at f in
                rw (d, h)

          -- space taken from block c on
          module _ {c : ℕ} (e : a ≡ Some c) where
            has : (enough s (node s m j) n ≡ true) × (Some (get_or (node s m j) 0 0) ≡ Some c)
            unfolding taken_answer
            has = told_yes (enough s (node s m j) n) (Some (get_or (node s m j) 0 0)) None a ea (Some c) (λ q. let z : ◌≡◌ {A = ℕ} 0 1 = cc in omega arith) e

            begins : c ≡ get_or (node s m j) first_free_at 0
            begins = let h = has.1 in cc

            room : n ≤ length (free s (node s m j))
            unfolding enough
            room = leb-true n (length (free s (node s m j))) has.0

            there : node s m₁ j ≡ u
            there = rw em (node_with s m waits-sized.long j g.postman u u_long)

            kept : node s m₁ i ≡ node s m i
            kept = rw em (with_node_lem s m waits-sized.long j g.postman u u_long i ∙ put_other (node s m) j u i apart)

            to : Lies s (node s m₁ j) t c
            to =
                rw (there, begins)
                (lies_chained s u t (get_or (node s m j) 0 0) (taken-stretch s (node s m j) stj n) waits-most
                (rw (← en) (take_chained s (node s m j) stj (stood_free s m j at_rest g j g.postman) n some room)))

            pub first_copies : Copies s m₁ t i x j c
            first_copies = record { sized = sized₁; source = w.there; destination = g.postman; apart = apart; from = rw kept lies; to = to }

            pub first_is : {m₂ : List ℕ} → m₂ ≡ copied s m₁ t i x j c → did m₂ Done ≡ copied_in s j m i
            unfolding copied_in
            first_is {m₂} f =
                let d : enough s (node s m j) (needs s (told_length s (node s m i) (first_of s j m i))) ≡ true = rw (en, et, ex) at has.0 in
                rw (d, f, em, begins, en, et, ex)
