-- What stands at each place of a node, and what the place asks for. Assumes nothing.
use mathlib.Core.Path.{◌≡◌, refl, sym, ap, ◌∙◌}
use mathlib.Core.Bool.{Bool, true, cond, ◌&&◌}
use mathlib.Core.List.{List, [], ◌∷◌}
use Prim.Native.Nat.{ℕ, ◌-◌, ◌≤◌, ◌<◌}
use native.Mathlib.Omega.{arith}
use lib.Dec.{eqb, leb}
use lib.ListN.{get_or}
use borrow.Author.Tests.{eq-eqb, ne_eqb, leb-true}
use mathlib.Core.Logic.{⊎_elim}
use Rattle.words.proofs.Lists.{and-true, le_or_lt}
use Rattle.settings.specs.declared.Settings.{Settings}
use Rattle.layout.specs.Places.{nodes, task_queues, node, send_at, ack_at, task_at}
use Rattle.layout.proofs.NodeRows.{by-send, by_ack, by_task}
use Rattle.tasks.specs.Seat.{seat_at}
use Rattle.queues.specs.Queue.{send_kind, ack_kind, task_kind, contents}
use Rattle.queues.specs.Items.{live}
use Rattle.queues.proofs.Items.{live_cons}
use Rattle.sound.specs.Reading.{table_in, stage_of, held_of, send_items, ack_items, task_items}
use Rattle.sound.specs.Queues.{task_of}
use Rattle.sound.specs.Letters.{words_from, right_place, from_to, right_letter}
use Rattle.sound.specs.Positions.{names_other, held}
use Rattle.sound.specs.Blocks.{begun, chains}
use Rattle.sound.proofs.Given.{send-queue, send-live, ack_queue, ack_live, task_queue}
use Rattle.sound.proofs.Tests.{all_same}
use Rattle.shapes.specs.Seats.{Seats}
use Rattle.visits.specs.declared.Asks.{Asks}
use Rattle.visits.specs.declared.Asks.TheVariants.{Any, Between, To}
use Rattle.visits.specs.Marks.{fresh, marked}
use Rattle.visits.specs.Letters.{is_asked, meets, letter_right, letters_right, Judged}
use Rattle.visits.proofs.Judge.{right_none, marks_none}
use Rattle.places.specs.declared.Place.{Place}
use Rattle.places.specs.Given.{stands_right, Looked, begun_at, Stands}
use Rattle.places.proofs.Seen.{place_right}

-- ---- what was judged of letters at a place that asks what the rules ask for there
module _ (s : Settings) (memory : List ℕ) (i p : ℕ) (asks : Asks) (h : (ws : List ℕ) → meets asks ws ≡ right_place (table_in memory) i p ws) where
  same_letter : (b : ℕ) → letter_right s (node s memory i) (table_in memory) asks b ≡ right_letter s (node s memory i) (table_in memory) i p b
  unfolding letter_right right_letter
  same_letter b = rw (h (words_from s (node s memory i) b))

  pub judged_place : (marks bs : List ℕ) (r : Bool) (new : List ℕ) → bs ≡ begun s memory i p
      → Judged (letters_right s (node s memory i) (table_in memory) asks marks bs) (marked marks (chains s (node s memory i) bs)) r new
      → Judged (place_right s memory i marks p) (marked marks (chains s (node s memory i) (begun s memory i p))) r new
  unfolding letters_right
  judged_place marks bs r new e v =
      let w = rw e at v in
      record {
        is = w.is ∙ ap (λ (b : Bool). b && fresh marks (chains s (node s memory i) (begun s memory i p)))
            (all_same (letter_right s (node s memory i) (table_in memory) asks) (right_letter s (node s memory i) (table_in memory) i p) (begun s memory i p) same_letter);
        marks = w.marks;
      }

-- what was judged through parts that were lent
pub judged_lent : (s : Settings) (memory : List ℕ) (i : ℕ) (x : Place) (l t queue : List ℕ) → l ≡ node s memory i → t ≡ table_in memory → queue ≡ node s memory x.holder
    → (marks : List ℕ) (r : Bool) (new : List ℕ)
    → Judged (letters_right s l t x.asks marks (live (contents x.queue.kind queue x.queue.at))) (marked marks (chains s l (live (contents x.queue.kind queue x.queue.at)))) r new
    → Judged (letters_right s (node s memory i) (table_in memory) x.asks marks (begun_at s memory x)) (marked marks (chains s (node s memory i) (begun_at s memory x))) r new
judged_lent s memory i x l t queue el et eq marks r new v = rw (el, et, eq) at v

-- ---- the hand
module _ (s : Settings) (memory : List ℕ) (i : ℕ) (g : Looked s memory) (small : i < nodes) where
  begun-hand : begun s memory i 0 ≡ held s memory i
  unfolding begun
  begun-hand = refl

  pub hand_asks : (ws : List ℕ) → meets Any ws ≡ right_place (table_in memory) i 0 ws
  unfolding is_asked right_place
  hand_asks ws = refl

  pub hand_none : (marks : List ℕ) → (stage_of memory i ≡ 2 → ⊥) → Judged (place_right s memory i marks 0) (marked marks (chains s (node s memory i) (begun s memory i 0))) true marks
  unfolding held
  hand_none marks h =
      let e : [] ≡ begun s memory i 0 = sym (begun-hand ∙ rw (ne_eqb (stage_of memory i) 2 h)) in
      judged_place s memory i 0 Any hand_asks marks [] true marks e
      (record { is = sym (right_none s (node s memory i) (table_in memory) Any marks); marks = λ f. sym (marks_none s (node s memory i) (table_in memory) Any marks) })

  -- a block held is not 0
  held_some : stage_of memory i ≡ 2 → held_of memory i ≡ 0 → ⊥
  unfolding stands_right
  held_some e z =
      let r = g.positions i small in
      let a : leb (stage_of memory i) 3 && (names_other s memory i && cond (eqb (stage_of memory i) 2) (leb 1 (held_of memory i) && leb (held_of memory i) s.m) (eqb (held_of memory i) 0)) ≡ true =
      rw (ne_eqb (stage_of memory i) 0 (λ y. omega arith)) at r in
      let b = and-true (names_other s memory i) _ (and-true (leb (stage_of memory i) 3) _ a).1 in
      let c : leb 1 (held_of memory i) && leb (held_of memory i) s.m ≡ true = rw (eq-eqb (stage_of memory i) 2 e) at b.1 in
      let d = leb-true 1 (held_of memory i) (and-true (leb 1 (held_of memory i)) _ c).0 in
      omega arith

  pub begun-held : stage_of memory i ≡ 2 → live (held_of memory i ∷ []) ≡ begun s memory i 0
  unfolding held live
  begun-held e = live_cons (held_of memory i) [] (held_some e) ∙ sym (begun-hand ∙ rw (eq-eqb (stage_of memory i) 2 e))

-- ---- the places that are queues
-- what is known of a place
pub record At (s : Settings) (memory : List ℕ) (i p : ℕ) (x : Place) : Type 0 where
  pub stands : Stands s memory x
  pub begins : begun_at s memory x ≡ begun s memory i p
  pub asked : (ws : List ℕ) → meets x.asks ws ≡ right_place (table_in memory) i p ws

module _ (s : Settings) (memory : List ℕ) (i : ℕ) (g : Looked s memory) (small : i < nodes) (p : ℕ) where
  send-place : 1 ≤ p → p < 7 → At s memory i p (record { holder = i; queue = record { kind = send_kind s; at = send_at s (p - 1) }; asks = Between i (p - 1) })
  unfolding begun is_asked right_place
  send-place q h =
      let k : p - 1 < nodes = omega arith in
      record {
        stands = record { there = small; queue = send-queue s memory g.sized i small (g.queues i small) (p - 1) k };
        begins = send-live s memory g.sized i small (g.queues i small) (p - 1) k
            ∙ sym (by-send p _ (send_items s memory i (p - 1)) _ _ [] q h);
        asked = λ ws. sym (by-send p true (from_to i (p - 1) ws) (from_to i (p - 7) ws) (eqb (get_or ws 2 0) (task_of (table_in memory) i (p - 13))) true q h);
      }

  ack_place : 7 ≤ p → p < 13 → At s memory i p (record { holder = p - 7; queue = record { kind = ack_kind s; at = ack_at s i }; asks = Between i (p - 7) })
  unfolding begun is_asked right_place
  ack_place q h =
      let j : p - 7 < nodes = omega arith in
      record {
        stands = record { there = j; queue = ack_queue s memory g.sized (p - 7) j (g.queues (p - 7) j) i small };
        begins = ack_live s memory g.sized (p - 7) j (g.queues (p - 7) j) i small
            ∙ sym (by_ack p _ _ (ack_items s memory (p - 7) i) _ [] q h);
        asked = λ ws. sym (by_ack p true (from_to i (p - 1) ws) (from_to i (p - 7) ws) (eqb (get_or ws 2 0) (task_of (table_in memory) i (p - 13))) true q h);
      }

  module _ (row : List ℕ) (seats : Seats (table_in memory) row) where
    task_place : 13 ≤ p → p < 77 → At s memory i p (record { holder = i; queue = record { kind = task_kind s; at = task_at s (p - 13) }; asks = To (get_or row (seat_at i (p - 13)) 0) })
    unfolding begun is_asked right_place
    task_place h e =
        let q : p - 13 < task_queues = omega arith in
        record {
          stands = record { there = small; queue = task_queue s memory g.sized i small (g.queues i small) (p - 13) q };
          begins = sym (by_task p _ _ _ (live (task_items s memory i (p - 13))) [] h e);
          asked = λ ws. ap (eqb (get_or ws 2 0)) (seats.is i (p - 13) small q)
              ∙ sym (by_task p true (from_to i (p - 1) ws) (from_to i (p - 7) ws) (eqb (get_or ws 2 0) (task_of (table_in memory) i (p - 13))) true h e);
        }

    pub place_is : 1 ≤ p → p < 77 → (x : Place)
        → (p < 7 → x ≡ record { holder = i; queue = record { kind = send_kind s; at = send_at s (p - 1) }; asks = Between i (p - 1) })
        → (7 ≤ p → p < 13 → x ≡ record { holder = p - 7; queue = record { kind = ack_kind s; at = ack_at s i }; asks = Between i (p - 7) })
        → (13 ≤ p → x ≡ record { holder = i; queue = record { kind = task_kind s; at = task_at s (p - 13) }; asks = To (get_or row (seat_at i (p - 13)) 0) })
        → At s memory i p x
    place_is q e x sends acks tasks =
        ⊎_elim (λ h. ⊎_elim (λ f. rw (tasks f) (task_place f e)) (λ f. rw (acks h f) (ack_place h f)) (le_or_lt 13 p))
        (λ h. rw (sends h) (send-place q h)) (le_or_lt 7 p)

-- what was judged of the letters of a place, by what is known of it
pub judged_at : (s : Settings) (memory : List ℕ) (i p : ℕ) (x : Place) → At s memory i p x → (marks : List ℕ) (r : Bool) (new : List ℕ)
    → Judged (letters_right s (node s memory i) (table_in memory) x.asks marks (begun_at s memory x)) (marked marks (chains s (node s memory i) (begun_at s memory x))) r new
    → Judged (place_right s memory i marks p) (marked marks (chains s (node s memory i) (begun s memory i p))) r new
judged_at s memory i p x k marks r new v = judged_place s memory i p x.asks k.asked marks (begun_at s memory x) r new k.begins v
