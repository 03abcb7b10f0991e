-- The letter that a send writes is right at the place to which it goes. Assumes nothing.
use mathlib.Core.Path.{◌≡◌, refl, sym, ap, ◌∙◌}
use mathlib.Core.Bool.{true, ◌&&◌}
use mathlib.Core.List.{List}
use Prim.Native.Nat.{ℕ, ◌+◌, ◌-◌, ◌≤◌, ◌<◌}
use native.Mathlib.Omega.{arith}
use lib.Dec.{eqb}
use lib.ListN.{length, get_or}
use borrow.Author.Tests.{eq-eqb}
use Rattle.words.proofs.Lists.{and-join}
use Rattle.layout.proofs.NodeRows.{by-send, by_task}
use Rattle.tasks.specs.Table.{node_of, queue_of, is_bound, right_table}
use Rattle.sound.specs.Queues.{task_of}
use Rattle.sound.specs.Letters.{right_header, from_to, right_place}
use Rattle.letters.specs.Made.{letter_of}
use Rattle.posting.specs.Letter.{header_of}
use Rattle.machine.specs.Represents.{Right}
use Rattle.moves.proofs.Seats.{task_is}

pub letter-long : (table : List ℕ) (source destination : ℕ) (body : List ℕ) → length (letter_of (header_of table source destination) body) ≡ 5 + length body
unfolding letter_of
letter-long table source destination body = omega arith

module _ (table : List ℕ) (r : right_table table ≡ true) (source destination : ℕ) (bs : is_bound table source ≡ true) (bd : is_bound table destination ≡ true) (body : List ℕ) where
  abbrev i : ℕ
  i = node_of table source

  abbrev o : ℕ
  o = node_of table destination

  abbrev q : ℕ
  q = queue_of table destination

  abbrev ws : List ℕ
  ws = letter_of (header_of table source destination) body

  header : right_header table ws ≡ true
  unfolding letter_of right_header
  header = rw (bs, bd, eq-eqb i i refl, eq-eqb o o refl)

  told : get_or ws 4 0 ≡ length ws
  unfolding letter_of
  told = omega arith

  right_at_lem : (p : ℕ) → length body ≤ 1019 → right_place table i p ws ≡ true → Right table i p ws
  right_at_lem p short e =
      record {
        least = omega (arith, letter-long table source destination body);
        most = omega (arith, letter-long table source destination body);
        told = told;
        header = header;
        place = e;
      }

  -- in the destination's task queue
  place_task : i ≡ o → q < 64 → right_place table i (13 + q) ws ≡ true
  unfolding letter_of right_place
  place_task e h =
      let p : ℕ = 13 + q in
      let z : 13 + q - 13 ≡ q = omega arith in
      by_task (13 + q) true (from_to i (13 + q - 1) ws) (from_to i (13 + q - 7) ws) (eqb destination (task_of table i (13 + q - 13))) true (omega arith) (omega arith)
      ∙ eq-eqb destination (task_of table i (13 + q - 13)) (sym (ap (λ (x : ℕ). task_of table i x) z ∙ ap (λ (x : ℕ). task_of table x q) e ∙ task_is table r destination bd))

  -- in the send queue for the destination's node
  place-send : o < 6 → right_place table i (1 + o) ws ≡ true
  unfolding letter_of right_place
  place-send h =
      let z : 1 + o - 1 ≡ o = omega arith in
      by-send (1 + o) true (eqb i i && eqb o (1 + o - 1)) (eqb i i && eqb o (1 + o - 7)) (eqb destination (task_of table i (1 + o - 13))) true (omega arith) (omega arith)
      ∙ and-join (eqb i i) (eqb o (1 + o - 1)) (eq-eqb i i refl) (eq-eqb o (1 + o - 1) (sym z))

  pub right_task_lem : length body ≤ 1019 → node_of table source ≡ node_of table destination → queue_of table destination < 64
      → Right table (node_of table source) (13 + queue_of table destination) (letter_of (header_of table source destination) body)
  right_task_lem short e h = right_at_lem (13 + q) short (place_task e h)

  pub right_send_lem : length body ≤ 1019 → node_of table destination < 6
      → Right table (node_of table source) (1 + node_of table destination) (letter_of (header_of table source destination) body)
  right_send_lem short h = right_at_lem (1 + o) short (place-send h)
