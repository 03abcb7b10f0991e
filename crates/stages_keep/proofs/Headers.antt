-- What a right letter's header and place say of its tasks and their nodes. Assumes nothing.
use mathlib.Core.Path.{◌≡◌, sym, ap, ◌∙◌}
use mathlib.Core.Bool.{true}
use mathlib.Core.List.{List}
use Prim.Native.Nat.{ℕ, ◌+◌, ◌-◌, ◌<◌}
use native.Mathlib.Omega.{arith}
use lib.Dec.{eqb}
use lib.ListN.{get_or}
use borrow.Author.Tests.{eqb-true}
use Rattle.words.proofs.Lists.{and-true}
use Rattle.layout.specs.Numbers.{source_task_word, source_node_word, destination_task_word, destination_node_word}
use Rattle.layout.proofs.NodeRows.{by-send, by_task}
use Rattle.tasks.specs.Table.{node_of, queue_of, is_bound, right_table}
use Rattle.tasks.proofs.Laws.{seat_below}
use Rattle.sound.specs.Queues.{task_of}
use Rattle.sound.specs.Letters.{right_header, from_to, right_place}
use Rattle.moves.proofs.Seats.{task_is}

-- 'a header of bound tasks on their nodes'
pub record Header (table ws : List ℕ) : Type 0 where
  pub source : is_bound table (get_or ws source_task_word 0) ≡ true
  pub from : node_of table (get_or ws source_task_word 0) ≡ get_or ws source_node_word 0
  pub destination : is_bound table (get_or ws destination_task_word 0) ≡ true
  pub to : node_of table (get_or ws destination_task_word 0) ≡ get_or ws destination_node_word 0

pub header-says : (table ws : List ℕ) → right_header table ws ≡ true → Header table ws
unfolding right_header
header-says table ws h =
    let x = and-true (is_bound table (get_or ws 0 0)) _ h in
    let y = and-true (eqb (node_of table (get_or ws 0 0)) (get_or ws 1 0)) _ x.1 in
    let z = and-true (is_bound table (get_or ws 2 0)) _ y.1 in
    record {
      source = x.0;
      from = eqb-true (node_of table (get_or ws 0 0)) (get_or ws 1 0) y.0;
      destination = z.0;
      to = eqb-true (node_of table (get_or ws 2 0)) (get_or ws 3 0) z.1;
    }

-- 'Send queue k on i: from i to k'
pub send-says : (table : List ℕ) (i k : ℕ) (ws : List ℕ) → k < 6 → right_place table i (1 + k) ws ≡ true → (get_or ws source_node_word 0 ≡ i) × (get_or ws destination_node_word 0 ≡ k)
unfolding right_place
send-says table i k ws h p =
    let e : 1 + k - 1 ≡ k = omega arith in
    let x : from_to i k ws ≡ true =
    ap (λ (n : ℕ). from_to i n ws) (sym e) ∙ sym (by-send (1 + k) true (from_to i (1 + k - 1) ws) (from_to i (1 + k - 7) ws) (eqb (get_or ws 2 0) (task_of table i (1 + k - 13))) true (omega arith) (omega arith)) ∙ p in
    let y = and-true (eqb (get_or ws 1 0) i) (eqb (get_or ws 3 0) k) x in
    (eqb-true (get_or ws 1 0) i y.0, eqb-true (get_or ws 3 0) k y.1)

-- 'A task queue: that task'
pub task_says : (table : List ℕ) → right_table table ≡ true → (b : ℕ) → is_bound table b ≡ true → (ws : List ℕ) → right_place table (node_of table b) (13 + queue_of table b) ws ≡ true → get_or ws destination_task_word 0 ≡ b
unfolding right_place
task_says table right b bound ws p =
    let i : ℕ = node_of table b in
    let q : ℕ = queue_of table b in
    let h = seat_below table b right bound in
    let d : 13 + queue_of table b - 13 ≡ queue_of table b = omega arith in
    eqb-true (get_or ws 2 0) b
    (ap (eqb (get_or ws 2 0)) (sym (ap (task_of table i) d ∙ task_is table right b bound))
    ∙ sym (by_task (13 + q) true (from_to i (13 + q - 1) ws) (from_to i (13 + q - 7) ws) (eqb (get_or ws 2 0) (task_of table i (13 + q - 13))) true (omega arith) (omega (arith, h.1)))
    ∙ p)
