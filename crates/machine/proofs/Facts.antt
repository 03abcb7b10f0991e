-- A sound memory's test taken apart into the rules, for each node, queue and place; and put together again. Assumes nothing.
use mathlib.Core.Path.{◌≡◌}
use mathlib.Core.Bool.{true, ◌&&◌}
use mathlib.Core.List.{List}
use Prim.Native.Nat.{ℕ, ◌≤◌, ◌<◌}
use lib.Dec.{eqb, leb}
use lib.ListN.{length}
use borrow.Author.Tests.{leb-true, le-leb, eqb-true, eq-eqb}
use Rattle.words.specs.Words.{every, all}
use Rattle.words.proofs.Lists.{and-true, and-join, every_at, every_all}
use Rattle.settings.specs.declared.Settings.{Settings}
use Rattle.settings.specs.Range.{in_range, InRange}
use Rattle.settings.proofs.Laws.{range-true, true-range}
use Rattle.layout.specs.Places.{nodes, node, memory_size}
use Rattle.tasks.specs.Table.{right_table}
use Rattle.sound.specs.Reading.{settings_in, turn_in, table_in}
use Rattle.sound.specs.Queues.{right_send, right_ack, right_task, right_queues}
use Rattle.sound.specs.Letters.{right_letter}
use Rattle.sound.specs.Positions.{right_position}
use Rattle.sound.specs.Blocks.{begun, each_once, right_letters}
use Rattle.sound.specs.Sound.{right_size, sound}

pub record Facts (s : Settings) (memory : List ℕ) : Type 0 where
  pub range : InRange s
  pub size : length memory ≡ memory_size s
  pub turn : turn_in memory ≤ 5
  pub table : right_table (table_in memory) ≡ true
  pub sends : (i k : ℕ) → i < 6 → k < 6 → right_send s memory i k ≡ true
  pub acks : (i k : ℕ) → i < 6 → k < 6 → right_ack s memory i k ≡ true
  pub tasks : (i q : ℕ) → i < 6 → q < 64 → right_task s memory i q ≡ true
  pub positions : (j : ℕ) → j < 6 → right_position s memory j ≡ true
  pub onces : (i : ℕ) → i < 6 → each_once s memory i ≡ true
  pub letters : (i p : ℕ) → i < 6 → p < 77 → all (right_letter s (node s memory i) (table_in memory) i p) (begun s memory i p) ≡ true

module _ (memory : List ℕ) where
  abbrev s : Settings
  s = settings_in memory

  pub sound_facts : sound memory ≡ true → Facts (settings_in memory) memory
  unfolding sound right_size right_queues right_letters
  sound_facts e =
      let a = and-true (right_size memory) _ e in
      let b = and-true (right_table (table_in memory)) _ a.1 in
      let c = and-true (every nodes (right_queues s memory)) _ b.1 in
      let d = and-true (every nodes (right_position s memory)) _ c.1 in
      let f = and-true (every nodes (each_once s memory)) (every nodes (right_letters s memory)) d.1 in
      let z = and-true (in_range s) (eqb (length memory) (memory_size s) && leb (turn_in memory) 5) a.0 in
      let y = and-true (eqb (length memory) (memory_size s)) (leb (turn_in memory) 5) z.1 in
      record {
        range = range-true s z.0;
        size = eqb-true (length memory) (memory_size s) y.0;
        turn = leb-true (turn_in memory) 5 y.1;
        table = b.0;
        sends = λ i k h g. every_at (right_send s memory i) 6 (queues c.0 i h).0 k g;
        acks = λ i k h g. every_at (right_ack s memory i) 6 (and-true (every 6 (right_ack s memory i)) (every 64 (right_task s memory i)) (queues c.0 i h).1).0 k g;
        tasks = λ i q h g. every_at (right_task s memory i) 64 (and-true (every 6 (right_ack s memory i)) (every 64 (right_task s memory i)) (queues c.0 i h).1).1 q g;
        positions = λ j h. every_at (right_position s memory) 6 d.0 j h;
        onces = λ i h. every_at (each_once s memory) 6 f.0 i h;
        letters = λ i p h g. every_at (λ p. all (right_letter s (node s memory i) (table_in memory) i p) (begun s memory i p)) 77 (every_at (right_letters s memory) 6 f.1 i h) p g;
      }
    where
      queues : every nodes (right_queues s memory) ≡ true → (i : ℕ) → i < 6
          → (every 6 (right_send s memory i) ≡ true) × (every 6 (right_ack s memory i) && every 64 (right_task s memory i) ≡ true)
      queues e i h =
          and-true (every 6 (right_send s memory i)) (every 6 (right_ack s memory i) && every 64 (right_task s memory i)) (every_at (right_queues s memory) 6 e i h)

  pub facts_sound : Facts (settings_in memory) memory → sound memory ≡ true
  unfolding sound right_size right_queues right_letters
  facts_sound f =
      and-join (right_size memory) _
      (and-join (in_range s) _ (true-range s f.range)
      (and-join (eqb (length memory) (memory_size s)) (leb (turn_in memory) 5) (eq-eqb (length memory) (memory_size s) f.size) (le-leb (turn_in memory) 5 f.turn)))
      (and-join (right_table (table_in memory)) _ f.table
      (and-join (every 6 (right_queues s memory)) _
      (every_all (right_queues s memory) 6 (λ i h.
      and-join (every 6 (right_send s memory i)) _ (every_all (right_send s memory i) 6 (λ k g. f.sends i k h g))
      (and-join (every 6 (right_ack s memory i)) (every 64 (right_task s memory i)) (every_all (right_ack s memory i) 6 (λ k g. f.acks i k h g))
      (every_all (right_task s memory i) 64 (λ q g. f.tasks i q h g)))))
      (and-join (every 6 (right_position s memory)) _ (every_all (right_position s memory) 6 f.positions)
      (and-join (every 6 (each_once s memory)) (every 6 (right_letters s memory)) (every_all (each_once s memory) 6 f.onces)
      (every_all (right_letters s memory) 6 (λ i h.
      every_all (λ p. all (right_letter s (node s memory i) (table_in memory) i p) (begun s memory i p)) 77 (λ p g. f.letters i p h g)))))))
