-- The rows of the memory start where the document puts them; every place lies in the memory, and different places are different. Assumes nothing.
use mathlib.Core.Path.{◌≡◌, refl, ap, ◌∙◌}
use Prim.Native.Nat.{ℕ, ◌+◌, ◌*◌, ◌≤◌, ◌<◌}
use native.Mathlib.Omega.{arith}
use borrow.Author.Tests.{lt-ltb, le-ltb}
use Rattle.words.specs.Rows.{start}
use Rattle.words.proofs.Rows.{start_add, start_lt, place_same, place_in}
use Rattle.settings.specs.declared.Settings.{Settings}
use Rattle.layout.specs.Places.{turn_at, position_words, position_at, table_at, table_words, node_size, node_at, memory_size}
use Rattle.layout.specs.Rows.{by_memory_row, memory_width, width}
use Rattle.layout.proofs.NodeRows.{row_fits}

module _ {ℓ} {X : Type ℓ} (r : ℕ) (c t p l n : X) where
  pub by_turn : 1 ≤ r → r < 2 → by_memory_row r c t p l n ≡ t
  by_turn h k = rw (le-ltb r 1 h, lt-ltb r 2 k)

  pub by_position : 2 ≤ r → r < 8 → by_memory_row r c t p l n ≡ p
  by_position h k = rw (le-ltb r 1 (omega arith), le-ltb r 2 h, lt-ltb r 8 k)

  pub by-table : 8 ≤ r → r < 9 → by_memory_row r c t p l n ≡ l
  by-table h k = rw (le-ltb r 1 (omega arith), le-ltb r 2 (omega arith), le-ltb r 8 h, lt-ltb r 9 k)

  pub by-stretch : 9 ≤ r → by_memory_row r c t p l n ≡ n
  by-stretch h = rw (le-ltb r 1 (omega arith), le-ltb r 2 (omega arith), le-ltb r 8 (omega arith), le-ltb r 9 h)

module _ (s : Settings) where
  pub width_position : (i : ℕ) → i < 6 → memory_width s (2 + i) ≡ position_words
  unfolding memory_width
  width_position i h = by_position (2 + i) 5 1 3 512 (node_size s) (omega arith) (omega arith)

  pub width-table : memory_width s 8 ≡ table_words
  unfolding memory_width
  width-table = refl

  pub width-stretch : (i : ℕ) → memory_width s (9 + i) ≡ node_size s
  unfolding memory_width
  width-stretch i = by-stretch (9 + i) 5 1 3 512 (node_size s) (omega arith)

  pub start-turn : start (memory_width s) 1 ≡ turn_at
  unfolding start memory_width
  start-turn = refl

  pub start_position : (i : ℕ) → i ≤ 6 → start (memory_width s) (2 + i) ≡ position_at i
  unfolding start memory_width
  start_position i h = start_add (memory_width s) 2 3 i (λ j l. width_position j (omega arith))

  pub start-table : start (memory_width s) 8 ≡ table_at
  start-table = start_position 6 (omega arith)

  pub start-stretch : (i : ℕ) → start (memory_width s) (9 + i) ≡ node_at s i
  unfolding node_at start memory_width
  start-stretch i =
      start_add (memory_width s) 9 (node_size s) i (λ j l. width-stretch j)
      ∙ ap (λ x. x + 512 + i * node_size s) start-table

  pub start_all : start (memory_width s) 15 ≡ memory_size s
  unfolding memory_size node_at
  start_all = start-stretch 6

  -- node i's stretch lies in the memory
  pub stretch-fits : (i : ℕ) → i < 6 → node_at s i + node_size s ≤ memory_size s
  stretch-fits i h = omega (arith, start_lt (memory_width s) (9 + i) 15 (omega arith), start-stretch i, width-stretch i, start_all)

  -- EVERY PLACE LIES IN THE MEMORY: word k of row r, and word k of row r of node i's stretch
  pub word_in : (r k : ℕ) → r < 15 → k < memory_width s r → start (memory_width s) r + k < memory_size s
  word_in r k h g = rw (← start_all) (place_in (memory_width s) 15 r k h g)

  pub node-word_in : (i r k : ℕ) → i < 6 → r < 77 + s.m → k < width s r → node_at s i + (start (width s) r + k) < memory_size s
  node-word_in i r k h g l = omega (arith, stretch-fits i h, row_fits s r g)

  -- DIFFERENT PLACES ARE DIFFERENT
  pub word_same : (r k r' k' : ℕ) → k < memory_width s r → k' < memory_width s r'
      → start (memory_width s) r + k ≡ start (memory_width s) r' + k' → (r ≡ r') × (k ≡ k')
  word_same r k r' k' = place_same (memory_width s) r k r' k'

  pub node-word_same : (i r k i' r' k' : ℕ) → r < 77 + s.m → r' < 77 + s.m → k < width s r → k' < width s r'
      → node_at s i + (start (width s) r + k) ≡ node_at s i' + (start (width s) r' + k') → (i ≡ i') × ((r ≡ r') × (k ≡ k'))
  node-word_same i r k i' r' k' g g' l l' e =
      let f = row_fits s r g in
      let f' = row_fits s r' g' in
      let x : start (width s) r + k < memory_width s (9 + i) = rw (width-stretch i) (omega arith) in
      let x' : start (width s) r' + k' < memory_width s (9 + i') = rw (width-stretch i') (omega arith) in
      let y : start (memory_width s) (9 + i) + (start (width s) r + k) ≡ start (memory_width s) (9 + i') + (start (width s) r' + k') =
      rw (start-stretch i, start-stretch i') e in
      let n = place_same (memory_width s) (9 + i) (start (width s) r + k) (9 + i') (start (width s) r' + k') x x' y in
      (omega arith, place_same (width s) r k r' k' l l' n.1)
