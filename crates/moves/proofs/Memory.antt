-- A node's stretch put anew in a memory: its rows, its words before the stretches, its length. Assumes nothing.
--     rows_with     the rows of that node are the new stretch's, and no other row changes (rows_away)
--     row_with     a stretch that differs in one row
--     node_with, with_with     what was put is there, and may be put anew
--     with_long, with_word, with_settings, with_table     length, and words before the stretches, stay
--     set-node, set_rows, set-settings, set-table     a word before the stretches stored
use mathlib.Core.Path.{◌≡◌, sym, ap, ap₂, ◌∙◌, fun_ext}
use mathlib.Core.List.{List}
use Prim.Native.Nat.{ℕ, ◌+◌, ◌-◌, ◌≤◌, ◌<◌}
use native.Mathlib.Omega.{arith}
use lib.ListN.{length, get_or, set, take}
use lib.Seq.{get_or-take, get_or-set_other, drop-set-lt}
use Rattle.words.specs.Words.{splice}
use Rattle.words.specs.Rows.{row}
use Rattle.words.proofs.Lists.{put, put_same, put_other, same?}
use Rattle.words.proofs.Parts.{length-splice, take-splice, splice-splice, part_before}
use Rattle.words.proofs.Rows.{But, row-splice}
use Rattle.settings.specs.declared.Settings.{Settings}
use Rattle.layout.specs.Places.{node_size, node_at, node_end, memory_size, node, with_node}
use Rattle.layout.specs.Rows.{width, memory_width}
use Rattle.layout.proofs.MemoryRows.{stretch-fits, start-stretch, width-stretch}
use Rattle.blocks.proofs.Rows.{rows}
use Rattle.sound.specs.Reading.{settings_in, table_in}
use Rattle.machine.specs.Core.{rows_of}
use Rattle.moves.proofs.Made.{put_row}

-- a stretch starts behind the words before the stretches
stretch_from : (s : Settings) (i : ℕ) → 536 ≤ node_at s i
unfolding node_at
stretch_from s i = omega arith

-- a node's stretch is a row of the memory
pub node_row : (s : Settings) (memory : List ℕ) (k : ℕ) → node s memory k ≡ row (memory_width s) memory (9 + k)
unfolding row
node_row s memory k =
    let d : node_end s k - node_at s k ≡ node_size s = omega arith in
    rw (d, start-stretch s k, width-stretch s k)

module _ (s : Settings) (memory : List ℕ) (size : length memory ≡ memory_size s) (j : ℕ) (h : j < 6) (l : List ℕ) (long : length l ≡ node_size s) where
  inside : node_end s j ≤ length memory
  inside = rw size (stretch-fits s j h)

  fits : length l ≡ node_end s j - node_at s j
  fits = omega arith

  with_rows : row (memory_width s) (with_node s memory j l) ≡ put (row (memory_width s) memory) (9 + j) l
  with_rows =
      ap₂ (λ (a w : ℕ). row (memory_width s) (splice memory a (a + w) l)) (sym (start-stretch s j)) (sym (width-stretch s j))
      ∙ row-splice (memory_width s) memory (9 + j) l (rw (start-stretch s j, width-stretch s j) inside) (rw (width-stretch s j) long)

  pub with_node_lem : (k : ℕ) → node s (with_node s memory j l) k ≡ put (node s memory) j l k
  with_node_lem k =
      node_row s (with_node s memory j l) k
      ∙ ap (λ (f : ℕ → List ℕ). f (9 + k)) with_rows
      ∙ same? k j
      (λ e t. rw (e, put_same (row (memory_width s) memory) (9 + j) l, put_same (node s memory) j l))
      (λ e t. put_other (row (memory_width s) memory) (9 + j) l (9 + k) (λ z. e (omega arith)) ∙ sym (node_row s memory k) ∙ sym (put_other (node s memory) j l k e))

  pub rows_with : rows_of s (with_node s memory j l) ≡ put (rows_of s memory) j (rows s l)
  rows_with =
      fun_ext (λ k.
      ap (rows s) (with_node_lem k) ∙ same? k j (λ e t. rw t) (λ e t. rw t))

  pub row_with : (r : ℕ) (w : List ℕ) → But (width s) (node s memory j) r l w → rows_of s (with_node s memory j l) ≡ put_row (rows_of s memory) j r w
  unfolding put_row
  row_with r w b = rows_with ∙ ap (put (rows_of s memory) j) b.rows

  pub rows_away : (k r : ℕ) → (k ≡ j → ⊥) → rows_of s (with_node s memory j l) k r ≡ rows_of s memory k r
  rows_away k r n = ap (λ (Q : ℕ → ℕ → List ℕ). Q k r) rows_with ∙ ap (λ (g : ℕ → List ℕ). g r) (put_other (rows_of s memory) j (rows s l) k n)

  pub node_with : node s (with_node s memory j l) j ≡ l
  node_with = with_node_lem j ∙ put_same (node s memory) j l

  pub with_with : (l' : List ℕ) → with_node s (with_node s memory j l) j l' ≡ with_node s memory j l'
  with_with l' = splice-splice memory (node_at s j) (node_end s j) (omega arith) inside l fits l'

  -- ---- what stays
  pub with_long : length (with_node s memory j l) ≡ length memory
  with_long = length-splice memory (node_at s j) (node_end s j) (omega arith) inside l fits

  front : 536 ≤ node_at s j
  front = stretch_from s j

  pub with_word : (k : ℕ) → k < 536 → get_or (with_node s memory j l) k 0 ≡ get_or memory k 0
  with_word k g =
      let f = front in
      sym (get_or-take (node_at s j) (with_node s memory j l) k 0 (omega arith))
      ∙ ap (λ (x : List ℕ). get_or x k 0) (take-splice memory (node_at s j) (node_end s j) (omega arith) inside l fits)
      ∙ get_or-take (node_at s j) memory k 0 (omega arith)

  pub with_settings : settings_in (with_node s memory j l) ≡ settings_in memory
  with_settings =
      let g : (k : ℕ) → k < 536 → get_or (with_node s memory j l) k 0 ≡ get_or memory k 0 = with_word in
      rw (g 0 (omega arith), g 1 (omega arith), g 2 (omega arith), g 3 (omega arith), g 4 (omega arith))

  pub with_table : table_in (with_node s memory j l) ≡ table_in memory
  with_table = part_before memory (node_at s j) (node_end s j) (omega arith) inside l fits 24 536 (omega arith) front

-- ---- A WORD BEFORE THE STRETCHES STORED: whose turn, a position
module _ (s : Settings) (memory : List ℕ) (k v : ℕ) (h : k < 536) where
  pub set-node : (i : ℕ) → node s (set memory k v) i ≡ node s memory i
  set-node i = let f = stretch_from s i in ap (take (node_end s i - node_at s i)) (drop-set-lt (node_at s i) memory k v (omega arith))

  pub set_rows : rows_of s (set memory k v) ≡ rows_of s memory
  set_rows = fun_ext (λ i. ap (rows s) (set-node i))

-- before the table, behind the settings
module _ (memory : List ℕ) (k v : ℕ) (lo : 5 ≤ k) (hi : k < 24) where
  pub set-settings : settings_in (set memory k v) ≡ settings_in memory
  set-settings =
      let g : (j : ℕ) → j < 5 → get_or (set memory k v) j 0 ≡ get_or memory j 0 = λ j a. get_or-set_other memory k j v 0 (λ e. omega arith) in
      rw (g 0 (omega arith), g 1 (omega arith), g 2 (omega arith), g 3 (omega arith), g 4 (omega arith))

  pub set-table : table_in (set memory k v) ≡ table_in memory
  set-table = ap (take (536 - 24)) (drop-set-lt 24 memory k v hi)
