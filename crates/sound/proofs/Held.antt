-- What a sound memory gives of each letter: those that task queues and send queues begin. Assumes nothing.
use mathlib.Core.Path.{◌≡◌, ap, ◌∙◌}
use mathlib.Core.Bool.{Bool, true, ◌&&◌}
use mathlib.Core.List.{List, [], ◌∷◌}
use Prim.Native.Nat.{ℕ, zero, suc, ◌+◌, ◌-◌, ◌≤◌, ◌<◌}
use native.Mathlib.Omega.{arith}
use lib.Dec.{eqb, leb}
use lib.ListN.{length, get_or}
use borrow.Author.Tests.{ne_eqb, leb-true}
use Rattle.words.specs.Words.{all}
use Rattle.words.proofs.Lists.{split, and-true, every_at, all_head, all_at}
use Rattle.settings.specs.declared.Settings.{Settings}
use Rattle.layout.specs.Places.{node}
use Rattle.layout.specs.Rows.{by_row}
use Rattle.layout.proofs.NodeRows.{by-send, by_task}
use Rattle.queues.specs.Items.{live}
use Rattle.sound.specs.Reading.{settings_in, table_in, send_items, ack_items, task_items}
use Rattle.sound.specs.Letters.{ends_well, right_length, words_from, right_header, right_place, right_letter}
use Rattle.sound.specs.Positions.{held}
use Rattle.sound.specs.Blocks.{begun, right_letters}
use Rattle.sound.specs.Sound.{sound}
use Rattle.sound.proofs.Gives.{gives_letters, gives_send-items, gives_task_items}

-- the four parts of the sixth rule, of one letter
pub record Right (s : Settings) (w table : List ℕ) (i p b : ℕ) : Type 0 where
  pub ends : ends_well s w b ≡ true
  pub long : right_length s w b ≡ true
  pub header : right_header table (words_from s w b) ≡ true
  pub place : right_place table i p (words_from s w b) ≡ true

pub right_parts : (s : Settings) (w table : List ℕ) (i p b : ℕ) → right_letter s w table i p b ≡ true → Right s w table i p b
unfolding right_letter
right_parts s w table i p b e =
    let a = and-true (ends_well s w b) _ e in
    let c = and-true (right_length s w b) _ a.1 in
    let d = and-true (right_header table (words_from s w b)) (right_place table i p (words_from s w b)) c.1 in
    record { ends = a.0; long = c.0; header = d.0; place = d.1 }

-- what holds of the live items holds of each item that is not 0
live_at : (p : ℕ → Bool) (xs : List ℕ) → all p (live xs) ≡ true → (k : ℕ) → k < length xs → (get_or xs k 0 ≡ 0 → ⊥) → p (get_or xs k 0) ≡ true
unfolding live
live_at p [] e k h n = absurd (omega arith)
live_at p (x ∷ xs) e zero h n = (all_head p x (live xs) (rw (ne_eqb x 0 n) at e)).0
live_at p (x ∷ xs) e (suc k) h n =
    split (eqb x 0)
    (λ t. live_at p xs (rw t at e) k (omega arith) n)
    (λ t. live_at p xs (all_head p x (live xs) (rw t at e)).1 k (omega arith) n)

module _ (memory : List ℕ) (e : sound memory ≡ true) (i : ℕ) (h : i < 6) where
  abbrev s : Settings
  s = settings_in memory

  abbrev test : ℕ → ℕ → Bool
  test p = right_letter s (node s memory i) (table_in memory) i p

  pub gives_at : (p : ℕ) → p < 77 → all (test p) (begun s memory i p) ≡ true
  unfolding right_letters
  gives_at p l = every_at (λ p. all (test p) (begun s memory i p)) 77 (gives_letters memory e i h) p l

  -- ---- the letters of send queue k
  module _ (k : ℕ) (g : k < 6) (n : ℕ) (l : n < length (send_items s memory i k)) where
    abbrev sent : ℕ
    sent = get_or (send_items s memory i k) n 0

    pub send_right : Right s (node s memory i) (table_in memory) i (1 + k) sent
    unfolding begun
    send_right =
        let d : 1 + k - 1 ≡ k = omega arith in
        let q : by_row (1 + k) (held s memory i) (send_items s memory i (1 + k - 1)) (ack_items s memory (1 + k - 7) i) (live (task_items s memory i (1 + k - 13))) [] ≡ send_items s memory i k =
        by-send (1 + k) (held s memory i) (send_items s memory i (1 + k - 1)) (ack_items s memory (1 + k - 7) i) (live (task_items s memory i (1 + k - 13))) [] (omega arith) (omega arith)
        ∙ ap (send_items s memory i) d in
        right_parts s (node s memory i) (table_in memory) i (1 + k) sent (all_at (test (1 + k)) (send_items s memory i k) (rw q at (gives_at (1 + k) (omega arith))) n l)

    pub send-block : (1 ≤ sent) × (sent ≤ s.m)
    send-block =
        let a = and-true (leb 1 sent) (leb sent s.m) (all_at (λ b. leb 1 b && leb b s.m) (send_items s memory i k) (gives_send-items memory e i h k g) n l) in
        (leb-true 1 sent a.0, leb-true sent s.m a.1)

  -- ---- the letters of task queue q: the items that are not 0
  module _ (q : ℕ) (g : q < 64) (n : ℕ) (l : n < length (task_items s memory i q)) where
    abbrev kept : ℕ
    kept = get_or (task_items s memory i q) n 0

    pub task_most : kept ≤ s.m
    task_most = leb-true kept s.m (all_at (λ b. leb b s.m) (task_items s memory i q) (gives_task_items memory e i h q g) n l)

    pub task_right : (kept ≡ 0 → ⊥) → Right s (node s memory i) (table_in memory) i (13 + q) kept
    unfolding begun
    task_right z =
        let d : 13 + q - 13 ≡ q = omega arith in
        let f : by_row (13 + q) (held s memory i) (send_items s memory i (13 + q - 1)) (ack_items s memory (13 + q - 7) i) (live (task_items s memory i (13 + q - 13))) [] ≡ live (task_items s memory i q) =
        by_task (13 + q) (held s memory i) (send_items s memory i (13 + q - 1)) (ack_items s memory (13 + q - 7) i) (live (task_items s memory i (13 + q - 13))) [] (omega arith) (omega arith)
        ∙ ap (λ (x : ℕ). live (task_items s memory i x)) d in
        right_parts s (node s memory i) (table_in memory) i (13 + q) kept
        (live_at (test (13 + q)) (task_items s memory i q) (rw f at (gives_at (13 + q) (omega arith))) n l z)
