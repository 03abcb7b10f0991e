-- What holds of rows and nodes at every moment, inside a call too: each queue shows its letters' first blocks, each letter is read through
-- its chain, and every block stands in exactly one place.
use Rattle.std.specs.Prelude.{◌≡◌, List, ℕ, ◌+◌, ◌-◌, ◌≤◌, ◌<◌, length, take}
use Rattle.words.specs.Count.{occurs, sum, down_from}
use Rattle.settings.specs.declared.Settings.{Settings}
use Rattle.settings.specs.Range.{InRange}
use Rattle.layout.specs.Places.{node}
use Rattle.layout.specs.Rows.{by_row, width}
use Rattle.blocks.specs.Chain.{needs}
use Rattle.blocks.proofs.Chains.{Leads, text_in, first_in}
use Rattle.blocks.proofs.Rows.{rows}
use Rattle.queues.specs.declared.Kind.{Kind}
use Rattle.queues.specs.Queue.{send_kind, ack_kind, task_kind}
use Rattle.queues.proofs.Ring.{Ring}
use Rattle.machine.specs.Machine.{Letter, first, firsts, Node, All, many}

-- the rows of node i's stretch
abbrev pub rows_of : Settings → List ℕ → ℕ → ℕ → List ℕ
rows_of s memory i = rows s (node s memory i)

-- place p of node i is a queue: the node and the row in which it stands, and its kind. The acknowledge queue for i on j is row 7 + i of j
unfoldable pub seat : ℕ → ℕ → ℕ
seat i p = by_row p i i (p - 7) i i

unfoldable pub line : ℕ → ℕ → ℕ
line i p = by_row p p p (7 + i) p p

unfoldable pub kind : Settings → ℕ → Kind
kind s p = by_row p (send_kind s) (send_kind s) (ack_kind s) (task_kind s) (send_kind s)

-- 'read through its chain as if its words stood together', 'the blocks it needs'
pub record Held (s : Settings) (R : ℕ → List ℕ) (L : Letter) : Type 0 where
  pub leads : Leads s.b R (first L) L.chain 0
  pub reads : take (length L.words) (text_in s.b R L.chain) ≡ L.words
  pub blocks : length L.chain ≡ needs s (length L.words)

-- R i r is row r of node i
pub record Core (s : Settings) (R : ℕ → ℕ → List ℕ) (N : ℕ → Node) : Type 0 where
  pub range : InRange s
  pub sizes : (i r : ℕ) → i < 6 → r < 77 + s.m → length (R i r) ≡ width s r
  pub free : (i : ℕ) → i < 6 → Leads s.b (R i) (first_in (R i)) (N i).free 0
  pub queues : (i p : ℕ) → i < 6 → 1 ≤ p → p < 77 → Ring (kind s p) (R (seat i p) (line i p)) 0 (firsts ((N i).letters p))
  pub letters : (i p : ℕ) → i < 6 → p < 78 → All (Held s (R i)) ((N i).letters p)
  pub once : (i b : ℕ) → i < 6 → occurs b (N i).free + sum 78 (λ p. many b ((N i).letters p)) ≡ occurs b (down_from s.m)
