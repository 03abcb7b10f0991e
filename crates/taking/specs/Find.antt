-- Finding a letter in a task queue: 'Receive'.
use Rattle.std.specs.Prelude.{Bool, true, false, cond, List, [], ◌∷◌, ℕ, ◌+◌, ◌≤◌, ◌<◌, eqb, get_or, None, Option, Some}
use Rattle.settings.specs.declared.Settings.{Settings}
use Rattle.layout.specs.Places.{block_at}
use Rattle.layout.specs.Numbers.{source_task_word}
use Rattle.layout.specs.Asked.{Stretch}
use Rattle.queues.specs.Queue.{Queue, items, item_at, contents, task_kind}

-- the letter that block b begins is from the source; source 0 stands for any
unfoldable pub from : Settings → List ℕ → ℕ → ℕ → Bool
from s node source b = cond (eqb source 0) true (eqb (get_or node (block_at s b + source_task_word) 0) source)

-- item b is a letter, and from the source: a gap is no letter
unfoldable pub wanted : Settings → List ℕ → ℕ → ℕ → Bool
wanted s node source b = cond (eqb b 0) false (from s node source b)

-- the first place whose item passes the test; the first item of the list stands at place i
unfoldable pub first_from : (ℕ → Bool) → ℕ → List ℕ → Option ℕ
first_from p i [] = None
first_from p i (x ∷ xs) = cond (p x) (Some i) (first_from p (i + 1) xs)

-- 'Source 0 takes the first letter; otherwise the first from that source'
abbrev pub found : Settings → List ℕ → ℕ → ℕ → Option ℕ
found s node q source = first_from (wanted s node source) 0 (contents (task_kind s) node q)

-- a task queue in a node's stretch, with items 0 to M
pub record Findable (s : Settings) (node : List ℕ) (q : ℕ) : Type 0 where
  pub stretch : Stretch s node
  pub queue : Queue (task_kind s) node q
  pub blocks : (i : ℕ) → i < items (task_kind s) node q → item_at (task_kind s) node q i ≤ s.m
