-- One step of reading a letter through its chain: 'Letters'.
use Rattle.std.specs.Prelude.{ℕ, ◌+◌, ◌-◌, ◌*◌, min, cond, List, eqb, get_or, None, Option, Some}
use Rattle.reading.specs.declared.Step.{Step}

-- of `left` words, those that a block of `room` words carries from its word `at` on
abbrev pub carried_of : ℕ → ℕ → ℕ → ℕ
carried_of left at room = min left (room - at)

-- 'Each block carries B-1 words and then its link': the link's word, counted from the word before the blocks
abbrev pub link_from : ℕ → ℕ → ℕ → ℕ
link_from before room block = before + block * (room + 1)

-- 'as if its words stood together': the words left that the block carries, and then the block that its link names; no step where none is left
abbrev pub step_at : List ℕ → ℕ → ℕ → ℕ → ℕ → ℕ → Option Step
step_at node block left at before room =
    cond (eqb left 0) None ((Some (record { words = carried_of left at room; next = get_or node (link_from before room block) 0 })))
