-- The fourth rule of a sound memory: the postmen's positions.
use Rattle.std.specs.Prelude.{Bool, ◌&&◌, not, cond, List, [], ◌∷◌, ℕ, eqb, leb, length, get_or}
use Rattle.words.specs.Words.{alike}
use Rattle.settings.specs.declared.Settings.{Settings}
use Rattle.layout.specs.Places.{node}
use Rattle.sound.specs.Reading.{stage_of, other_of, held_of, send_items}
use Rattle.sound.specs.Letters.{words_from}

module _ (s : Settings) (memory : List ℕ) (j : ℕ) where
  -- 'name another node whose send queue to this one has an item'
  unfoldable pub names_other : Bool
  names_other =
      leb (other_of memory j) 5
      && (not (eqb (other_of memory j) j) && leb 1 (length (send_items s memory (other_of memory j) j)))

  -- 'the letter in its chain equals the first letter of that queue, header and body'
  unfoldable pub holds_copy : Bool
  holds_copy =
      alike (words_from s (node s memory j) (held_of memory j))
      (words_from s (node s memory (other_of memory j)) (get_or (send_items s memory (other_of memory j) j) 0 0))

  -- 'stage 0 with 0, 0; stages 1, 2 and 3 name another node ..; only stage 2 holds a block (else 0)'
  unfoldable pub right_position : Bool
  right_position =
      cond (eqb (stage_of memory j) 0) (eqb (other_of memory j) 0 && eqb (held_of memory j) 0)
      (leb (stage_of memory j) 3
      && (names_other
      && cond (eqb (stage_of memory j) 2) (leb 1 (held_of memory j) && (leb (held_of memory j) s.m && holds_copy)) (eqb (held_of memory j) 0)))

  -- the block held in stage 2
  unfoldable pub held : List ℕ
  held = cond (eqb (stage_of memory j) 2) (held_of memory j ∷ []) []
