-- `turn::turn` meets its contract. Assumes nothing.
use mathlib.Core.Path.{sym, ◌∙◌}
use Rattle.turn.proofs.Outcomes.{not_sound_lem}
use Rattle.turn.proofs.turn.Goals as goal

pub returns-then-not-is_sound : goal.returns-then-not-is_sound
returns-then-not-is_sound c = not_sound_lem c.args.memory.now (sym c.is_sound.ensures ∙ c.if-not-is_sound.true)
