-- `receive::receive` meets its contract: the memory is tested, then a letter is taken. Assumes nothing.
use mathlib.Core.Path.{sym, ◌∙◌}
use Rattle.receive.proofs.Refused.{not_sound_lem}
use Rattle.receive.proofs.receive.Goals as goal

pub returns-then-not-is_sound : goal.returns-then-not-is_sound
returns-then-not-is_sound c = let x = c.args in not_sound_lem x.memory.now x.destination x.source x.out.now (sym c.is_sound.ensures ∙ c.if-not-is_sound.true)
