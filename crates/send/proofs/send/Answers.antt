-- `send::send` meets its contract: the memory is tested, then the letter is sent. Assumes nothing.
use mathlib.Core.Path.{sym, ◌∙◌}
use Rattle.send.proofs.Refused.{not_sound_lem}
use Rattle.send.proofs.send.Goals as goal

pub returns-then-not-is_sound : goal.returns-then-not-is_sound
returns-then-not-is_sound c = let x = c.args in not_sound_lem x.memory.now x.source x.destination x.body.now (sym c.is_sound.ensures ∙ c.if-not-is_sound.true)
