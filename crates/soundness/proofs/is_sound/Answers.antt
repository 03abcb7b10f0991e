-- `soundness::is_sound` meets its contract. Assumes nothing.
use Rattle.soundness.proofs.Rules.{made_range}
use Rattle.soundness.proofs.Rules.{sound_short, sound_refused, sound-range, sound-size, sound-turn, sound-rest}
use mathlib.Core.Path.{sym, ◌∙◌}
use Rattle.soundness.proofs.is_sound.Goals as goal

pub returns-then-memory-lt536 : goal.returns-then-memory-lt536
returns-then-memory-lt536 c = sound_short c.args.memory.now c.if-memory-lt536.true

pub returns-in_default : goal.returns-in_default
returns-in_default c = sound_refused c.args.memory.now (sym c.new.ensures ∙ c.in_default.is)

pub memory_size-requires : goal.memory_size-requires
memory_size-requires c = made_range c.args.memory.now _ (sym c.new.ensures ∙ c.in-Some.is)

pub returns-then-memory-memory_size : goal.returns-then-memory-memory_size
returns-then-memory-memory_size c = sound-size c.args.memory.now _ (sym c.new.ensures ∙ c.in-Some.is) (λ e. c.if-memory-memory_size.true (e ∙ sym c.memory_size.ensures))

pub returns-then-memory-gt5 : goal.returns-then-memory-gt5
returns-then-memory-gt5 c = sound-turn c.args.memory.now _ (sym c.new.ensures ∙ c.in-Some.is) (c.if-memory-memory_size.false ∙ c.memory_size.ensures) c.if-memory-gt5.true

pub is_right_memory-requires : goal.is_right_memory-requires
is_right_memory-requires c = sound-range c.args.memory.now _ (sym c.new.ensures ∙ c.in-Some.is) (c.if-memory-memory_size.false ∙ c.memory_size.ensures)

pub returns : goal.returns
returns c = sound-rest c.args.memory.now _ (sym c.new.ensures ∙ c.in-Some.is) (c.if-memory-memory_size.false ∙ c.memory_size.ensures) c.if-memory-gt5.false _ c.is_right_memory.ensures
