-- `receive::receive_sound` meets its contract: each refusal by its test, else the letter is collected. Assumes nothing.
use Rattle.receive.proofs.Sounds.{seat-seated, sound_front, refused_first, refused_other, received_is}
use Rattle.tasks.proofs.Laws.{told_at, told-unbound}
use Rattle.sound.specs.Reading.{table_in}
use mathlib.Core.Path.{sym, ◌∙◌}
use Rattle.receive.proofs.receive_sound.Goals as goal

pub table-requires : goal.table-requires
table-requires c = sound_front c.args.memory.now c.requires

pub returns-in_default : goal.returns-in_default
returns-in_default c = let x = c.args in refused_first x.memory.now x.destination x.source x.out.now c.requires (told-unbound (table_in x.memory.now) x.destination (sym (rw c.table.ensures at c.seat_of.ensures) ∙ c.in_default.is))

pub is_known-requires : goal.is_known-requires
is_known-requires c = sound_front c.args.memory.now c.requires

pub returns-then-not-is_known : goal.returns-then-not-is_known
returns-then-not-is_known c = let x = c.args in let b = told_at (table_in x.memory.now) x.destination _ _ (sym (rw c.table.ensures at c.seat_of.ensures) ∙ c.in-Some.is) in refused_other x.memory.now x.destination x.source x.out.now c.requires b.0 (sym c.is_known.ensures ∙ c.if-not-is_known.true)

pub collect-requires : goal.collect-requires
collect-requires c = seat-seated c.args.memory.now c.requires c.args.destination _ _ (sym (rw c.table.ensures at c.seat_of.ensures) ∙ c.in-Some.is)

pub returns : goal.returns
returns c = let x = c.args in let b = told_at (table_in x.memory.now) x.destination _ _ (sym (rw c.table.ensures at c.seat_of.ensures) ∙ c.in-Some.is) in received_is x.memory.now x.destination x.source x.out.now c.requires b.0 (sym c.is_known.ensures ∙ c.if-not-is_known.false) b.1.0 b.1.1 c.collect.ensures
