-- `send::send_sound` meets its contract: each refusal by its test, else what a sound memory gives lets the letter be posted. Assumes nothing.
use Rattle.send.proofs.Outcomes.{sound-long, out-source, out-destination, out_body, out-done, gives_delivers}
use Rattle.sound.proofs.Gives.{gives_range}
use native.Mathlib.Omega.{arith}
use mathlib.Core.Path.{sym, ◌∙◌}
use Rattle.send.proofs.send_sound.Goals as goal

pub settings_in-s-requires : goal.settings_in-s-requires
settings_in-s-requires c = omega (arith, sound-long c.args.memory.now c.requires)

pub table-requires : goal.table-requires
table-requires c = sound-long c.args.memory.now c.requires

pub returns-in_default : goal.returns-in_default
returns-in_default c = out-source c.args.memory.now c.requires c.args.source c.args.destination c.args.body.now (sym (rw c.table.ensures at c.seat_of.ensures) ∙ c.in_default.is)

pub table-requires-2 : goal.table-requires-2
table-requires-2 c = sound-long c.args.memory.now c.requires

pub returns-in_default-seat_of : goal.returns-in_default-seat_of
returns-in_default-seat_of c = out-destination c.args.memory.now c.requires c.args.source c.args.destination c.args.body.now _ _ (sym (rw c.table.ensures at c.seat_of.ensures) ∙ c.in-Some.is) (sym (rw c.table-2.ensures at c.seat_of-2.ensures) ∙ c.in_default-seat_of.is)

pub body_fits-requires : goal.body_fits-requires
body_fits-requires c = rw c.settings_in-s.ensures (gives_range c.args.memory.now c.requires)

pub returns-then-not-body_fits : goal.returns-then-not-body_fits
returns-then-not-body_fits c = out_body c.args.memory.now c.requires c.args.source c.args.destination c.args.body.now _ _ (sym (rw c.table.ensures at c.seat_of.ensures) ∙ c.in-Some.is) _ _ (sym (rw c.table-2.ensures at c.seat_of-2.ensures) ∙ c.in-Some-seat_of.is) _ c.settings_in-s.ensures (sym (c.if-not-body_fits.true) ∙ c.body_fits.ensures)

pub send_letter-requires : goal.send_letter-requires
send_letter-requires c = gives_delivers c.args.memory.now c.requires c.args.source c.args.destination c.args.body.now _ _ (sym (rw c.table.ensures at c.seat_of.ensures) ∙ c.in-Some.is) _ _ (sym (rw c.table-2.ensures at c.seat_of-2.ensures) ∙ c.in-Some-seat_of.is) _ c.settings_in-s.ensures (sym (c.if-not-body_fits.false) ∙ c.body_fits.ensures) _ c.goal_of.ensures

pub returns : goal.returns
returns c = out-done c.args.memory.now c.requires c.args.source c.args.destination c.args.body.now _ _ (sym (rw c.table.ensures at c.seat_of.ensures) ∙ c.in-Some.is) _ _ (sym (rw c.table-2.ensures at c.seat_of-2.ensures) ∙ c.in-Some-seat_of.is) _ c.settings_in-s.ensures (sym (c.if-not-body_fits.false) ∙ c.body_fits.ensures) _ c.goal_of.ensures _ c.send_letter.ensures
