-- `receive::is_known` meets its contract. Assumes nothing.
use Rattle.receive.proofs.Seats.{known_is}
use Rattle.sound.specs.Reading.{table_in}
use Rattle.receive.proofs.is_known.Goals as goal

pub returns : goal.returns
returns c = let x = c.args in known_is (table_in x.memory.now) x.source c.if-source-eq0.false (rw c.table.ensures at c.seat_of.ensures) c.is_some.ensures
