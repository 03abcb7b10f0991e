-- `listing::list_sound` meets its contract: the letters are counted, then laid. Assumes nothing.
use native.Mathlib.Omega.{arith}
use Rattle.listing.proofs.Outcomes.{sound-long, zeroes-low, sum-few, out_short, ranks-low, out-done}
use Rattle.listing.proofs.list_sound.Goals as goal

pub settings_in-s-requires : goal.settings_in-s-requires
settings_in-s-requires c = omega (arith, sound-long _ c.requires)

pub list_letters-requires-clause-low : goal.list_letters-requires-clause-low
list_letters-requires-clause-low c = zeroes-low _ (omega arith)

pub add_up-letters-requires-clause-ranks_bound : goal.add_up-letters-requires-clause-ranks_bound
add_up-letters-requires-clause-ranks_bound c = sum-few _ c.args.memory.now c.requires c.settings_in-s.ensures _ _ c.list_letters.ensures

pub returns-then-out-letters : goal.returns-then-out-letters
returns-then-out-letters c =
    out_short _ c.args.memory.now c.requires c.settings_in-s.ensures _ _ c.list_letters.ensures _ _ c.add_up-letters.ensures c.args.out.now (omega (arith, c.if-out-letters.true))

pub list_letters-requires-2-clause-low : goal.list_letters-requires-2-clause-low
list_letters-requires-2-clause-low c = ranks-low _ c.args.memory.now c.requires c.settings_in-s.ensures _ _ c.list_letters.ensures _ _ c.add_up-letters.ensures

pub returns : goal.returns
returns c =
    out-done _ c.args.memory.now c.requires c.settings_in-s.ensures _ _ c.list_letters.ensures _ _ c.add_up-letters.ensures c.args.out.now _ _ c.list_letters-2.ensures c.if-out-letters.false
