-- `listing::add_up` meets its contract: after each turn the tasks below the rank's index have their ranks. Assumes nothing.
use native.Mathlib.Omega.{arith}
use Rattle.listing.specs.Asked.{numbers}
use Rattle.listing.proofs.Adding.{adding_none, adding_more, adding_few}
use Rattle.listing.proofs.add_up.Goals as goal

pub loop-rank-init : goal.loop-rank-init
loop-rank-init c = adding_none (numbers c.args.ranks.now) c.args.ranks.now c.requires.ranks_len

pub overflow_add-n : goal.overflow_add-n
overflow_add-n c =
    let l = c.loop-rank in
    omega (arith, l.invariant.left l.rank-index (omega arith), c.requires.ranks_bound, adding_few (numbers c.args.ranks.now) c.args.ranks.now l.ranks l.n l.rank-index l.invariant (omega (arith, l.invariant.long)))

pub loop-rank-preserved : goal.loop-rank-preserved
loop-rank-preserved c =
    let x = c.args in
    let l = c.loop-rank in
    adding_more (numbers x.ranks.now) x.ranks.now l.ranks l.n l.rank-index l.invariant _ (omega (arith, l.invariant.long)) (l.invariant.left l.rank-index (omega arith))
