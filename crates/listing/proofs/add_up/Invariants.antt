-- `listing::add_up` meets its contract: after each turn the tasks below the rank's index have their ranks. Assumes nothing.
use Rattle.listing.specs.Asked.{numbers}
use Rattle.listing.proofs.Adding.{Adding}
use Rattle.listing.proofs.add_up.Given as goal

abbrev pub invariant-loop-rank : goal.invariant-loop-rank
invariant-loop-rank l = Adding (numbers l.initial.ranks) l.initial.ranks l.ranks l.n l.rank-index
