-- `listing::list_letters` meets its contract. Assumes nothing.
use native.Mathlib.Omega.{arith}
use Rattle.layout.specs.Places.{task_ids}
use Rattle.listing.specs.Asked.{kept_below}
use Rattle.listing.proofs.Few.{few_below}
use Rattle.listing.proofs.Letters.{letters_all}
use Rattle.listing.proofs.Placing.{rows, so_low}
use Rattle.listing.proofs.list_letters.Goals as goal

pub list_nodes-requires-clause-low : goal.list_nodes-requires-clause-low
list_nodes-requires-clause-low c =
    so_low (kept_below c.args.s c.args.memory.now task_ids) c.args.ranks.now c.args.out.now _ _ c.list_tasks.ensures _ _ c.requires.low (omega (arith, few_below c.args.s c.args.memory.now c.requires.asked 256))

pub returns : goal.returns
returns c = let x = c.args in letters_all x.s x.memory.now (rows x.ranks.now x.out.now) _ _ c.list_tasks.ensures c.list_nodes.ensures
