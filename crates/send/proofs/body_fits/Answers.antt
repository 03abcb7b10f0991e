-- `send::body_fits` meets its contract: by the two tests. Assumes nothing.
use Rattle.send.proofs.Outcomes.{too_long, by_blocks}
use Rattle.send.proofs.body_fits.Goals as goal

pub returns-then-n-gt1019 : goal.returns-then-n-gt1019
returns-then-n-gt1019 c = too_long c.args.s c.args.n c.if-n-gt1019.true

pub returns : goal.returns
returns c = by_blocks c.args.s c.args.n _ c.if-n-gt1019.false c.needs_of.ensures
