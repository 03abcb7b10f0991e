-- `receive::read_body` meets its contract. Assumes nothing.
use Rattle.receive.proofs.Bodies.{fits-lies, fits-back}
use native.Mathlib.Omega.{arith}
use Rattle.receive.proofs.read_body.Goals as goal

pub read-requires : goal.read-requires
read-requires c = fits-lies c.args.s c.args.node.now c.args.b c.args.n c.args.out.now c.requires _ (omega arith)

pub returns : goal.returns
returns c = fits-back c.args.s c.args.node.now c.args.b c.args.n c.args.out.now c.requires _ c.read.ensures
