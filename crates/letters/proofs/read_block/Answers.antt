-- `letters::read_block` meets its contract. Assumes nothing.
use mathlib.Core.Path.{ap}
use Prim.Native.Nat.{ℕ, ◌+◌}
use lib.ListN.{length}
use Rattle.letters.proofs.Steps.{piece-long, piece-got}
use Rattle.letters.proofs.read_block.Goals as goal

pub returns-clause-answer : goal.returns-clause-answer
returns-clause-answer c =
    let b = c.requires.block in
    let a = ap (λ (k : ℕ). k + c.args.at) c.block_at.ensures.is in
    piece-long c.args.s c.args.node.now b.stretch c.args.b b.low b.high c.args.at c.requires.inside (length c.args.out.now) _ _ c.min-n.ensures a

pub returns-clause-got : goal.returns-clause-got
returns-clause-got c =
    let b = c.requires.block in
    let a = ap (λ (k : ℕ). k + c.args.at) c.block_at.ensures.is in
    piece-got c.args.s c.args.node.now b.stretch c.args.b b.low b.high c.args.at c.requires.inside (length c.args.out.now) _ _ c.min-n.ensures a c.args.out.now _
    c.copy.ensures
