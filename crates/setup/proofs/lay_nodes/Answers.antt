-- `setup::lay_nodes` meets its contract: after i turns i stretches are laid. Assumes nothing.
use mathlib.Core.Path.{◌≡◌, ◌∙◌}
use native.Mathlib.Omega.{arith}
use lib.ListN.{take}
use lib.Seq.{length-take-le}
use Rattle.layout.specs.Places.{nodes_at}
use Rattle.layout.proofs.Fits.{nodes_fit}
use Rattle.setup.proofs.Laws.{nodes_none, nodes_next, nodes_all, node-back}
use Rattle.setup.proofs.lay_nodes.Goals as goal

pub loop-i-init : goal.loop-i-init
loop-i-init c = nodes_none c.args.s c.requires.sized.range c.args.memory.now

pub lay_node-requires-clause-node_value : goal.lay_node-requires-clause-node_value
lay_node-requires-clause-node_value c =
    nodes_next c.args.s c.requires.sized.range (take nodes_at c.args.memory.now) c.args.memory.now c.loop-i.memory c.loop-i.i c.node_at-at.result c.node_size-words.result
    c.node_at-at.ensures.is c.node_size-words.ensures.is (omega arith) (length-take-le 536 c.args.memory.now (omega (arith, nodes_fit c.args.s))) c.requires.memory_value c.loop-i.invariant

pub loop-i-preserved : goal.loop-i-preserved
loop-i-preserved c =
    node-back c.args.s c.requires.sized.range (take nodes_at c.args.memory.now) c.args.memory.now c.loop-i.memory c.lay_node.new.node c.loop-i.i c.node_at-at.result c.node_size-words.result
    c.node_at-at.ensures.is c.node_size-words.ensures.is (length-take-le 536 c.args.memory.now (omega (arith, nodes_fit c.args.s))) c.loop-i.invariant c.lay_node.ensures

pub returns : goal.returns
returns c =
    let l = c.loop-i in
    let q : l.i ≡ 6 = omega arith in
    l.invariant ∙ rw q (nodes_all c.args.s c.requires.sized.range (take nodes_at c.args.memory.now) c.args.memory.now c.requires.sized.long)
