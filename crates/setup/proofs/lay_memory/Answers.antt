-- `setup::lay_memory` meets its contract. Assumes nothing.
use Prim.Native.Nat.{◌-◌}
use native.Mathlib.Omega.{arith}
use borrow.Rule.Slice.PartMut.{same_len_mid}
use Rattle.layout.proofs.Fits.{nodes_fit}
use Rattle.setup.proofs.Laws.{cleared, nodes_start, memory-back}
use Rattle.setup.proofs.lay_memory.Goals as goal

pub slice_bounds-lay_head-end : goal.slice_bounds-lay_head-end
slice_bounds-lay_head-end c =
    omega (arith, nodes_fit c.args.s, c.requires.sized.long, c.fill.ensures.len)

pub slice_bounds-copy-end : goal.slice_bounds-copy-end
slice_bounds-copy-end c =
    let k = c.fill in
    let h = c.lay_head in
    omega (arith, nodes_fit c.args.s, c.requires.sized.long, k.ensures.len, same_len_mid 0 (24 - 0) k.new.self h.new.head h.auto.head)

pub lay_nodes-requires-clause-memory_value : goal.lay_nodes-requires-clause-memory_value
lay_nodes-requires-clause-memory_value c =
    let k = c.fill in
    let h = c.lay_head in
    let t = c.copy in
    nodes_start c.args.s c.requires.sized.range k.new.self (cleared c.args.s c.args.memory.now k.new.self k.ensures.after c.requires.sized.long)
    h.new.head t.new.to c.args.table.now c.requires.table_len h.ensures t.ensures

pub returns : goal.returns
returns c =
    let k = c.fill in
    let h = c.lay_head in
    let t = c.copy in
    memory-back c.args.s c.requires.sized.range k.new.self (cleared c.args.s c.args.memory.now k.new.self k.ensures.after c.requires.sized.long)
    h.new.head t.new.to c.args.table.now c.requires.table_len h.ensures t.ensures _ c.lay_nodes.ensures
