-- `copies::is_same_letter` meets its contract. Assumes nothing.
use mathlib.Core.Path.{sym, ◌∙◌}
use native.Mathlib.Omega.{arith}
use Rattle.copies.proofs.Copied.{told_differ, compare_starts, compare_ends, compare_blocks, compare_differs, compare_goes}
use Rattle.copies.proofs.is_same_letter.Goals as goal

pub returns-then-told_length-left : goal.returns-then-told_length-left
returns-then-told_length-left c = let x = c.args in told_differ x.s x.a.now x.b x.c.now x.d c.requires.readable c.requires.readable_2 (λ e. c.if-told_length-left.true (c.told_length.ensures ∙ e ∙ sym c.told_length-left.ensures))

pub loop-left-init : goal.loop-left-init
loop-left-init c = let x = c.args in compare_starts x.s x.a.now x.b x.c.now x.d c.requires.readable c.requires.readable_2 _ c.told_length-left.ensures (sym c.told_length.ensures ∙ c.if-told_length-left.false)

pub is_same_block-requires : goal.is_same_block-requires
is_same_block-requires c = let x = c.args in let k = compare_blocks x.s x.a.now x.b x.c.now x.d c.loop-left.left c.loop-left.x c.loop-left.y c.loop-left.invariant (omega arith) in record { block = k.0; block_2 = k.1; n_bound = omega (arith, c.min-n.ensures) }

pub returns-then-not-is_same_block : goal.returns-then-not-is_same_block
returns-then-not-is_same_block c = let x = c.args in compare_differs x.s x.a.now x.b x.c.now x.d c.loop-left.left c.loop-left.x c.loop-left.y c.loop-left.invariant (omega arith) _ c.min-n.ensures _ c.is_same_block.ensures (c.if-not-is_same_block.true)

pub link_of-x-requires : goal.link_of-x-requires
link_of-x-requires c = let x = c.args in (compare_blocks x.s x.a.now x.b x.c.now x.d c.loop-left.left c.loop-left.x c.loop-left.y c.loop-left.invariant (omega arith)).0

pub link_of-y-requires : goal.link_of-y-requires
link_of-y-requires c = let x = c.args in (compare_blocks x.s x.a.now x.b x.c.now x.d c.loop-left.left c.loop-left.x c.loop-left.y c.loop-left.invariant (omega arith)).1

pub loop-left-preserved : goal.loop-left-preserved
loop-left-preserved c = let x = c.args in compare_goes x.s x.a.now x.b x.c.now x.d c.loop-left.left c.loop-left.x c.loop-left.y c.loop-left.invariant (omega arith) _ c.min-n.ensures _ c.is_same_block.ensures (c.if-not-is_same_block.false) _ _ c.link_of-x.ensures c.link_of-y.ensures

pub returns : goal.returns
returns c = let x = c.args in compare_ends x.s x.a.now x.b x.c.now x.d c.loop-left.left c.loop-left.x c.loop-left.y c.loop-left.invariant (omega arith)
