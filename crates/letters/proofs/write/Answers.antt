-- `letters::write` meets its contract: what is still to be laid from here on makes the whole letter. Assumes nothing.
use native.Mathlib.Nat.{sub-add-eq}
use native.Mathlib.Omega.{arith}
use Rattle.letters.proofs.UnderWay.{made_long, needs_made, write_starts, write_inside, write_goes, write_ends}
use Rattle.letters.proofs.write.Goals as goal

pub loop-init : goal.loop-init
loop-init c =
    let z = made_long c.args.h c.args.body.now in
    write_starts c.args.s c.args.node.now c.args.b _ _ (rw z c.requires) (omega (arith, c.needs_of-owed.ensures, needs_made c.args.h c.args.body.now c.args.s))

pub link_of-next-requires : goal.link_of-next-requires
link_of-next-requires c = (write_inside _ _ _ _ _ _ _ _ c.loop.invariant (omega arith)).0

pub write_block-requires : goal.write_block-requires
write_block-requires c =
    let i = write_inside _ _ _ _ _ _ _ _ c.loop.invariant (omega arith) in
    record { block = i.0; has_word = record { inside = rw (made_long c.args.h c.args.body.now) at i.1; most = c.requires.most } }

pub overflow_add-k : goal.overflow_add-k
overflow_add-k c =
    omega (arith, c.requires.most, made_long c.args.h c.args.body.now, c.requires.walks.stretch.range.b.high, (write_inside _ _ _ _ _ _ _ _ c.loop.invariant (omega arith)).1)

pub loop-preserved : goal.loop-preserved
loop-preserved c =
    rw (sub-add-eq c.needs_of-owed.result c.loop.counter 1)
    (write_goes _ _ _ _ _ _ _ _ c.loop.invariant (omega arith) _ _ c.link_of-next.ensures c.write_block.ensures)

pub returns : goal.returns
returns c = write_ends _ _ _ _ _ _ _ _ c.loop.invariant (omega arith)
