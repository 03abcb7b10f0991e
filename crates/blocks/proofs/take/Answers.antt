-- `blocks::take` meets its contract. Assumes nothing.
use Rattle.std.proofs.Common.{rules, None}
use mathlib.Core.Path.{◌≡◌, refl, sym}
use native.Mathlib.Omega.{arith}
use lib.ListN.{length-set}
use Rattle.blocks.proofs.Steps.{is_block_lem, head_fits}
use Rattle.blocks.proofs.Named.{none_block, some_block}
use Rattle.blocks.proofs.Taking.{front_within, last_block, taken_is, first_is, short_is, kept_is}
use Rattle.blocks.proofs.take.Goals as goal

pub bounds-node-0 : goal.bounds-node-0
bounds-node-0 c = let p = c.requires in omega (arith, head_fits c.args.s)

pub reach-requires : goal.reach-requires
reach-requires c =
    record { stretch = c.requires.stretch; some = c.requires.some; within = front_within c.args.s c.args.node.now c.args.n c.requires }

pub returns-in_err-last : goal.returns-in_err-last
returns-in_err-last c =
    let r : c.from_residual.result ≡ None = search rules in
    record { answer = rw r (short_is c.args.s c.args.node.now c.args.n c.requires _ (sym (none_block c.in_err-last.ensures)) refl); stored = kept_is c.args.s c.args.node.now c.args.n c.requires _ (sym (none_block c.in_err-last.ensures)) refl }

pub link_of-next-requires : goal.link_of-next-requires
link_of-next-requires c =
    is_block_lem _ _ _ c.requires.stretch (last_block c.args.s c.args.node.now c.args.n c.requires _ (some_block c.in_ok-last.ensures).0 (some_block c.in_ok-last.ensures).1)

pub bounds-node-0-2 : goal.bounds-node-0-2
bounds-node-0-2 c = omega (arith, head_fits c.args.s)

pub set_link-requires : goal.set_link-requires
set_link-requires c =
    is_block_lem _ _ _ (record { range = c.requires.stretch.range; long = simp length-set c.requires.stretch.long })
    (last_block c.args.s c.args.node.now c.args.n c.requires _ (some_block c.in_ok-last.ensures).0 (some_block c.in_ok-last.ensures).1)

pub returns : goal.returns
returns c =
    let r = (some_block c.in_ok-last.ensures).0 in
    let k = (some_block c.in_ok-last.ensures).1 in record { answer = first_is c.args.s c.args.node.now c.args.n c.requires _ r k; stored = taken_is c.args.s c.args.node.now c.args.n c.requires _ r k _ _ c.link_of-next.ensures c.set_link.ensures }
