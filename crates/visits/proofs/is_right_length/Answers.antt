-- `visits::is_right_length` meets its contract. Assumes nothing.
use mathlib.Core.Path.{◌∙◌}
use Rattle.std.proofs.Common.{rules}
use native.Mathlib.Omega.{arith}
use Rattle.visits.proofs.Read.{carried-small, told_short, head_lies, told_is, length_out, length_is}
use Rattle.visits.proofs.is_right_length.Goals as goal

pub overflow_mul-count : goal.overflow_mul-count
overflow_mul-count c = let x = c.args in omega (arith, carried-small x.s x.node.now x.b x.count c.requires)

pub returns-then-count-s-lt5 : goal.returns-then-count-s-lt5
returns-then-count-s-lt5 c = let x = c.args in told_short x.s x.node.now x.b x.count c.requires c.if-count-s-lt5.true

pub told_length-requires : goal.told_length-requires
told_length-requires c = let x = c.args in head_lies x.s x.node.now x.b x.count c.requires c.if-count-s-lt5.false

pub returns-then-contains : goal.returns-then-contains
returns-then-contains c =
    let x = c.args in
    let e = c.told_length.ensures ∙ told_is x.s x.node.now x.b x.count c.requires c.if-count-s-lt5.false in
    rw c.needs_of.ensures (length_is x.s x.node.now x.b x.count c.requires _ e (search rules))

pub returns-else-contains : goal.returns-else-contains
returns-else-contains c =
    let x = c.args in
    let e = c.told_length.ensures ∙ told_is x.s x.node.now x.b x.count c.requires c.if-count-s-lt5.false in
    rw c.if-contains.false (length_out x.s x.node.now x.b x.count c.requires _ e (search rules))
