-- `setup::lay_node` meets its contract: before the turn of block b, the b - 1 blocks before it are linked. Assumes nothing.
use mathlib.Core.Path.{◌≡◌, ap, ap₂, ◌∙◌}
use mathlib.Core.List.{List}
use Prim.Native.Nat.{ℕ, ◌-◌}
use native.Mathlib.Omega.{arith}
use lib.ListN.{length, set, replicate, length-replicate}
use Rattle.settings.specs.declared.Settings.{Settings}
use Rattle.layout.specs.Places.{node_size}
use Rattle.setup.proofs.Laws.{some_words, linked_none, linked_turn, linked_all}
use Rattle.setup.proofs.lay_node.Goals as goal

long : (s : Settings) {d : List ℕ} → d ≡ replicate (node_size s) 0 → length d ≡ node_size s
long s e = ap length e ∙ length-replicate (node_size s) 0

pub bounds-node-0 : goal.bounds-node-0
bounds-node-0 c = omega (arith, long c.args.s c.requires.node_value, some_words c.args.s)

pub loop-b-init : goal.loop-b-init
loop-b-init c = linked_none c.args.s c.requires.in_range c.args.node.now c.requires.node_value

pub loop-b-preserved : goal.loop-b-preserved
loop-b-preserved c =
    let l = c.loop-b in
    let at = c.link_at-at in
    ap₂ (λ (d : List ℕ) (x : ℕ). set d at.result x) l.invariant (omega arith)
    ∙ linked_turn c.args.s c.requires.in_range l.b at.result (omega arith) (omega arith) at.ensures.is

pub returns : goal.returns
returns c =
    let l = c.loop-b in
    l.invariant ∙ linked_all c.args.s c.requires.in_range (l.b - 1) (omega (arith, c.requires.in_range.m.low))
