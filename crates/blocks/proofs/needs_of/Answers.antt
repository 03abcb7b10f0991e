-- `blocks::needs_of` meets its contract: rounded up, as the definition does it with a sum. Assumes nothing.
use mathlib.Core.Path.{◌≡◌, sym, ap, ◌∙◌}
use Prim.Native.Nat.{ℕ, ◌+◌, ◌-◌, ◌/◌, ◌%◌, ◌<◌, min}
use native.Mathlib.Nat.{div-eq_of_lt-le, add-mul}
use native.Mathlib.Omega.{arith}
use Rattle.std.proofs.lemmas.Grind.{div_ceil_times}
use Rattle.blocks.specs.Chain.{needs as needs_def}
use Rattle.blocks.proofs.needs_of.Goals as goal

rounded_up : (n r : ℕ) → 0 < r → n / r + min 1 (n % r) ≡ (n + (r - 1)) / r
rounded_up n r h =
    let d = div_ceil_times n r h in
    let q : ℕ = n / r + min 1 (n % r) in
    sym (div-eq_of_lt-le {k = q} r (omega (arith, d.1)) (rw (add-mul q 1 r) (omega (arith, d.0))))

pub returns : goal.returns
unfolding needs_def
returns c =
    let b = c.requires.in_range.b.low in
    let e : c.args.s.b - 1 - 1 ≡ c.args.s.b - 2 = omega arith in
    c.div_ceil.ensures ∙ rounded_up c.args.n (c.args.s.b - 1) (omega arith) ∙ ap (λ (k : ℕ). (c.args.n + k) / (c.args.s.b - 1)) e
