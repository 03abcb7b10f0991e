-- A number as a block: 0 names none. Assumes nothing.
use Rattle.std.specs.Prelude.{Option, Some, None}
use mathlib.Core.Path.{◌≡◌, sym, ◌∙◌}
use Prim.Native.Nat.{ℕ}
use native.Mathlib.Omega.{arith}
use borrow.Author.Tests.{ne_eqb}
use Rattle.words.proofs.Lists.{same?}
use Rattle.blocks.specs.Chain.{block_of}

pub block_none : {b : ℕ} → b ≡ 0 → None ≡ block_of b
block_none e = rw e

pub block_some : {last b : ℕ} → last ≡ b → (last ≡ 0 → ⊥) → Some last ≡ block_of b
block_some {last} {b} e h = rw (sym e, ne_eqb last 0 h)

-- what the answer tells of the number
pub none_block : {b : ℕ} → None ≡ block_of b → b ≡ 0
none_block {b} e = same? b 0 (λ q y. q) (λ h y. absurd (let d : ◌≡◌ {A = Option ℕ} None (Some b) = rw y at e in let z : ◌≡◌ {A = ℕ} 0 1 = cc in omega arith))

pub some_block : {last b : ℕ} → Some last ≡ block_of b → (last ≡ b) × (last ≡ 0 → ⊥)
some_block {last} {b} e =
    same? b 0
    (λ q y. absurd (let d : ◌≡◌ {A = Option ℕ} (Some last) None = rw y at e in let z : ◌≡◌ {A = ℕ} 0 1 = cc in omega arith))
    (λ h y. let d : ◌≡◌ {A = Option ℕ} (Some last) (Some b) = rw y at e in let f : last ≡ b = cc in (f, λ z. h (sym f ∙ z)))
