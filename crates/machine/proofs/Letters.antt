-- Lists of letters: what holds of each, how often a block stands in them, and their first blocks. Assumes nothing.
use mathlib.Core.Path.{◌≡◌, refl, ap, ◌∙◌}
use mathlib.Core.List.{List, [], ◌∷◌, ◌++◌}
use Prim.Native.Nat.{ℕ, zero, suc, ◌+◌, ◌≤◌, ◌<◌}
use native.Mathlib.Omega.{arith}
use lib.ListN.{length, get_or, take}
use Rattle.words.specs.Count.{occurs, down_from}
use Rattle.words.proofs.Count.{hit_self}
use Rattle.blocks.proofs.Chains.{Same, leads_same, text_same}
use Rattle.settings.specs.declared.Settings.{Settings}
use Rattle.machine.specs.Machine.{Letter, gap, first, firsts, Live, All, many}
use Rattle.machine.specs.Core.{Held}

module _ {ℓ} {A : Type ℓ} (P : A → Type 0) where
  pub all_append : (xs ys : List A) → All P xs → All P ys → All P (xs ++ ys)
  all_append [] ys h k = k
  all_append (x ∷ xs) ys h k = (h.0, all_append xs ys h.1 k)

  pub all_parts : (xs ys : List A) → All P (xs ++ ys) → All P xs × All P ys
  all_parts [] ys h = (tt, h)
  all_parts (x ∷ xs) ys h = let k = all_parts xs ys h.1 in ((h.0, k.0), k.1)

  pub all_map : (Q : A → Type 0) → ((x : A) → P x → Q x) → (xs : List A) → All P xs → All Q xs
  all_map Q f [] h = tt
  all_map Q f (x ∷ xs) h = (f x h.0, all_map Q f xs h.1)

pub many-append : (b : ℕ) (xs ys : List Letter) → many b (xs ++ ys) ≡ many b xs + many b ys
many-append b [] ys = omega arith
many-append b (x ∷ xs) ys = omega (arith, many-append b xs ys)

pub firsts-append : (xs ys : List Letter) → firsts (xs ++ ys) ≡ firsts xs ++ firsts ys
firsts-append [] ys = refl
firsts-append (x ∷ xs) ys = ap (λ (l : List ℕ). first x ∷ l) (firsts-append xs ys)

pub length-firsts : (xs : List Letter) → length (firsts xs) ≡ length xs
length-firsts [] = refl
length-firsts (x ∷ xs) = ap suc (length-firsts xs)

-- ---- one of them
pub all_at : (P : Letter → Type 0) (n : ℕ) (ls : List Letter) → n < length ls → All P ls → P (get_or ls n gap)
all_at P n [] h a = absurd (omega arith)
all_at P zero (L ∷ ls) h a = a.0
all_at P (suc n) (L ∷ ls) h a = all_at P n ls (omega arith) a.1

pub many_at : (b n : ℕ) (ls : List Letter) → n < length ls → occurs b (get_or ls n gap).chain ≤ many b ls
many_at b n [] h = absurd (omega arith)
many_at b zero (L ∷ ls) h = omega arith
many_at b (suc n) (L ∷ ls) h = omega (arith, many_at b n ls (omega arith))

-- a letter whose first block is no 0 has blocks, and the first is one of them
pub alive : (L : Letter) → (first L ≡ 0 → ⊥) → Live L
alive L n = go L.chain n
  where
    go : (c : List ℕ) → (get_or c 0 0 ≡ 0 → ⊥) → 1 ≤ length c
    go [] k = absurd (k refl)
    go (x ∷ c) k = omega arith

pub first_in_lem : (L : Letter) → Live L → 1 ≤ occurs (first L) L.chain
first_in_lem L v = go L.chain v
  where
    go : (c : List ℕ) → 1 ≤ length c → 1 ≤ occurs (get_or c 0 0) c
    go [] k = absurd (omega arith)
    go (x ∷ c) k = omega (arith, hit_self x)

-- the letters' blocks are of 1 to m
abbrev pub Among : ℕ → List Letter → Type 0
Among m ls = (b : ℕ) → many b ls ≤ occurs b (down_from m)

-- THE FRAME: letters whose blocks' rows are the same are held as before
module _ (s : Settings) (R R' : ℕ → List ℕ) where
  pub held_same : (L : Letter) → Same R R' L.chain → Held s R L → Held s R' L
  held_same L f h =
      record {
        leads = leads_same s.b R R' (first L) L.chain 0 f h.leads;
        reads = ap (take (length L.words)) (text_same s.b R R' L.chain f) ∙ h.reads;
        blocks = h.blocks;
      }

  pub all_same : (ls : List Letter) → ((b : ℕ) → 1 ≤ many b ls → R' (76 + b) ≡ R (76 + b)) → All (Held s R) ls → All (Held s R') ls
  unfolding Same
  all_same [] f h = tt
  all_same (L ∷ ls) f h = (held_same L (λ b o. f b (omega arith)) h.0, all_same ls (λ b o. f b (omega arith)) h.1)
