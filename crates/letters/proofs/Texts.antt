-- Words laid into the blocks of a chain, over a node's rows: which rows change, that links stay, and what is read back. Assumes nothing.
--     fill     the words ws laid into the blocks c, B-1 to a block
--     fill_other, fill_same, fill_length, fill_link, fill_leads     what stays: other rows, lengths, links, every chain
--     fill_text     THE LAW OF WRITING: the text of the chain, as one list, has the words laid over its front; fill_read     and they are read back
--     fill_apart     a chain with no block in common keeps its text
use mathlib.Core.Path.{◌≡◌, refl, sym, ap, ap₂, ◌∙◌}
use mathlib.Core.List.{List, [], ◌∷◌, ◌++◌}
use Prim.Native.Nat.{ℕ, ◌+◌, ◌-◌, ◌*◌, ◌≤◌}
use native.Mathlib.Omega.{arith}
use lib.ListN.{length, take, drop, length-take}
use lib.Seq.{take-take, length-take-le}
use Rattle.words.specs.Count.{occurs}
use Rattle.words.proofs.Count.{hit_self}
use Rattle.words.proofs.Lists.{put, put_same, put_other, same?}
use Rattle.words.proofs.Over.{over, length_over, over_nil, over_append, take_over, over_read, get_d_over}
use Rattle.blocks.specs.Chain.{Once}
use Rattle.blocks.proofs.Chains.{link_in, Leads, text_in, Same, leads_links, text_same, same_put, length-text}

unfoldable pub fill : ℕ → (ℕ → List ℕ) → List ℕ → List ℕ → ℕ → List ℕ
fill B R [] ws = R
fill B R (b ∷ c) ws = fill B (put R (76 + b) (over (take (B - 1) ws) (R (76 + b)))) c (drop (B - 1) ws)

-- no row changes but those of the chain's blocks
pub fill_other : (B : ℕ) (R : ℕ → List ℕ) (c ws : List ℕ) (r : ℕ) → ((b : ℕ) → 1 ≤ occurs b c → r ≡ 76 + b → ⊥) → fill B R c ws r ≡ R r
unfolding fill
fill_other B R [] ws r h = refl
fill_other B R (b ∷ c) ws r h =
    fill_other B (put R (76 + b) (over (take (B - 1) ws) (R (76 + b)))) c (drop (B - 1) ws) r (λ x o. h x (omega arith))
    ∙ put_other R (76 + b) (over (take (B - 1) ws) (R (76 + b))) r (h b (omega (arith, hit_self b)))

pub fill_same : (B : ℕ) (R : ℕ → List ℕ) (c ws l : List ℕ) → ((b : ℕ) → 1 ≤ occurs b l → occurs b c ≡ 0) → Same R (fill B R c ws) l
unfolding Same
fill_same B R c ws l h =
    λ b o. fill_other B R c ws (76 + b) (λ x k e. let q : b ≡ x = omega arith in let z : occurs x c ≡ 0 = rw (← q) (h b o) in omega arith)

pub fill_length : (B : ℕ) (R : ℕ → List ℕ) (c ws : List ℕ) (r : ℕ) → length (fill B R c ws r) ≡ length (R r)
unfolding fill
fill_length B R [] ws r = refl
fill_length B R (b ∷ c) ws r =
    fill_length B (put R (76 + b) (over (take (B - 1) ws) (R (76 + b)))) c (drop (B - 1) ws) r
    ∙ same? r (76 + b) (λ q e. rw (e, q) (length_over (take (B - 1) ws) (R (76 + b)))) (λ q e. rw e)

-- links stay
pub fill_link : (B : ℕ) (R : ℕ → List ℕ) (c ws : List ℕ) (x : ℕ) → link_in B (fill B R c ws) x ≡ link_in B R x
unfolding fill
fill_link B R [] ws x = refl
fill_link B R (b ∷ c) ws x =
    fill_link B (put R (76 + b) (over (take (B - 1) ws) (R (76 + b)))) c (drop (B - 1) ws) x
    ∙ same? (76 + x) (76 + b)
    (λ q e. rw (e, q) (get_d_over (take (B - 1) ws) (R (76 + b)) (B - 1) (rw (length-take (B - 1) ws) (omega arith))))
    (λ q e. rw e)

-- so every chain, and the free list, is as it was
pub fill_leads : (B : ℕ) (R : ℕ → List ℕ) (c ws : List ℕ) (b : ℕ) (l : List ℕ) (e : ℕ) → Leads B R b l e → Leads B (fill B R c ws) b l e
fill_leads B R c ws b l e h = leads_links B R (fill B R c ws) (fill_link B R c ws) b l e h

-- and so are the words of a chain that has no block in common
pub fill_apart : (B : ℕ) (R : ℕ → List ℕ) (c ws l : List ℕ) → ((b : ℕ) → 1 ≤ occurs b l → occurs b c ≡ 0) → text_in B (fill B R c ws) l ≡ text_in B R l
fill_apart B R c ws l h = text_same B R (fill B R c ws) l (fill_same B R c ws l h)

-- THE LAW OF WRITING
pub fill_text : (B : ℕ) (R : ℕ → List ℕ) (c ws : List ℕ) → Once c → ((b : ℕ) → 1 ≤ occurs b c → length (R (76 + b)) ≡ B)
    → text_in B (fill B R c ws) c ≡ over ws (text_in B R c)
unfolding fill
fill_text B R [] ws d z = sym (over_nil ws)
fill_text B R (b ∷ c) ws d z =
    let k : ℕ = B - 1 in
    let w : List ℕ = R (76 + b) in
    let R₁ : ℕ → List ℕ = put R (76 + b) (over (take k ws) w) in
    let zb = z b (omega (arith, hit_self b)) in
    let nb : occurs b c ≡ 0 = omega (arith, d b, hit_self b) in
    let out : (x : ℕ) → 1 ≤ occurs x c → 76 + x ≡ 76 + b → ⊥ = λ x o e. (let q : x ≡ b = omega arith in let y : occurs x c ≡ 0 = rw q nb in omega arith) in
    let first : fill B R₁ c (drop k ws) (76 + b) ≡ over (take k ws) w =
    fill_other B R₁ c (drop k ws) (76 + b) (λ x o e. out x o (sym e)) ∙ put_same R (76 + b) (over (take k ws) w) in
    let len : length (take k w) ≡ k = length-take-le k w (omega arith) in
    let size : (x : ℕ) → 1 ≤ occurs x c → length (R₁ (76 + x)) ≡ B = λ x o. ap length (put_other R (76 + b) (over (take k ws) w) (76 + x) (out x o)) ∙ z x (omega arith) in
    let rest : text_in B (fill B R₁ c (drop k ws)) c ≡ over (drop k ws) (text_in B R c) =
    fill_text B R₁ c (drop k ws) (λ x. omega (arith, d x)) size ∙ ap (over (drop k ws)) (text_same B R R₁ c (same_put R (76 + b) (over (take k ws) w) c out)) in
    ap₂ (λ (u v : List ℕ). u ++ v) (ap (take k) first ∙ take_over k (take k ws) w ∙ ap (λ (u : List ℕ). over u (take k w)) (take-take k k ws (omega arith))) rest
    ∙ sym (over_append ws (take k w) (text_in B R c) ∙ ap (λ (i : ℕ). over (take i ws) (take k w) ++ over (drop i ws) (text_in B R c)) len)

-- what is written is read back
pub fill_read : (B : ℕ) (R : ℕ → List ℕ) (c ws : List ℕ) → Once c → ((b : ℕ) → 1 ≤ occurs b c → length (R (76 + b)) ≡ B) → length ws ≤ length c * (B - 1)
    → take (length ws) (text_in B (fill B R c ws) c) ≡ ws
fill_read B R c ws d z h = rw (fill_text B R c ws d z) (over_read ws (text_in B R c) (rw (length-text B R c z) h))
