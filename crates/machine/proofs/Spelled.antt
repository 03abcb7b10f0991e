-- The letters that a stretch spells: their chains, their words, and that those that pass the test are held and right. Assumes nothing.
use mathlib.Core.Path.{◌≡◌, refl, sym, ap, ◌∙◌, subst}
use mathlib.Core.Bool.{Bool, true, ◌&&◌}
use mathlib.Core.List.{List, [], ◌∷◌, map}
use Prim.Native.Nat.{ℕ, zero, suc, ◌-◌, ◌*◌, ◌≤◌}
use native.Mathlib.Nat.{div-eq_of_lt}
use native.Mathlib.Omega.{arith}
use lib.Dec.{eqb, leb}
use lib.ListN.{length, get_or, take}
use lib.Seq.{length-take-le, get_or-take}
use borrow.Author.Tests.{ne_eqb, eqb-true, eqb-false, leb-true}
use Rattle.words.specs.Words.{all}
use Rattle.words.specs.Count.{occurs}
use Rattle.words.proofs.Count.{hit_other, occurs-append}
use Rattle.words.proofs.Lists.{split, same?, and-true, all_head}
use Rattle.settings.specs.declared.Settings.{Settings}
use Rattle.settings.specs.Range.{InRange}
use Rattle.layout.specs.Numbers.{header_words, greatest_length, length_word}
use Rattle.layout.specs.Asked.{Stretch}
use Rattle.blocks.specs.Chain.{needs, link, after, list, text}
use Rattle.blocks.proofs.Chains.{Leads, text_in, length-text}
use Rattle.blocks.proofs.Rows.{rows, list-leads, text_rows, block-long}
use Rattle.letters.proofs.Rows.{needs-enough}
use Rattle.queues.specs.Items.{live}
use Rattle.sound.specs.Letters.{chain_from, ends_well, told_length, words_from, right_length, right_header, right_place, right_letter}
use Rattle.sound.specs.Blocks.{chains}
use Rattle.machine.specs.Machine.{Letter, gap, first, firsts, Live, All, many}
use Rattle.machine.specs.Spelled.{letter_from}
use Rattle.machine.specs.Core.{Held}
use Rattle.machine.specs.Represents.{Right}

pub needs_none : (s : Settings) → InRange s → needs s 0 ≡ 0
unfolding needs
needs_none s r = let w = r.b.low in div-eq_of_lt (omega arith)

-- a number that stands in the list passes the test
pub all_in : (p : ℕ → Bool) (l : List ℕ) (x : ℕ) → all p l ≡ true → 1 ≤ occurs x l → p x ≡ true
all_in p [] x e o = absurd (omega arith)
all_in p (y ∷ l) x e o =
    let h = all_head p y l e in
    same? x y (λ q t. rw q h.0) (λ q t. all_in p l x h.1 (omega (arith, hit_other x y q)))

module _ (s : Settings) (l : List ℕ) where
  -- ---- the blocks from b on
  pub list_none : (n : ℕ) → list s l n 0 ≡ []
  unfolding list
  list_none zero = refl
  list_none (suc n) = refl

  pub list_first : (n b : ℕ) → 1 ≤ n → get_or (list s l n b) 0 0 ≡ b
  unfolding list
  list_first zero b h = absurd (omega arith)
  list_first (suc n) b h = split (eqb b 0) (λ t. rw t (sym (eqb-true b 0 t))) (λ t. rw t)

  pub list_some : (n b : ℕ) → 1 ≤ n → 1 ≤ b → 1 ≤ length (list s l n b)
  unfolding list
  list_some zero b h g = absurd (omega arith)
  list_some (suc n) b h g = rw (ne_eqb b 0 (λ e. omega arith)) (omega arith)

  pub list-zero : (n b : ℕ) → occurs 0 (list s l n b) ≡ 0
  unfolding list
  list-zero zero b = refl
  list-zero (suc n) b =
      split (eqb b 0) (λ t. rw t)
      (λ t. rw t (omega (arith, hit_other 0 b (λ z. eqb-false b 0 t (sym z)), list-zero n (link s l b))))

  -- ---- the letter that b begins
  module _ (r : InRange s) where
    pub first_from_lem : (b : ℕ) → first (letter_from s l b) ≡ b
    unfolding letter_from
    first_from_lem b = list_first s.m b r.m.low

    pub firsts_from : (xs : List ℕ) → firsts (map (letter_from s l) xs) ≡ xs
    firsts_from [] = refl
    firsts_from (b ∷ xs) = rw (first_from_lem b, firsts_from xs)

    pub live_from : (b : ℕ) → 1 ≤ b → Live (letter_from s l b)
    unfolding letter_from
    live_from b h = list_some s.m b r.m.low h

  pub gap_from : letter_from s l 0 ≡ gap
  unfolding letter_from words_from text
  gap_from = rw (list_none s.m)

  pub zero_from : (b : ℕ) → occurs 0 (letter_from s l b).chain ≡ 0
  unfolding letter_from
  zero_from b = list-zero s.m b

  -- ---- a chain that ends well
  module _ (r : InRange s) (b : ℕ) (e : ends_well s l b ≡ true) where
    ends : (all (λ x. leb 1 x && leb x s.m) (chain_from s l b) ≡ true) × (after s l (length (chain_from s l b)) b ≡ 0)
    unfolding ends_well
    ends =
        let h = and-true (all (λ x. leb 1 x && leb x s.m) (chain_from s l b)) (eqb (after s l (length (chain_from s l b)) b) 0) e in
        (h.0, eqb-true (after s l (length (chain_from s l b)) b) 0 h.1)

    pub ends_in : (x : ℕ) → 1 ≤ occurs x (chain_from s l b) → (1 ≤ x) × (x ≤ s.m)
    ends_in x o =
        let h = and-true (leb 1 x) (leb x s.m) (all_in (λ x. leb 1 x && leb x s.m) (chain_from s l b) x ends.0 o) in
        (leb-true 1 x h.0, leb-true x s.m h.1)

    pub ends-leads : Leads s.b (rows s l) b (chain_from s l b) 0
    ends-leads =
        subst (λ (z : ℕ). Leads s.b (rows s l) b (chain_from s l b) z) ends.1 (list-leads s r l s.m b (λ x o. (ends_in x o).0))

  -- ---- a letter that passes the test
  module _ (st : Stretch s l) (table : List ℕ) (i p b : ℕ) (e : right_letter s l table i p b ≡ true) where
    abbrev r : InRange s
    r = st.range

    pub letter-ends : ends_well s l b ≡ true
    unfolding right_letter
    letter-ends = (and-true (ends_well s l b) _ e).0

    rest : (right_length s l b ≡ true) × (right_header table (words_from s l b) ≡ true) × (right_place table i p (words_from s l b) ≡ true)
    unfolding right_letter
    rest =
        let g : Bool = right_header table (words_from s l b) in
        let k : Bool = right_place table i p (words_from s l b) in
        let a = and-true (right_length s l b) (g && k) (and-true (ends_well s l b) (right_length s l b && (g && k)) e).1 in
        let c = and-true g k a.1 in
        (a.0, c.0, c.1)

    lengths : (header_words ≤ told_length s l b) × (told_length s l b ≤ greatest_length) × (length (chain_from s l b) ≡ needs s (told_length s l b))
    unfolding right_length
    lengths =
        let n : ℕ = told_length s l b in
        let c : Bool = eqb (length (chain_from s l b)) (needs s n) in
        let a = and-true (leb 5 n) (leb n 1024 && c) rest.0 in
        let d = and-true (leb n 1024) c a.1 in
        (leb-true 5 n a.0, leb-true n 1024 d.0, eqb-true (length (chain_from s l b)) (needs s n) d.1)

    words-text : text s l (chain_from s l b) ≡ text_in s.b (rows s l) (chain_from s l b)
    words-text = text_rows s r l (chain_from s l b) (λ x o. (ends_in r b letter-ends x o).0)

    enough : told_length s l b ≤ length (text s l (chain_from s l b))
    enough =
        let c : List ℕ = chain_from s l b in
        let z : length (text s l c) ≡ length c * (s.b - 1) =
        ap length words-text ∙ length-text s.b (rows s l) c (λ x o. let g = ends_in r b letter-ends x o in block-long s l st x g.0 g.1) in
        rw (z, lengths.2) (needs-enough s r (told_length s l b))

    words_long : length (words_from s l b) ≡ told_length s l b
    unfolding words_from
    words_long = length-take-le (told_length s l b) (text s l (chain_from s l b)) enough

    words_are : take (told_length s l b) (text s l (chain_from s l b)) ≡ words_from s l b
    unfolding words_from
    words_are = refl

    words-told : get_or (words_from s l b) length_word 0 ≡ told_length s l b
    unfolding words_from
    words-told = get_or-take (told_length s l b) (text s l (chain_from s l b)) 4 0 lengths.0

    pub held_from : Held s (rows s l) (letter_from s l b)
    unfolding letter_from
    held_from =
        record {
          leads = rw (list_first s.m b r.m.low) (ends-leads r b letter-ends);
          reads = rw (words_long, ← words-text) (words_are);
          blocks = rw words_long lengths.2;
        }

    pub right_from : Right table i p (words_from s l b)
    right_from =
        record {
          least = rw words_long lengths.0;
          most = rw words_long lengths.1;
          told = words-told ∙ sym words_long;
          header = rest.1;
          place = rest.2;
        }

  -- ---- what holds of the letter of each number that passes, gaps or none
  module _ (t : ℕ → Bool) (P : Letter → Type 0) (f : (b : ℕ) → t b ≡ true → P (letter_from s l b)) where
    pub all_from : (xs : List ℕ) → all t xs ≡ true → All P (map (letter_from s l) xs)
    all_from [] e = tt
    all_from (b ∷ xs) e = let h = all_head t b xs e in (f b h.0, all_from xs h.1)

    pub all-live_from : P gap → (xs : List ℕ) → all t (live xs) ≡ true → All P (map (letter_from s l) xs)
    unfolding live
    all-live_from g [] e = tt
    all-live_from g (b ∷ xs) e =
        split (eqb b 0)
        (λ u. (subst P (sym (ap (letter_from s l) (eqb-true b 0 u) ∙ gap_from)) g, all-live_from g xs (rw u at e)))
        (λ u. let h = all_head t b (live xs) (rw u at e) in (f b h.0, all-live_from g xs h.1))

  -- ---- counts
  pub occurs-chains : (x : ℕ) (bs : List ℕ) → occurs x (chains s l bs) ≡ many x (map (letter_from s l) bs)
  unfolding chains letter_from
  occurs-chains x [] = refl
  occurs-chains x (b ∷ bs) = omega (arith, occurs-append x (chain_from s l b) (chains s l bs), occurs-chains x bs)

  chain_of : (x b : ℕ) → occurs x (letter_from s l b).chain ≡ occurs x (chain_from s l b)
  unfolding letter_from
  chain_of x b = refl

  pub occurs-live : (x : ℕ) (bs : List ℕ) → occurs x (chains s l (live bs)) ≡ many x (map (letter_from s l) bs)
  unfolding chains live
  occurs-live x [] = refl
  occurs-live x (b ∷ bs) =
      split (eqb b 0)
      (λ u.
      let z : occurs x (letter_from s l b).chain ≡ 0 = ap (λ (y : ℕ). occurs x (letter_from s l y).chain) (eqb-true b 0 u) ∙ ap (λ (L : Letter). occurs x L.chain) gap_from in
      rw u (omega (arith, occurs-live x bs)))
      (λ u. rw u (omega (arith, occurs-append x (chain_from s l b) (chains s l (live bs)), occurs-live x bs, chain_of x b)))
