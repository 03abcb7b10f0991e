-- A letter that ends well and has a right length: its chain, its words and each word as the functions on letters read them. Assumes nothing.
use mathlib.Core.Path.{◌≡◌, refl, sym, ap, ◌∙◌}
use mathlib.Core.Bool.{true, ◌&&◌}
use mathlib.Core.List.{List, ◌∷◌}
use Prim.Native.Nat.{ℕ, zero, suc, ◌+◌, ◌-◌, ◌/◌, ◌≤◌, ◌<◌}
use native.Mathlib.Nat.{le-div_iff_mul-le, div-mul-le_self}
use native.Mathlib.Omega.{arith}
use lib.Dec.{eqb, leb}
use lib.ListN.{length, get_or, take}
use lib.Seq.{get_or-take}
use borrow.Author.Tests.{eqb-true, leb-true}
use Rattle.words.specs.Words.{all}
use Rattle.words.proofs.Lists.{split, and-true}
use Rattle.settings.specs.declared.Settings.{Settings}
use Rattle.settings.specs.Range.{InRange}
use Rattle.layout.specs.Numbers.{header_words, greatest_length, length_word}
use Rattle.layout.specs.Asked.{Stretch}
use Rattle.blocks.specs.Chain.{needs, link, chain, after, list, text, Within}
use Rattle.letters.specs.Letter.{word, told, letter}
use Rattle.letters.specs.Asked.{Lies}
use Rattle.letters.proofs.Laws.{word-letter}
use Rattle.sound.specs.Letters.{chain_from, ends_well, told_length, words_from, right_length}
use Rattle.sound.proofs.Gives.{all-within}

module _ (s : Settings) (w : List ℕ) where
  -- a list up to a link 0 is a chain of its own length
  pub list-chain : (n b : ℕ) → list s w n b ≡ chain s w (length (list s w n b)) b
  unfolding list chain
  list-chain zero b = refl
  list-chain (suc n) b = split (eqb b 0) (λ t. rw t) (λ t. rw t (ap (λ (l : List ℕ). b ∷ l) (list-chain n (link s w b))))

  -- a shorter chain of blocks is one of blocks
  pub chain_front : (m n k b : ℕ) → n ≤ k → Within m (chain s w k b) → Within m (chain s w n b)
  unfolding chain Within
  chain_front m zero k b h a = tt
  chain_front m (suc n) zero b h a = absurd (omega arith)
  chain_front m (suc n) (suc k) b h a = (a.0, chain_front m n k (link s w b) (omega arith) a.1)

  -- fewer words need no more blocks
  pub needs-most : InRange s → (m n : ℕ) → m ≤ n → needs s m ≤ needs s n
  unfolding needs
  needs-most g m n h =
      let k : ℕ = s.b - 1 in
      let l = g.b.low in
      (le-div_iff_mul-le {k = k} {x = (m + (s.b - 2)) / k} {y = n + (s.b - 2)} (omega arith)).1
      (omega (arith, div-mul-le_self (m + (s.b - 2)) k))

  module _ (st : Stretch s w) (b : ℕ) (e : ends_well s w b ≡ true) (r : right_length s w b ≡ true) where
    abbrev n : ℕ
    n = told_length s w b

    lengths : (leb header_words n ≡ true) × (leb n greatest_length && eqb (length (chain_from s w b)) (needs s n) ≡ true)
    unfolding right_length
    lengths = and-true (leb header_words n) _ r

    pub right_least : header_words ≤ n
    right_least = leb-true header_words n lengths.0

    pub right_most : n ≤ greatest_length
    right_most = leb-true n greatest_length (and-true (leb n greatest_length) _ lengths.1).0

    -- 'the blocks it needs'
    pub right_needs : length (chain_from s w b) ≡ needs s n
    right_needs = eqb-true (length (chain_from s w b)) (needs s n) (and-true (leb n greatest_length) _ lengths.1).1

    pub right_chain : chain_from s w b ≡ chain s w (needs s n) b
    right_chain = list-chain s.m b ∙ ap (λ (k : ℕ). chain s w k b) right_needs

    pub right_ends : after s w (needs s n) b ≡ 0
    unfolding ends_well
    right_ends =
        ap (λ (k : ℕ). after s w k b) (sym right_needs)
        ∙ eqb-true (after s w (length (chain_from s w b)) b) 0 (and-true (all (λ x. leb 1 x && leb x s.m) (chain_from s w b)) _ e).1

    pub right_within : Within s.m (chain s w (needs s n) b)
    unfolding ends_well
    right_within =
        rw (← right_chain) (all-within s.m (chain_from s w b) (and-true (all (λ x. leb 1 x && leb x s.m) (chain_from s w b)) _ e).0)

    -- the letter lies in its blocks, and so do its first words
    pub right_lies : (k : ℕ) → k ≤ n → Lies s w k b
    right_lies k h =
        record {
          walks = record { stretch = st; within = chain_front s.m (needs s k) (needs s n) b (needs-most st.range k n h) right_within };
          most = omega (arith, right_most);
        }

    -- the words as `letter` reads them
    pub right_letter_lem : letter s w n b ≡ words_from s w b
    unfolding letter words_from
    right_letter_lem = ap (λ (c : List ℕ). take n (text s w c)) (sym right_chain)

    -- each word as `word` reads it, and the length as `told` does
    pub right_word : (k : ℕ) → k < n → word s w b k ≡ get_or (words_from s w b) k 0
    right_word k h = word-letter s w st n b k right_within h ∙ ap (λ (l : List ℕ). get_or l k 0) right_letter_lem

    first-words : get_or (words_from s w b) length_word 0 ≡ n
    unfolding words_from
    first-words = get_or-take n (text s w (chain_from s w b)) length_word 0 (omega (arith, right_least))

    pub right_told : told s w b ≡ n
    right_told = right_word length_word (omega (arith, right_least)) ∙ first-words
