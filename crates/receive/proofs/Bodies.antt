-- A whole letter as the functions on letters read it: its length, its body, the blocks it needs. Assumes nothing.
use mathlib.Core.Path.{◌≡◌, refl, sym, ap, ◌∙◌}
use mathlib.Core.List.{List, ◌++◌}
use Prim.Native.Nat.{ℕ, ◌+◌, ◌-◌, ◌*◌, ◌≤◌}
use native.Mathlib.Nat.{zero-mul}
use native.Mathlib.Omega.{arith}
use lib.ListN.{length, get_or, take, drop, length-drop}
use lib.Seq.{length-take-le}
use borrow.Rule.Slice.PartMut.{post_of, Post-is}
use Rattle.words.proofs.Lists.{same?}
use Rattle.settings.specs.declared.Settings.{Settings}
use Rattle.settings.specs.Range.{InRange}
use Rattle.layout.specs.Numbers.{header_words, source_task_word, greatest_body}
use Rattle.blocks.specs.Chain.{needs, text, Within, chain}
use Rattle.letters.specs.Letter.{word, told, letter, onto}
use Rattle.letters.specs.Asked.{Lies}
use Rattle.letters.proofs.Rows.{chain-long, needs-enough}
use Rattle.sound.specs.Letters.{chain_from, told_length, words_from}
use Rattle.sound.proofs.Right.{right_least, right_most, right_needs, right_chain, right_within, right_lies, right_letter_lem, right_word, right_told}
use Rattle.receive.specs.Asked.{Whole, Fits}

-- some words need a block
pub needs_some : (s : Settings) → InRange s → (k : ℕ) → 1 ≤ k → 1 ≤ needs s k
needs_some s r k h =
    same? (needs s k) 0
    (λ q t. let z : needs s k * (s.b - 1) ≡ 0 = ap (λ (j : ℕ). j * (s.b - 1)) q ∙ zero-mul (s.b - 1) in absurd (omega (arith, needs-enough s r k)))
    (λ q t. omega arith)

module _ (s : Settings) (w : List ℕ) (b : ℕ) (h : Whole s w b) where
  abbrev n : ℕ
  n = told_length s w b

  least : header_words ≤ n
  least = right_least s w h.stretch b h.ends h.long

  -- a word of the header
  pub lies_first : Lies s w 1 b
  lies_first = right_lies s w h.stretch b h.ends h.long 1 (omega (arith, least))

  pub lies-header : Lies s w header_words b
  lies-header = right_lies s w h.stretch b h.ends h.long 5 least

  pub word_source : word s w b source_task_word ≡ get_or (words_from s w b) source_task_word 0
  word_source = right_word s w h.stretch b h.ends h.long 0 (omega (arith, least))

  -- the letter has as many words as it tells
  pub whole_words : length (words_from s w b) ≡ n
  unfolding words_from
  whole_words =
      let e : length (text s w (chain_from s w b)) ≡ needs s n * (s.b - 1) =
      ap (λ (c : List ℕ). length (text s w c)) (right_chain s w h.stretch b h.ends h.long)
      ∙ chain-long s w (needs s n) b (record { stretch = h.stretch; within = right_within s w h.stretch b h.ends h.long }) in
      length-take-le n (text s w (chain_from s w b)) (omega (arith, needs-enough s h.stretch.range n))

  -- ---- the body
  pub body_words : length (drop header_words (words_from s w b)) ≡ n - header_words
  body_words = length-drop 5 (words_from s w b) ∙ ap (λ (k : ℕ). k - 5) whole_words

  pub body_most : length (drop header_words (words_from s w b)) ≤ greatest_body
  body_most = omega (arith, body_words, right_most s w h.stretch b h.ends h.long)

  pub body_told : {r : ℕ} → r ≡ told s w b → (header_words ≤ r) × (r - header_words ≡ length (drop header_words (words_from s w b)))
  body_told {r} e =
      let f : r ≡ n = e ∙ right_told s w h.stretch b h.ends h.long in
      (omega (arith, least), ap (λ (k : ℕ). k - 5) f ∙ sym body_words)

  module _ {k : ℕ} (e : k ≡ length (drop header_words (words_from s w b))) where
    pub body_whole : header_words + k ≡ n
    body_whole = omega (arith, body_words, least)

    -- the words from any word of the header on
    pub lies_body : (a m : ℕ) → a ≤ header_words → m ≡ k → Lies s w (a + m) b
    lies_body a m l f = right_lies s w h.stretch b h.ends h.long (a + m) (omega (arith, body_whole))

    pub read_is : (m : ℕ) → m ≡ k → drop header_words (letter s w (header_words + m) b) ≡ drop header_words (words_from s w b)
    read_is m f =
        let g : header_words + m ≡ n = omega (arith, body_whole) in
        ap (λ (j : ℕ). drop 5 (letter s w j b)) g ∙ ap (drop 5) (right_letter_lem s w h.stretch b h.ends h.long)

    -- ---- the blocks
    pub owed_is : needs s (k + header_words) ≡ length (chain_from s w b)
    owed_is =
        let g : k + header_words ≡ n = omega (arith, body_whole) in
        ap (needs s) g ∙ sym (right_needs s w h.stretch b h.ends h.long)

  -- the blocks of the letter's first words
  pub owed_within : (k : ℕ) → k ≤ n → Within s.m (chain s w (needs s k) b)
  owed_within k g = (right_lies s w h.stretch b h.ends h.long k g).walks.within

-- the front of out lent, and back with the body read into it
module _ (s : Settings) (w : List ℕ) (b n : ℕ) (out : List ℕ) (f : Fits s w b n out) where
  lent-long : length (take (n - 0) out) ≡ n
  lent-long = let z : n - 0 ≡ n = omega arith in ap (λ (k : ℕ). length (take k out)) z ∙ length-take-le n out f.room

  pub fits-lies : (a : ℕ) → a ≤ header_words → Lies s w (a + length (take (n - 0) out)) b
  fits-lies a l = lies_body s w b f.letter f.words a (length (take (n - 0) out)) l lent-long

  pub fits-back : (p : List ℕ) → p ≡ drop header_words (letter s w (header_words + length (take (n - 0) out)) b)
      → p ++ post_of 0 (n - 0) out ≡ onto (drop header_words (words_from s w b)) out
  unfolding onto
  fits-back p e =
      let q : p ≡ drop header_words (words_from s w b) = e ∙ read_is s w b f.letter f.words (length (take (n - 0) out)) lent-long in
      rw (q, ← f.words, Post-is 0 n out (omega arith)) refl
