-- A chain that ends well, and what may be read of the letter in it. Assumes nothing.
use mathlib.Core.Path.{◌≡◌, sym, ap, ◌∙◌}
use mathlib.Core.Bool.{true, false, ◌&&◌}
use mathlib.Core.List.{List}
use Prim.Native.Nat.{ℕ, suc, ◌+◌, ◌-◌, ◌*◌, ◌/◌, ◌≤◌, ◌<◌}
use native.Mathlib.Nat.{suc-mul, mul-le-mul, div-lt_iff_lt-mul}
use native.Mathlib.Omega.{arith}
use lib.Dec.{eqb, leb}
use lib.ListN.{length, get_or, get_or-eq_default}
use Rattle.words.proofs.Lists.{and-true}
use Rattle.settings.specs.declared.Settings.{Settings}
use Rattle.layout.specs.Asked.{Stretch}
use Rattle.blocks.specs.Chain.{needs, chain, text, Within}
use Rattle.blocks.proofs.Chains.{length-text}
use Rattle.blocks.proofs.Moves.{length-list}
use Rattle.blocks.proofs.Rows.{rows, within_in, text_rows, block-long}
use Rattle.letters.specs.Letter.{word, letter}
use Rattle.letters.specs.Asked.{Lies}
use Rattle.letters.proofs.Laws.{word-text}
use Rattle.sound.proofs.Tests.{and_assoc}
use Rattle.sound.proofs.Gives.{all-within}
use Rattle.sound.proofs.Right.{list-chain, chain_front, right_least, right_most, right_needs, right_chain, right_lies, right_letter_lem, right_word}
use Rattle.sound.specs.Letters.{chain_from, ends_well, told_length, words_from, right_length}
use Rattle.visits.specs.Letters.{Whole, Readable}

module _ (s : Settings) (l : List ℕ) where
  pub ends-within : (b : ℕ) → ends_well s l b ≡ true → Within s.m (chain_from s l b)
  unfolding ends_well
  ends-within b e = all-within s.m (chain_from s l b) (and-true _ _ e).0

  module _ (st : Stretch s l) where
    length-words : (c : List ℕ) → Within s.m c → length (text s l c) ≡ length c * (s.b - 1)
    length-words c w =
        ap length (text_rows s st.range l c (λ x o. (within_in s.m c x w o).0))
        ∙ length-text s.b (rows s l) c (λ x o. let i = within_in s.m c x w o in block-long s l st x i.0 i.1)

-- ---- a chain that was visited to its end
module _ (s : Settings) (l : List ℕ) (b n : ℕ) (w : Whole s l b n) where
  whole : chain s l n b ≡ chain_from s l b
  whole = ap (λ (k : ℕ). chain s l k b) w.count ∙ sym (list-chain s l s.m b)

  pub carried-small : n * (s.b - 1) ≤ 65536
  carried-small =
      let c = w.count in
      let r = w.stretch.range in
      let k : n ≤ 1024 = omega (arith, c, length-list s l s.m b, r.m.high) in
      let j : s.b - 1 ≤ 64 = omega (arith, r.b.high) in
      omega (arith, mul-le-mul k j)

  -- too few words for a header: the length that is told is 0
  pub told_short : n * (s.b - 1) < 5 → false ≡ right_length s l b
  unfolding right_length
  told_short h =
      let z : length (text s l (chain_from s l b)) ≤ 4 =
      omega (arith, length-words s l w.stretch (chain_from s l b) (ends-within s l b w.ends), ap (λ (k : ℕ). k * (s.b - 1)) w.count) in
      rw (get_or-eq_default (text s l (chain_from s l b)) 0 z)

  module _ (h : 5 ≤ n * (s.b - 1)) where
    enough-blocks : needs s 5 ≤ n
    unfolding needs
    enough-blocks =
        let r = w.stretch.range.b.low in
        let e : 5 + (s.b - 2) < suc n * (s.b - 1) = omega (arith, suc-mul n (s.b - 1)) in
        let f : (5 + (s.b - 2)) / (s.b - 1) < suc n = (div-lt_iff_lt-mul {k = s.b - 1} {x = 5 + (s.b - 2)} {y = suc n} (omega arith)).1 e in
        omega arith

    pub head_lies : Lies s l 5 b
    head_lies =
        let c = w.count in
        let g = enough-blocks in
        record {
          walks = record { stretch = w.stretch; within = chain_front s l s.m (needs s 5) (length (chain_from s l b)) b (omega arith) (rw (← list-chain s l s.m b) (ends-within s l b w.ends)) };
          most = omega arith;
        }

    pub told_is : word s l b 4 ≡ told_length s l b
    told_is =
        word-text s l w.stretch n b 4 (rw whole (ends-within s l b w.ends)) (omega arith)
        ∙ ap (λ (c : List ℕ). get_or (text s l c) 4 0) whole

  -- the length k that is told
  module _ (k : ℕ) (e : k ≡ told_length s l b) where
    length_tests : right_length s l b ≡ (leb 5 k && leb k 1024) && eqb n (needs s k)
    unfolding right_length
    length_tests = rw (e, w.count) (sym (and_assoc (leb 5 (told_length s l b)) (leb (told_length s l b) 1024) (eqb (length (chain_from s l b)) (needs s (told_length s l b)))))

    pub length_out : leb 5 k && leb k 1024 ≡ false → false ≡ right_length s l b
    length_out g = rw (length_tests, g)

    pub length_is : leb 5 k && leb k 1024 ≡ true → eqb n (needs s k) ≡ right_length s l b
    length_is g = rw (length_tests, g)

-- ---- a letter whose length is right
module _ (s : Settings) (l : List ℕ) (b : ℕ) (r : Readable s l b) where
  pub told-range : (5 ≤ told_length s l b) × (told_length s l b ≤ 1024) × (length (chain_from s l b) ≡ needs s (told_length s l b))
  told-range =
      (right_least s l r.stretch b r.ends r.long, right_most s l r.stretch b r.ends r.long, right_needs s l r.stretch b r.ends r.long)

  pub its_chain : chain s l (needs s (told_length s l b)) b ≡ chain_from s l b
  its_chain = sym (right_chain s l r.stretch b r.ends r.long)

  pub its_lies : Lies s l (told_length s l b) b
  its_lies = right_lies s l r.stretch b r.ends r.long (told_length s l b) (omega arith)

  pub its_words : letter s l (told_length s l b) b ≡ words_from s l b
  its_words = right_letter_lem s l r.stretch b r.ends r.long

  pub head_word : (k : ℕ) → k < 5 → word s l b k ≡ get_or (words_from s l b) k 0
  head_word k h = right_word s l r.stretch b r.ends r.long k (omega (arith, told-range.0))

  pub header_lies : (n : ℕ) → n ≤ 5 → Lies s l n b
  header_lies n h = right_lies s l r.stretch b r.ends r.long n (omega (arith, told-range.0))
