-- A node's stretch of a memory as long as the settings say, and a letter read in it. Assumes nothing.
use mathlib.Core.Path.{◌≡◌}
use mathlib.Core.List.{List}
use Prim.Native.Nat.{ℕ, ◌≤◌, ◌<◌}
use native.Mathlib.Omega.{arith}
use lib.ListN.{length, get_or}
use Rattle.settings.specs.declared.Settings.{Settings}
use Rattle.layout.specs.Places.{node}
use Rattle.layout.specs.Numbers.{header_words}
use Rattle.layout.specs.Asked.{Stretch}
use Rattle.layout.proofs.Fits.{send-fits}
use Rattle.letters.specs.Letter.{word, told}
use Rattle.letters.specs.Asked.{Lies}
use Rattle.letters.proofs.Copies.{node-stretch}
use Rattle.sound.specs.Letters.{told_length, words_from}
use Rattle.sound.proofs.Right.{right_least, right_lies, right_word, right_told}
use Rattle.lending.specs.Asked.{Lent, Begins}

-- ---- node i's stretch
module _ (s : Settings) (m : List ℕ) (i : ℕ) (l : Lent s m i) where
  pub lent-stretch : Stretch s (node s m i)
  lent-stretch = node-stretch s m l.sized i l.there

  pub lent_head : 1 < length (node s m i)
  lent_head = omega (arith, lent-stretch.long, send-fits s 0 (omega arith))

-- ---- a letter
module _ (s : Settings) (m : List ℕ) (i b : ℕ) (g : Begins s m i b) where
  abbrev w : List ℕ
  w = node s m i

  pub begins-stretch : Stretch s w
  begins-stretch = lent-stretch s m i g.lent

  pub begins-least : header_words ≤ told_length s w b
  begins-least = right_least s w begins-stretch b g.ends g.long

  pub begins_lies : (n : ℕ) → n ≤ header_words → Lies s w n b
  begins_lies n h = right_lies s w begins-stretch b g.ends g.long n (omega (arith, begins-least))

  pub begins_word : (k : ℕ) → k < header_words → word s w b k ≡ get_or (words_from s w b) k 0
  begins_word k h = right_word s w begins-stretch b g.ends g.long k (omega (arith, begins-least))

  pub begins_told : told s w b ≡ told_length s w b
  begins_told = right_told s w begins-stretch b g.ends g.long
