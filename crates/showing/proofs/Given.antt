-- What a letter that a block begins gives to the functions that read it. Assumes nothing.
use mathlib.Core.Path.{◌≡◌, ◌∙◌}
use mathlib.Core.List.{List}
use Prim.Native.Nat.{ℕ, ◌+◌, ◌-◌, ◌≤◌, ◌<◌}
use native.Mathlib.Omega.{arith}
use Rattle.settings.specs.declared.Settings.{Settings}
use Rattle.layout.specs.Places.{nodes, node_size, node_at, node}
use Rattle.layout.specs.Numbers.{header_words, source_task_word}
use Rattle.layout.specs.Asked.{Stretch, Sized}
use Rattle.words.proofs.Parts.{length_part}
use Rattle.layout.proofs.MemoryRows.{stretch-fits}
use Rattle.letters.specs.Letter.{word, told}
use Rattle.letters.specs.Asked.{Lies}
use Rattle.sound.specs.Letters.{told_length}
use Rattle.sound.proofs.Right.{right_least, right_lies, right_word, right_told}
use Rattle.showing.specs.List.{word_in, shown}
use Rattle.showing.specs.Asked.{Begins}

-- node i's stretch of a memory that is as long as the settings say
sized-stretch : (s : Settings) (memory : List ℕ) → Sized s memory → (i : ℕ) → i < nodes → Stretch s (node s memory i)
sized-stretch s memory z i h =
    record {
      range = z.range;
      long = length_part memory (node_at s i) (node_at s i + node_size s) (omega arith) (omega (arith, stretch-fits s i h, z.long)) ∙ omega arith;
    }

-- ---- a letter, read in the node's stretch
module _ (s : Settings) (memory : List ℕ) (i b : ℕ) (g : Begins s memory i b) where
  abbrev w : List ℕ
  w = node s memory i

  st : Stretch s w
  st = sized-stretch s memory g.sized i g.there

  begins-least : header_words ≤ told_length s w b
  begins-least = right_least s w st b g.ends g.long

  module _ (v : List ℕ) (e : v ≡ w) where
    pub begins-lies : (k : ℕ) → k ≤ header_words → Lies s v k b
    begins-lies k h = rw e (right_lies s w st b g.ends g.long k (omega (arith, begins-least)))

    pub begins-word : (k : ℕ) → k < header_words → word s v b k ≡ word_in s memory i b k
    begins-word k h = rw e (right_word s w st b g.ends g.long k (omega (arith, begins-least)))

    begins-told : told s v b ≡ told_length s w b
    begins-told = rw e (right_told s w st b g.ends g.long)

    pub told-least : (long : ℕ) → long ≡ told s v b → header_words ≤ long
    told-least long f = omega (arith, f ∙ begins-told, begins-least)

    -- what the list shows of it
    pub shown_is : (task place source long : ℕ) → source ≡ word s v b source_task_word → long ≡ told s v b
        → record { destination = task; source = source; place = place; holder = i; block = b; body = long - header_words } ≡ shown s memory task place i b
    unfolding shown
    shown_is task place source long f h = rw (f ∙ begins-word source_task_word (omega arith), h ∙ begins-told)
