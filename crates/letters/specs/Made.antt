-- The words of a letter that is made anew: 'Letters'.
use Rattle.std.specs.Prelude.{List, ◌∷◌, ℕ, ◌+◌, length}
use Rattle.layout.specs.Numbers.{header_words}
use Rattle.letters.specs.declared.Header.{Header}

-- 'source task, source node, destination task, destination node, length', then the body
unfoldable pub letter_of : Header → List ℕ → List ℕ
letter_of h body = h.source ∷ h.from ∷ h.destination ∷ h.to ∷ (header_words + length body) ∷ body
