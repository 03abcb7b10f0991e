-- A letter in its chain: written, read, copied: 'Letters'.
use Rattle.std.specs.Prelude.{List, ◌++◌, ℕ, zero, suc, ◌+◌, ◌-◌, ◌/◌, ◌%◌, length, get_or, take, drop}
use Rattle.std.proofs.lemmas.List.Edits.{sets}
use Rattle.words.specs.Words.{part}
use Rattle.settings.specs.declared.Settings.{Settings}
use Rattle.layout.specs.Places.{block_at, link_at, node, with_node}
use Rattle.layout.specs.Numbers.{length_word}
use Rattle.blocks.specs.Chain.{link, chain, after, text, needs}

-- the words p at the front of l; the rest of l stays
unfoldable pub onto : List ℕ → List ℕ → List ℕ
onto p l = p ++ drop (length p) l

module _ (s : Settings) (stretch : List ℕ) where
  -- word k of the letter that block b begins
  unfoldable pub word : ℕ → ℕ → ℕ
  word b k = get_or stretch (block_at s (after s stretch (k / (s.b - 1)) b) + k % (s.b - 1)) 0

  -- the length that the letter's header tells
  abbrev pub told : ℕ → ℕ
  told b = word b length_word

  -- 'a letter is read through its chain as if its words stood together': the n words of the letter that block b begins
  unfoldable pub letter : ℕ → ℕ → List ℕ
  letter n b = take n (text s stretch (chain s stretch (needs s n) b))

  -- of the words of block b those from word `at` on, n at most
  unfoldable pub piece : ℕ → ℕ → ℕ → List ℕ
  piece b at n = take n (drop at (part stretch (block_at s b) (link_at s b)))

-- 'Writing or copying a letter writes its length words only': the words ws laid into the blocks from b on, B-1 to a block, n blocks at most
unfoldable pub laid : Settings → List ℕ → ℕ → ℕ → List ℕ → List ℕ
laid s stretch zero b ws = stretch
laid s stretch (suc n) b ws =
    laid s (sets stretch (block_at s b) (take (s.b - 1) ws)) n (link s stretch b) (drop (s.b - 1) ws)

abbrev pub written : Settings → List ℕ → ℕ → List ℕ → List ℕ
written s stretch b ws = laid s stretch (needs s (length ws)) b ws

-- the n words of the letter that block b begins in node i, copied into the chain that block c begins in node j
unfoldable pub copied : Settings → List ℕ → ℕ → ℕ → ℕ → ℕ → ℕ → List ℕ
copied s memory n i b j c = with_node s memory j (written s (node s memory j) c (letter s (node s memory i) n b))
