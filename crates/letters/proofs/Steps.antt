-- What the code of reading and writing does, a block at a time. Assumes nothing.
use Rattle.std.specs.Prelude.{Option, Some}
use mathlib.Core.Path.{◌≡◌, refl, sym, ap, ap₂, ◌∙◌}
use mathlib.Core.List.{List, ◌++◌}
use Prim.Native.Nat.{ℕ, zero, suc, ◌+◌, ◌-◌, ◌*◌, ◌/◌, ◌%◌, ◌≤◌, ◌<◌, min}
use native.Mathlib.Nat.{suc-mul, zero-mul, add-div_right, mod-lt, div-eq_of_lt, mod-eq_of_lt}
use native.Mathlib.Omega.{arith}
use lib.ListN.{length, get_or, take, drop}
use lib.Seq.{sets, length-sets, take_at, drop_at, drop-drop, drop-append-le, drop-append-add}
use Rattle.words.specs.Words.{part}
use Rattle.words.proofs.Parts.{length_part, take-least, drop-take, take-join}
use Rattle.settings.specs.declared.Settings.{Settings}
use Rattle.settings.specs.Range.{InRange}
use Rattle.layout.specs.Places.{blocks_at, block_at, link_at, node_size, node_at, node}
use Rattle.layout.specs.Asked.{Stretch}
use Rattle.layout.proofs.Fits.{block-fits, node-small}
use Rattle.blocks.specs.Chain.{needs, link, chain, after, text}
use Rattle.blocks.specs.Asked.{Block, Walks}
use Rattle.blocks.proofs.Steps.{is_block_lem, down, link-counted, chain_step, within_step, last_in}
use Rattle.reading.specs.Read.{link_from, step_at}
use Rattle.reading.specs.declared.Step.{Step}
use Rattle.reading.proofs.Laws.{step_words}
use Rattle.letters.specs.Letter.{onto, word, letter, piece, laid}
use Rattle.letters.specs.Asked.{Lies}
use Rattle.letters.proofs.Rows.{block-chain, needs-enough}

-- ---- one block
module _ (s : Settings) (node : List ℕ) (st : Stretch s node) (b : ℕ) (low : 1 ≤ b) (high : b ≤ s.m) where
  fits : block_at s b + s.b ≤ length node
  fits = rw st.long (block-fits s b low high)

  -- a block carries B-1 words
  pub own-long : length (part node (block_at s b) (link_at s b)) ≡ s.b - 1
  own-long =
      let f = fits in
      let w = st.range.b.low in
      length_part node (block_at s b) (link_at s b) (omega arith) (omega arith) ∙ omega arith

  -- a piece of it
  module _ (at : ℕ) (inside : at < s.b - 1) (len n a : ℕ) (en : n ≡ min len (s.b - 1 - at)) (ea : a ≡ block_at s b + at) where
    pub piece_is : piece s node b at len ≡ part node a (a + n)
    unfolding piece
    piece_is =
        let d : link_at s b - block_at s b ≡ s.b - 1 = omega arith in
        let e : a + n - a ≡ n = omega arith in
        ap (λ (k : ℕ). take len (drop at (take k (drop (block_at s b) node)))) d
        ∙ ap (take len) (drop-take at (s.b - 1) (drop (block_at s b) node))
        ∙ take-least len (s.b - 1 - at) (drop at (drop (block_at s b) node))
        ∙ ap₂ (λ (k : ℕ) (l : List ℕ). take k l) (sym (e ∙ en)) (drop-drop at (block_at s b) node ∙ ap (λ (k : ℕ). drop k node) (sym ea))

    pub piece-long : n ≡ length (piece s node b at len)
    piece-long =
        let f = fits in
        let w = st.range.b.low in
        rw piece_is (sym (length_part node a (a + n) (omega arith) (omega arith) ∙ omega arith))

    pub piece-got : (out p : List ℕ) → p ≡ part node a (a + n) → p ++ drop n out ≡ onto (piece s node b at len) out
    unfolding onto
    piece-got out p q = rw (← piece-long, piece_is, q) refl

-- the blocks from b on, `owed` of them, have so many words
pub record Covers (s : Settings) (stretch : List ℕ) (owed b words : ℕ) : Type 0 where
  pub walks : Walks s stretch owed b
  pub room : words ≤ owed * (s.b - 1)

-- ---- the words of a chain, the first block's and the others'
module _ (s : Settings) (node : List ℕ) (owed b : ℕ) (ws : Walks s node owed b) (some : 1 ≤ owed) where
  head_in : (1 ≤ b) × (b ≤ s.m)
  head_in = (within_step s node s.m owed b some ws.within).0

  pub head_block : Block s node b
  head_block = is_block_lem s node b ws.stretch head_in

  pub walks-rest : Walks s node (owed - 1) (link s node b)
  walks-rest = record { stretch = ws.stretch; within = (within_step s node s.m owed b some ws.within).1 }

  abbrev rest : List ℕ
  rest = text s node (chain s node (owed - 1) (link s node b))

  text_step : text s node (chain s node owed b) ≡ part node (block_at s b) (link_at s b) ++ text s node (chain s node (owed - 1) (link s node b))
  unfolding text
  text_step = rw (chain_step s node owed b some)

  own-size : length (part node (block_at s b) (link_at s b)) ≡ s.b - 1
  own-size = own-long s node ws.stretch b head_in.0 head_in.1

  -- one block fewer owed
  pub room-rest : (n : ℕ) → n ≤ owed * (s.b - 1) → n - (s.b - 1) ≤ (owed - 1) * (s.b - 1)
  room-rest n h = omega (arith, suc-mul (owed - 1) (s.b - 1), ap (λ (k : ℕ). k * (s.b - 1)) (down owed some))

  -- a word behind the first block
  pub skip_text : (at : ℕ) → s.b - 1 ≤ at → drop at (text s node (chain s node owed b)) ≡ drop (at - (s.b - 1)) (text s node (chain s node (owed - 1) (link s node b)))
  skip_text at h =
      let z = own-size in
      let e : at ≡ length (part node (block_at s b) (link_at s b)) + (at - (s.b - 1)) = omega arith in
      ap (drop at) text_step
      ∙ ap (λ (k : ℕ). drop k (part node (block_at s b) (link_at s b) ++ rest)) e
      ∙ drop-append-add (part node (block_at s b) (link_at s b)) rest (at - (s.b - 1))

  -- a word in the first block: the piece of that block, and then the others' words from the first on
  pub piece-text : (at len : ℕ) → at < s.b - 1
      → take len (drop at (text s node (chain s node owed b))) ≡ piece s node b at len ++ take (len - length (piece s node b at len)) (text s node (chain s node (owed - 1) (link s node b)))
  unfolding piece
  piece-text at len h =
      let z = own-size in
      ap (λ (l : List ℕ). take len (drop at l)) text_step
      ∙ ap (take len) (drop-append-le at (part node (block_at s b) (link_at s b)) rest (omega arith))
      ∙ take-join len (drop at (part node (block_at s b) (link_at s b))) rest

  -- the front that the first block carries, and the others' words behind it
  pub front_words : (len : ℕ) → take (s.b - 1) (take len (text s node (chain s node owed b))) ≡ piece s node b 0 len
  unfolding piece
  front_words len =
      let z : min (s.b - 1) len ≡ min len (s.b - 1) = omega arith in
      take-least (s.b - 1) len (text s node (chain s node owed b))
      ∙ ap (λ (k : ℕ). take k (text s node (chain s node owed b))) z
      ∙ sym (take-least len (s.b - 1) (text s node (chain s node owed b)))
      ∙ ap (take len) (ap (take (s.b - 1)) text_step ∙ take_at (part node (block_at s b) (link_at s b)) rest (s.b - 1) own-size)

  pub rest-words : (len k : ℕ) → k ≡ min len (s.b - 1)
      → drop (s.b - 1) (take len (text s node (chain s node owed b))) ≡ take (len - k) (text s node (chain s node (owed - 1) (link s node b)))
  rest-words len k e =
      let z : len - (s.b - 1) ≡ len - k = omega arith in
      drop-take (s.b - 1) len (text s node (chain s node owed b))
      ∙ ap₂ (λ (i : ℕ) (l : List ℕ). take i l) z (ap (drop (s.b - 1)) text_step ∙ drop_at (part node (block_at s b) (link_at s b)) rest (s.b - 1) own-size)

  -- as many words as the step tells
  pub piece-carried : (at len k : ℕ) → at < s.b - 1 → k ≡ min len (s.b - 1 - at) → k ≡ length (piece s node b at len)
  piece-carried at len k h e = piece-long s node ws.stretch b head_in.0 head_in.1 at h len k (block_at s b + at) e refl

  -- what is left to read asks
  module _ (at len next : ℕ) (room : at + len ≤ owed * (s.b - 1)) (el : next ≡ link s node b) where
    pub covers_skip : s.b - 1 ≤ at → Covers s node (owed - 1) next (at - (s.b - 1) + len)
    covers_skip h = rw el (record { walks = walks-rest; room = omega (arith, room-rest (at + len) room) })

    pub covers_rest : (k : ℕ) → at < s.b - 1 → k ≡ min len (s.b - 1 - at) → Covers s node (owed - 1) next (0 + (len - k))
    covers_rest k h ek = rw el (record { walks = walks-rest; room = omega (arith, room-rest (at + len) room) })

-- an out that has words needs blocks
pub covers_some : (s : Settings) (node : List ℕ) (owed b n : ℕ) → Covers s node owed b n → 1 ≤ n → 1 ≤ owed
covers_some s node zero b n c h = let r = c.room in absurd (omega (arith, zero-mul (s.b - 1)))
covers_some s node (suc owed) b n c h = omega arith

-- ---- one step of the reader
-- a block's link, counted from the word before the first block
pub link_from_lem : (s : Settings) → InRange s → (b : ℕ) → 1 ≤ b → link_from (block_at s 1 - 1) (s.b - 1) b ≡ link_at s b
link_from_lem s r b low =
    let w = r.b.low in
    let e : s.b - 1 + 1 ≡ s.b = omega arith in
    ap (λ (k : ℕ). block_at s 1 - 1 + b * k) e ∙ link-counted s r b low

pub first_block : (s : Settings) → InRange s → (first : ℕ) → first ≡ block_at s 1 → (1 ≤ first) × (first ≤ 85274)
unfolding block_at blocks_at
first_block s r first e =
    let m = r.m.low in
    (omega arith, omega (arith, block-fits s 1 (omega arith) m, node-small s r))

-- what it tells in a chain that has the words: a block is owed, and the numbers are those of the block and of its link
pub record Stepped (s : Settings) (stretch : List ℕ) (owed b at left k next : ℕ) : Type 0 where
  pub some : 1 ≤ left
  pub owes : 1 ≤ owed
  pub carries : k ≡ min left (s.b - 1 - at)
  pub follows : next ≡ link s stretch b

pub stepped : (s : Settings) (stretch : List ℕ) (owed b at left first k next : ℕ) (r : Option Step) → Covers s stretch owed b (at + left) → first ≡ block_at s 1
    → r ≡ step_at stretch b left at (first - 1) (s.b - 1) → r ≡ Some (record { words = k; next = next }) → Stepped s stretch owed b at left k next
stepped s stretch owed b at left first k next r c ef er e =
    let w = step_words stretch b left at (first - 1) (s.b - 1) k next (sym er ∙ e) in
    let h = w.0 in
    let o : 1 ≤ owed = covers_some s stretch owed b (at + left) c (omega arith) in
    let i = head_in s stretch owed b c.walks o in
    record {
      some = h;
      owes = o;
      carries = w.1;
      follows = w.2 ∙ ap (λ (f : ℕ). get_or stretch (link_from (f - 1) (s.b - 1) b) 0) ef ∙ ap (λ (a : ℕ). get_or stretch a 0) (link_from_lem s c.walks.stretch.range b i.0);
    }

-- ---- one word
pub needs-suc : (s : Settings) → 2 ≤ s.b → (k : ℕ) → needs s (k + 1) ≡ k / (s.b - 1) + 1
unfolding needs
needs-suc s w k =
    let e : k + 1 + (s.b - 2) ≡ k + (s.b - 1) = omega arith in
    ap (λ (n : ℕ). n / (s.b - 1)) e ∙ add-div_right k {k = s.b - 1} (omega arith)

-- a word that the first block carries
pub word_near : (s : Settings) (node : List ℕ) (b k : ℕ) → k < s.b - 1 → word s node b k ≡ get_or node (block_at s b + k) 0
unfolding word after
word_near s node b k l = rw (div-eq_of_lt l, mod-eq_of_lt l)

module _ (s : Settings) (node : List ℕ) (k b : ℕ) (l : Lies s node (k + 1) b) where
  pub word-walks : Walks s node (k / (s.b - 1) + 1) b
  word-walks = let w = l.walks.stretch.range.b.low in rw (← needs-suc s (omega arith) k) l.walks

  pub owner_in : (owner : ℕ) → owner ≡ after s node (k / (s.b - 1) + 1 - 1) b → (1 ≤ owner) × (owner ≤ s.m)
  owner_in owner e = rw e (last_in s node s.m (k / (s.b - 1) + 1) b (omega arith) word-walks.within)

  pub word_fits : (at : ℕ) → at + s.b ≤ node_size s → (at + k % (s.b - 1) < length node) × (at + k % (s.b - 1) ≤ 85274)
  word_fits at h =
      let st = l.walks.stretch in
      let w = st.range.b.low in
      let n = node-small s st.range in
      let z = st.long in
      omega (arith, mod-lt k {m = s.b - 1} (omega arith))

  pub word_is : (owner at : ℕ) → owner ≡ after s node (k / (s.b - 1) + 1 - 1) b → at ≡ block_at s owner → get_or node (at + k % (s.b - 1)) 0 ≡ word s node b k
  unfolding word
  word_is owner at e q =
      let n : k / (s.b - 1) + 1 - 1 ≡ k / (s.b - 1) = omega arith in
      ap (λ (i : ℕ). get_or node (i + k % (s.b - 1)) 0) (q ∙ ap (block_at s) (e ∙ ap (λ (i : ℕ). after s node i b) n))
  -- a word that the first block carries

-- ---- the whole letter
pub covers_lies : (s : Settings) (node : List ℕ) (n b owed : ℕ) → Lies s node n b → owed ≡ needs s n → Covers s node owed b n
covers_lies s node n b owed l e = rw e (record { walks = l.walks; room = needs-enough s l.walks.stretch.range n })

pub letter-part : (s : Settings) (node : List ℕ) (at len b : ℕ) → take len (drop at (text s node (chain s node (needs s (at + len)) b))) ≡ drop at (letter s node (at + len) b)
unfolding letter
letter-part s node at len b =
    let z : at + len - at ≡ len = omega arith in
    sym (drop-take at (at + len) (text s node (chain s node (needs s (at + len)) b)) ∙ ap (λ (i : ℕ). take i (drop at (text s node (chain s node (needs s (at + len)) b)))) z)

-- ---- one step of writing
module _ (s : Settings) (node : List ℕ) (owed b : ℕ) (walk : Walks s node owed b) (ws : List ℕ) where
  pub laid_none : owed ≡ 0 → laid s node owed b ws ≡ node
  unfolding laid
  laid_none e = ap (λ (k : ℕ). laid s node k b ws) e

  module _ (some : 1 ≤ owed) (next : ℕ) (mid : List ℕ) (el : next ≡ link s node b) (em : mid ≡ sets node (block_at s b) (take (s.b - 1) ws)) where
    pub walks-laid : Walks s mid (owed - 1) next
    walks-laid =
        let i = head_in s node owed b walk some in
        let w = walks-rest s node owed b walk some in
        rw (em, el)
        (record {
          stretch = record { range = walk.stretch.range; long = length-sets node (block_at s b) (take (s.b - 1) ws) ∙ walk.stretch.long };
          within = rw (block-chain s walk.stretch.range node b ws (owed - 1) (link s node b) i.0 w.within) w.within;
        })

    pub laid_step : laid s mid (owed - 1) next (drop (s.b - 1) ws) ≡ laid s node owed b ws
    unfolding laid
    laid_step =
        ap₂ (λ (m : List ℕ) (x : ℕ). laid s m (owed - 1) x (drop (s.b - 1) ws)) em el
        ∙ sym (ap (λ (i : ℕ). laid s node i b ws) (down owed some))

-- ---- a node's stretch, by its place and size as the code computes them
pub node-part : (s : Settings) (memory : List ℕ) (i : ℕ) {a size : ℕ} → a ≡ node_at s i → size ≡ node_size s → part memory a (a + size) ≡ node s memory i
node-part s memory i ea es = ap₂ (λ (k z : ℕ). part memory k (k + z)) ea es
