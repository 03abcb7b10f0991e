-- Letters compared, and what a memory whose letters are right gives of the letter in stage 2. Assumes nothing.
use mathlib.Core.Path.{◌≡◌, refl, sym, ap, ap₂, ◌∙◌}
use mathlib.Core.Bool.{Bool, true, false, cond, ◌&&◌, not}
use mathlib.Core.List.{List, [], ◌∷◌, ◌++◌}
use Prim.Native.Nat.{ℕ, suc, ◌+◌, ◌-◌, ◌≤◌, ◌<◌, min}
use native.Mathlib.Omega.{arith}
use lib.Dec.{eqb, leb}
use lib.ListN.{length, get_or, take}
use lib.Pointwise.{pointwise}
use borrow.Author.Tests.{eq-eqb, ne_eqb, leb-true}
use Rattle.words.specs.Words.{all, alike, part}
use Rattle.words.proofs.Lists.{split, and-true, every_at, all_at, all_head, alike_same}
use Rattle.settings.specs.declared.Settings.{Settings}
use Rattle.layout.specs.Places.{nodes, node, send_at, block_at}
use Rattle.layout.proofs.NodeRows.{by-send}
use Rattle.queues.specs.declared.Kind.{Kind}
use Rattle.queues.specs.Queue.{send_kind, item_at, Queue}
use Rattle.queues.proofs.Views.{contents_item}
use Rattle.blocks.specs.Chain.{needs, link, chain, text}
use Rattle.blocks.specs.Asked.{Block}
use Rattle.letters.specs.Letter.{word}
use Rattle.letters.proofs.Rows.{needs-enough}
use Rattle.letters.proofs.Laws.{word-text}
use Rattle.letters.proofs.Copies.{length-letter, node-stretch}
use Rattle.letters.proofs.Steps.{Covers, head_block, piece_is, piece-long, piece-text, covers_rest, covers_some}
use Rattle.sound.specs.Reading.{table_in, stage_of, other_of, held_of, send_items}
use Rattle.sound.specs.Letters.{ends_well, told_length, words_from, right_length, right_letter}
use Rattle.sound.specs.Positions.{names_other, holds_copy, held}
use Rattle.sound.specs.Blocks.{begun, right_letters}
use Rattle.sound.proofs.Given.{send-queue}
use Rattle.sound.proofs.Tests.{and_assoc}
use Rattle.visits.specs.Letters.{Readable}
use Rattle.visits.proofs.Read.{told-range, its_chain, its_lies, its_words}
use Rattle.places.specs.Given.{stands_right}
use Rattle.copies.specs.Copy.{copy_right, Lettered}

-- ---- rows of words
-- the words compared one by one
pub pointwise_alike : (a b : List ℕ) → pointwise eqb a b ≡ alike a b
unfolding alike
pointwise_alike [] [] = refl
pointwise_alike [] (y ∷ b) = refl
pointwise_alike (x ∷ a) [] = refl
pointwise_alike (x ∷ a) (y ∷ b) = ap (λ (t : Bool). eqb x y && t) (pointwise_alike a b)

pub differ_long : (a b : List ℕ) → (length a ≡ length b → ⊥) → false ≡ alike a b
differ_long a b h = split (alike a b) (λ t. absurd (h (ap length (alike_same a b t)))) (λ t. sym t)

-- lists joined, the fronts as long as each other
alike-append : (p q u v : List ℕ) → length p ≡ length q → alike (p ++ u) (q ++ v) ≡ alike p q && alike u v
unfolding alike
alike-append [] [] u v e = refl
alike-append [] (y ∷ q) u v e = absurd (omega arith)
alike-append (x ∷ p) [] u v e = absurd (omega arith)
alike-append (x ∷ p) (y ∷ q) u v e =
    let n : length p ≡ length q = omega arith in
    ap (λ (b : Bool). eqb x y && b) (alike-append p q u v n) ∙ sym (and_assoc (eqb x y) (alike p q) (alike u v))

-- ---- a letter that may be read
module _ (s : Settings) (l : List ℕ) (b : ℕ) (r : Readable s l b) where
  pub told_known : word s l b 4 ≡ told_length s l b
  told_known =
      let t = told-range s l b r in
      let u = t.0 in
      word-text s l r.stretch (needs s (told_length s l b)) b 4 (its_lies s l b r).walks.within (omega (arith, needs-enough s r.stretch.range (told_length s l b)))
      ∙ ap (λ (c : List ℕ). get_or (text s l c) 4 0) (its_chain s l b r)

  words_long : length (words_from s l b) ≡ told_length s l b
  words_long = ap length (sym (its_words s l b r)) ∙ length-letter s l (told_length s l b) b (its_lies s l b r)

  covers_letter : Covers s l (needs s (told_length s l b)) b (told_length s l b)
  covers_letter = record { walks = (its_lies s l b r).walks; room = needs-enough s r.stretch.range (told_length s l b) }

-- lengths that differ
pub told_differ : (s : Settings) (l : List ℕ) (b : ℕ) (k : List ℕ) (c : ℕ) → Readable s l b → Readable s k c → (word s k c 4 ≡ word s l b 4 → ⊥) → false ≡ alike (words_from s l b) (words_from s k c)
told_differ s l b k c r q h =
    differ_long (words_from s l b) (words_from s k c)
    (λ e. h (told_known s k c q ∙ sym (words_long s k c q) ∙ sym e ∙ words_long s l b r ∙ sym (told_known s l b r)))

-- ---- the letter in stage 2
module _ (s : Settings) (memory : List ℕ) (g : Lettered s memory) (j : ℕ) (small : j < nodes) where
  pub copy_none : (stage_of memory j ≡ 2 → ⊥) → true ≡ copy_right s memory j
  unfolding copy_right
  copy_none h = rw (ne_eqb (stage_of memory j) 2 h)

  -- the letter that block b begins at place p of node i is right, so it may be read
  readable : (i p b : ℕ) → i < nodes → right_letter s (node s memory i) (table_in memory) i p b ≡ true → Readable s (node s memory i) b
  unfolding right_letter
  readable i p b h e =
      let a = and-true (ends_well s (node s memory i) b) _ e in
      record {
        stretch = node-stretch s memory g.looked.sized i h;
        ends = a.0;
        long = (and-true (right_length s (node s memory i) b) _ a.1).0;
      }

  at_place : (i p : ℕ) → i < nodes → p < 77 → all (right_letter s (node s memory i) (table_in memory) i p) (begun s memory i p) ≡ true
  unfolding right_letters
  at_place i p h k = every_at (λ p. all (right_letter s (node s memory i) (table_in memory) i p) (begun s memory i p)) 77 (g.letters i h) p k

  module _ (two : stage_of memory j ≡ 2) where
    names : (other_of memory j ≤ 5) × (1 ≤ length (send_items s memory (other_of memory j) j))
    unfolding stands_right names_other
    names =
        let r = g.looked.positions j small in
        let a : leb (stage_of memory j) 3 && (names_other s memory j && cond (eqb (stage_of memory j) 2) (leb 1 (held_of memory j) && leb (held_of memory j) s.m) (eqb (held_of memory j) 0)) ≡ true =
        rw (ne_eqb (stage_of memory j) 0 (λ y. omega arith)) at r in
        let b = (and-true (names_other s memory j) _ (and-true (leb (stage_of memory j) 3) _ a).1).0 in
        let c = and-true (leb (other_of memory j) 5) _ b in
        let d = and-true (not (eqb (other_of memory j) j)) _ c.1 in
        (leb-true _ _ c.0, leb-true _ _ d.1)

    pub other-small : other_of memory j < nodes
    other-small = let n = names.0 in omega arith

    its_queue : Queue (send_kind s) (node s memory (other_of memory j)) (send_at s j)
    its_queue = send-queue s memory g.looked.sized (other_of memory j) other-small (g.looked.queues (other_of memory j) other-small) j small

    pub queue_is : (k : Kind) (q : ℕ) (m : List ℕ) → k ≡ send_kind s → q ≡ send_at s j → m ≡ node s memory (other_of memory j) → Queue k m q × (0 < k.slots)
    queue_is k q m ek eq em = rw (ek, eq, em) (its_queue, let r = g.looked.sized.range.s.low in omega arith)

    first_is : item_at (send_kind s) (node s memory (other_of memory j)) (send_at s j) 0 ≡ get_or (send_items s memory (other_of memory j) j) 0 0
    first_is = contents_item (send_kind s) (node s memory (other_of memory j)) (send_at s j) its_queue 0 (let r = g.looked.sized.range.s.low in omega arith)

    held_read : Readable s (node s memory j) (held_of memory j)
    unfolding begun held
    held_read =
        let a : all (right_letter s (node s memory j) (table_in memory) j 0) (held_of memory j ∷ []) ≡ true = rw (eq-eqb (stage_of memory j) 2 two) at (at_place j 0 small (omega arith)) in
        readable j 0 (held_of memory j) small (all_head _ (held_of memory j) [] a).0

    first_read : Readable s (node s memory (other_of memory j)) (get_or (send_items s memory (other_of memory j) j) 0 0)
    unfolding begun
    first_read =
        let o = other_of memory j in
        let p = suc j in
        let e : begun s memory o (suc j) ≡ send_items s memory o j = by-send (suc j) _ (send_items s memory o (suc j - 1)) _ _ [] (omega arith) (omega arith) ∙ ap (send_items s memory o) (omega arith) in
        let a : all (right_letter s (node s memory o) (table_in memory) o (suc j)) (send_items s memory o j) ≡ true = rw e at (at_place o (suc j) other-small (omega arith)) in
        readable o (suc j) (get_or (send_items s memory o j) 0 0) other-small (all_at _ (send_items s memory o j) a 0 names.1)

    module _ (m n : List ℕ) (k : Kind) (q first : ℕ) (em : m ≡ node s memory j) (en : n ≡ node s memory (other_of memory j)) (ek : k ≡ send_kind s) (eq : q ≡ send_at s j) (ef : first ≡ item_at k n q 0) where
      which : first ≡ get_or (send_items s memory (other_of memory j) j) 0 0
      which = ef ∙ rw (ek, eq, en) first_is

      pub both_read : Readable s m (held_of memory j) × Readable s n first
      both_read = (rw em held_read, rw (en, which) first_read)

      pub copy_is : (r : Bool) → r ≡ alike (words_from s m (held_of memory j)) (words_from s n first) → r ≡ copy_right s memory j
      unfolding copy_right holds_copy
      copy_is r e = e ∙ rw (eq-eqb (stage_of memory j) 2 two, em, en, which)

-- the words that block x carries of those that are left, and the words behind them
module _ (s : Settings) (l : List ℕ) (owed x left : ℕ) (g : Covers s l owed x left) (owes : 1 ≤ owed) (n : ℕ) (en : n ≡ min left (s.b - 1)) where
  block : Block s l x
  block = head_block s l owed x g.walks owes

  front : (take left (text s l (chain s l owed x)) ≡ part l (block_at s x) (block_at s x + n) ++ take (left - n) (text s l (chain s l (owed - 1) (link s l x)))) × (length (part l (block_at s x) (block_at s x + n)) ≡ n)
  front =
      let w = g.walks.stretch.range.b.low in
      let i : 0 < s.b - 1 = omega arith in
      let e : n ≡ min left (s.b - 1 - 0) = omega arith in
      let p = piece_is s l g.walks.stretch x block.low block.high 0 i left n (block_at s x) e (omega arith) in
      let z = piece-long s l g.walks.stretch x block.low block.high 0 i left n (block_at s x) e (omega arith) in
      (piece-text s l owed x g.walks owes 0 left i ∙ rw (← z, p), ap length (sym p) ∙ sym z)

  covers_behind : Covers s l (owed - 1) (link s l x) (left - n)
  covers_behind =
      let w = g.walks.stretch.range.b.low in
      let r = g.room in
      let z : 0 + (left - n) ≡ left - n = omega arith in
      rw z at (covers_rest s l owed x g.walks owes 0 left (link s l x) (omega arith) refl n (omega arith) (omega arith))

-- ---- two letters gone through block by block: the `left` words from blocks x and y on are still to be compared
pub record Comparing (s : Settings) (a : List ℕ) (b : ℕ) (c : List ℕ) (d left x y : ℕ) : Type 0 where
  pub owed : ℕ
  pub here : Covers s a owed x left
  pub there : Covers s c owed y left
  pub is : alike (words_from s a b) (words_from s c d) ≡ alike (take left (text s a (chain s a owed x))) (take left (text s c (chain s c owed y)))

module _ (s : Settings) (a : List ℕ) (b : ℕ) (c : List ℕ) (d : ℕ) (r : Readable s a b) (q : Readable s c d) where
  pub compare_starts : (n : ℕ) → n ≡ word s a b 4 → word s c d 4 ≡ n → Comparing s a b c d n b d
  unfolding words_from
  compare_starts n ea ec =
      let ta : told_length s a b ≡ n = sym (ea ∙ told_known s a b r) in
      let tc : told_length s c d ≡ n = sym (told_known s c d q) ∙ ec in
      record {
        owed = needs s n;
        here = rw ta at (covers_letter s a b r);
        there = rw tc at (covers_letter s c d q);
        is = ap₂ alike (ap₂ (λ (k : ℕ) (l : List ℕ). take k (text s a l)) ta (sym (its_chain s a b r) ∙ ap (λ (k : ℕ). chain s a (needs s k) b) ta))
            (ap₂ (λ (k : ℕ) (l : List ℕ). take k (text s c l)) tc (sym (its_chain s c d q) ∙ ap (λ (k : ℕ). chain s c (needs s k) d) tc));
      }

module _ (s : Settings) (a : List ℕ) (b : ℕ) (c : List ℕ) (d left x y : ℕ) (g : Comparing s a b c d left x y) where
  pub compare_ends : left ≡ 0 → true ≡ alike (words_from s a b) (words_from s c d)
  unfolding alike
  compare_ends z = sym (g.is ∙ rw z refl)

  module _ (some : 0 < left) where
    owes : 1 ≤ g.owed
    owes = covers_some s a g.owed x left g.here (omega arith)

    pub compare_blocks : Block s a x × Block s c y
    compare_blocks = (head_block s a g.owed x g.here.walks owes, head_block s c g.owed y g.there.walks owes)

    module _ (n : ℕ) (en : n ≡ min left (s.b - 1)) where
      both : alike (words_from s a b) (words_from s c d)
          ≡ alike (part a (block_at s x) (block_at s x + n)) (part c (block_at s y) (block_at s y + n))
          && alike (take (left - n) (text s a (chain s a (g.owed - 1) (link s a x)))) (take (left - n) (text s c (chain s c (g.owed - 1) (link s c y))))
      both =
          let h = front s a g.owed x left g.here owes n en in
          let k = front s c g.owed y left g.there owes n en in
          g.is ∙ ap₂ alike h.0 k.0
          ∙ alike-append (part a (block_at s x) (block_at s x + n)) (part c (block_at s y) (block_at s y + n)) _ _ (h.1 ∙ sym k.1)

      pub compare_differs : (t : Bool) → t ≡ alike (part a (block_at s x) (block_at s x + n)) (part c (block_at s y) (block_at s y + n)) → t ≡ false → false ≡ alike (words_from s a b) (words_from s c d)
      compare_differs t e f = sym (both ∙ rw (sym e ∙ f))

      pub compare_goes : (t : Bool) → t ≡ alike (part a (block_at s x) (block_at s x + n)) (part c (block_at s y) (block_at s y + n)) → t ≡ true
          → (u v : ℕ) → u ≡ link s a x → v ≡ link s c y → Comparing s a b c d (left - n) u v
      compare_goes t e f u v eu ev =
          rw (eu, ev)
          (record {
            owed = g.owed - 1;
            here = covers_behind s a g.owed x left g.here owes n en;
            there = covers_behind s c g.owed y left g.there owes n en;
            is = both ∙ rw (sym e ∙ f);
          })
