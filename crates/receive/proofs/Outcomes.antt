-- What receive answers and leaves, by the tests on the way. Assumes nothing.
use Rattle.std.specs.Prelude.{Err, None, Ok, Result, Some}
use mathlib.Core.Path.{◌≡◌, refl, sym, ap, ◌∙◌}
use mathlib.Core.Bool.{true, false, cond}
use mathlib.Core.List.{List}
use Prim.Native.Nat.{ℕ, ◌+◌, ◌<◌, ◌≤◌}
use native.Mathlib.Omega.{arith}
use lib.Dec.{leb}
use lib.ListN.{length, drop}
use borrow.Author.Tests.{eq-eqb, ne_eqb, le-leb, lt-leb}
use Rattle.settings.specs.declared.Settings.{Settings}
use Rattle.layout.specs.Places.{task_at, empty_word}
use Rattle.layout.specs.Numbers.{header_words, source_task_word}
use Rattle.queues.specs.Queue.{task_kind, items, item_at, contents}
use Rattle.queues.specs.Moves.{counted}
use Rattle.queues.proofs.Views.{length-contents, contents_item}
use Rattle.taking.specs.Find.{wanted, found, Findable}
use Rattle.taking.proofs.First.{found_at, wanted-live}
use Rattle.letters.specs.Letter.{word, onto}
use Rattle.sound.specs.Letters.{words_from}
use Rattle.receive.specs.declared.Received.{Received}
use Rattle.receive.specs.declared.ReceiveRefusal.{ReceiveRefusal}
use Rattle.receive.specs.declared.ReceiveRefusal.TheVariants.{NoLetter, NoLetterQueueFull, OutTooShort}
use Rattle.receive.specs.Take.{Took, filled, in_vain, emptied, took_at, took}
use Rattle.receive.specs.Asked.{Whole, Holds, Kept}
use Rattle.receive.proofs.Bodies.{word_source}

-- ---- 8 or 7
module _ (s : Settings) (w : List ℕ) (q source : ℕ) where
  pub filled_any : source ≡ 0 → false ≡ filled s w q source
  unfolding filled
  filled_any e = rw (eq-eqb source 0 e)

  pub filled_one : (source ≡ 0 → ⊥) → {at n : ℕ} → at ≡ task_at s q → n ≡ items (task_kind s) w at → leb s.t n ≡ filled s w q source
  unfolding filled
  filled_one h a e = rw (ne_eqb source 0 h, e, a)

  -- no such letter
  abbrev refused : Result Received ReceiveRefusal
  refused = cond (filled s w q source) (Err NoLetterQueueFull) (Err NoLetter)

  pub vain_filled : filled s w q source ≡ true → (Err NoLetterQueueFull) ≡ refused
  vain_filled e = rw e

  pub vain_not : filled s w q source ≡ false → (Err NoLetter) ≡ refused
  vain_not e = rw e

  -- the count of the queue at its place
  pub vain_counted : {at : ℕ} {m : List ℕ} → at ≡ task_at s q → m ≡ counted w (at + empty_word) → m ≡ counted w (task_at s q + empty_word)
  vain_counted a e = e ∙ ap (λ (x : ℕ). counted w (x + 4)) a

-- what taking answers and leaves
abbrev pub left : Result Received ReceiveRefusal → List ℕ → List ℕ → Took
left a m o = record { answer = a; stretch = m; out = o }

-- ---- the letter at place k, whose first block is b
module _ (s : Settings) (w : List ℕ) (q k : ℕ) (h : Holds s w q k) {b : ℕ} (e : b ≡ item_at (task_kind s) w (task_at s q) k) where
  pub holds-whole : Whole s w b
  holds-whole = rw e h.letter

  module _ {n : ℕ} (d : n ≡ length (drop header_words (words_from s w b))) (out : List ℕ) where
    words : n ≡ length (drop header_words (words_from s w (item_at (task_kind s) w (task_at s q) k)))
    words = rw e at d

    pub at_short : length out < n → left (Err OutTooShort) w out ≡ took_at s w q 0 k out
    unfolding took_at
    at_short g = rw (← words, lt-leb n (length out) g)

    pub at_done : n ≤ length out → {source : ℕ} {m o : List ℕ} → source ≡ word s w b source_task_word → m ≡ emptied s w q 0 k
        → o ≡ onto (drop header_words (words_from s w b)) out → left (Ok (record { source = source; words = n })) m o ≡ took_at s w q 0 k out
    unfolding took_at
    at_done g x y z = rw (← words, le-leb n (length out) g, x, word_source s w b holds-whole, y, z, e)

-- ---- finding it
module _ (s : Settings) (w : List ℕ) (q source : ℕ) (h : Kept s w q) {at : ℕ} (a : at ≡ task_at s q) where
  pub kept_findable : Findable s w at
  kept_findable = rw a (record { stretch = h.stretch; queue = h.queue; blocks = h.blocks })

  module _ (k : ℕ) (e : found s w at source ≡ Some k) where
    here : found s w (task_at s q) source ≡ Some k
    here = rw a at e

    pub found-holds : Holds s w q k
    found-holds =
        let f = found_at (wanted s w source) (contents (task_kind s) w (task_at s q)) k here in
        let l : k < items (task_kind s) w (task_at s q) = omega (arith, f.within, length-contents (task_kind s) w (task_at s q) h.queue) in
        let c = contents_item (task_kind s) w (task_at s q) h.queue k (omega (arith, h.queue.count)) in
        record {
          queue = h.place;
          place = record { queue = h.queue; is = l };
          letter = h.letters k l (λ z. wanted-live s w source _ f.passes (sym c ∙ z));
        }

    -- what is taken does not depend on the source
    any_source : (out : List ℕ) → took_at s w q 0 k out ≡ took_at s w q source k out
    unfolding took_at emptied
    any_source out = refl

    pub found-took : (out : List ℕ) {r : Result Received ReceiveRefusal} {m o : List ℕ} → left r m o ≡ took_at s w q 0 k out → left r m o ≡ took s w q source out
    unfolding took
    found-took out f = f ∙ any_source out ∙ rw here

  pub vain_took : (out : List ℕ) → found s w at source ≡ None → {r : Result Received ReceiveRefusal} {m : List ℕ} → r ≡ refused s w q source
      → m ≡ counted w (task_at s q + empty_word) → left r m out ≡ took s w q source out
  unfolding took in_vain
  vain_took out e f g = let z : found s w (task_at s q) source ≡ None = rw a at e in rw (z, f, g)
