-- Taking a letter, from a sound memory to the machine that the memory spells after it: nothing found, and a letter found. Assumes nothing.
use Rattle.std.specs.Prelude.{None, Some}
use mathlib.Core.Path.{◌≡◌, refl, sym, ap, ap₂, ◌∙◌, subst}
use mathlib.Core.Bool.{Bool, true, false, cond, ◌||◌}
use mathlib.Core.List.{List, [], ◌∷◌, map}
use Prim.Native.Nat.{ℕ, zero, suc, ◌+◌, ◌<◌}
use native.Mathlib.Omega.{arith}
use lib.Dec.{eqb}
use lib.ListN.{length, get_or, take, drop}
use lib.Seq.{take_all}
use borrow.Author.Tests.{ne_eqb}
use Rattle.words.proofs.Lists.{put, put_same, put_other}
use Rattle.settings.specs.declared.Settings.{Settings}
use Rattle.layout.specs.Places.{empty_word, node_size, memory_size, node, with_node, task_at}
use Rattle.blocks.specs.Moves.{given_back}
use Rattle.letters.specs.Letter.{onto}
use Rattle.queues.specs.Queue.{task_kind, contents}
use Rattle.queues.specs.Moves.{counted}
use Rattle.queues.proofs.Ring.{Ring, ring_contents}
use Rattle.taking.specs.Take.{taken_out}
use Rattle.taking.specs.Find.{from, wanted, found}
use Rattle.taking.proofs.First.{IsFirst, found_at, found_nothing, wanted-live}
use Rattle.sound.specs.Reading.{settings_in, table_in, task_items}
use Rattle.sound.specs.Letters.{chain_from, words_from}
use Rattle.sound.specs.Sound.{sound}
use Rattle.receive.specs.Take.{block_of, source_of, body_of, emptied}
use Rattle.machine.specs.Machine.{Letter, gap, first, firsts, Live, Node, Machine, All}
use Rattle.machine.specs.Spelled.{letter_from, node_from, machine_of}
use Rattle.machine.specs.Represents.{Right, RepresentsAt, Represents}
use Rattle.machine.proofs.Letters.{length-firsts, all_at, alive}
use Rattle.machine.proofs.Places.{shown_task}
use Rattle.machine.proofs.Spelled.{first_from_lem}
use Rattle.machine.proofs.Gives.{gives_task, gives_source}
use Rattle.machine.proofs.Sound.{sound_represents}
use Rattle.machine.proofs.Back.{represents_sound_at, same_turn, same_stage, same_other, same_free, same_letters}
use Rattle.moves.specs.Letters.{live_ones}
use Rattle.moves.proofs.Memory.{with_long, with_settings, with_table}
use Rattle.receive_keeps.specs.Receives.{asked, NoneAsked, Receives}
use Rattle.machine.specs.Same.{Fixed, Unchanged}
use Rattle.receive_keeps.proofs.Anew.{with_nodes}
use Rattle.receive_keeps.proofs.Ones.{ones_without, ones_split, ones_before, firsts_at}
use Rattle.receive_keeps.proofs.Taken.{without_letter, without-free, long_empty, represents_empty, long-taken, taken_same, taken_here, represents_taken}

-- what is represented with settings s is represented with those that stand in the memory
represents_own : (s : Settings) (memory : List ℕ) (m : Machine) → settings_in memory ≡ s → RepresentsAt s memory m → Represents memory m
represents_own s memory m q e = subst (λ (x : Settings). RepresentsAt x memory m) (sym q) e

-- a stretch put anew leaves the size, the settings and the task table
fixed_with : (memory : List ℕ) → length memory ≡ memory_size (settings_in memory) → (i : ℕ) → i < 6 → (l : List ℕ) → length l ≡ node_size (settings_in memory)
    → Fixed memory (with_node (settings_in memory) memory i l)
fixed_with memory size i h l long =
    record {
      size = with_long (settings_in memory) memory size i h l long;
      settings = with_settings (settings_in memory) memory size i h l long;
      table = with_table (settings_in memory) memory size i h l long;
    }

-- ---- the letter that is found is the one asked for
or_cond : (a b : Bool) → cond a true b ≡ (a || b)
or_cond true b = refl
or_cond false b = refl

module _ (s : Settings) (memory : List ℕ) (m : Machine) (rep : RepresentsAt s memory m) (i q source : ℕ) (h : i < 6) (g : q < 64) where
  abbrev ks : List Letter
  ks = (m.node i).letters (13 + q)

  items_are : contents (task_kind s) (node s memory i) (task_at s q) ≡ firsts ks
  items_are = ring_contents (task_kind s) (node s memory i) (task_at s q) (gives_task s memory rep.size m.node rep.core i q h g)

  -- the test on its first block is the test on its words
  wanted-asked : (n : ℕ) → n < length ks → (first (get_or ks n gap) ≡ 0 → ⊥) → wanted s (node s memory i) source (first (get_or ks n gap)) ≡ asked source (get_or ks n gap)
  unfolding wanted from
  wanted-asked n a v =
      let K : Letter = get_or ks n gap in
      let ok : Right (table_in memory) i (13 + q) K.words = all_at (λ (L : Letter). Live L → Right (table_in memory) i (13 + q) L.words) n ks a (rep.formed.order.letters i (13 + q) h (omega arith)) (alive K v) in
      let e = gives_source s memory rep.size m.node rep.core i (13 + q) n h (omega arith) a (table_in memory) ok in
      rw (ne_eqb (first K) 0 v)
      (ap (λ (x : ℕ). cond (eqb source 0) true (eqb x source)) e ∙ or_cond (eqb source 0) (eqb (get_or K.words 0 0) source))

  -- nothing is found where none is asked for
  pub found_none : found s (node s memory i) (task_at s q) source ≡ None → NoneAsked m i q source
  found_none f =
      let p : (n : ℕ) → n < length (firsts ks) → wanted s (node s memory i) source (get_or (firsts ks) n 0) ≡ false =
      subst (λ (xs : List ℕ). (n : ℕ) → n < length xs → wanted s (node s memory i) source (get_or xs n 0) ≡ false) items_are
      (found_nothing (wanted s (node s memory i) source) (contents (task_kind s) (node s memory i) (task_at s q)) f) in
      subst (λ (k : List Letter). All (λ L. asked source L ≡ false) (live_ones k)) (take_all (length ks) ks (omega arith))
      (ones_before (λ (L : Letter). asked source L ≡ false) (length ks) ks (λ j a b v.
      sym (wanted-asked j b v) ∙ ap (wanted s (node s memory i) source) (sym (firsts_at ks j)) ∙ p j (omega (arith, length-firsts ks))))

  module _ (n : ℕ) (f : found s (node s memory i) (task_at s q) source ≡ Some n) where
    is_first : IsFirst (wanted s (node s memory i) source) (firsts ks) n
    is_first = subst (λ (xs : List ℕ). IsFirst (wanted s (node s memory i) source) xs n) items_are (found_at (wanted s (node s memory i) source) (contents (task_kind s) (node s memory i) (task_at s q)) n f)

    pub found_within : n < length ((m.node i).letters (13 + q))
    found_within = omega (arith, is_first.within, length-firsts ks)

    found_passes : wanted s (node s memory i) source (first (get_or ks n gap)) ≡ true
    found_passes = ap (wanted s (node s memory i) source) (sym (firsts_at ks n)) ∙ is_first.passes

    pub found_first : first (get_or ((m.node i).letters (13 + q)) n gap) ≡ 0 → ⊥
    found_first = wanted-live s (node s memory i) source (first (get_or ks n gap)) found_passes

    pub found-live : Live (get_or ((m.node i).letters (13 + q)) n gap)
    found-live = alive (get_or ks n gap) found_first

    pub found-asked : asked source (get_or ((m.node i).letters (13 + q)) n gap) ≡ true
    found-asked = sym (wanted-asked n found_within found_first) ∙ found_passes

    pub found_before : All (λ L. asked source L ≡ false) (live_ones (take n ((m.node i).letters (13 + q))))
    found_before =
        ones_before (λ (L : Letter). asked source L ≡ false) n ks (λ j a b v.
        sym (wanted-asked j b v) ∙ ap (wanted s (node s memory i) source) (sym (firsts_at ks j)) ∙ is_first.before j a)

-- ---- the letters of a task queue as the words spell them
map_at : (f : ℕ → Letter) (xs : List ℕ) (n : ℕ) → n < length xs → get_or (map f xs) n gap ≡ f (get_or xs n 0)
map_at f [] n h = absurd (omega arith)
map_at f (x ∷ xs) zero h = refl
map_at f (x ∷ xs) (suc n) h = map_at f xs n (omega arith)

length-map : (f : ℕ → Letter) (xs : List ℕ) → length (map f xs) ≡ length xs
length-map f [] = refl
length-map f (x ∷ xs) = ap suc (length-map f xs)

letters_are : (s : Settings) (memory : List ℕ) (i q : ℕ) → q < 64 → (node_from s memory i).letters (13 + q) ≡ map (letter_from s (node s memory i)) (task_items s memory i q)
unfolding node_from
letters_are s memory i q g = ap (map (letter_from s (node s memory i))) (shown_task s memory i q g)

module _ (memory : List ℕ) (e : sound memory ≡ true) (i q : ℕ) (h : i < 6) (g : q < 64) where
  abbrev s : Settings
  s = settings_in memory

  abbrev l : List ℕ
  l = node s memory i

  abbrev m : Machine
  m = machine_of memory

  abbrev ls : List Letter
  ls = ((machine_of memory).node i).letters (13 + q)

  rep : Represents memory m
  rep = sound_represents memory e

  -- NOTHING FOUND
  abbrev m₀ : List ℕ
  m₀ = with_node s memory i (counted l (task_at s q + empty_word))

  rep₀ : RepresentsAt s m₀ m
  rep₀ = represents_empty s memory m rep i q h g

  settings₀ : settings_in m₀ ≡ s
  settings₀ = with_settings s memory rep.size i h (counted l (task_at s q + 4)) (long_empty s memory m rep i q h g)

  pub vain_fixed : Fixed memory (with_node (settings_in memory) memory i (counted (node (settings_in memory) memory i) (task_at (settings_in memory) q + empty_word)))
  vain_fixed = fixed_with memory rep.size i h (counted l (task_at s q + 4)) (long_empty s memory m rep i q h g)

  pub vain_none : (source : ℕ) → found (settings_in memory) (node (settings_in memory) memory i) (task_at (settings_in memory) q) source ≡ None → NoneAsked (machine_of memory) i q source
  vain_none source f = found_none s memory m rep i q source h g f

  pub vain_sound : sound (with_node (settings_in memory) memory i (counted (node (settings_in memory) memory i) (task_at (settings_in memory) q + empty_word))) ≡ true
  vain_sound = represents_sound_at s m₀ m settings₀ rep₀

  pub vain_stays : Unchanged (machine_of memory) (machine_of (with_node (settings_in memory) memory i (counted (node (settings_in memory) memory i) (task_at (settings_in memory) q + empty_word))))
  vain_stays =
      let r = represents_own s m₀ m settings₀ rep₀ in
      record {
        stands = record { turn = same_turn m₀ m r; stage = same_stage m₀ m r; other = same_other m₀ m r };
        free = same_free m₀ m r;
        letters = same_letters m₀ m r;
      }

  -- A LETTER FOUND
  module _ (source n : ℕ) (f : found (settings_in memory) (node (settings_in memory) memory i) (task_at (settings_in memory) q) source ≡ Some n) where
    abbrev L : Letter
    L = get_or (((machine_of memory).node i).letters (13 + q)) n gap

    within : n < length ls
    within = found_within s memory m rep i q source h g n f

    live_l : Live L
    live_l = found-live s memory m rep i q source h g n f

    -- it is the letter that the item at index n begins
    abbrev t : Ring (task_kind s) l (task_at s q) (firsts ls)
    t = gives_task s memory rep.size m.node rep.core i q h g

    block_is : block_of s l q source n ≡ get_or (task_items s memory i q) n 0
    block_is =
        let r = t in
        r.slots n (omega (arith, r.fits, length-firsts ls, within)) ∙ ap (λ (xs : List ℕ). get_or xs n 0) (sym (ring_contents (task_kind s) l (task_at s q) r))

    letter_is : L ≡ letter_from s l (block_of s l q source n)
    letter_is =
        let xs : List ℕ = task_items s memory i q in
        let c : ls ≡ map (letter_from s l) xs = letters_are s memory i q g in
        ap (λ (k : List Letter). get_or k n gap) c
        ∙ map_at (letter_from s l) xs n (omega (arith, within, ap length c, length-map (letter_from s l) xs))
        ∙ ap (letter_from s l) (sym block_is)

    words_are : L.words ≡ words_from s l (block_of s l q source n)
    unfolding letter_from
    words_are = ap (λ (K : Letter). K.words) letter_is

    chain_is : L.chain ≡ chain_from s l (block_of s l q source n)
    unfolding letter_from
    chain_is = ap (λ (K : Letter). K.chain) letter_is

    first_is : first L ≡ block_of s l q source n
    first_is = ap first letter_is ∙ first_from_lem s l rep.core.range (block_of s l q source n)

    stretch_is : given_back s (taken_out s l (task_at s q) n) (length L.chain) (first L) ≡ emptied s l q source n
    unfolding emptied
    stretch_is = ap₂ (λ (c : List ℕ) (b : ℕ). given_back s (taken_out s l (task_at s q) n) (length c) b) chain_is first_is

    abbrev m₁ : List ℕ
    m₁ = with_node s memory i (emptied s l q source n)

    abbrev M : Machine
    M = with_nodes (machine_of memory) (put (machine_of memory).node i (without_letter ((machine_of memory).node i) (13 + q) n))

    rep₁ : RepresentsAt s m₁ M
    rep₁ = subst (λ (x : List ℕ). RepresentsAt s (with_node s memory i x) M) stretch_is (represents_taken s memory m rep i q h g n within live_l)

    long₁ : length (emptied s l q source n) ≡ node_size s
    long₁ = ap length (sym stretch_is) ∙ long-taken s memory m rep i q h g n within live_l

    settings₁ : settings_in m₁ ≡ s
    settings₁ = with_settings s memory rep.size i h (emptied s l q source n) long₁

    pub done_fixed : Fixed memory (with_node (settings_in memory) memory i (emptied (settings_in memory) (node (settings_in memory) memory i) q source n))
    done_fixed = fixed_with memory rep.size i h (emptied s l q source n) long₁

    pub done-sound : sound (with_node (settings_in memory) memory i (emptied (settings_in memory) (node (settings_in memory) memory i) q source n)) ≡ true
    done-sound = represents_sound_at s m₁ M settings₁ rep₁

    pub done-receives : (out : List ℕ)
        → Receives (machine_of memory) (machine_of (with_node (settings_in memory) memory i (emptied (settings_in memory) (node (settings_in memory) memory i) q source n))) i q source
        (source_of (settings_in memory) (node (settings_in memory) memory i) q source n) (length (body_of (settings_in memory) (node (settings_in memory) memory i) q source n))
        out (onto (body_of (settings_in memory) (node (settings_in memory) memory i) q source n) out)
    done-receives out =
        let r = represents_own s m₁ M settings₁ rep₁ in
        record {
          letter = L;
          earlier = live_ones (take n ls);
          later = live_ones (drop (suc n) ls);
          was = ones_split n ls within (found_first s memory m rep i q source h g n f);
          is = ap live_ones (same_letters m₁ M r i (13 + q) h (omega arith) ∙ taken_here s memory m rep i q h g n within live_l) ∙ ones_without n ls within;
          wanted = found-asked s memory m rep i q source h g n f;
          first = found_before s memory m rep i q source h g n f;
          source_told = ap (λ (w : List ℕ). get_or w 0 0) (sym words_are);
          length-told = ap (λ (w : List ℕ). length (drop 5 w)) (sym words_are);
          written = ap (λ (w : List ℕ). onto (drop 5 w) out) (sym words_are);
          back = same_free m₁ M r i h ∙ ap (λ (X : Node). X.free) (put_same m.node i (without_letter (m.node i) (13 + q) n)) ∙ without-free (m.node i) (13 + q) n;
          free = λ k a c. same_free m₁ M r k a ∙ ap (λ (X : Node). X.free) (put_other m.node i (without_letter (m.node i) (13 + q) n) k c);
          letters = λ k p a b c. same_letters m₁ M r k p a (omega arith) ∙ taken_same s memory m rep i q h g n within live_l k p a b c;
          stands = record { turn = same_turn m₁ M r; stage = same_stage m₁ M r; other = same_other m₁ M r };
        }
