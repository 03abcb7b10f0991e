-- STAGE 1, 'take space in j; copy': the copy is held, or the room count has risen. Assumes nothing.
use mathlib.Core.Path.{◌≡◌, refl, sym, ap, ap₂, ◌∙◌, subst}
use mathlib.Core.Bool.{true, false}
use mathlib.Core.List.{List, [], ◌∷◌, map}
use Prim.Native.Nat.{ℕ, ◌+◌, ◌≤◌, ◌<◌}
use native.Mathlib.Omega.{arith}
use lib.Dec.{leb}
use lib.ListN.{length, get_or, take, drop}
use borrow.Author.Tests.{leb-true}
use Rattle.words.proofs.Lists.{put, put_other, split}
use Rattle.settings.specs.declared.Settings.{Settings}
use Rattle.layout.specs.Places.{node_size, node, with_node, first_free_at, room_at}
use Rattle.blocks.specs.Chain.{needs}
use Rattle.blocks.specs.Moves.{enough, taken}
use Rattle.blocks.proofs.Moves.{length_taken}
use Rattle.letters.specs.Letter.{letter, written, copied}
use Rattle.queues.specs.Moves.{counted}
use Rattle.sound.specs.Reading.{table_in}
use Rattle.sound.specs.Letters.{told_length}
use Rattle.answers.specs.Numbers.{too_few_blocks}
use Rattle.machine.specs.Machine.{Letter, gap, first, firsts, Live, words_of, Node, Machine}
use Rattle.machine.specs.Represents.{Right}
use Rattle.machine.proofs.Gives.{gives_stretch, gives_list, gives_letter}
use Rattle.moves.proofs.Made.{placed, Working}
use Rattle.moves.proofs.Memory.{with_node_lem, node_with, with_with}
use Rattle.moves.proofs.Queues.{length-counted}
use Rattle.moves.proofs.Calls.{first_is}
use Rattle.moves.proofs.Works.{needs_some}
use Rattle.moves.proofs.Formed.{at_here, at_other}
use Rattle.moves.proofs.Rising.{room_works}
use Rattle.moves.proofs.Hands.{hold_long, hold_works}
use Rattle.postman.specs.declared.Stage.TheVariants.{Done, Stopped}
use Rattle.postman.specs.Position.{at, at_rest}
use Rattle.postman.specs.Round.{Did, did, on_stage}
use Rattle.stages_keep.specs.Steps.{first_of, space_of, copied_in}
use Rattle.stages_keep.proofs.Standing.{with_position, front_with, goes_midway, here_at, here_hold}
use Rattle.stages_keep.proofs.Shown.{send-shown, told-shown, first_live_lem, first_right}
use Rattle.stages_keep.proofs.Going.{Is, Goes, still-way, right_hand}

module _ (s : Settings) (m : List ℕ) (j i : ℕ) (h : j < 6) (g : i < 6) (M : Machine) (at-m : Is s m j at_rest M) (K : Letter) (rest : List Letter) (e : (M.node i).letters (1 + j) ≡ K ∷ rest) where
  abbrev N : ℕ → Node
  N = M.node

  abbrev t : List ℕ
  t = table_in m

  wk : Working s (table_in m) m M.node
  wk = at-m.mid.works

  abbrev n : ℕ
  n = needs s (length K.words)

  -- what it counts: the letters that wait in node i
  abbrev count : Machine → ℕ
  count X = length ((X.node i).letters (1 + j))

  apart : i ≡ j → ⊥
  apart z =
      let y : K ∷ rest ≡ [] = sym e ∙ ap (λ (k : ℕ). (N k).letters (1 + j)) z ∙ wk.order.itself j h in
      let x : ◌≡◌ {A = ℕ} (length (K ∷ rest)) 0 = ap length y in
      omega arith

  stage_0 : M.stage j ≡ 0
  stage_0 = at-m.here.stage

  empty : (N j).letters 0 ≡ []
  empty = at-m.here.right.hand (λ z. omega (arith, stage_0))

  live_k : Live K
  live_k = first_live_lem s t m N wk i (1 + j) g (omega arith) K rest e (omega arith)

  ok : Right (table_in m) i (1 + j) K.words
  ok = first_right s t m N wk i (1 + j) g (omega arith) K rest e live_k

  first_k : first_of s j m i ≡ first K
  first_k = ap (λ (l : List ℕ). get_or l 0 0) (send-shown s t m N wk i j g h ∙ ap firsts e)

  told_k : told_length s (node s m i) (first_of s j m i) ≡ length K.words
  told_k = ap (told_length s (node s m i)) first_k ∙ told-shown s t m N wk i (1 + j) g (omega arith) K rest e

  enough_is : enough s (node s m j) (needs s (told_length s (node s m i) (first_of s j m i))) ≡ leb n (length (N j).free)
  unfolding enough
  enough_is = ap₂ (λ (x : ℕ) (l : List ℕ). leb (needs s x) (length l)) told_k (gives_list s m wk.size N wk.core j h)

  some_left : 1 ≤ length ((N i).letters (1 + j))
  some_left = rw e (omega arith)

  -- ---- too few blocks
  abbrev m₀ : List ℕ
  m₀ = with_node s m j (counted (node s m j) room_at)

  long₀ : length (counted (node s m j) 1) ≡ node_size s
  long₀ = length-counted (node s m j) 1 ∙ (gives_stretch s m wk.size N wk.core j h).long

  short_is : leb n (length (N j).free) ≡ false → did m₀ (Stopped too_few_blocks) ≡ copied_in s j m i
  unfolding copied_in
  short_is z = rw (enough_is, z)

  short_goes : Goes s t m₀ j (at 1 i 0) M [] count (length ((N i).letters (1 + j)))
  short_goes =
      let f = front_with s m wk.size j h (counted (node s m j) 1) long₀ in
      record {
        after = with_position M j (at 1 i 0) N;
        is =
            record {
              mid = goes_midway s m m₀ j M at-m.mid f N (room_works s t m N wk j h) (record { hands = λ k a b. refl; sends = λ i k a b c. refl }) (at 1 i 0);
              here = here_at M j N i g apart some_left 1 (omega arith) (omega arith) (λ z. omega arith) empty;
            };
        same = f.table;
        way = still-way t M j h (at 1 i 0) N (λ k q a b. refl) (λ i k a b. refl) (λ z. omega (arith, stage_0)) (λ z. omega arith);
        turn = refl;
        left = refl;
      }

  -- ---- a copy
  module _ (has : n ≤ length (N j).free) where
    abbrev L : Letter
    L = record { chain = take (needs s (length K.words)) (M.node j).free; words = K.words }

    abbrev l₁ : List ℕ
    l₁ = taken s (node s m j) (needs s (length K.words))

    long₁ : length l₁ ≡ node_size s
    long₁ = length_taken s (node s m j) n ∙ (gives_stretch s m wk.size N wk.core j h).long

    abbrev m₁ : List ℕ
    m₁ = with_node s m j l₁

    abbrev l₂ : List ℕ
    l₂ = written s (taken s (node s m j) (needs s (length K.words))) (get_or (node s m j) first_free_at 0) K.words

    abbrev m₂ : List ℕ
    m₂ = with_node s m j l₂

    away : node s m₁ i ≡ node s m i
    away = with_node_lem s m wk.size j h l₁ long₁ i ∙ put_other (node s m) j l₁ i apart

    letter_k : letter s (node s m i) (length K.words) (first K) ≡ K.words
    letter_k =
        let z : get_or ((N i).letters (1 + j)) 0 gap ≡ K = ap (λ (ls : List Letter). get_or ls 0 gap) e in
        subst (λ (X : Letter). letter s (node s m i) (length X.words) (first X) ≡ X.words) z (gives_letter s m wk.size N wk.core i (1 + j) 0 g (omega arith) some_left)

    copied_is : copied s m₁ (length K.words) i (first K) j (space_of s j m) ≡ m₂
    unfolding copied
    copied_is =
        ap₂ (λ (u v : List ℕ). with_node s m₁ j (written s u (space_of s j m) (letter s v (length K.words) (first K)))) (node_with s m wk.size j h l₁ long₁) away
        ∙ ap (λ (ws : List ℕ). with_node s m₁ j (written s l₁ (space_of s j m) ws)) letter_k
        ∙ with_with s m wk.size j h l₁ long₁ l₂

    done_is : leb n (length (N j).free) ≡ true → did m₂ Done ≡ copied_in s j m i
    unfolding copied_in
    done_is z = rw (enough_is, z) (rw (told_k, first_k) (ap (λ (x : List ℕ). did x Done) (sym copied_is)))

    abbrev N₂ : ℕ → Node
    N₂ = put N j (placed (N j) (drop (needs s (length K.words)) (N j).free) 0 (L ∷ []))

    other₂ : (k p : ℕ) → (k ≡ j → p ≡ 0 → ⊥) → (N₂ k).letters p ≡ (N k).letters p
    other₂ = at_other N j (drop n (N j).free) 0 (L ∷ [])

    hand₂ : (N₂ j).letters 0 ≡ L ∷ []
    hand₂ = at_here N j (drop n (N j).free) 0 (L ∷ [])

    first_l : first L ≡ space_of s j m
    first_l = first_is s m wk.size N wk.core j h (wk.order.still j h) K.words (needs_some s wk.core.range (length K.words) (omega (arith, ok.least))) has

    left₂ : (N₂ i).letters (1 + j) ≡ K ∷ rest
    left₂ = other₂ i (1 + j) (λ u v. omega arith) ∙ e

    done_goes : Goes s t m₂ j (at 2 i (first L)) M [] count (length ((N i).letters (1 + j)))
    done_goes =
        let r = right_hand t at-m.mid.table i j h K.words ok in
        let f = front_with s m wk.size j h l₂ (hold_long s t m N wk j h K.words r has empty) in
        record {
          after = with_position M j (at 2 i (first L)) N₂;
          is =
              record {
                mid = goes_midway s m m₂ j M at-m.mid f N₂ (hold_works s t m N wk j h K.words r has empty)
                    (record { hands = λ k a b. other₂ k 0 (λ u v. b u); sends = λ i k a b c. other₂ i (1 + k) (λ u v. omega arith) }) (at 2 i (first L));
                here = here_hold M j N₂ i g apart (rw left₂ (omega arith)) L hand₂ (ap (λ (ls : List Letter). take 1 (map words_of ls)) (sym left₂));
              };
          same = f.table;
          way = still-way t M j h (at 2 i (first L)) N₂ (λ k q a b. other₂ k (13 + q) (λ u v. omega arith)) (λ i k a b. other₂ i (1 + k) (λ u v. omega arith)) (λ z. omega (arith, stage_0)) (λ z. omega arith);
          turn = refl;
          left = ap length (other₂ i (1 + j) (λ u v. omega arith));
        }

  -- STAGE 1
  pub first_goes : Goes s (table_in m) (copied_in s j m i).memory j (on_stage (copied_in s j m i).how (at 1 i 0) (at 2 i (space_of s j m))) M [] (λ X. length ((X.node i).letters (1 + j))) (length ((M.node i).letters (1 + j)))
  first_goes =
      let P : Did → Type 0 = λ d. Goes s t d.memory j (on_stage d.how (at 1 i 0) (at 2 i (space_of s j m))) M [] count (length ((N i).letters (1 + j))) in
      split (leb n (length (N j).free))
      (λ z. let has = leb-true n (length (N j).free) z in
      subst P (done_is has z) (subst (λ (x : ℕ). Goes s t (m₂ has) j (at 2 i x) M [] count (length ((N i).letters (1 + j)))) (first_l has) (done_goes has)))
      (λ z. subst P (short_is z) short_goes)
