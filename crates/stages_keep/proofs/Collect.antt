-- STEP 1, one item: 'drop it, give its chain back in j'. Assumes nothing.
use mathlib.Core.Path.{◌≡◌, refl, sym, ap, ap₂, ◌∙◌, subst}
use mathlib.Core.List.{List, [], ◌∷◌, ◌++◌}
use Prim.Native.Nat.{ℕ, ◌+◌, ◌<◌}
use native.Mathlib.Omega.{arith}
use lib.ListN.{length, get_or}
use Rattle.words.proofs.Lists.{put, put_other}
use Rattle.settings.specs.declared.Settings.{Settings}
use Rattle.layout.specs.Places.{node_size, node, with_node, ack_at}
use Rattle.blocks.specs.Moves.{given_back}
use Rattle.blocks.proofs.Moves.{length-given}
use Rattle.queues.specs.Queue.{ack_kind}
use Rattle.queues.specs.Moves.{dropped}
use Rattle.queues.proofs.Views.{length-dropped}
use Rattle.sound.specs.Reading.{table_in, ack_items}
use Rattle.sound.specs.Letters.{chain_from}
use Rattle.machine.specs.Machine.{Letter, first, firsts, Node, Machine}
use Rattle.machine.proofs.Gives.{gives_stretch}
use Rattle.moves.proofs.Made.{placed, Working}
use Rattle.moves.proofs.Memory.{with_long, with_node_lem}
use Rattle.moves.proofs.Formed.{at_here, at_other}
use Rattle.moves.proofs.Works.{acknowledge_works}
use Rattle.postman.specs.declared.Round.{Round}
use Rattle.postman.specs.Position.{at_rest}
use Rattle.stages_keep.specs.Steps.{collected}
use Rattle.stages_keep.proofs.Standing.{Front, with_position, front_with, front_then, goes_midway, here_rest}
use Rattle.stages_keep.proofs.Shown.{ack_shown, chain-shown}
use Rattle.stages_keep.proofs.Going.{Is, Goes, still-way}

module _ (s : Settings) (m : List ℕ) (j i : ℕ) (h : j < 6) (g : i < 6) (M : Machine) (at-m : Is s m j at_rest M) (K : Letter) (rest : List Letter) (e : (M.node j).letters (7 + i) ≡ K ∷ rest) where
  abbrev N : ℕ → Node
  N = M.node

  abbrev t : List ℕ
  t = table_in m

  wk : Working s (table_in m) m M.node
  wk = at-m.mid.works

  abbrev count : Machine → ℕ
  count X = length ((X.node j).letters (7 + i))

  apart : i ≡ j → ⊥
  apart z =
      let y : K ∷ rest ≡ [] = sym e ∙ ap (λ (k : ℕ). (N j).letters (7 + k)) z ∙ wk.order.itself_ack j h in
      let x : ◌≡◌ {A = ℕ} (length (K ∷ rest)) 0 = ap length y in
      omega arith

  stage_0 : M.stage j ≡ 0
  stage_0 = at-m.here.stage

  empty : (N j).letters 0 ≡ []
  empty = at-m.here.right.hand (λ z. omega (arith, stage_0))

  pub first_owed : get_or (ack_items s m i j) 0 0 ≡ first K
  first_owed = ap (λ (l : List ℕ). get_or l 0 0) (ack_shown s t m N wk i j g h ∙ ap firsts e)

  chain_k : chain_from s (node s m j) (first K) ≡ K.chain
  chain_k = chain-shown s t m N wk j (7 + i) h (omega arith) K rest e

  abbrev l₁ : List ℕ
  l₁ = dropped (ack_kind s) (node s m i) (ack_at s j)

  long₁ : length l₁ ≡ node_size s
  long₁ = length-dropped (ack_kind s) (node s m i) (ack_at s j) ∙ (gives_stretch s m wk.size N wk.core i g).long

  abbrev m₁ : List ℕ
  m₁ = with_node s m i l₁

  abbrev l₂ : List ℕ
  l₂ = given_back s (node s m j) (length K.chain) (first K)

  abbrev m₂ : List ℕ
  m₂ = with_node s m₁ j l₂

  front : Front m m₂
  front =
      front_then (front_with s m wk.size i g l₁ long₁)
      (front_with s m₁ (with_long s m wk.size i g l₁ long₁ ∙ wk.size) j h l₂ (length-given s (node s m j) (length K.chain) (first K) ∙ (gives_stretch s m wk.size N wk.core j h).long))

  memory_is : (r : Round) → (collected s j m i r).memory ≡ m₂
  unfolding collected
  memory_is r =
      ap₂ (λ (l : List ℕ) (x : ℕ). with_node s m₁ j (given_back s l (length (chain_from s (node s m j) x)) x))
      (with_node_lem s m wk.size i g l₁ long₁ j ∙ put_other (node s m) i l₁ j (λ z. apart (sym z))) first_owed
      ∙ ap (λ (c : List ℕ). with_node s m₁ j (given_back s (node s m j) (length c) (first K))) chain_k

  abbrev N₂ : ℕ → Node
  N₂ = put N j (placed (N j) (K.chain ++ (N j).free) (7 + i) rest)

  other₂ : (k p : ℕ) → (k ≡ j → p ≡ 7 + i → ⊥) → (N₂ k).letters p ≡ (N k).letters p
  other₂ = at_other N j (K.chain ++ (N j).free) (7 + i) rest

  goes : Goes s t m₂ j at_rest M [] count (length rest)
  goes =
      record {
        after = with_position M j at_rest N₂;
        is =
            record {
              mid = goes_midway s m m₂ j M at-m.mid front N₂ (acknowledge_works s t m N wk j i h g apart K rest e)
                  (record { hands = λ k a b. other₂ k 0 (λ u v. omega arith); sends = λ x k a b d. other₂ x (1 + k) (λ u v. omega arith) }) at_rest;
              here = here_rest M j N₂ (other₂ j 0 (λ u v. omega arith) ∙ empty);
            };
        same = front.table;
        way = still-way t M j h at_rest N₂ (λ k q a b. other₂ k (13 + q) (λ u v. omega arith)) (λ x k a b. other₂ x (1 + k) (λ u v. omega arith)) (λ z. omega (arith, stage_0)) (λ z. omega arith);
        turn = refl;
        left = ap length (at_here N j (K.chain ++ (N j).free) (7 + i) rest);
      }

  -- STEP 1, ONE ITEM
  pub collect_goes : (r : Round) → Goes s (table_in m) (collected s j m i r).memory j at_rest M [] (λ X. length ((X.node j).letters (7 + i))) (length rest)
  collect_goes r = subst (λ (x : List ℕ). Goes s t x j at_rest M [] count (length rest)) (sym (memory_is r)) goes
