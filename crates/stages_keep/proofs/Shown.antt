-- What the memory shows of the letters between the moves of a call: queues' items, and a letter by its first block. Assumes nothing.
use mathlib.Core.Path.{◌≡◌, refl, ap, subst}
use mathlib.Core.List.{List, [], ◌∷◌}
use Prim.Native.Nat.{ℕ, ◌+◌, ◌≤◌, ◌<◌}
use native.Mathlib.Omega.{arith}
use lib.ListN.{length}
use Rattle.words.specs.Count.{occurs, down_from}
use Rattle.settings.specs.declared.Settings.{Settings}
use Rattle.layout.specs.Places.{node, send_at, ack_at}
use Rattle.queues.specs.Queue.{send_kind, ack_kind}
use Rattle.queues.proofs.Ring.{ring_contents}
use Rattle.sound.specs.Reading.{send_items, ack_items}
use Rattle.sound.specs.Letters.{chain_from, told_length, words_from}
use Rattle.machine.specs.Machine.{Letter, first, firsts, Live, Node, All, many}
use Rattle.machine.specs.Core.{rows_of, Held}
use Rattle.machine.specs.Represents.{Right}
use Rattle.machine.proofs.Gives.{gives_stretch, gives_send, gives_ack, gives_among}
use Rattle.machine.proofs.Back as back
use Rattle.moves.proofs.Made.{Working}

-- a list that is not empty
pub some_of {ℓ κ} : {A : Type ℓ} {P : Type κ} (l : List A) → 1 ≤ length l → ((x : A) (r : List A) → l ≡ x ∷ r → P) → P
some_of [] h f = absurd (omega arith)
some_of (x ∷ r) h f = f x r refl

module _ (s : Settings) (table m : List ℕ) (N : ℕ → Node) (wk : Working s table m N) where
  -- the items of node i's send queue for k, and of its acknowledge queue for k
  pub send-shown : (i k : ℕ) → i < 6 → k < 6 → send_items s m i k ≡ firsts ((N i).letters (1 + k))
  send-shown i k h g = ring_contents (send_kind s) (node s m i) (send_at s k) (gives_send s m wk.size N wk.core i k h g)

  pub ack_shown : (i k : ℕ) → i < 6 → k < 6 → ack_items s m i k ≡ firsts ((N k).letters (7 + i))
  ack_shown i k h g = ring_contents (ack_kind s) (node s m i) (ack_at s k) (gives_ack s m wk.size N wk.core i k h g)

  -- the first letter at place p of node i
  module _ (i p : ℕ) (h : i < 6) (hi : p < 77) (L : Letter) (rest : List Letter) (e : (N i).letters p ≡ L ∷ rest) where
    held : Held s (rows_of s m i) L
    held = (subst (All (Held s (rows_of s m i))) e (wk.core.letters i p h (omega arith))).0

    few : (x : ℕ) → occurs x L.chain ≤ occurs x (down_from s.m)
    few x = omega (arith, gives_among s m wk.size N wk.core i p h (omega arith) x, ap (many x) e)

    pub first_right : Live L → Right table i p L.words
    first_right = (subst (All (λ X. Live X → Right table i p X.words)) e (wk.order.letters i p h hi)).0

    pub first_live_lem : p < 13 → Live L
    first_live_lem g = (subst (All Live) e (wk.order.live i p h g)).0

    pub chain-shown : chain_from s (node s m i) (first L) ≡ L.chain
    chain-shown = back.chain_is s (node s m i) (gives_stretch s m wk.size N wk.core i h) table i p L held first_right few

    pub told-shown : told_length s (node s m i) (first L) ≡ length L.words
    told-shown = back.told_is s (node s m i) (gives_stretch s m wk.size N wk.core i h) table i p L held first_right few

    pub words-shown : words_from s (node s m i) (first L) ≡ L.words
    words-shown = back.words_is s (node s m i) (gives_stretch s m wk.size N wk.core i h) table i p L held first_right few
