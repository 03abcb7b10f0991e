-- THE LETTERS ON THE WAY after each call: a send puts one behind them, a receive takes the first from them, what is refused leaves them. Assumes nothing.
use mathlib.Core.Path.{◌≡◌, refl, sym, ap, ap₂, ◌∙◌, subst}
use mathlib.Core.Bool.{Bool, true, false, cond, ◌&&◌, ◌||◌, false≢true}
use mathlib.Core.List.{List, [], ◌∷◌, ◌++◌, map, map-append, append_assoc, append-nil}
use Prim.Native.Nat.{ℕ, ◌+◌, ◌≤◌, ◌<◌}
use native.Mathlib.Omega.{arith}
use lib.Dec.{eqb}
use lib.ListN.{length, get_or, drop}
use borrow.Author.Tests.{eqb-true}
use Rattle.words.proofs.Lists.{split, same?, and-true}
use Rattle.tasks.specs.Table.{node_of, queue_of, is_bound, right_table}
use Rattle.tasks.proofs.Laws.{seat_below}
use Rattle.machine.specs.Machine.{Letter, words_of, Machine, All}
use Rattle.machine.specs.Represents.{RightPosition}
use Rattle.machine.specs.Same.{Unchanged}
use Rattle.moves.specs.Letters.{live_ones}
use Rattle.stages_keep.specs.Way.{those, between, in_queue, to_carry, on_the_way}
use Rattle.send_keeps.specs.Sends.{place_of, new_letter, Sends}
use Rattle.send.specs.Outcome.{goal_of}
use Rattle.receive_keeps.specs.Receives.{asked, Receives}
use Rattle.stages_keep.proofs.Way.{those-append, those_none, carry_stage, carry_away, carry_over, carry_same}

-- ---- queues and positions that are the same
way_same : (table : List ℕ) (m m' : Machine) (a b : ℕ) → in_queue m' (node_of table b) (queue_of table b) ≡ in_queue m (node_of table b) (queue_of table b)
    → to_carry m' (node_of table a) (node_of table b) ≡ to_carry m (node_of table a) (node_of table b) → on_the_way table m' a b ≡ on_the_way table m a b
unfolding on_the_way
way_same table m m' a b e f = ap₂ (λ (l : List (List ℕ)) (k : List Letter). those (between a b) (l ++ map words_of k)) e f

queue_same : (m m' : Machine) (k q : ℕ) → (m'.node k).letters (13 + q) ≡ (m.node k).letters (13 + q) → in_queue m' k q ≡ in_queue m k q
unfolding in_queue
queue_same m m' k q e = ap (λ (ls : List Letter). map words_of (live_ones ls)) e

-- A REFUSAL leaves them
pub refused_way : (table : List ℕ) → right_table table ≡ true → (m m' : Machine) → Unchanged m m' → (a b : ℕ) → is_bound table a ≡ true → is_bound table b ≡ true → on_the_way table m' a b ≡ on_the_way table m a b
refused_way table right m m' u a b x y =
    let i = seat_below table a right x in
    let k = seat_below table b right y in
    way_same table m m' a b (queue_same m m' (node_of table b) (queue_of table b) (u.letters (node_of table b) (13 + queue_of table b) k.0 (omega arith)))
    (carry_same m m' (node_of table a) (node_of table b) (u.stands.stage (node_of table b) k.0) (u.stands.other (node_of table b) k.0) (u.letters (node_of table a) (1 + node_of table b) i.0 (omega arith)))

-- ---- a letter of another pair passes no test of this one
between_tells : (a b : ℕ) (w : List ℕ) → between a b w ≡ true → (get_or w 0 0 ≡ a) × (get_or w 2 0 ≡ b)
unfolding between
between_tells a b w e =
    let h = and-true (eqb (get_or w 0 0) a) (eqb (get_or w 2 0) b) e in
    (eqb-true (get_or w 0 0) a h.0, eqb-true (get_or w 2 0) b h.1)

-- a letter of another pair, wherever it stands
those-without : (p : List ℕ → Bool) (xs : List (List ℕ)) (w : List ℕ) (ys : List (List ℕ)) → p w ≡ false → those p (xs ++ w ∷ ys) ≡ those p (xs ++ ys)
unfolding those
those-without p xs w ys e = those-append p xs (w ∷ ys) ∙ rw e (sym (those-append p xs ys))

-- none of them passes
those-nothing : (p : List ℕ → Bool) (ls : List Letter) → All (λ L. p L.words ≡ false) ls → those p (map words_of ls) ≡ []
unfolding those
those-nothing p [] h = refl
those-nothing p (L ∷ ls) h = rw h.0 (those-nothing p ls h.1)

-- ---- A SEND THAT IS DONE puts its letter behind them
module _ (table : List ℕ) (right : right_table table ≡ true) (m m' : Machine) (source destination n : ℕ) (w : List ℕ) (bs : is_bound table source ≡ true) (bd : is_bound table destination ≡ true)
    (from : get_or w 0 0 ≡ source) (to : get_or w 2 0 ≡ destination) where
  abbrev i : ℕ
  i = node_of table source

  abbrev k : ℕ
  k = node_of table destination

  abbrev q : ℕ
  q = queue_of table destination

  module _ (a b : ℕ) (x : is_bound table a ≡ true) (y : is_bound table b ≡ true) where
    abbrev p : List ℕ → Bool
    p = between a b

    abbrev na : ℕ
    na = node_of table a

    abbrev nb : ℕ
    nb = node_of table b

    abbrev qb : ℕ
    qb = queue_of table b

    na6 : na < 6
    na6 = (seat_below table a right x).0

    nb6 : nb < 6
    nb6 = (seat_below table b right y).0

    qb64 : qb < 64
    qb64 = (seat_below table b right y).1

    -- a letter of this pair is from a's node, and for b's queue
    own : p w ≡ true → (na ≡ i) × (nb ≡ k) × (qb ≡ q)
    own e =
        let t = between_tells a b w e in
        let u : a ≡ source = sym t.0 ∙ from in
        let v : b ≡ destination = sym t.1 ∙ to in
        (ap (node_of table) u, ap (node_of table) v, ap (queue_of table) v)

    not_own : ((na ≡ i) × (nb ≡ k) × (qb ≡ q) → ⊥) → p w ≡ false
    not_own f = split (p w) (λ e. absurd (f (own e))) (λ e. e)

    abbrev Q : List (List ℕ)
    Q = in_queue m nb qb

    abbrev T : List (List ℕ)
    T = map words_of (to_carry m na nb)

    -- where it is of another pair
    another : p w ≡ false → on_the_way table m' a b ≡ on_the_way table m a b → on_the_way table m' a b ≡ on_the_way table m a b ++ those (between a b) (w ∷ [])
    another e h = h ∙ sym (append-nil (on_the_way table m a b)) ∙ ap (λ (l : List (List ℕ)). on_the_way table m a b ++ l) (sym (those_none p w e))

    -- on the same node: behind the letters of the task queue
    module _ (same : i ≡ k) (s : Sends m m' (node_of table source) (13 + queue_of table destination) n w) (itself : (i : ℕ) → i < 6 → (m.node i).letters (1 + i) ≡ []) where
      carry_l : to_carry m' na nb ≡ to_carry m na nb
      carry_l = carry_same m m' na nb (s.stands.stage nb nb6) (s.stands.other nb nb6) (s.elsewhere na (1 + nb) na6 (omega (arith, nb6)) (λ u v. omega (arith, nb6)))

      -- it is the queue, or another one
      queue_own : nb ≡ i → qb ≡ q → in_queue m' nb qb ≡ Q ++ w ∷ []
      unfolding in_queue
      queue_own u v =
          rw (u, v) (ap (map words_of) s.behind ∙ map-append words_of (live_ones ((m.node i).letters (13 + q))) (new_letter (m.node i).free n w ∷ []))

      queue_other : (nb ≡ i → qb ≡ q → ⊥) → in_queue m' nb qb ≡ Q
      queue_other f = queue_same m m' nb qb (s.elsewhere nb (13 + qb) nb6 (omega (arith, qb64)) (λ u v. f u (omega arith)))

      -- a node has no letters for itself to carry
      none-itself : na ≡ i → nb ≡ i → T ≡ []
      unfolding to_carry
      none-itself u v = rw (u, v, itself i (seat_below table source right bs).0) (both (eqb (m.stage i) 3 && eqb (m.other i) i))
        where
          both : (c : Bool) → map words_of (cond c (drop 1 []) []) ≡ []
          both true = refl
          both false = refl

      local_way : on_the_way table m' a b ≡ on_the_way table m a b ++ those (between a b) (w ∷ [])
      unfolding on_the_way
      local_way =
          same? nb i
          (λ u t. same? qb q
          (λ v t'.
          ap₂ (λ (l : List (List ℕ)) (z : List Letter). those p (l ++ map words_of z)) (queue_own u v) carry_l
          ∙ split (p w)
          (λ e.
          let z : T ≡ [] = none-itself (own e).0 u in
          ap (λ (l : List (List ℕ)). those p ((Q ++ w ∷ []) ++ l)) z ∙ ap (those p) (append-nil (Q ++ w ∷ [])) ∙ those-append p Q (w ∷ [])
          ∙ ap (λ (l : List (List ℕ)). those p l ++ those p (w ∷ [])) (sym (append-nil Q) ∙ ap (λ (l : List (List ℕ)). Q ++ l) (sym z)))
          (λ e.
          ap (those p) (append_assoc Q (w ∷ []) T) ∙ those-without p Q w T e ∙ sym (append-nil (those p (Q ++ T))) ∙ ap (λ (l : List (List ℕ)). those p (Q ++ T) ++ l) (sym (those_none p w e))))
          (λ v t'. another (not_own (λ z. v z.2)) (way_same table m m' a b (queue_other (λ c d. v d)) carry_l)))
          (λ u t. another (not_own (λ z. u (z.1 ∙ sym same))) (way_same table m m' a b (queue_other (λ c d. u c)) carry_l))

    -- on another node: behind the letters of the send queue
    module _ (s : Sends m m' (node_of table source) (1 + node_of table destination) n w) (positions : (k : ℕ) → k < 6 → RightPosition m k) where
      queue_r : in_queue m' nb qb ≡ Q
      queue_r = queue_same m m' nb qb (s.elsewhere nb (13 + qb) nb6 (omega (arith, qb64)) (λ u v. omega (arith, (seat_below table destination right bd).0)))

      abbrev L : Letter
      L = new_letter (m.node i).free n w

      behind : (m'.node i).letters (1 + k) ≡ (m.node i).letters (1 + k) ++ L ∷ []
      behind = s.sent (omega (arith, (seat_below table destination right bd).0))

      drop_one : (ls : List Letter) → 1 ≤ length ls → drop 1 (ls ++ L ∷ []) ≡ drop 1 ls ++ L ∷ []
      drop_one [] h = absurd (omega arith)
      drop_one (K ∷ ls) h = refl

      k6 : k < 6
      k6 = (seat_below table destination right bd).0

      -- the first of them stays the first
      carry_own : to_carry m' i k ≡ to_carry m i k ++ L ∷ []
      carry_own =
          same? (m.stage k) 3
          (λ e t. same? (m.other k) i
          (λ f u.
          let z : 1 ≤ length ((m.node i).letters (1 + k)) = subst (λ (y : ℕ). 1 ≤ length ((m.node y).letters (1 + k))) f ((positions k k6).waits (omega arith)) in
          carry_over m' i k (s.stands.stage k k6 ∙ e) (s.stands.other k k6 ∙ f) ∙ ap (drop 1) behind ∙ drop_one ((m.node i).letters (1 + k)) z
          ∙ ap (λ (ls : List Letter). ls ++ L ∷ []) (sym (carry_over m i k e f)))
          (λ f u. carry_away m' i k (λ z. f (sym (s.stands.other k k6) ∙ z)) ∙ behind ∙ ap (λ (ls : List Letter). ls ++ L ∷ []) (sym (carry_away m i k f))))
          (λ e t. carry_stage m' i k (λ z. e (sym (s.stands.stage k k6) ∙ z)) ∙ behind ∙ ap (λ (ls : List Letter). ls ++ L ∷ []) (sym (carry_stage m i k e)))

      carry_other : (na ≡ i → nb ≡ k → ⊥) → to_carry m' na nb ≡ to_carry m na nb
      carry_other f =
          carry_same m m' na nb (s.stands.stage nb nb6) (s.stands.other nb nb6) (s.elsewhere na (1 + nb) na6 (omega (arith, nb6)) (λ u v. f u (omega arith)))

      remote_own : na ≡ i → nb ≡ k → on_the_way table m' a b ≡ on_the_way table m a b ++ those (between a b) (w ∷ [])
      unfolding on_the_way
      remote_own u v =
          let c : to_carry m' na nb ≡ to_carry m na nb ++ L ∷ [] = rw (u, v) carry_own in
          ap₂ (λ (l : List (List ℕ)) (z : List Letter). those p (l ++ map words_of z)) queue_r c
          ∙ ap (λ (l : List (List ℕ)). those p (Q ++ l)) (map-append words_of (to_carry m na nb) (L ∷ []))
          ∙ ap (those p) (sym (append_assoc Q T (w ∷ []))) ∙ those-append p (Q ++ T) (w ∷ [])

      remote_way : on_the_way table m' a b ≡ on_the_way table m a b ++ those (between a b) (w ∷ [])
      remote_way =
          same? na i
          (λ u t. same? nb k
          (λ v t'. remote_own u v)
          (λ v t'. another (not_own (λ z. v z.1)) (way_same table m m' a b queue_r (carry_other (λ c d. v d)))))
          (λ u t. another (not_own (λ z. u z.0)) (way_same table m m' a b queue_r (carry_other (λ c d. u c))))

    pub sends-way : Sends m m' (node_of table source) (place_of (goal_of (node_of table source) (node_of table destination) (queue_of table destination))) n w
        → ((i : ℕ) → i < 6 → (m.node i).letters (1 + i) ≡ []) → ((k : ℕ) → k < 6 → RightPosition m k) → on_the_way table m' a b ≡ on_the_way table m a b ++ those (between a b) (w ∷ [])
    unfolding goal_of
    sends-way s itself positions =
        same? i k
        (λ u t. local_way u (rw t at s) itself)
        (λ u t. remote_way (rw t at s) positions)

-- ---- A RECEIVE THAT IS DONE takes the first of them
module _ (table : List ℕ) (right : right_table table ≡ true) (m m' : Machine) (destination source from long : ℕ) (out given : List ℕ)
    (r : Receives m m' (node_of table destination) (queue_of table destination) source from long out given)
    (to : get_or r.letter.words 2 0 ≡ destination) (a b : ℕ) (x : is_bound table a ≡ true) (y : is_bound table b ≡ true) where
  abbrev j : ℕ
  j = node_of table destination

  abbrev o : ℕ
  o = queue_of table destination

  abbrev t : List ℕ → Bool
  t = between a b

  abbrev v : List ℕ
  v = r.letter.words

  abbrev E : List (List ℕ)
  E = map words_of r.earlier

  abbrev A : List (List ℕ)
  A = map words_of r.later

  nb_in : (node_of table b < 6) × (queue_of table b < 64)
  nb_in = seat_below table b right y

  na_in : node_of table a < 6
  na_in = (seat_below table a right x).0

  carry_r : to_carry m' (node_of table a) (node_of table b) ≡ to_carry m (node_of table a) (node_of table b)
  carry_r =
      carry_same m m' (node_of table a) (node_of table b) (r.stands.stage (node_of table b) nb_in.0) (r.stands.other (node_of table b) nb_in.0)
      (r.letters (node_of table a) (1 + node_of table b) na_in (omega (arith, nb_in.0)) (λ u z. omega (arith, nb_in.0)))

  queue-was : in_queue m j o ≡ E ++ v ∷ A
  unfolding in_queue
  queue-was = ap (map words_of) r.was ∙ map-append words_of r.earlier (r.letter ∷ r.later)

  queue_is : in_queue m' j o ≡ E ++ A
  unfolding in_queue
  queue_is = ap (map words_of) r.is ∙ map-append words_of r.earlier r.later

  -- where it is of this pair, none before it is
  earlier_none : t v ≡ true → those t E ≡ []
  earlier_none e =
      let h = between_tells a b v e in
      those-nothing t r.earlier (each h.0 r.earlier r.first)
    where
      each : get_or v 0 0 ≡ a → (ls : List Letter) → All (λ L. asked source L ≡ false) ls → All (λ L. t L.words ≡ false) ls
      each f [] h = tt
      each f (L ∷ ls) h = (
        split (t L.words)
            (λ e. absurd (let g = between_tells a b L.words e in false≢true (sym h.0 ∙ same_asked (g.0 ∙ sym f) ∙ r.wanted)))
            (λ e. e),
        each f ls h.1,
      )
        where
          same_asked : get_or L.words 0 0 ≡ get_or v 0 0 → asked source L ≡ asked source r.letter
          same_asked z = ap (λ (n : ℕ). eqb source 0 || eqb n source) z

  own_r : node_of table b ≡ j → queue_of table b ≡ o → on_the_way table m a b ≡ those (between a b) (r.letter.words ∷ []) ++ on_the_way table m' a b
  unfolding on_the_way
  own_r u z =
      let T : List (List ℕ) = map words_of (to_carry m (node_of table a) (node_of table b)) in
      let before : in_queue m (node_of table b) (queue_of table b) ≡ E ++ v ∷ A = rw (u, z) queue-was in
      let after : in_queue m' (node_of table b) (queue_of table b) ≡ E ++ A = rw (u, z) queue_is in
      let back : those t ((E ++ A) ++ T) ≡ those t (in_queue m' (node_of table b) (queue_of table b) ++ map words_of (to_carry m' (node_of table a) (node_of table b))) =
      ap₂ (λ (l : List (List ℕ)) (k : List Letter). those t (l ++ map words_of k)) (sym after) (sym carry_r) in
      ap (λ (l : List (List ℕ)). those t (l ++ T)) before ∙ ap (those t) (append_assoc E (v ∷ A) T) ∙ those-append t E (v ∷ (A ++ T))
      ∙ split (t v)
      (λ e.
      ap (λ (l : List (List ℕ)). l ++ those t (v ∷ (A ++ T))) (earlier_none e)
      ∙ those-append t (v ∷ []) (A ++ T)
      ∙ ap (λ (l : List (List ℕ)). those t (v ∷ []) ++ (l ++ those t (A ++ T))) (sym (earlier_none e))
      ∙ ap (λ (l : List (List ℕ)). those t (v ∷ []) ++ l) (sym (those-append t E (A ++ T)) ∙ ap (those t) (sym (append_assoc E A T)) ∙ back))
      (λ e.
      ap (λ (l : List (List ℕ)). those t E ++ l) (those-append t (v ∷ []) (A ++ T) ∙ ap (λ (l : List (List ℕ)). l ++ those t (A ++ T)) (those_none t v e))
      ∙ sym (those-append t E (A ++ T)) ∙ ap (those t) (sym (append_assoc E A T)) ∙ back
      ∙ ap (λ (l : List (List ℕ)). l ++ those t (in_queue m' (node_of table b) (queue_of table b) ++ map words_of (to_carry m' (node_of table a) (node_of table b)))) (sym (those_none t v e)))

  other_r : (node_of table b ≡ j → queue_of table b ≡ o → ⊥) → on_the_way table m a b ≡ those (between a b) (r.letter.words ∷ []) ++ on_the_way table m' a b
  other_r f =
      let e : t v ≡ false = split (t v) (λ e. absurd (let h = between_tells a b v e in let z : b ≡ destination = sym h.1 ∙ to in f (ap (node_of table) z) (ap (queue_of table) z))) (λ e. e) in
      let s : on_the_way table m' a b ≡ on_the_way table m a b =
      way_same table m m' a b
      (queue_same m m' (node_of table b) (queue_of table b) (r.letters (node_of table b) (13 + queue_of table b) nb_in.0 (omega (arith, nb_in.1)) (λ u z. f u (omega arith)))) carry_r in
      sym s ∙ ap (λ (l : List (List ℕ)). l ++ on_the_way table m' a b) (sym (those_none t v e))

  pub receives-way : on_the_way table m a b ≡ those (between a b) (r.letter.words ∷ []) ++ on_the_way table m' a b
  receives-way =
      same? (node_of table b) j
      (λ u z. same? (queue_of table b) o (λ u' z'. own_r u u') (λ u' z'. other_r (λ c d. u' d)))
      (λ u z. other_r (λ c d. u c))
