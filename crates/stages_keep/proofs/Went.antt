-- THE STEPS OF A TURN JOINED: from a represented machine to the one after the letters that were carried, done or stopped. Assumes nothing.
--     handed_went, delivered_went, carried_went     a letter, from each stage on
--     carried_all_went, carried_from_went, collected_all_went, collected_from_went     steps 2 and 1; resumed_went, gone_went     a turn
use mathlib.Core.Path.{◌≡◌, refl, sym, ap, ◌∙◌, subst}
use mathlib.Core.List.{List, [], ◌∷◌, ◌++◌, map}
use Prim.Native.Nat.{ℕ, zero, suc, ◌+◌, ◌-◌, ◌≤◌, ◌<◌}
use native.Mathlib.Omega.{arith}
use lib.ListN.{length, get_or, take, length-append}
use Rattle.words.proofs.Lists.{same?}
use Rattle.settings.specs.declared.Settings.{Settings}
use Rattle.sound.specs.Reading.{table_in, send_items, ack_items}
use Rattle.machine.specs.Machine.{Letter, firsts, words_of, Machine}
use Rattle.machine.proofs.Letters.{length-firsts}
use Rattle.stages_keep.specs.Way.{Carries}
use Rattle.postman.specs.declared.Stage.{Stage}
use Rattle.postman.specs.declared.Stage.TheVariants.{Done, Stopped}
use Rattle.postman.specs.declared.Position.{Position}
use Rattle.postman.specs.declared.Round.{Round}
use Rattle.postman.specs.Position.{at, at_rest}
use Rattle.postman.specs.Round.{Post, post, on_stage, one_letter, stage, and_then, into}
use Rattle.stages_keep.specs.Steps.{space_of, copied_in, queued, acknowledged, handed_on, delivered, carried, carried_all, carried_from, collected, collected_all, collected_from, clears_first, resumed, gone}
use Rattle.stages_keep.proofs.Standing.{with_position, here_rest, goes_midway}
use Rattle.stages_keep.proofs.Shown.{some_of, send-shown, ack_shown}
use Rattle.stages_keep.proofs.Way.{carries_none, carries_then}
use Rattle.stages_keep.proofs.Going.{Is, one_of, still-way}
use Rattle.stages_keep.proofs.First.{first_goes}
use Rattle.stages_keep.proofs.Second.{second_goes}
use Rattle.stages_keep.proofs.Third.{not_done, third_goes, third_stops}
use Rattle.stages_keep.proofs.Collect.{collect_goes}

-- the position reached: at rest where all was done, else the one to keep
abbrev pub reached : Round → Position
reached r = on_stage r.how r.position at_rest

-- from M and the turn r on, the memory and the turn so far; f counts n where all was done
pub record Went (s : Settings) (table : List ℕ) (p : Post) (j : ℕ) (M : Machine) (r : Round) (f : Machine → ℕ) (n : ℕ) : Type 0 where
  pub after : Machine
  pub is : Is s p.memory j (reached p.round) after
  pub same : table_in p.memory ≡ table
  -- the letters that he carried
  pub news : List (List ℕ)
  pub way : Carries table j M after news
  pub letters : p.round.letters ≡ r.letters + length news
  pub turn : after.turn ≡ M.turn
  pub position : p.round.how ≡ Done → p.round.position ≡ r.position
  pub left : p.round.how ≡ Done → f after ≡ n

-- nothing is counted
abbrev pub none : Machine → ℕ
none X = 0

-- a case split on how a stage ended
pub how? {ℓ} : {P : Type ℓ} (h : Stage) → (h ≡ Done → P) → ((n : ℕ) → h ≡ Stopped n → P) → P
how? Done f g = f refl
how? (Stopped n) f g = g n refl

on_done {ℓ} : {A : Type ℓ} (h : Stage) (a b : A) → h ≡ Done → b ≡ on_stage h a b
on_done h a b e = rw e

on_stopped {ℓ} : {A : Type ℓ} (h : Stage) (a b : A) {n : ℕ} → h ≡ Stopped n → a ≡ on_stage h a b
on_stopped h a b e = rw e

module _ (s : Settings) (table : List ℕ) (j : ℕ) where
  -- nothing done
  pub went_none : (m : List ℕ) (r : Round) (M : Machine) (f : Machine → ℕ) (n : ℕ) → j < 6 → r.how ≡ Done → table_in m ≡ table → Is s m j at_rest M → f M ≡ n → Went s table (post m r) j M r f n
  went_none m r M f n h d e is c =
      record {
        after = M;
        is = rw d is;
        same = e;
        news = [];
        way = carries_none table j M M h (λ k q a b. refl) (λ i k a b. refl);
        letters = omega arith;
        turn = refl;
        position = λ z. refl;
        left = λ z. c;
      }

  -- after a stage that carried xs, and left the turn so far as r'
  stage_went : {p : Post} {M M' : Machine} {f : Machine → ℕ} {n : ℕ} (r r' : Round) (xs : List (List ℕ)) → Carries table j M M' xs → M'.turn ≡ M.turn → r'.letters ≡ r.letters + length xs → r'.position ≡ r.position
      → Went s table p j M' r' f n → Went s table p j M r f n
  stage_went {M = M} {M' = M'} r r' xs w t l e g =
      record {
        after = g.after;
        is = g.is;
        same = g.same;
        news = xs ++ g.news;
        way = carries_then table j M M' g.after xs g.news w g.way;
        letters = omega (arith, g.letters, l, length-append xs g.news);
        turn = g.turn ∙ t;
        position = λ z. g.position z ∙ e;
        left = g.left;
      }

  -- all done, he is at rest
  rested : (p : Post) (M : Machine) → p.round.how ≡ Done → Is s p.memory j (reached p.round) M → Is s p.memory j at_rest M
  rested p M d is = subst (λ (x : Position). Is s p.memory j x M) (sym (on_done p.round.how p.round.position at_rest d)) is

  -- from one machine on, and on from the next
  after_went : {p q : Post} {M : Machine} {r : Round} {f f' : Machine → ℕ} {n n' : ℕ} → (w : Went s table p j M r f n) → p.round.how ≡ Done → Went s table q j w.after p.round f' n' → Went s table q j M r f' n'
  after_went {p} {q} {M} {r} w d g = stage_went r p.round w.news w.way w.turn w.letters (w.position d) g

  -- first p, and then, where it did not stop, g
  module _ {M : Machine} {r : Round} {f f' : Machine → ℕ} {n n' : ℕ} (p : Post) (w : Went s table p j M r f n) (g : List ℕ → Round → Post) where
    pub then_went : (p.round.how ≡ Done → Is s p.memory j at_rest w.after → f w.after ≡ n → Went s table (g p.memory p.round) j w.after p.round f' n') → Went s table (and_then p g) j M r f' n'
    unfolding and_then
    then_went k =
        how? p.round.how
        (λ d. subst (λ (x : Post). Went s table x j M r f' n') (on_done p.round.how p (g p.memory p.round) d) (after_went w d (k d (rested p w.after d w.is) (w.left d))))
        (λ x d. subst (λ (x : Post). Went s table x j M r f' n') (on_stopped p.round.how p (g p.memory p.round) d)
        (record { after = w.after; is = w.is; same = w.same; news = w.news; way = w.way; letters = w.letters; turn = w.turn; position = w.position; left = λ z. absurd (not_done (sym z ∙ d)) }))

    pub into_went : p.round.how ≡ Done → (Is s p.memory j at_rest w.after → f w.after ≡ n → Went s table (g p.memory p.round) j w.after p.round f' n') → Went s table (into p g) j M r f' n'
    unfolding into
    into_went d k = after_went w d (k (rested p w.after d w.is) (w.left d))

  -- what a stage carried, by the table
  along : {M M' : Machine} {xs : List (List ℕ)} {t : List ℕ} → t ≡ table → Carries t j M M' xs → Carries table j M M' xs
  along {M} {M'} {xs} e c = subst (λ (x : List ℕ). Carries x j M M' xs) e c

  -- ---- A LETTER
  module _ (h : j < 6) (i : ℕ) (g : i < 6) where
    abbrev count : Machine → ℕ
    count X = length ((X.node i).letters (1 + j))

    -- stage 3
    pub handed_went : (m : List ℕ) (M : Machine) (r : Round) (n : ℕ) → table_in m ≡ table → Is s m j (at 3 i 0) M → r.how ≡ Done → length ((M.node i).letters (1 + j)) ≡ suc n
        → Went s table (handed_on s j m i r) j M r (λ X. length ((X.node i).letters (1 + j))) n
    unfolding handed_on stage
    handed_went m M r n t is d c =
        some_of ((M.node i).letters (1 + j)) (omega arith) (λ K rest e.
        how? (acknowledged s j m i).how
        (λ z.
        let w = third_goes s m j i h g M is K rest e z in
        let k : length rest ≡ n = let y : length ((M.node i).letters (1 + j)) ≡ suc (length rest) = ap length e in omega arith in
        rw z (record { after = w.after; is = rw d w.is; same = w.same ∙ t; news = []; way = along t w.way; letters = omega arith; turn = w.turn; position = λ y. refl; left = λ y. w.left ∙ k }))
        (λ x z.
        let w = third_stops s m j i h g M is K rest e z in
        rw z (record { after = w.after; is = w.is; same = w.same ∙ t; news = []; way = along t w.way; letters = omega arith; turn = w.turn; position = λ y. absurd (not_done (sym y)); left = λ y. absurd (not_done (sym y)) })))

    -- from stage 2 on
    pub delivered_went : (m : List ℕ) (M : Machine) (c : ℕ) (r : Round) (n : ℕ) → table_in m ≡ table → Is s m j (at 2 i c) M → r.how ≡ Done → length ((M.node i).letters (1 + j)) ≡ suc n
        → Went s table (delivered s j m i c r) j M r (λ X. length ((X.node i).letters (1 + j))) n
    unfolding delivered stage
    delivered_went m M c r n t is d l =
        some_of ((M.node i).letters (1 + j)) (omega arith) (λ K rest e.
        let z = is.here in
        let o : M.other j ≡ i = z.other in
        let k : map words_of ((M.node j).letters 0) ≡ K.words ∷ [] =
        z.right.copy z.stage ∙ ap (λ (x : ℕ). take 1 (map words_of ((M.node x).letters (1 + j)))) o ∙ ap (λ (ls : List Letter). take 1 (map words_of ls)) e in
        one_of ((M.node j).letters 0) K.words k (λ L one copy.
        let w = second_goes s m j i c h g M is K rest e L one copy in
        how? (queued s j m c).how
        (λ y. rw y (stage_went r (one_letter r) (K.words ∷ []) (along t (rw y at w.way)) w.turn refl refl
        (handed_went (queued s j m c).memory w.after (one_letter r) n (w.same ∙ t) (rw y at w.is) d (w.left ∙ l))))
        (λ x y. rw y (record { after = w.after; is = rw y at w.is; same = w.same ∙ t; news = []; way = along t (rw y at w.way); letters = omega arith; turn = w.turn; position = λ u. absurd (not_done (sym u)); left = λ u. absurd (not_done (sym u)) }))))

    -- from stage 1 on
    pub carried_went : (m : List ℕ) (M : Machine) (r : Round) (n : ℕ) → table_in m ≡ table → Is s m j at_rest M → r.how ≡ Done → length ((M.node i).letters (1 + j)) ≡ suc n
        → Went s table (carried s j m i r) j M r (λ X. length ((X.node i).letters (1 + j))) n
    unfolding carried stage
    carried_went m M r n t is d l =
        some_of ((M.node i).letters (1 + j)) (omega arith) (λ K rest e.
        let w = first_goes s m j i h g M is K rest e in
        how? (copied_in s j m i).how
        (λ y. rw y (stage_went r r [] (along t w.way) w.turn (omega arith) refl
        (delivered_went (copied_in s j m i).memory w.after (space_of s j m) r n (w.same ∙ t) (rw y at w.is) d (w.left ∙ l))))
        (λ x y. rw y (record { after = w.after; is = rw y at w.is; same = w.same ∙ t; news = []; way = along t w.way; letters = omega arith; turn = w.turn; position = λ u. absurd (not_done (sym u)); left = λ u. absurd (not_done (sym u)) })))

    -- k letters of node i
    pub carried_all_went : (k : ℕ) (m : List ℕ) (M : Machine) (r : Round) → table_in m ≡ table → Is s m j at_rest M → r.how ≡ Done → k ≤ length ((M.node i).letters (1 + j))
        → Went s table (carried_all s j k m i r) j M r none 0
    unfolding carried_all
    carried_all_went zero m M r t is d l = went_none m r M none 0 h d t is refl
    carried_all_went (suc k) m M r t is d l =
        let n : ℕ = length ((M.node i).letters (1 + j)) - 1 in
        let w = carried_went m M r n t is d (omega arith) in
        then_went {f = count} {f' = none} {n = n} {n' = 0} (carried s j m i r) w (λ m' r'. carried_all s j k m' i r')
        (λ y is' c. carried_all_went k (carried s j m i r).memory w.after (carried s j m i r).round w.same is' y (omega arith))

    -- step 1, one item
    abbrev owed : Machine → ℕ
    owed X = length ((X.node j).letters (7 + i))

    pub collected_went : (m : List ℕ) (M : Machine) (r : Round) (n : ℕ) → table_in m ≡ table → Is s m j at_rest M → r.how ≡ Done → length ((M.node j).letters (7 + i)) ≡ suc n
        → Went s table (collected s j m i r) j M r (λ X. length ((X.node j).letters (7 + i))) n
    unfolding collected
    collected_went m M r n t is d l =
        some_of ((M.node j).letters (7 + i)) (omega arith) (λ K rest e.
        let w = collect_goes s m j i h g M is K rest e r in
        let k : length rest ≡ n = let y : length ((M.node j).letters (7 + i)) ≡ suc (length rest) = ap length e in omega arith in
        record {
          after = w.after;
          is = subst (λ (x : Position). Is s (collected s j m i r).memory j x w.after) (on_done r.how r.position at_rest d) w.is;
          same = w.same ∙ t;
          news = [];
          way = along t w.way;
          letters = omega arith;
          turn = w.turn;
          position = λ y. refl;
          left = λ y. w.left ∙ k;
        })

    pub collected-done : (m : List ℕ) (r : Round) → r.how ≡ Done → (collected s j m i r).round.how ≡ Done
    unfolding collected
    collected-done m r d = d

    pub collected_all-done : (k : ℕ) (m : List ℕ) (r : Round) → r.how ≡ Done → (collected_all s j k m i r).round.how ≡ Done
    unfolding collected_all into
    collected_all-done zero m r d = d
    collected_all-done (suc k) m r d = collected_all-done k (collected s j m i r).memory (collected s j m i r).round (collected-done m r d)

    -- and k items of node i
    pub collected_all_went : (k : ℕ) (m : List ℕ) (M : Machine) (r : Round) → table_in m ≡ table → Is s m j at_rest M → r.how ≡ Done → k ≤ length ((M.node j).letters (7 + i))
        → Went s table (collected_all s j k m i r) j M r none 0
    unfolding collected_all
    collected_all_went zero m M r t is d l = went_none m r M none 0 h d t is refl
    collected_all_went (suc k) m M r t is d l =
        let n : ℕ = length ((M.node j).letters (7 + i)) - 1 in
        let w = collected_went m M r n t is d (omega arith) in
        into_went {f = owed} {f' = none} {n = n} {n' = 0} (collected s j m i r) w (λ m' r'. collected_all s j k m' i r') (collected-done m r d)
        (λ is' c. collected_all_went k (collected s j m i r).memory w.after (collected s j m i r).round w.same is' (collected-done m r d) (omega arith))

  module _ (h : j < 6) where
    -- ---- STEP 2 on the n nodes from i on
    pub carried_from_went : (n i : ℕ) → n + i ≤ 6 → (m : List ℕ) (M : Machine) (r : Round) → table_in m ≡ table → Is s m j at_rest M → r.how ≡ Done
        → Went s table (carried_from s j n m i r) j M r none 0
    unfolding carried_from
    carried_from_went zero i g m M r t is d = went_none m r M none 0 h d t is refl
    carried_from_went (suc n) i g m M r t is d =
        let k : ℕ = length (send_items s m i j) in
        let l : length (send_items s m i j) ≡ length ((M.node i).letters (1 + j)) =
        ap length (send-shown s (table_in m) m M.node is.mid.works i j (omega arith) h) ∙ length-firsts ((M.node i).letters (1 + j)) in
        let w = carried_all_went h i (omega arith) k m M r t is d (omega arith) in
        then_went {f = none} {f' = none} {n = 0} {n' = 0} (carried_all s j k m i r) w (λ m' r'. carried_from s j n m' (i + 1) r')
        (λ y is' c. carried_from_went n (i + 1) (omega arith) (carried_all s j k m i r).memory w.after (carried_all s j k m i r).round w.same is' y)

    -- ---- STEP 1 on the n nodes from i on
    pub collected_from_went : (n i : ℕ) → n + i ≤ 6 → (m : List ℕ) (M : Machine) (r : Round) → table_in m ≡ table → Is s m j at_rest M → r.how ≡ Done
        → Went s table (collected_from s j n m i r) j M r none 0
    unfolding collected_from
    collected_from_went zero i g m M r t is d = went_none m r M none 0 h d t is refl
    collected_from_went (suc n) i g m M r t is d =
        let k : ℕ = length (ack_items s m i j) in
        let l : length (ack_items s m i j) ≡ length ((M.node j).letters (7 + i)) =
        ap length (ack_shown s (table_in m) m M.node is.mid.works i j (omega arith) h) ∙ length-firsts ((M.node j).letters (7 + i)) in
        let w = collected_all_went h i (omega arith) k m M r t is d (omega arith) in
        let z = collected_all-done h i (omega arith) k m r d in
        into_went {f = none} {f' = none} {n = 0} {n' = 0} (collected_all s j k m i r) w (λ m' r'. collected_from s j n m' (i + 1) r') z
        (λ is' c. collected_from_went n (i + 1) (omega arith) (collected_all s j k m i r).memory w.after (collected_all s j k m i r).round w.same is' z)

    -- ---- the postman of stage 0 or 1 is at rest
    pub rest_is : (m : List ℕ) (M : Machine) (stage i x : ℕ) → stage ≤ 1 → Is s m j (at stage i x) M → Is s m j at_rest (with_position M j at_rest M.node)
    rest_is m M stage i x l is =
        let f = is.here in
        record {
          mid = goes_midway s m m j M is.mid (record { words = λ k a. refl; table = refl }) M.node is.mid.works (record { hands = λ k a b. refl; sends = λ i k a b d. refl }) at_rest;
          here = here_rest M j M.node (f.right.hand (λ z. omega (arith, f.stage)));
        }

    -- ---- A TURN RESUMED, from any position
    module _ (m : List ℕ) (t : table_in m ≡ table) (M : Machine) (stage i x : ℕ) (is : Is s m j (at stage i x) M) (r : Round) (d : r.how ≡ Done) where
      step_1 : stage ≤ 1 → Went s table (collected_from s j 6 m 0 r) j M r none 0
      step_1 l =
          stage_went r r []
          (along t (still-way (table_in m) M j h at_rest M.node (λ k q a b. refl) (λ i k a b. refl) (λ z. omega (arith, is.here.stage)) (λ z. omega arith)))
          refl (omega arith) refl
          (collected_from_went 6 0 (omega arith) m (with_position M j at_rest M.node) r t (rest_is m M stage i x l is) d)

      pub i_in : i < 6
      i_in =
          let f = is.here in
          same? stage 0
          (λ e z. let y : M.other j ≡ 0 = f.right.none (f.stage ∙ e) in omega (arith, f.other))
          (λ e z. let y = f.right.names (omega (arith, f.stage)) in omega (arith, f.other))

      waits : 1 ≤ stage → length ((M.node i).letters (1 + j)) ≡ suc (length ((M.node i).letters (1 + j)) - 1)
      waits l =
          let f = is.here in
          let y : 1 ≤ length ((M.node i).letters (1 + j)) = subst (λ (k : ℕ). 1 ≤ length ((M.node k).letters (1 + j))) f.other (f.right.waits (omega (arith, f.stage))) in
          omega arith

      -- what is counted is no matter
      plain : {p : Post} {f : Machine → ℕ} {n : ℕ} → Went s table p j M r f n → Went s table p j M r none 0
      plain w = record { after = w.after; is = w.is; same = w.same; news = w.news; way = w.way; letters = w.letters; turn = w.turn; position = w.position; left = λ z. refl }

      held_is : stage ≡ 2 → Is s m j (at 2 i x) M
      held_is e = subst (λ (y : ℕ). Is s m j (at y i x) M) e is

      handed_is : stage ≡ 3 → Is s m j (at 3 i 0) M
      handed_is e =
          let f = is.here in
          let y : x ≡ 0 = f.held ∙ ap (λ (ls : List Letter). get_or (firsts ls) 0 0) (f.right.hand (λ z. omega (arith, f.stage))) in
          subst (λ (y : ℕ). Is s m j (at y i 0) M) e (subst (λ (y : ℕ). Is s m j (at stage i y) M) y is)

      pub resumed_went : Went s table (resumed s j m (at stage i x) r) j M r none 0
      unfolding resumed clears_first
      resumed_went =
          same? stage 0
          (λ e z. rw z (step_1 (omega arith)))
          (λ e z. rw z (same? stage 1
          (λ e' z'. rw z' (step_1 (omega arith)))
          (λ e' z'. rw z' (same? stage 2
          (λ e'' z''. rw z'' (plain (delivered_went h i i_in m M x r (length ((M.node i).letters (1 + j)) - 1) t (held_is e'') d (waits (omega arith)))))
          (λ e'' z''. rw z'' (plain (handed_went h i i_in m M r (length ((M.node i).letters (1 + j)) - 1) t (handed_is (omega (arith, is.here.stage, is.here.right.most))) d (waits (omega arith)))))))))

      pub gone_went : Went s table (gone s j m (at stage i x) r) j M r none 0
      unfolding gone
      gone_went =
          then_went {f = none} {f' = none} {n = 0} {n' = 0} (resumed s j m (at stage i x) r) resumed_went (λ m' r'. carried_from s j (6 - i) m' i r')
          (λ y is' c. carried_from_went (6 - i) i (omega (arith, i_in)) (resumed s j m (at stage i x) r).memory resumed_went.after (resumed s j m (at stage i x) r).round resumed_went.same is' y)
