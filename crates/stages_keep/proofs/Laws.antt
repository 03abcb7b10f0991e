-- EACH STAGE KEEPS A SOUND MEMORY SOUND, the postman's position amended: the laws that the functions of a turn cite. Assumes nothing.
--     begins, rests, other_in     a turn begins; copied-stands, queued-stands     stages 1 and 2
--     handed-rest, delivered-rest, carried_next, carried_all_lem, collected_next     a letter, and an item of step 1, that went through
--     names_in, names_apart, names-waits     the node that a postman in stage 1, 2 or 3 names
use mathlib.Core.Path.{◌≡◌, refl, sym, ap, ◌∙◌, subst}
use mathlib.Core.Bool.{true}
use mathlib.Core.List.{List, [], ◌∷◌, map}
use Prim.Native.Nat.{ℕ, suc, ◌+◌, ◌-◌, ◌*◌, ◌≤◌, ◌<◌}
use native.Mathlib.Omega.{arith}
use lib.ListN.{length, take}
use lib.Seq.{set-get_or}
use Rattle.settings.specs.declared.Settings.{Settings}
use Rattle.sound.specs.Reading.{settings_in, turn_in, send_items, ack_items, table_in}
use Rattle.sound.specs.Sound.{sound}
use Rattle.sound.proofs.Gives.{gives_turn}
use Rattle.machine.specs.Machine.{Letter, words_of, Machine}
use Rattle.machine.proofs.Letters.{length-firsts}
use Rattle.postman.specs.declared.Stage.{Stage}
use Rattle.postman.specs.declared.Stage.TheVariants.{Done}
use Rattle.postman.specs.declared.Position.{Position}
use Rattle.postman.specs.declared.Round.{Round}
use Rattle.postman.specs.Position.{at, at_rest, position_of, standing}
use Rattle.postman.specs.Round.{Post, at_start, on_stage, one_letter, stage}
use Rattle.stages_keep.specs.Steps.{space_of, copied_in, queued, acknowledged, handed_on, delivered, carried, carried_all, collected}
use Rattle.postman.specs.Asked.{SoundAt, Waits, Owes}
use Rattle.stages_keep.proofs.Standing.{machine_at, stands_represents, midway_of, here_of, stands_midway}
use Rattle.stages_keep.proofs.Shown.{some_of, send-shown, ack_shown}
use Rattle.stages_keep.proofs.Going.{Is, one_of}
use Rattle.stages_keep.proofs.First.{first_goes}
use Rattle.stages_keep.proofs.Second.{second_goes}
use Rattle.stages_keep.proofs.Third.{not_done}
use Rattle.stages_keep.proofs.Collect.{collect_goes}
use Rattle.stages_keep.proofs.Went.{Went, how?, rest_is, i_in, handed_went, delivered_went, carried_went, carried_all_went}

-- ---- what a stage asks for, and what it leaves
module _ (s : Settings) (m : List ℕ) (j : ℕ) (p : Position) where
  pub stands_is : (st : SoundAt s m j p) → Is s m j p (machine_at s m j p st)
  stands_is st =
      let rep = stands_represents s m j p st in
      let M = machine_at s m j p st in
      record { mid = midway_of s m j p st.postman (sym st.settings) M rep; here = here_of s m j p st.postman (sym st.settings) M rep }

  pub is-stands : j < 6 → (M : Machine) → Is s m j p M → SoundAt s m j p
  is-stands h M is = stands_midway s m j p h M is.mid is.here

-- how many letters wait in node i for j, and how many of j's stand acknowledged in i
module _ (s : Settings) (m : List ℕ) (j : ℕ) (p : Position) (h : j < 6) (M : Machine) (is : Is s m j p M) (i : ℕ) (g : i < 6) where
  pub waits_is : length (send_items s m i j) ≡ length ((M.node i).letters (1 + j))
  waits_is = ap length (send-shown s (table_in m) m M.node is.mid.works i j g h) ∙ length-firsts ((M.node i).letters (1 + j))

  pub owes_is : length (ack_items s m i j) ≡ length ((M.node j).letters (7 + i))
  owes_is = ap length (ack_shown s (table_in m) m M.node is.mid.works i j g h) ∙ length-firsts ((M.node j).letters (7 + i))

-- ---- A TURN BEGINS
pub begins : (m : List ℕ) → sound m ≡ true → SoundAt (settings_in m) m (turn_in m) (position_of m (turn_in m))
unfolding standing
begins m e =
    let j : ℕ = turn_in m in
    let t = gives_turn m e in
    record {
      settings = refl;
      postman = omega arith;
      holds = rw (set-get_or m (6 + j * 3) 0, set-get_or m (6 + j * 3 + 1) 0, set-get_or m (6 + j * 3 + 2) 0) e;
    }

pub rests : (s : Settings) (m : List ℕ) (j stage i x : ℕ) → SoundAt s m j (at stage i x) → stage ≤ 1 → SoundAt s m j at_rest
rests s m j stage i x st l =
    is-stands s m j at_rest st.postman _ (rest_is s (table_in m) j st.postman m (machine_at s m j (at stage i x) st) stage i x l (stands_is s m j (at stage i x) st))

pub other_in : (s : Settings) (m : List ℕ) (j stage i x : ℕ) → SoundAt s m j (at stage i x) → i < 6
other_in s m j stage i x st =
    i_in s (table_in m) j st.postman m refl (machine_at s m j (at stage i x) st) stage i x (stands_is s m j (at stage i x) st) at_start refl

-- ---- STAGES 1 AND 2, done or stopped
pub copied-stands : (s : Settings) (m : List ℕ) (j i : ℕ) → Waits s m j i 1 → SoundAt s (copied_in s j m i).memory j (on_stage (copied_in s j m i).how (at 1 i 0) (at 2 i (space_of s j m)))
copied-stands s m j i w =
    let st = w.stands in
    let M = machine_at s m j at_rest st in
    let is = stands_is s m j at_rest st in
    some_of ((M.node i).letters (1 + j)) (omega (arith, waits_is s m j at_rest st.postman M is i w.there, w.letters)) (λ K rest e.
    let g = first_goes s m j i st.postman w.there M is K rest e in
    is-stands s (copied_in s j m i).memory j (on_stage (copied_in s j m i).how (at 1 i 0) (at 2 i (space_of s j m))) st.postman g.after g.is)

-- a postman in stage 2 or 3 names a node in which a letter waits
module _ (s : Settings) (m : List ℕ) (j i stage x : ℕ) (st : SoundAt s m j (at stage i x)) (some : 1 ≤ stage) where
  abbrev M : Machine
  M = machine_at s m j (at stage i x) st

  here : Is s m j (at stage i x) M
  here = stands_is s m j (at stage i x) st

  pub names_in : i < 6
  names_in = other_in s m j stage i x st

  waiting : 1 ≤ length ((M.node i).letters (1 + j))
  waiting = subst (λ (k : ℕ). 1 ≤ length ((M.node k).letters (1 + j))) here.here.other (here.here.right.waits (omega (arith, here.here.stage)))

  pub names_apart : i ≡ j → ⊥
  names_apart e = here.here.right.another (omega (arith, here.here.stage)) (here.here.other ∙ e)

  pub names-waits : 1 ≤ length (send_items s m i j)
  names-waits = omega (arith, waits_is s m j (at stage i x) st.postman M here i names_in, waiting)

  left : length ((M.node i).letters (1 + j)) ≡ suc (length ((M.node i).letters (1 + j)) - 1)
  left = omega (arith, waiting)

pub queued-stands : (s : Settings) (m : List ℕ) (j i c : ℕ) → SoundAt s m j (at 2 i c) → SoundAt s (queued s j m c).memory j (on_stage (queued s j m c).how (at 2 i c) (at 3 i 0))
queued-stands s m j i c st =
    let N = M s m j i 2 c st (omega arith) in
    let is = stands_is s m j (at 2 i c) st in
    let z = is.here in
    some_of ((N.node i).letters (1 + j)) (waiting s m j i 2 c st (omega arith)) (λ K rest e.
    let k : map words_of ((N.node j).letters 0) ≡ K.words ∷ [] =
    z.right.copy z.stage ∙ ap (λ (x : ℕ). take 1 (map words_of ((N.node x).letters (1 + j)))) z.other ∙ ap (λ (ls : List Letter). take 1 (map words_of ls)) e in
    one_of ((N.node j).letters 0) K.words k (λ L one copy.
    let g = second_goes s m j i c st.postman (other_in s m j 2 i c st) N is K rest e L one copy in
    is-stands s (queued s j m c).memory j (on_stage (queued s j m c).how (at 2 i c) (at 3 i 0)) st.postman g.after g.is))

-- ---- WHAT WENT THROUGH: a letter that went through leaves the turn as it was
module _ (s : Settings) (j : ℕ) where
  pub handed-how : (m : List ℕ) (i : ℕ) (r : Round) → (handed_on s j m i r).round.how ≡ Done → r.how ≡ Done
  unfolding handed_on stage
  handed-how m i r e =
      how? (acknowledged s j m i).how
      (λ z. rw z at e)
      (λ n z. absurd (not_done (sym (rw z at e))))

  pub delivered-how : (m : List ℕ) (i c : ℕ) (r : Round) → (delivered s j m i c r).round.how ≡ Done → r.how ≡ Done
  unfolding delivered stage
  delivered-how m i c r e =
      how? (queued s j m c).how
      (λ z. handed-how (queued s j m c).memory i (one_letter r) (rw z at e))
      (λ n z. absurd (not_done (sym (rw z at e))))

  pub carried-how : (m : List ℕ) (i : ℕ) (r : Round) → (carried s j m i r).round.how ≡ Done → r.how ≡ Done
  unfolding carried stage
  carried-how m i r e =
      how? (copied_in s j m i).how
      (λ z. delivered-how (copied_in s j m i).memory i (space_of s j m) r (rw z at e))
      (λ n z. absurd (not_done (sym (rw z at e))))

-- the postman is at rest
rested : (s : Settings) (table : List ℕ) (p : Post) (j : ℕ) → j < 6 → (M : Machine) (r : Round) (f : Machine → ℕ) (n : ℕ) → (w : Went s table p j M r f n) → p.round.how ≡ Done → Is s p.memory j at_rest w.after
rested s table p j h M r f n w d = subst (λ (x : Position). Is s p.memory j x w.after) (on_rest p.round.how d) w.is
  where
    on_rest : (h : Stage) → h ≡ Done → on_stage h p.round.position at_rest ≡ at_rest
    on_rest h e = rw e

module _ (s : Settings) (m : List ℕ) (j i : ℕ) (r : Round) where
  pub handed-rest : SoundAt s m j (at 3 i 0) → (handed_on s j m i r).round.how ≡ Done → SoundAt s (handed_on s j m i r).memory j at_rest
  handed-rest st d =
      let N = M s m j i 3 0 st (omega arith) in
      let n : ℕ = length ((N.node i).letters (1 + j)) - 1 in
      let w = handed_went s (table_in m) j st.postman i (other_in s m j 3 i 0 st) m N r n refl (stands_is s m j (at 3 i 0) st) (handed-how s j m i r d) (left s m j i 3 0 st (omega arith)) in
      is-stands s (handed_on s j m i r).memory j at_rest st.postman w.after (rested s (table_in m) (handed_on s j m i r) j st.postman N r (λ X. length ((X.node i).letters (1 + j))) n w d)

module _ (s : Settings) (m : List ℕ) (j i k : ℕ) (r : Round) where
  pub carried_next : Waits s m j i (k + 1) → (carried s j m i r).round.how ≡ Done → Waits s (carried s j m i r).memory j i k
  carried_next v d =
      let st = v.stands in
      let N = machine_at s m j at_rest st in
      let is = stands_is s m j at_rest st in
      let n : ℕ = length ((N.node i).letters (1 + j)) - 1 in
      let l = waits_is s m j at_rest st.postman N is i v.there in
      let w = carried_went s (table_in m) j st.postman i v.there m N r n refl is (carried-how s j m i r d) (omega (arith, l, v.letters)) in
      let is' = rested s (table_in m) (carried s j m i r) j st.postman N r (λ X. length ((X.node i).letters (1 + j))) n w d in
      record {
        stands = is-stands s (carried s j m i r).memory j at_rest st.postman w.after is';
        there = v.there;
        letters = omega (arith, waits_is s (carried s j m i r).memory j at_rest st.postman w.after is' i v.there, w.left d, l, v.letters);
      }

  pub carried_all_lem : r.how ≡ Done → Waits s m j i k → (carried_all s j k m i r).round.how ≡ Done → SoundAt s (carried_all s j k m i r).memory j at_rest
  carried_all_lem e v d =
      let st = v.stands in
      let N = machine_at s m j at_rest st in
      let is = stands_is s m j at_rest st in
      let w = carried_all_went s (table_in m) j st.postman i v.there k m N r refl is e (omega (arith, waits_is s m j at_rest st.postman N is i v.there, v.letters)) in
      is-stands s (carried_all s j k m i r).memory j at_rest st.postman w.after (rested s (table_in m) (carried_all s j k m i r) j st.postman N r (λ X. 0) 0 w d)

  pub collected_next : Owes s m j i (k + 1) → Owes s (collected s j m i r).memory j i k
  collected_next v =
      let st = v.stands in
      let N = machine_at s m j at_rest st in
      let is = stands_is s m j at_rest st in
      let l = owes_is s m j at_rest st.postman N is i v.there in
      some_of ((N.node j).letters (7 + i)) (omega (arith, l, v.items)) (λ K rest e.
      let g = collect_goes s m j i st.postman v.there N is K rest e r in
      let y : length ((N.node j).letters (7 + i)) ≡ suc (length rest) = ap length e in
      record {
        stands = is-stands s (collected s j m i r).memory j at_rest st.postman g.after g.is;
        there = v.there;
        items = omega (arith, owes_is s (collected s j m i r).memory j at_rest st.postman g.after g.is i v.there, g.left, l, v.items);
      })

pub delivered-rest : (s : Settings) (m : List ℕ) (j i c : ℕ) (r : Round) → SoundAt s m j (at 2 i c) → (delivered s j m i c r).round.how ≡ Done → SoundAt s (delivered s j m i c r).memory j at_rest
delivered-rest s m j i c r st d =
    let N = M s m j i 2 c st (omega arith) in
    let n : ℕ = length ((N.node i).letters (1 + j)) - 1 in
    let w = delivered_went s (table_in m) j st.postman i (other_in s m j 2 i c st) m N c r n refl (stands_is s m j (at 2 i c) st) (delivered-how s j m i c r d) (left s m j i 2 c st (omega arith)) in
    is-stands s (delivered s j m i c r).memory j at_rest st.postman w.after (rested s (table_in m) (delivered s j m i c r) j st.postman N r (λ X. length ((X.node i).letters (1 + j))) n w d)
