-- A SOUND MEMORY STAYS SOUND, whether the turn finishes or stops; and what the turn does to the machine. Assumes nothing.
--     turn-sound     of a sound memory; turn_fixed     size, settings and task table stay
--     turn-turns     the letters carried, and the letters on the way the same; turn_refused     another memory stays
use Rattle.std.specs.Prelude.{Ok}
use mathlib.Core.Path.{◌≡◌, refl, sym, ap, ◌∙◌, subst}
use mathlib.Core.Bool.{true, false}
use mathlib.Core.List.{List, ◌++◌, map}
use Prim.Native.Nat.{ℕ, ◌+◌, ◌*◌, ◌≤◌, ◌<◌}
use native.Mathlib.Omega.{arith}
use lib.ListN.{length}
use lib.Seq.{set-get_or}
use borrow.Author.Tests.{lt-ltb, le-ltb}
use Rattle.words.proofs.Lists.{le_or_lt}
use mathlib.Core.Logic.{⊎_elim}
use Rattle.settings.specs.declared.Settings.{Settings}
use Rattle.layout.specs.Places.{turn_at}
use Rattle.sound.specs.Reading.{settings_in, turn_in, table_in}
use Rattle.sound.specs.Sound.{sound}
use Rattle.sound.proofs.Gives.{gives_table, gives_sized}
use Rattle.machine.specs.Machine.{Letter, words_of, Machine}
use Rattle.machine.specs.Spelled.{machine_of}
use Rattle.machine.specs.Represents.{RepresentsAt, Represents}
use Rattle.machine.specs.Same.{Fixed}
use Rattle.machine.proofs.Back.{represents_sound_at, same_turn, same_stage, same_other, same_letters}
use Rattle.moves.specs.Letters.{live_ones}
use Rattle.stages_keep.specs.Way.{those, is_from, in_queue, to_carry, Carries}
use Rattle.moves.proofs.Memory.{set-settings, set-table}
use Rattle.moves.proofs.Kept.{turn-kept}
use Rattle.postman.specs.declared.Stage.{Stage}
use Rattle.postman.specs.declared.Stage.TheVariants.{Done, Stopped as Halted}
use Rattle.postman.specs.declared.Position.{Position}
use Rattle.postman.specs.Position.{at_rest, position_of, standing, next_turn, kept}
use Rattle.postman.specs.Round.{Post, at_start, on_stage}
use Rattle.stages_keep.specs.Steps.{gone}
use Rattle.postman.specs.Asked.{SoundAt}
use Rattle.stages_keep.proofs.Standing.{machine_at, represents_midway, stand_settings, stand_table}
use Rattle.stages_keep.proofs.Way.{carry_same, carries-way}
use Rattle.stages_keep.proofs.Went.{Went, reached, none, how?, gone_went}
use Rattle.stages_keep.proofs.Laws.{begins, stands_is}
use Rattle.turn.specs.Outcome.{answered, taken, turn}
use Rattle.turn_keeps.specs.Turns.{letters_of, Turns}

-- machines that show the same
record Alike (m m' : Machine) : Type 0 where
  stage : (k : ℕ) → k < 6 → m'.stage k ≡ m.stage k
  other : (k : ℕ) → k < 6 → m'.other k ≡ m.other k
  letters : (i p : ℕ) → i < 6 → p < 78 → (m'.node i).letters p ≡ (m.node i).letters p

-- what was carried is so of a machine that shows the same
carries-alike : (table : List ℕ) (j : ℕ) → j < 6 → (m m' m'' : Machine) (news : List (List ℕ)) → Alike m' m'' → Carries table j m m' news → Carries table j m m'' news
unfolding in_queue
carries-alike table j h m m' m'' news e c =
    let t : (i k : ℕ) → i < 6 → k < 6 → to_carry m'' i k ≡ to_carry m' i k = λ i k a b. carry_same m' m'' i k (e.stage k b) (e.other k b) (e.letters i (1 + k) a (omega arith)) in
    let q : (k n : ℕ) → k < 6 → n < 64 → in_queue m'' k n ≡ in_queue m' k n = λ k n a b. ap (λ (ls : List Letter). map words_of (live_ones ls)) (e.letters k (13 + n) a (omega arith)) in
    record {
      arrived = λ n a. q j n h a ∙ c.arrived n a;
      left = λ i a. c.left i a ∙ ap (λ (ls : List Letter). those (is_from table i) news ++ map words_of ls) (sym (t i j a h));
      queues = λ k n a b d. q k n a b ∙ c.queues k n a b d;
      others = λ i k a b d. t i k a b ∙ c.others i k a b d;
    }

next_in : (j : ℕ) → j < 6 → next_turn j ≤ 5
next_in j h = ⊎_elim (λ l. rw (le-ltb j 5 l) (omega arith)) (λ l. rw (lt-ltb j 5 l) (omega arith)) (le_or_lt 5 j)

module _ (m : List ℕ) (e : sound m ≡ true) where
  abbrev s : Settings
  s = settings_in m

  abbrev j : ℕ
  j = turn_in m

  abbrev p : Position
  p = position_of m (turn_in m)

  st : SoundAt (settings_in m) m (turn_in m) (position_of m (turn_in m))
  st = begins m e

  h : j < 6
  h = st.postman

  abbrev post : Post
  post = gone (settings_in m) (turn_in m) m (position_of m (turn_in m)) at_start

  w : Went (settings_in m) (table_in m) post (turn_in m) (machine_at (settings_in m) m (turn_in m) (position_of m (turn_in m)) st) at_start none 0
  w = gone_went s (table_in m) j h m refl (machine_at s m j p st) p.stage p.other p.held (stands_is s m j p st) at_start refl

  -- the machine at the start is what the memory spells
  same_words : standing m (turn_in m) (position_of m (turn_in m)) ≡ m
  unfolding standing
  same_words = rw (set-get_or m (6 + j * 3) 0, set-get_or m (6 + j * 3 + 1) 0, set-get_or m (6 + j * 3 + 2) 0)

  start_is : machine_at (settings_in m) m (turn_in m) (position_of m (turn_in m)) st ≡ machine_of m
  unfolding machine_at
  start_is = ap machine_of same_words

  -- the position reached is the one that is kept
  kept_is : reached post.round ≡ post.round.position
  kept_is = how? post.round.how (λ d. on_done post.round.how d ∙ sym (w.position d)) (λ n d. on_stopped post.round.how d)
    where
      on_done : (x : Stage) → x ≡ Done → on_stage x post.round.position at_rest ≡ at_rest
      on_done x d = rw d

      on_stopped : (x : Stage) {n : ℕ} → x ≡ Halted n → on_stage x post.round.position at_rest ≡ post.round.position
      on_stopped x d = rw d

  abbrev m₁ : List ℕ
  m₁ = standing post.memory (turn_in m) post.round.position

  abbrev m₂ : List ℕ
  m₂ = kept post.memory (turn_in m) post.round.position

  rep₁ : RepresentsAt (settings_in m) m₁ w.after
  rep₁ = subst (λ (x : Position). RepresentsAt s (standing post.memory j x) w.after) kept_is (represents_midway s post.memory j (reached post.round) h w.after w.is.mid w.is.here)

  abbrev after : Machine
  after = record { turn = next_turn (turn_in m); stage = w.after.stage; other = w.after.other; node = w.after.node }

  rep₂ : RepresentsAt (settings_in m) m₂ after
  unfolding kept
  rep₂ = turn-kept s m₁ w.after rep₁ (next_turn j) (next_in j h)

  settings₂ : settings_in m₂ ≡ settings_in m
  unfolding kept
  settings₂ =
      set-settings m₁ turn_at (next_turn j) (omega arith) (omega arith) ∙ stand_settings post.memory j post.round.position h ∙ w.is.mid.settings

  table₂ : table_in m₂ ≡ table_in m
  unfolding kept
  table₂ = set-table m₁ turn_at (next_turn j) (omega arith) (omega arith) ∙ stand_table post.memory j post.round.position h ∙ w.same

  long₂ : length m₂ ≡ length m
  long₂ = rep₂.size ∙ sym (gives_sized m e).long

  sound₂ : sound m₂ ≡ true
  sound₂ = represents_sound_at s m₂ after settings₂ rep₂

  spells : Represents m₂ after
  spells = subst (λ (x : Settings). RepresentsAt x m₂ after) (sym settings₂) rep₂

  alike : Alike w.after (machine_of m₂)
  alike = record { stage = same_stage m₂ after spells; other = same_other m₂ after spells; letters = same_letters m₂ after spells }

  carried₂ : Carries (table_in m) (turn_in m) (machine_of m) (machine_of m₂) w.news
  carried₂ =
      carries-alike (table_in m) j h (machine_of m) w.after (machine_of m₂) w.news alike
      (subst (λ (X : Machine). Carries (table_in m) j X w.after w.news) start_is w.way)

  -- ---- THE TURN'S OUTCOME
  memory_is : (turn m).memory ≡ m₂
  unfolding turn taken
  memory_is = rw e

  answer_is : (turn m).answer ≡ Ok (answered (turn_in m) post.round)
  unfolding turn taken
  answer_is = rw e

  letters_is : letters_of (turn m).answer ≡ length w.news
  letters_is = omega (arith, ap letters_of answer_is, told post.round.how, w.letters)
    where
      told : (x : Stage) → letters_of (Ok (record { node = turn_in m; letters = post.round.letters; back = post.round.back; how = x })) ≡ post.round.letters
      told Done = refl
      told (Halted n) = refl

  pub turn-sound : sound (turn m).memory ≡ true
  turn-sound = ap sound memory_is ∙ sound₂

  pub turn_fixed : Fixed m (turn m).memory
  turn_fixed = subst (Fixed m) (sym memory_is) (record { size = long₂; settings = settings₂; table = table₂ })

  pub turn-turns : Turns (table_in m) (machine_of m) (machine_of (turn m).memory) (turn_in m) (letters_of (turn m).answer)
  turn-turns =
      subst (λ (x : List ℕ). Turns (table_in m) (machine_of m) (machine_of x) j (letters_of (turn m).answer)) (sym memory_is)
      (record {
        news = w.news;
        carried = carried₂;
        count = letters_is;
        way = carries-way (table_in m) (gives_table m e) j (machine_of m) (machine_of m₂) w.news carried₂;
        next = same_turn m₂ after spells;
      })

-- another memory stays as it was
pub turn_refused : (m : List ℕ) → sound m ≡ false → (turn m).memory ≡ m
unfolding turn
turn_refused m e = rw e
