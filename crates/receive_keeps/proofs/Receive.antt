-- A SOUND MEMORY STAYS SOUND, done or refused; and what the call does to the machine. Assumes nothing.
--     receive-sound     of a sound memory
--     receive_refused     a refusal leaves the machine, whatever the memory, and out
--     receive-done     a letter is taken; receive_none     or there is none
--     receive_fixed     size, settings and task table stay
use Rattle.std.specs.Prelude.{Err, None, Ok, Option, Result, Some}
use mathlib.Core.Path.{◌≡◌, refl, sym, ap, subst}
use mathlib.Core.Bool.{true, ◌||◌}
use mathlib.Core.List.{List}
use mathlib.Core.Logic.{◌⊎◌, ⊎_elim}
use Prim.Native.Nat.{ℕ, ◌+◌, ◌<◌}
use native.Mathlib.Omega.{arith}
use lib.Dec.{eqb, leb}
use lib.ListN.{length}
use Rattle.words.proofs.Lists.{split, option?, same_ok}
use Rattle.words.proofs.Parts.{splice-part}
use Rattle.settings.specs.declared.Settings.{Settings}
use Rattle.layout.specs.Places.{empty_word, node_at, node_end, node, with_node, task_at}
use Rattle.layout.proofs.MemoryRows.{stretch-fits}
use Rattle.letters.specs.Letter.{onto}
use Rattle.queues.specs.Moves.{counted}
use Rattle.tasks.specs.Table.{node_of, queue_of, is_bound}
use Rattle.tasks.proofs.Laws.{seat_below}
use Rattle.taking.specs.Find.{found}
use Rattle.sound.specs.Reading.{settings_in, table_in}
use Rattle.sound.specs.Sound.{sound}
use Rattle.sound.proofs.Gives.{gives_table, gives_sized}
use Rattle.receive.specs.declared.Received.{Received}
use Rattle.receive.specs.declared.ReceiveRefusal.{ReceiveRefusal}
use Rattle.receive.specs.declared.ReceiveRefusal.TheVariants.{NotSound, DestinationNotBound, SourceNotBound, NoLetter, NoLetterQueueFull, OutTooShort}
use Rattle.receive.specs.Take.{Took, filled, in_vain, source_of, body_of, emptied, took_at, took_by, took}
use Rattle.receive.specs.Outcome.{Outcome, collected, receive}
use Rattle.machine.specs.Machine.{Machine}
use Rattle.machine.specs.Spelled.{machine_of}
use Rattle.receive_keeps.specs.Receives.{NoneAsked, Receives}
use Rattle.machine.specs.Same.{Fixed, Unchanged}
use Rattle.receive_keeps.proofs.Kept.{vain_sound, vain_fixed, vain_none, vain_stays, done-sound, done_fixed, done-receives}

-- what is found, with its equation
-- the kinds of answers: a letter, no such letter, another refusal
abbrev sort : Result Received ReceiveRefusal → ℕ
sort (Ok _) = 0
sort (Err NotSound) = 2
sort (Err DestinationNotBound) = 2
sort (Err SourceNotBound) = 2
sort (Err NoLetter) = 1
sort (Err NoLetterQueueFull) = 1
sort (Err OutTooShort) = 2

stays_same : (m : Machine) → Unchanged m m
stays_same m =
    record {
      stands = record { turn = refl; stage = λ j h. refl; other = λ j h. refl };
      free = λ k h. refl;
      letters = λ k p h g. refl;
    }

-- what is to be shown of an outcome
record Keeps (memory : List ℕ) (i q source : ℕ) (out : List ℕ) (o : Outcome) : Type 0 where
  safe : sound memory ≡ true → sound o.memory ≡ true
  fixed : Fixed memory o.memory
  done : (a n : ℕ) → o.answer ≡ Ok (record { source = a; words = n }) → Receives (machine_of memory) (machine_of o.memory) i q source a n out o.out
  refused : ((a n : ℕ) → o.answer ≡ Ok (record { source = a; words = n }) → ⊥) → Unchanged (machine_of memory) (machine_of o.memory) × (o.out ≡ out)
  vain : sort o.answer ≡ 1 → NoneAsked (machine_of memory) i q source

done_first : (a b c d : ℕ) → ◌≡◌ {A = Result Received ReceiveRefusal} (Ok (record { source = a; words = b })) (Ok (record { source = c; words = d })) → a ≡ c
done_first a b c d e = ap (λ (x : Received). x.source) (same_ok e)

done_second : (a b c d : ℕ) → ◌≡◌ {A = Result Received ReceiveRefusal} (Ok (record { source = a; words = b })) (Ok (record { source = c; words = d })) → b ≡ d
done_second a b c d e = ap (λ (x : Received). x.words) (same_ok e)

module _ (memory : List ℕ) (i q source : ℕ) (out : List ℕ) where
  abbrev s : Settings
  s = settings_in memory

  abbrev l : List ℕ
  l = node (settings_in memory) memory i

  abbrev whole : Result Received ReceiveRefusal → List ℕ → List ℕ → Outcome
  whole r x o = record { answer = r; memory = x; out = o }

  abbrev outcome : Took → Outcome
  outcome t = record { answer = t.answer; memory = with_node (settings_in memory) memory i t.stretch; out = t.out }

  abbrev K : Outcome → Type 0
  K o = Keeps memory i q source out o

  keeps_same : (r : Result Received ReceiveRefusal) → sort r ≡ 2 → K (whole r memory out)
  keeps_same r p =
      record {
        safe = λ e. e;
        fixed = record { size = refl; settings = refl; table = refl };
        done = λ a b z. absurd (omega (arith, p, ap sort z));
        refused = λ z. (stays_same (machine_of memory), refl);
        vain = λ z. absurd (omega arith);
      }

  module _ (e : sound memory ≡ true) (h : i < 6) (g : q < 64) where
    keeps_vain : found s l (task_at s q) source ≡ None → (r : Result Received ReceiveRefusal) → sort r ≡ 1 → K (whole r (with_node s memory i (counted l (task_at s q + empty_word))) out)
    keeps_vain f r p =
        record {
          safe = λ z. vain_sound memory e i q h g;
          fixed = vain_fixed memory e i q h g;
          done = λ a b z. absurd (omega (arith, p, ap sort z));
          refused = λ z. (vain_stays memory e i q h g, refl);
          vain = λ z. vain_none memory e i q h g source f;
        }

    module _ (n : ℕ) (f : found (settings_in memory) (node (settings_in memory) memory i) (task_at (settings_in memory) q) source ≡ Some n) where
      abbrev body : List ℕ
      body = body_of s l q source n

      abbrev after : List ℕ
      after = with_node s memory i (emptied s l q source n)

      abbrev told : ℕ → ℕ → Type 0
      told a b = Receives (machine_of memory) (machine_of after) i q source a b out (onto body out)

      keeps_done : K (whole (Ok (record { source = source_of s l q source n; words = length body })) after (onto body out))
      keeps_done =
          record {
            safe = λ z. done-sound memory e i q h g source n f;
            fixed = done_fixed memory e i q h g source n f;
            done = λ a b z.
                subst (λ (x : ℕ). told x b) (done_first (source_of s l q source n) (length body) a b z)
                (subst (λ (x : ℕ). told (source_of s l q source n) x) (done_second (source_of s l q source n) (length body) a b z) (done-receives memory e i q h g source n f out));
            refused = λ z. absurd (z (source_of s l q source n) (length body) refl);
            vain = λ z. absurd (omega arith);
          }

    keeps_took : K (outcome (took s l q source out))
    unfolding took in_vain took_at
    keeps_took =
        option? (found s l (task_at s q) source)
        (λ n f.
        subst (λ (x : Option ℕ). K (outcome (took_by s l q source x out))) (sym f)
        (split (leb (length (body_of s l q source n)) (length out))
        (λ t. rw t (keeps_done n f))
        (λ t. rw t (subst (λ (x : List ℕ). K (whole (Err OutTooShort) x out)) (sym same) (keeps_same (Err OutTooShort) refl)))))
        (λ f.
        subst (λ (x : Option ℕ). K (outcome (took_by s l q source x out))) (sym f)
        (split (filled s l q source) (λ t. rw t (keeps_vain f (Err NoLetterQueueFull) refl)) (λ t. rw t (keeps_vain f (Err NoLetter) refl))))
      where
        same : with_node s memory i l ≡ memory
        same = splice-part memory (node_at s i) (node_end s i) (omega arith) (rw (gives_sized memory e).long (stretch-fits s i h))

module _ (memory : List ℕ) (destination source : ℕ) (out : List ℕ) where
  -- the destination's node and queue
  abbrev i : ℕ
  i = node_of (table_in memory) destination

  abbrev q : ℕ
  q = queue_of (table_in memory) destination

  keeps_receive : Keeps memory i q source out (receive memory destination source out)
  unfolding receive collected
  keeps_receive =
      split (sound memory)
      (λ e. rw e
      (split (is_bound (table_in memory) destination)
      (λ b. rw b
      (split (eqb source 0 || is_bound (table_in memory) source)
      (λ c. rw c
      (let z = seat_below (table_in memory) destination (gives_table memory e) b in
      keeps_took memory i q source out e z.0 z.1))
      (λ c. rw c (keeps_same memory i q source out (Err SourceNotBound) refl))))
      (λ b. rw b (keeps_same memory i q source out (Err DestinationNotBound) refl))))
      (λ e. rw e (keeps_same memory i q source out (Err NotSound) refl))

  -- A SOUND MEMORY STAYS SOUND
  pub receive-sound : sound memory ≡ true → sound (receive memory destination source out).memory ≡ true
  receive-sound e = keeps_receive.safe e

  -- REFUSED: the machine and out stay
  pub receive_refused : ((a n : ℕ) → (receive memory destination source out).answer ≡ Ok (record { source = a; words = n }) → ⊥)
      → Unchanged (machine_of memory) (machine_of (receive memory destination source out).memory) × ((receive memory destination source out).out ≡ out)
  receive_refused n = keeps_receive.refused n

  -- DONE: a letter is taken from the destination's queue
  pub receive-done : (a n : ℕ) → (receive memory destination source out).answer ≡ Ok (record { source = a; words = n })
      → Receives (machine_of memory) (machine_of (receive memory destination source out).memory) (node_of (table_in memory) destination) (queue_of (table_in memory) destination) source a n out
      (receive memory destination source out).out
  receive-done a n e = keeps_receive.done a n e

  -- 'no such letter' is answered only where there is none
  pub receive_none : ((receive memory destination source out).answer ≡ Err NoLetter) ⊎ ((receive memory destination source out).answer ≡ Err NoLetterQueueFull)
      → NoneAsked (machine_of memory) (node_of (table_in memory) destination) (queue_of (table_in memory) destination) source
  receive_none e = keeps_receive.vain (⊎_elim (λ z. ap sort z) (λ z. ap sort z) e)

  -- the size, the settings and the task table stay
  pub receive_fixed : Fixed memory (receive memory destination source out).memory
  receive_fixed = keeps_receive.fixed
