-- A call on a memory that a run has reached goes as its rules say: the test of the memory needs no computing. Assumes nothing.
use Rattle.std.specs.Prelude.{Ok, Result}
use mathlib.Core.Path.{◌≡◌, ap, ap₂, ◌∙◌, subst}
use mathlib.Core.Bool.{true, ◌||◌}
use mathlib.Core.List.{List, [], ◌∷◌, ◌++◌}
use Prim.Native.Nat.{ℕ}
use lib.Dec.{eqb}
use lib.ListN.{length}
use Rattle.tasks.specs.Table.{is_bound}
use Rattle.sound.specs.Reading.{settings_in, table_in}
use Rattle.sound.specs.Sound.{sound}
use Rattle.posting.specs.declared.Sent.{Sent}
use Rattle.posting.specs.declared.SendRefusal.{SendRefusal}
use Rattle.send.specs.Outcome.{Outcome as SentOutcome, fits, delivered, send}
use Rattle.receive.specs.Outcome.{Outcome as ReceivedOutcome, collected, receive}
use Rattle.turn.specs.Outcome.{Outcome as TurnedOutcome, taken, turn}
use Rattle.history.specs.Runs.{Sends, Receives, Turns, Past, sent_letter, accepted_by, received_by, after_call}
use Rattle.history.proofs.History.{Kept, goes_on}

-- the run has come to p: its memory is o, the letters accepted and received are these
pub record At (p : Past) (o : List ℕ) (accepted received : List (List ℕ)) : Type 0 where
  pub kept : Kept p
  pub memory : p.memory ≡ o
  pub taken_in : p.accepted ≡ accepted
  pub given_out : p.received ≡ received

module _ (p : Past) (o : List ℕ) (acc rec : List (List ℕ)) (at : At p o acc rec) where
  safe : sound o ≡ true
  safe = subst (λ (m : List ℕ). sound m ≡ true) at.memory at.kept.safe

  -- ---- a send that is done
  module _ (a b : ℕ) (body : List ℕ) where
    send_in : is_bound (table_in o) a ≡ true → is_bound (table_in o) b ≡ true → fits (settings_in o) (length body) ≡ true → send p.memory a b body ≡ delivered o a b body
    unfolding send
    send_in x y z = ap (λ (m : List ℕ). send m a b body) at.memory ∙ rw (safe, x, y, z)

    pub sends : (n : ℕ) → is_bound (table_in o) a ≡ true → is_bound (table_in o) b ≡ true → fits (settings_in o) (length body) ≡ true → (delivered o a b body).answer ≡ Ok (record { blocks = n })
        → At (after_call p (Sends a b body)) (delivered o a b body).memory (acc ++ sent_letter (table_in o) a b body ∷ []) rec
    unfolding after_call
    sends n x y z d =
        let e = send_in x y z in
        record {
          kept = goes_on p at.kept (Sends a b body);
          memory = ap (λ (r : SentOutcome). r.memory) e;
          taken_in = ap₂ (λ (l : List (List ℕ)) (r : Result Sent SendRefusal). l ++ accepted_by r (sent_letter (table_in p.memory) a b body)) at.taken_in (ap (λ (r : SentOutcome). r.answer) e ∙ d)
              ∙ ap (λ (m : List ℕ). acc ++ sent_letter (table_in m) a b body ∷ []) at.memory;
          given_out = at.given_out;
        }

  -- ---- a receive that is done
  module _ (b source : ℕ) (out : List ℕ) where
    receive_in : is_bound (table_in o) b ≡ true → (eqb source 0 || is_bound (table_in o) source) ≡ true → receive p.memory b source out ≡ collected o b source out
    unfolding receive
    receive_in x y = ap (λ (m : List ℕ). receive m b source out) at.memory ∙ rw (safe, x, y)

    pub receives : is_bound (table_in o) b ≡ true → (eqb source 0 || is_bound (table_in o) source) ≡ true
        → At (after_call p (Receives b source out)) (collected o b source out).memory acc (rec ++ received_by (table_in o) b (collected o b source out).answer (collected o b source out).out)
    unfolding after_call
    receives x y =
        let e = receive_in x y in
        record {
          kept = goes_on p at.kept (Receives b source out);
          memory = ap (λ (r : ReceivedOutcome). r.memory) e;
          taken_in = at.taken_in;
          given_out = ap₂ (λ (l : List (List ℕ)) (r : ReceivedOutcome). l ++ received_by (table_in p.memory) b r.answer r.out) at.given_out e
              ∙ ap (λ (m : List ℕ). rec ++ received_by (table_in m) b (collected o b source out).answer (collected o b source out).out) at.memory;
        }

  -- ---- a turn
  turn_in_lem : turn p.memory ≡ taken o
  unfolding turn
  turn_in_lem = ap turn at.memory ∙ rw safe

  pub turns : At (after_call p Turns) (taken o).memory acc rec
  unfolding after_call
  turns =
      record {
        kept = goes_on p at.kept Turns;
        memory = ap (λ (r : TurnedOutcome). r.memory) turn_in_lem;
        taken_in = at.taken_in;
        given_out = at.given_out;
      }
