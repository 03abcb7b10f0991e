-- In a sound memory no call is refused by 1, and the list has room in an out that is long enough. Assumes nothing.
use Rattle.std.specs.Prelude.{Err, Ok, Result}
use mathlib.Core.Path.{◌≡◌, ap}
use mathlib.Core.Bool.{true, ◌||◌}
use mathlib.Core.List.{List}
use Prim.Native.Nat.{ℕ, ◌*◌}
use native.Mathlib.Omega.{arith}
use lib.Dec.{eqb, leb}
use lib.ListN.{length, replicate, length-replicate}
use borrow.Author.Tests.{le-leb}
use Rattle.words.proofs.Lists.{split, option?}
use Rattle.blocks.specs.Chain.{needs}
use Rattle.blocks.specs.Moves.{enough}
use Rattle.tasks.specs.Table.{is_bound}
use Rattle.sound.specs.Reading.{settings_in, table_in, turn_in}
use Rattle.sound.specs.Sound.{sound}
use Rattle.settings.specs.declared.Settings.{Settings}
use Rattle.layout.specs.Places.{task_at}
use Rattle.taking.specs.Find.{found}
use Rattle.posting.specs.Post.{has_room, posted}
use Rattle.posting.specs.declared.Goal.{Goal}
use Rattle.posting.specs.declared.Sent.{Sent}
use Rattle.posting.specs.declared.SendRefusal.{SendRefusal}
use Rattle.posting.specs.declared.SendRefusal.TheVariants.{NotSound as Sent-not-sound, SourceNotBound, DestinationNotBound, BodyTooLong, TooFewBlocks, QueueFull}
use Rattle.send.specs.Outcome.{fits, posted_in, delivered, send}
use Rattle.receive.specs.declared.Received.{Received}
use Rattle.receive.specs.declared.ReceiveRefusal.{ReceiveRefusal}
use Rattle.receive.specs.declared.ReceiveRefusal.TheVariants.{NotSound as Received-not-sound, DestinationNotBound as Received-destination, SourceNotBound as Received-source, NoLetter, NoLetterQueueFull, OutTooShort as Received-short}
use Rattle.receive.specs.Take.{body_of, filled, in_vain, took_at, took}
use Rattle.receive.specs.Outcome.{collected, receive}
use Rattle.postman.specs.Position.{position_of}
use Rattle.postman.specs.Round.{at_start}
use Rattle.stages_keep.specs.Steps.{gone}
use Rattle.turn.specs.declared.Turned.{Turned}
use Rattle.turn.specs.declared.TurnRefusal.{TurnRefusal}
use Rattle.turn.specs.declared.TurnRefusal.TheVariants.{NotSound as Turned-not-sound}
use Rattle.turn.specs.Outcome.{taken, turn}
use Rattle.listing.specs.declared.Listed.{Listed}
use Rattle.listing.specs.declared.ListRefusal.{ListRefusal}
use Rattle.listing.specs.declared.ListRefusal.TheVariants.{NotSound as Listed-not-sound, OutTooShort}
use Rattle.showing.specs.List.{listed}
use Rattle.listing.specs.Outcome.{list}
use Rattle.history.specs.Demand.{NeverStuck, Room}

-- ---- the answers that say 1
abbrev sent_one : Result Sent SendRefusal → ℕ
sent_one (Ok _) = 0
sent_one (Err Sent-not-sound) = 1
sent_one (Err SourceNotBound) = 0
sent_one (Err DestinationNotBound) = 0
sent_one (Err BodyTooLong) = 0
sent_one (Err TooFewBlocks) = 0
sent_one (Err QueueFull) = 0

abbrev received_one : Result Received ReceiveRefusal → ℕ
received_one (Ok _) = 0
received_one (Err Received-not-sound) = 1
received_one (Err Received-destination) = 0
received_one (Err Received-source) = 0
received_one (Err NoLetter) = 0
received_one (Err NoLetterQueueFull) = 0
received_one (Err Received-short) = 0

abbrev turned_one : Result Turned TurnRefusal → ℕ
turned_one (Ok _) = 0
turned_one (Err Turned-not-sound) = 1

abbrev listed_one : Result Listed ListRefusal → ℕ
listed_one (Ok _) = 0
listed_one (Err Listed-not-sound) = 1
listed_one (Err (OutTooShort n)) = 0

-- what is found, with its equation
module _ (m : List ℕ) (e : sound m ≡ true) where
  -- ---- send
  posted-free : (s : Settings) (l : List ℕ) (g : Goal) (ws : List ℕ) → sent_one (posted s l g ws).answer ≡ 0
  unfolding posted
  posted-free s l g ws =
      split (enough s l (needs s (length ws)))
      (λ x. rw x (split (has_room s l g) (λ y. rw y) (λ y. rw y)))
      (λ x. rw x)

  send-free : (source destination : ℕ) (body : List ℕ) → sent_one (send m source destination body).answer ≡ 0
  unfolding send delivered posted_in
  send-free source destination body =
      rw e
      (split (is_bound (table_in m) source)
      (λ x. rw x (split (is_bound (table_in m) destination)
      (λ y. rw y (split (fits (settings_in m) (length body))
      (λ z. rw z (posted-free (settings_in m) _ _ _))
      (λ z. rw z)))
      (λ y. rw y)))
      (λ x. rw x))

  -- ---- receive
  took-free : (s : Settings) (l : List ℕ) (q source : ℕ) (out : List ℕ) → received_one (took s l q source out).answer ≡ 0
  unfolding took took_at in_vain
  took-free s l q source out =
      option? (found s l (task_at s q) source)
      (λ k x. rw x (split (leb (length (body_of s l q source k)) (length out)) (λ y. rw y) (λ y. rw y)))
      (λ x. rw x (split (filled s l q source) (λ y. rw y) (λ y. rw y)))

  receive-free : (destination source : ℕ) (out : List ℕ) → received_one (receive m destination source out).answer ≡ 0
  unfolding receive collected
  receive-free destination source out =
      rw e
      (split (is_bound (table_in m) destination)
      (λ x. rw x (split (eqb source 0 || is_bound (table_in m) source)
      (λ y. rw y (took-free (settings_in m) _ _ _ _))
      (λ y. rw y)))
      (λ x. rw x))

  -- ---- turn

  turn-free : turned_one (turn m).answer ≡ 0
  unfolding turn taken
  turn-free =
      let p = gone (settings_in m) (turn_in m) m (position_of m (turn_in m)) at_start in
      rw e

  -- ---- list
  list-free : (out : List ℕ) → listed_one (list m out).answer ≡ 0
  unfolding list
  list-free out =
      rw e (split (leb (length (listed (settings_in m) m) * 6) (length out)) (λ x. rw x) (λ x. rw x))

-- NO CALL IS REFUSED BY 1
pub never_stuck : (m : List ℕ) → sound m ≡ true → (accepted received : List (List ℕ)) → NeverStuck (record { memory = m; accepted = accepted; received = received })
never_stuck m e accepted received =
    record {
      sends = λ source destination body x. omega (arith, send-free m e source destination body, ap sent_one x);
      receives = λ destination source out x. omega (arith, receive-free m e destination source out, ap received_one x);
      turns = λ x. omega (arith, turn-free m e, ap turned_one x);
      lists = λ out x. omega (arith, list-free m e out, ap listed_one x);
    }

-- THE LIST HAS ROOM
pub has_room_lem : (m : List ℕ) → sound m ≡ true → (accepted received : List (List ℕ)) → Room (record { memory = m; accepted = accepted; received = received })
unfolding list
has_room_lem m e accepted received =
    let n : ℕ = length (listed (settings_in m) m) in
    let out : List ℕ = replicate (n * 6) 0 in
    record {
      out = replicate (length (listed (settings_in m) m) * 6) 0;
      letters = length (listed (settings_in m) m);
      done = rw (e, le-leb (n * 6) (length out) (omega (arith, length-replicate {A = ℕ} (n * 6) 0)));
    }
