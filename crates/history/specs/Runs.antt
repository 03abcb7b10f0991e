-- Runs: any list of calls on one memory, and the letters accepted and received since its last successful set-up. Demand 3.
use Rattle.std.specs.Prelude.{List, [], ◌∷◌, ◌++◌, ℕ, take, Err, Ok, Result}
use Rattle.settings.specs.Made.{settings_of}
use Rattle.sound.specs.Reading.{table_in}
use Rattle.setup.specs.declared.SetUpRefusal.{SetUpRefusal}
use Rattle.setup.specs.declared.SetUpRefusal.TheVariants.{SettingOutOfRange, WrongTable, OtherSize}
use Rattle.setup.specs.Outcome.{set_up}
use Rattle.letters.specs.Made.{letter_of}
use Rattle.posting.specs.Letter.{header_of}
use Rattle.posting.specs.declared.Sent.{Sent}
use Rattle.posting.specs.declared.SendRefusal.{SendRefusal}
use Rattle.posting.specs.declared.SendRefusal.TheVariants.{NotSound as Sent-not-sound, SourceNotBound as Sent-source, DestinationNotBound as Sent-destination, BodyTooLong, TooFewBlocks, QueueFull}
use Rattle.send.specs.Outcome.{send}
use Rattle.receive.specs.declared.Received.{Received}
use Rattle.receive.specs.declared.ReceiveRefusal.{ReceiveRefusal}
use Rattle.receive.specs.declared.ReceiveRefusal.TheVariants.{NotSound as Received-not-sound, DestinationNotBound as Received-destination, SourceNotBound as Received-source, NoLetter, NoLetterQueueFull, OutTooShort}
use Rattle.receive.specs.Outcome.{receive}
use Rattle.turn.specs.Outcome.{turn}

-- a call with any arguments; list changes no memory
pub data Call : Type 0 where
  SetsUp : ℕ → ℕ → ℕ → ℕ → ℕ → List ℕ → Call
  Sends : ℕ → ℕ → List ℕ → Call
  Receives : ℕ → ℕ → List ℕ → Call
  Turns : Call
  Lists : List ℕ → Call

-- the memory, and the letters accepted and received since the last successful set-up, in order, each by its words, header and body
pub record Past : Type 0 where
  pub memory : List ℕ
  pub accepted : List (List ℕ)
  pub received : List (List ℕ)

-- the letter that a send is asked to send; it is accepted where the send is done
abbrev pub sent_letter : List ℕ → ℕ → ℕ → List ℕ → List ℕ
sent_letter table source destination body = letter_of (header_of table source destination) body

abbrev pub accepted_by : Result Sent SendRefusal → List ℕ → List (List ℕ)
accepted_by (Ok _) letter = letter ∷ []
accepted_by (Err Sent-not-sound) letter = []
accepted_by (Err Sent-source) letter = []
accepted_by (Err Sent-destination) letter = []
accepted_by (Err BodyTooLong) letter = []
accepted_by (Err TooFewBlocks) letter = []
accepted_by (Err QueueFull) letter = []

-- the letter that a receive hands over: from the source that it answers, with as many words of out as it answers
abbrev pub received_by : List ℕ → ℕ → Result Received ReceiveRefusal → List ℕ → List (List ℕ)
received_by table destination (Ok got) out = sent_letter table got.source destination (take got.words out) ∷ []
received_by table destination (Err Received-not-sound) out = []
received_by table destination (Err Received-destination) out = []
received_by table destination (Err Received-source) out = []
received_by table destination (Err NoLetter) out = []
received_by table destination (Err NoLetterQueueFull) out = []
received_by table destination (Err OutTooShort) out = []

-- a successful set-up begins anew; a refused one leaves all
abbrev pub after_set_up : Result Unit SetUpRefusal → Past → List ℕ → Past
after_set_up (Ok _) p memory = record { memory = memory; accepted = []; received = [] }
after_set_up (Err SettingOutOfRange) p memory = record { memory = memory; accepted = p.accepted; received = p.received }
after_set_up (Err WrongTable) p memory = record { memory = memory; accepted = p.accepted; received = p.received }
after_set_up (Err OtherSize) p memory = record { memory = memory; accepted = p.accepted; received = p.received }

-- ONE CALL, by the definitions that the public contracts cite
unfoldable pub after_call : Past → Call → Past
after_call p (SetsUp b m s a t table) =
    let o = set_up (settings_of b m s a t) table p.memory in
    after_set_up o.answer p o.memory
after_call p (Sends source destination body) =
    let o = send p.memory source destination body in
    record {
      memory = o.memory;
      accepted = p.accepted ++ accepted_by o.answer (sent_letter (table_in p.memory) source destination body);
      received = p.received;
    }
after_call p (Receives destination source out) =
    let o = receive p.memory destination source out in
    record {
      memory = o.memory;
      accepted = p.accepted;
      received = p.received ++ received_by (table_in p.memory) destination o.answer o.out;
    }
after_call p Turns = record { memory = (turn p.memory).memory; accepted = p.accepted; received = p.received }
after_call p (Lists out) = p

-- A RUN: one call after another
unfoldable pub after_all : Past → List Call → Past
after_all p [] = p
after_all p (c ∷ cs) = after_all (after_call p c) cs
