-- What a call's own contract and its number give of the door's contract. Assumes nothing.
use Rattle.std.specs.Prelude.{Result}
use mathlib.Core.Path.{◌≡◌, ap, ◌∙◌}
use mathlib.Core.List.{List}
use Prim.Native.Nat.{ℕ}
use Rattle.settings.specs.Made.{settings_of}
use Rattle.answers.specs.declared.Answer.{Answer}
use Rattle.setup.specs.declared.SetUpRefusal.{SetUpRefusal}
use Rattle.setup.specs.Outcome.{set_up, Outcome as SetUpOutcome, told as told_set_up}
use Rattle.posting.specs.declared.Sent.{Sent}
use Rattle.posting.specs.declared.SendRefusal.{SendRefusal}
use Rattle.posting.specs.Told.{told as told_sent}
use Rattle.send.specs.Outcome.{send, Outcome as SendOutcome}
use Rattle.receive.specs.declared.Received.{Received}
use Rattle.receive.specs.declared.ReceiveRefusal.{ReceiveRefusal}
use Rattle.receive.specs.Outcome.{receive, Outcome as ReceiveOutcome, told as told_received}
use Rattle.turn.specs.declared.Turned.{Turned}
use Rattle.turn.specs.declared.TurnRefusal.{TurnRefusal}
use Rattle.turn.specs.Outcome.{turn, Outcome as TurnOutcome, told as told_turned}
use Rattle.listing.specs.declared.Listed.{Listed}
use Rattle.listing.specs.declared.ListRefusal.{ListRefusal}
use Rattle.listing.specs.Outcome.{list, Outcome as ListOutcome, told as told_listed}
use Rattle.mail.specs.Door.{SetsUp, Sends, Receives, Turns, Lists}

pub sets_up : (b m s a t : ℕ) (table memory : List ℕ) {x : Result Unit SetUpRefusal} {after : List ℕ} {r : Answer} → record { answer = x; memory = after } ≡ set_up (settings_of b m s a t) table memory → r ≡ told_set_up x → SetsUp b m s a t table memory r after
sets_up b m s a t table memory e f = (f ∙ ap (λ (o : SetUpOutcome). told_set_up o.answer) e, ap (λ (o : SetUpOutcome). o.memory) e)

pub sends : (memory : List ℕ) (source destination : ℕ) (body : List ℕ) {x : Result Sent SendRefusal} {after : List ℕ} {r : Answer} → record { answer = x; memory = after } ≡ send memory source destination body → r ≡ told_sent x → Sends memory source destination body r after
sends memory source destination body e f = (f ∙ ap (λ (o : SendOutcome). told_sent o.answer) e, ap (λ (o : SendOutcome). o.memory) e)

pub receives : (memory : List ℕ) (destination source : ℕ) (out : List ℕ) {x : Result Received ReceiveRefusal} {after filled : List ℕ} {r : Answer} → record { answer = x; memory = after; out = filled } ≡ receive memory destination source out → r ≡ told_received x → Receives memory destination source out r after filled
receives memory destination source out e f =
    (f ∙ ap (λ (o : ReceiveOutcome). told_received o.answer) e, ap (λ (o : ReceiveOutcome). o.memory) e, ap (λ (o : ReceiveOutcome). o.out) e)

pub turns : (memory : List ℕ) {x : Result Turned TurnRefusal} {after : List ℕ} {r : Answer} → record { answer = x; memory = after } ≡ turn memory → r ≡ told_turned x → Turns memory r after
turns memory e f = (f ∙ ap (λ (o : TurnOutcome). told_turned o.answer) e, ap (λ (o : TurnOutcome). o.memory) e)

pub lists : (memory out : List ℕ) {x : Result Listed ListRefusal} {filled : List ℕ} {r : Answer} → record { answer = x; out = filled } ≡ list memory out → r ≡ told_listed x → Lists memory out r filled
lists memory out e f = (f ∙ ap (λ (o : ListOutcome). told_listed o.answer) e, ap (λ (o : ListOutcome). o.out) e)
