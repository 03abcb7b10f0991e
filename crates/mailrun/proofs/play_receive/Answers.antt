-- `mailrun::play_receive` meets its contract: what the call gives is what the record gives. Assumes nothing.
use Rattle.std.proofs.Common.{◌≡◌, ℕ, List, refl, arith, get_or, replicate}
use Rattle.answers.specs.declared.Answer.{Answer}
use Rattle.mail.specs.Door.{Receives}
use Rattle.mailrun.specs.Program.{received}
use Rattle.mailrun.proofs.play_receive.Goals as goal

received_is : (m r : List ℕ) (a b : ℕ) (out : List ℕ) {x : Answer} {after filled : List ℕ} → a ≡ get_or r 1 0 → b ≡ get_or r 2 0 → out ≡ replicate 255 0 → Receives m a b out x after filled → record { answer = record { number = x.number; first = x.first; second = x.second; third = get_or filled 0 0 }; memory = after } ≡ received m r
unfolding received
received_is m r a b out p q t e = rw (e.0, e.1, e.2, p, q, t)

pub returns : goal.returns
returns c = received_is _ _ _ _ _ (omega arith) (omega arith) refl c.mail_receive-answer.ensures
