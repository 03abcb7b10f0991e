-- `send::send_letter` meets its contract: the stretch that was lent comes back into the memory. Assumes nothing.
use Rattle.letters.specs.Made.{letter_of}
use Rattle.send.proofs.Outcomes.{posted-back}
use Rattle.send.proofs.send_letter.Goals as goal

pub returns : goal.returns
returns c =
    posted-back c.args.s c.args.memory.now c.args.header.from _ _ c.node_at-a.ensures.is c.node_size.ensures.is c.args.goal (letter_of c.args.header c.args.body.now) _ _ c.post.ensures
