-- `queues::QueueAt::append` meets its contract, by whether there is room. Assumes nothing.
use Rattle.queues.specs.Moves.{appended, append_answer, added}
use borrow.Author.Tests.{lt-ltb, le-ltb}
use Rattle.queues.proofs.QueueAt.append.Goals as goal

pub returns-then-count-self : goal.returns-then-count-self
unfolding appended append_answer added
returns-then-count-self c = (simp (lt-ltb _ _ c.if-count-self.true, c.slot-slot.ensures.is), simp (lt-ltb _ _ c.if-count-self.true))

pub returns-else-count-self : goal.returns-else-count-self
unfolding appended append_answer
returns-else-count-self c = (simp (le-ltb _ _ c.if-count-self.false, c.count_up.ensures), simp (le-ltb _ _ c.if-count-self.false))
