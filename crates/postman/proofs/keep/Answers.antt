-- `postman::keep` meets its contract. Assumes nothing.
use borrow.Author.Tests.{lt-ltb, le-ltb}
use Rattle.postman.specs.Position.{standing, kept}
use Rattle.postman.proofs.keep.Goals as goal

-- src/lib.rt:52:5
-- src/lib.rt:53:5
-- src/lib.rt:55:9
-- src/lib.rt:57:9
-- src/lib.rt:45:1
pub returns-then-j-lt5 : goal.returns-then-j-lt5
unfolding kept standing
returns-then-j-lt5 c = rw (lt-ltb _ _ c.if-j-lt5.true)

-- src/lib.rt:45:1
pub returns-else-j-lt5 : goal.returns-else-j-lt5
unfolding kept standing
returns-else-j-lt5 c = rw (le-ltb _ _ c.if-j-lt5.false)
