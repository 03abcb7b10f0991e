-- `script::fill` meets its contract: after i turns the first i words rise. Assumes nothing.
use Rattle.std.proofs.Common.{refl, arith}
use Rattle.script.specs.Words.{rising}
use Rattle.script.proofs.Laws.{rising_more, rising_first, rising_next}
use Rattle.script.proofs.fill.Goals as goal

pub loop-word-init : goal.loop-word-init
unfolding rising
loop-word-init c = (refl, rising_first c.args.f (omega arith))

pub loop-word-preserved : goal.loop-word-preserved
loop-word-preserved c =
    let l = c.loop-word in
    let x = c.args in (
      rw l.invariant.0 (rising_more x.f l.word-index l.next x.words.now (omega arith) l.invariant.1),
      rising_next x.f l.word-index l.next _ l.invariant.1 refl,
    )
