-- `letters::word_of` meets its contract. Assumes nothing.
use native.Mathlib.Omega.{arith}
use Rattle.letters.proofs.Steps.{word-walks, owner_in, word_is}
use Rattle.letters.proofs.word_of.Goals as goal

pub last_of-owner-requires : goal.last_of-owner-requires
last_of-owner-requires c = record { walks = word-walks c.args.s c.args.node.now c.args.k c.args.b c.requires; le_owed = omega arith }

pub block_at-at-requires : goal.block_at-at-requires
block_at-at-requires c = record { in_range = c.requires.walks.stretch.range; le_b = owner_in c.args.s c.args.node.now c.args.k c.args.b c.requires _ c.last_of-owner.ensures }

pub returns : goal.returns
returns c = word_is c.args.s c.args.node.now c.args.k c.args.b c.requires _ _ c.last_of-owner.ensures c.block_at-at.ensures.is
