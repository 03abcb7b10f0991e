-- `copying::copy_block` meets its contract. Assumes nothing.
use Rattle.copying.proofs.Moving.{block_moves, block_moved}
use Rattle.copying.proofs.copy_block.Goals as goal

pub move_words-requires : goal.move_words-requires
move_words-requires c = block_moves _ _ _ _ _ _ c.requires c.args.left _ _ _ c.min-n.ensures (cc) (cc)

pub returns-clause-stored : goal.returns-clause-stored
returns-clause-stored c = block_moved _ _ _ _ _ _ c.requires c.args.left _ _ _ c.min-n.ensures (cc) (cc) _ c.move_words.ensures
