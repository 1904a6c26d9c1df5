use Rattle.words.proofs.BitLaws.{spread_over}
use Rattle.words.proofs.bits.spread.Goals as goal

pub returns : goal.returns
returns c = rw c.copy_from_slice.ensures.after (spread_over c.args.from.now c.args.to.now c.requires.1)
