use Rattle.std.proofs.Common.{refl}
use Rattle.words.specs.Bits.{bit_at}
use Rattle.words.proofs.bits.test.Goals as goal

pub returns : goal.returns
unfolding bit_at
returns c = rw c.word_of-w.ensures refl
