use Rattle.std.proofs.Common.{arith}
use Rattle.model.proofs.Sizes.{next_small}
use Rattle.model.proofs.next_in.Goals as goal

pub overflow_mul-result-2 : goal.overflow_mul-result-2
overflow_mul-result-2 g c = rw (c.BYTES.ensures, c.BYTES-2.ensures) (omega (arith, next_small g.met.W.Width.width c.args.x))
