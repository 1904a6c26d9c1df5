use Rattle.std.proofs.Common.{refl, arith}
use Rattle.model.proofs.Sizes.{heads_room}
use Rattle.model.proofs.head_at.Goals as goal

pub overflow_mul-result-2 : goal.overflow_mul-result-2
overflow_mul-result-2 g c = rw c.BYTES-2.ensures (omega (arith, c.BYTES.ensures, c.BYTES-2.ensures, g.met.W.Width.width, heads_room g.W.Width.BYTES c.args.c (omega (arith, c.requires))))

pub overflow_add-result-2 : goal.overflow_add-result-2
overflow_add-result-2 g c = rw (c.BYTES.ensures, c.BYTES-2.ensures) (omega (arith, c.BYTES.ensures, c.BYTES-2.ensures, g.met.W.Width.width, heads_room g.W.Width.BYTES c.args.c (omega (arith, c.requires))))

pub returns : goal.returns
returns g c = rw (c.BYTES.ensures, c.BYTES-2.ensures) (refl, omega (arith, heads_room g.W.Width.BYTES c.args.c (omega (arith, c.requires))))
