use Rattle.std.proofs.Common.{arith}
use Rattle.model.proofs.Sizes.{page_product}
use Rattle.model.proofs.page_need.Goals as goal

pub overflow_mul-result-2 : goal.overflow_mul-result-2
overflow_mul-result-2 g c = omega (arith, page_product g.met.W.Width.width c.args.c _ _ c.requires.0 c.requires.1 c.item_size.ensures)

pub overflow_add-result : goal.overflow_add-result
overflow_add-result g c = rw c.BYTES.ensures (omega (arith, page_product g.met.W.Width.width c.args.c _ _ c.requires.0 c.requires.1 c.item_size.ensures, g.met.W.Width.width.most))

pub returns : goal.returns
returns g c = rw c.BYTES.ensures (page_product g.met.W.Width.width c.args.c _ _ c.requires.0 c.requires.1 c.item_size.ensures).1
