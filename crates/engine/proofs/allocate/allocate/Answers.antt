use Rattle.model.proofs.Sizes.{most_bound, need_sized}
use Rattle.std.proofs.Common.{arith}
use Rattle.engine.proofs.Allocating.{small_way, large_way}
use Rattle.engine.proofs.allocate.allocate.Goals as goal

pub returns-then-n-largest_item : goal.returns-then-n-largest_item
returns-then-n-largest_item g c = small_way _ _ c.class_of.ensures (omega (arith, c.if-n-largest_item.true, c.largest_item.ensures)) c.an_item.ensures

pub need_of-requires : goal.need_of-requires
need_of-requires g c = omega (arith, c.requires.asked.most, most_bound c.requires.ready.width)

pub a_block-requires : goal.a_block-requires
a_block-requires g c = record { ready = c.requires.ready; needed = let sized = need_sized c.requires.ready.width c.args.n (omega (arith, c.if-n-largest_item.false, c.largest_item.ensures)) in record { width = c.requires.ready.width; large = omega (arith, c.need_of.ensures, sized); eight = rw c.need_of.ensures sized.1; short = c.requires.ready.short } }

pub returns : goal.returns
returns g c = large_way _ _ c.need_of.ensures (omega (arith, c.if-n-largest_item.false, c.largest_item.ensures)) c.before.before.a_block.ensures
