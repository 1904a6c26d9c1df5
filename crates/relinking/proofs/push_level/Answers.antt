use Rattle.std.proofs.Common.{refl, ◌-◌, arith}
use Rattle.relinking.proofs.LevelLaws.{level_start, level_page, level_pushed, level_passed, level_done}
use Rattle.relinking.proofs.push_level.Goals as goal

pub loop-i-init : goal.loop-i-init
loop-i-init g c = level_start c.requires (λ i. (c.type_inv.h i).fits) _

pub push_page-requires : goal.push_page-requires
push_page-requires g c = level_page c.loop-i.invariant (c.loop-i.i - 1) (omega arith) _ refl _ c.page_in.ensures

pub loop-i-preserved-then-live_in-k : goal.loop-i-preserved-then-live_in-k
loop-i-preserved-then-live_in-k g c = level_pushed c.loop-i.invariant (c.loop-i.i - 1) (omega (arith, c.loop-i-test.true)) _ refl _ _ c.page_in.ensures c.live_in.ensures c.if-live_in-k.true c.push_page.ensures

pub loop-i-preserved : goal.loop-i-preserved
loop-i-preserved g c = level_passed c.loop-i.invariant (c.loop-i.i - 1) (omega (arith, c.loop-i-test.true)) _ refl _ c.live_in.ensures c.if-live_in-k.false

pub returns : goal.returns
returns g c = level_done c.loop-i.invariant (omega (arith, c.loop-i-test.false))
