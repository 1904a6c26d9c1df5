use Rattle.std.proofs.Common.{arith, refl, rules}
use Rattle.reshaping.proofs.ReshapeLaws.{must_move, stays_so, room_for, resizes}
use Rattle.model.proofs.Sizes.{most_bound}
use Rattle.reshaping.proofs.reshape.Goals as goal
use Rattle.reshaping.proofs.reshape.Goals.{then-need-x+else-x-need, else-need-x}

pub need_of-need-requires : goal.need_of-need-requires
need_of-need-requires g c = omega (arith, c.requires.large.most, most_bound c.requires.block_live.width)

pub returns-then-g-need : goal.returns-then-g-need
returns-then-g-need g c = must_move _ _ c.requires.block_live _ c.reach-g.ensures _ _ c.requires.large c.need_of-need.ensures c.if-g-need.true

pub overflow_add-need : goal.overflow_add-need
overflow_add-need g c = omega (arith, c.need_of-need.ensures, c.requires.large.most, most_bound c.requires.block_live.width)

pub returns-then-x-need : goal.returns-then-x-need
returns-then-x-need g c = stays_so _ _ c.requires.block_live _ c.reach-g.ensures _ _ c.requires.large c.need_of-need.ensures c.if-need-x.true (omega (arith, c.if-x-need.true, c.least_free.ensures)) (λ i. search rules)

pub taken-u-requires : goal.taken-u-requires
taken-u-requires g c = omega (arith, c.need_of-need.ensures, c.requires.large.most, most_bound c.requires.block_live.width)

pub put_low-requires : goal.put_low-requires
put_low-requires g c = room_for _ _ c.requires.block_live _ c.reach-g.ensures _ _ c.requires.large c.need_of-need.ensures c.if-g-need.false _ _ c.taken-u.ensures refl

pub put_high-requires : goal.put_high-requires
put_high-requires g c = room_for _ _ c.requires.block_live _ c.reach-g.ensures _ _ c.requires.large c.need_of-need.ensures c.if-g-need.false _ _ c.taken-u.ensures (search rules)

pub returns : goal.returns
returns g c = resizes _ _ c.requires.block_live _ c.reach-g.ensures _ _ c.requires.large c.need_of-need.ensures c.if-g-need.false (λ z. elim c.if-need-x.branch [ then-need-x+else-x-need w ↦ omega (arith, w.if-x-need.false, w.least_free.ensures) | else-need-x w ↦ omega arith ]) (λ i. search rules) _ c.taken-u.ensures _ _ c.put_low.ensures c.put_high.ensures
