use Rattle.examining.specs.Examined.{ExaminedFor}
use Rattle.examining.proofs.Examining.{fit_for, bad_for, unfit_for, passed_on}
use Rattle.examining.proofs.examine_for.Goals as goal

pub returns-in_err-heap : goal.returns-in_err-heap
returns-in_err-heap g c = passed_on (λ r. ExaminedFor g.W.Width.BYTES c.args.h.now c.args.n r) _ _ c.from_residual.ensures.1 (unfit_for _ _ _ _ _ c.examine.ensures c.in_err-heap.was)

pub returns-then-not-is_size : goal.returns-then-not-is_size
returns-then-not-is_size g c = bad_for _ _ _ _ c.examine.ensures c.in_ok-heap.was _ c.is_size.ensures c.if-not-is_size.true

pub returns : goal.returns
returns g c = fit_for _ _ _ _ c.examine.ensures c.in_ok-heap.was _ c.is_size.ensures c.if-not-is_size.false
