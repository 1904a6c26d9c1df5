use Rattle.resizing.proofs.ResizeLaws.{exits, keeps_none, keeps, keeps_not}
use Rattle.resizing.proofs.resize.keep.Goals as goal

pub returns-in_err-has : goal.returns-in_err-has
returns-in_err-has g c = let p = exits c.in_err-has.ensures.value c.from_residual.ensures.1 in rw p.1 (keeps_none _ _ _ (rw p.0 at c.capacity.ensures))

pub returns-then-n-has : goal.returns-then-n-has
returns-then-n-has g c = keeps _ _ _ _ (rw c.in_ok-has.ensures.ok_part at c.capacity.ensures) c.if-n-has.true

pub returns : goal.returns
returns g c = keeps_not _ _ _ _ (rw c.in_ok-has.ensures.ok_part at c.capacity.ensures) c.if-n-has.false
