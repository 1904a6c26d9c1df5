use Rattle.find.proofs.NearestLaws.{touches_none, touches_some}
use Rattle.find.proofs.touches.Goals as goal

pub returns-then-prev-eq0 : goal.returns-then-prev-eq0
returns-then-prev-eq0 c = touches_none _ _ _ c.if-prev-eq0.true

pub returns : goal.returns
returns c = touches_some _ _ _ c.if-prev-eq0.false
