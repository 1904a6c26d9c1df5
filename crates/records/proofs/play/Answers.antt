use Rattle.records.proofs.Calling.{plays_open, plays_call, clip_within}
use Rattle.records.proofs.play.Goals as goal

pub returns-then-kind-eq0 : goal.returns-then-kind-eq0
returns-then-kind-eq0 c = plays_open c.if-kind-eq0.true _ _ c.number.ensures c.«open».ensures

pub call-line-requires : goal.call-line-requires
call-line-requires c = clip_within _ _ _ c.clipped-n.ensures

pub returns : goal.returns
returns c = plays_call c.if-kind-eq0.false _ c.clipped-n.ensures _ c.call-line.ensures
