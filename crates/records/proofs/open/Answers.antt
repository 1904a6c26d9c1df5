use Rattle.std.proofs.Common.{arith}
use Rattle.records.proofs.Calling.{opens_beyond, opens_granted, opens_refused}
use Rattle.records.proofs.open.Goals as goal

pub returns-then-h-length : goal.returns-then-h-length
returns-then-h-length c = opens_beyond _ _ _ (omega arith) _ c.told-line.ensures

pub returns-then-line-eq0 : goal.returns-then-line-eq0
returns-then-line-eq0 c = opens_granted _ _ _ (omega arith) c.initialise.result _ _ _ c.end_of.ensures c.initialise.ensures c.told-line-2.ensures c.if-line-eq0.true

pub returns : goal.returns
returns c = opens_refused _ _ _ (omega arith) c.initialise.result _ _ _ c.end_of.ensures c.initialise.ensures c.told-line-2.ensures c.if-line-eq0.false
