use Rattle.model.specs.Calls.{Allocates}
use Rattle.model.specs.Shape.{wide}
use Rattle.records.proofs.Calling.{called}
use Rattle.records.proofs.allocate.Goals as goal

pub returns : goal.returns
returns c = called (λ b o. Allocates wide b c.args.size o) _ _ c.allocate.result _ _ c.allocate.ensures c.told.ensures
