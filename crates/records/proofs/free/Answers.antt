use Rattle.model.specs.Calls.{Frees}
use Rattle.model.specs.Shape.{wide}
use Rattle.records.proofs.Calling.{called}
use Rattle.records.proofs.free.Goals as goal

pub returns : goal.returns
returns c = called (λ b o. Frees wide b c.args.a o) _ _ c.free.result _ _ c.free.ensures c.told.ensures
