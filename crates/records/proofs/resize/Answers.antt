use Rattle.model.specs.Calls.{Resizes}
use Rattle.model.specs.Shape.{wide}
use Rattle.records.proofs.Calling.{called}
use Rattle.records.proofs.resize.Goals as goal

pub returns : goal.returns
returns c = called (λ b o. Resizes wide b c.args.a c.args.size o) _ _ c.resize.result _ _ c.resize.ensures c.told.ensures
