use Rattle.std.proofs.Common.{ℕ, ◌+◌, sym}
use Rattle.std.proofs.Math.ListN.{length-replicate}
use Rattle.model.specs.Shape.{wide}
use Rattle.showing.proofs.room.Goals as goal

pub returns : goal.returns
returns c = sym (length-replicate {0} {A = ℕ} (wide.most + 1) 0)
