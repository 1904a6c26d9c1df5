-- What the search for room answers.
use Rattle.std.specs.Prelude.{Option, Some, None, ℕ}
use Rattle.std.proofs.Math.Option.{Option as Found, none, some}
use Rattle.model.specs.Shape.{shape, start}
use Rattle.model.specs.Layout.{ends}
use Rattle.model.specs.Rules.{Spot}
use Rattle.model.specs.declared.Position.{Position}

-- the position of a spot's block, or none where there is no spot
abbrev pub position_of : ℕ → Found Spot → Option Position
position_of w none = None
position_of w (some t) = Some (record { 0 = ends (shape w) (start (shape w)) t.pre })
