-- One way of resize on a heap's own bytes, which does not grow there. Contracts of inner calls name this; no public contract does, so no reader has to believe it.
use Rattle.std.specs.Prelude.{ℕ, List}
use Rattle.model.specs.Shape.{Shape}
use Rattle.model.specs.Layout.{Layout}
use Rattle.model.specs.Rules.{find}
use Rattle.model.specs.Refusals.{not_live}
use Rattle.model.specs.Calls.{Way, staying, moving, keeping, Outcome, refused, found, stayed, moved, kept}

module _ (S : Shape) where
  abbrev pub heap_way : Way → List ℕ → ℕ → ℕ → Layout → Outcome
  heap_way staying b a n L = stayed S b a n L
  heap_way moving b a n L = moved S b a n L
  heap_way keeping b a n L = kept S b a n L

  -- 5 where nothing is live at the address, and else what the way gives
  unfoldable pub heap_resized : Way → List ℕ → ℕ → ℕ → Layout → Outcome
  heap_resized v b a n L = found S (find S a L) (refused b not_live) (heap_way v b a n L)
