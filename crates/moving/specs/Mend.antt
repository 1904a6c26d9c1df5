-- What finding the free block before a variable block again asks and promises, once an allocation may have taken it.
use Rattle.std.specs.Prelude.{ℕ, ◌≡◌, List}
use Rattle.words.specs.Width.{Width}
use Rattle.model.specs.Shape.{shape}
use Rattle.model.specs.Layout.{Layout}
use Rattle.model.specs.Sound.{Here}
use Rattle.model.specs.Rules.{Spot}
use Rattle.model.specs.inner.Walks.{flag, Stands, Mend}
use Rattle.find.specs.declared.UsedBlock.{UsedBlock}
use Rattle.find.specs.Find.{BlockFound}
use Rattle.engine.specs.Ready.{Ready}

-- the variable block x is live at a
pub record BlockLiveAt (w : ℕ) (b : List ℕ) (a : ℕ) (x : UsedBlock) : Type 0 where
  pub ready : Ready w b
  pub is : (L : Layout) → Here (shape w) b L → ((t : Spot) × BlockFound w L a t x)

-- x is a block as it was found before an allocation, and `before` is the free block before the one at its prev
pub record Mendable (w : ℕ) (b : List ℕ) (x : UsedBlock) (before : ℕ) : Type 0 where
  pub width : Width w
  pub layout : Layout
  pub here : Here (shape w) b layout
  pub mend : Mend (shape w) layout x.at.0 x.size x.prev.0 (flag x.touching) before

-- y is that block as it is found now
pub record Mended (w : ℕ) (b : List ℕ) (x : UsedBlock) (before : ℕ) (y : UsedBlock) : Type 0 where
  pub at : y.at.0 ≡ x.at.0
  pub size : y.size ≡ x.size
  pub stands : (L : Layout) → Here (shape w) b L → Mend (shape w) L x.at.0 x.size x.prev.0 (flag x.touching) before → Stands (shape w) L x.at.0 x.size y.prev.0 (flag y.touching)
