-- What the first half of a move asks and promises.
use Rattle.std.specs.Prelude.{Option, ℕ, min, ◌≡◌, List}
use Rattle.std.proofs.Math.Option.{Option as Given, none, some}
use Rattle.words.specs.Copy.{copied}
use Rattle.model.specs.declared.Address.{Address}
use Rattle.model.specs.Shape.{shape}
use Rattle.model.specs.Layout.{Layout}
use Rattle.model.specs.Sound.{Here}
use Rattle.model.specs.Rules.{Made, nothing, find, allocate, shown_of}
use Rattle.model.specs.Calls.{drawn}
use Rattle.engine.specs.Ready.{Ready}
use Rattle.engine.specs.Allocate.{taken_of, layout_of}

-- something is live at a of which k bytes are shown
pub record Holding (w : ℕ) (b : List ℕ) (a k : ℕ) : Type 0 where
  pub ready : Ready w b
  pub live : (L : Layout) → Here (shape w) b L → find (shape w) a L ≡ nothing → ⊥
  pub shown : (L : Layout) → Here (shape w) b L → k ≡ shown_of (shape w) (find (shape w) a L)

-- the bytes once an allocation gave room for n, and the smaller of k and n bytes were copied there
abbrev pub carried_bytes : ℕ → List ℕ → ℕ → ℕ → ℕ → Given Made → List ℕ
carried_bytes w b a k n none = b
carried_bytes w b a k n (some m) = copied a m.at (min k n) (drawn (shape w) m.layout b)

pub record CarriedIn (w : ℕ) (b : List ℕ) (L : Layout) (a k n : ℕ) (o : Given Made) (r : Option Address) (c : List ℕ) : Type 0 where
  pub answer : r ≡ taken_of o
  pub bytes : c ≡ carried_bytes w b a k n o
  pub here : Here (shape w) c (layout_of L o)

pub record Carried (w : ℕ) (b : List ℕ) (a k n : ℕ) (r : Option Address) (c : List ℕ) : Type 0 where
  pub is : (L : Layout) → Here (shape w) b L → CarriedIn w b L a k n (allocate (shape w) n L) r c
