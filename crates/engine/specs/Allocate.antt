-- What allocating promises, past the check: the rule's address and bytes.
use Rattle.std.specs.Prelude.{Option, Some, None, ℕ, ◌≤◌, ◌<◌, ◌≡◌, List, [], get_or}
use Rattle.std.proofs.Math.Option.{Option as Given, none, some}
use Rattle.model.specs.Shape.{shape, class_of}
use Rattle.model.specs.Layout.{Layout}
use Rattle.model.specs.Sound.{Here}
use Rattle.model.specs.Rules.{Made, fit, an_item, a_block, allocate}
use Rattle.model.specs.Calls.{drawn}
use Rattle.engine.specs.Ready.{Ready}
use Rattle.model.specs.declared.Address.{Address}

-- and a class, and a size of it
pub record ReadyClass (w : ℕ) (b : List ℕ) (c n : ℕ) : Type 0 where
  pub ready : Ready w b
  pub class : c < (shape w).classes
  pub own : class_of n ≡ c

-- a size that may be asked for
pub record Asked (w : ℕ) (n : ℕ) : Type 0 where
  pub some_byte : 1 ≤ n
  pub most : n ≤ (shape w).most

-- the answer, the bytes and the layout for what a rule gives
abbrev pub taken_of : Given Made → Option Address
taken_of none = None
taken_of (some m) = Some (record { 0 = m.at })

abbrev pub bytes_of : ℕ → List ℕ → Given Made → List ℕ
bytes_of w b none = b
bytes_of w b (some m) = drawn (shape w) m.layout b

abbrev pub layout_of : Layout → Given Made → Layout
layout_of L none = L
layout_of L (some m) = m.layout

-- of bytes b with layout L a rule gives o: the answer r, and bytes c that have the rule's layout
pub record Gives (w : ℕ) (b : List ℕ) (L : Layout) (o : Given Made) (r : Option Address) (c : List ℕ) : Type 0 where
  pub answer : r ≡ taken_of o
  pub bytes : c ≡ bytes_of w b o
  pub here : Here (shape w) c (layout_of L o)

-- an item of a class, for n bytes; a variable block; allocate
pub record GivesItem (w : ℕ) (b : List ℕ) (c n : ℕ) (r : Option Address) (a : List ℕ) : Type 0 where
  pub is : (L : Layout) → Here (shape w) b L → Gives w b L (an_item (shape w) n c L (get_or L.lists c [])) r a

pub record GivesBlock (w : ℕ) (b : List ℕ) (need : ℕ) (r : Option Address) (a : List ℕ) : Type 0 where
  pub is : (L : Layout) → Here (shape w) b L → Gives w b L (a_block (shape w) need L (fit need L.blocks)) r a

pub record GivesSize (w : ℕ) (b : List ℕ) (n : ℕ) (r : Option Address) (a : List ℕ) : Type 0 where
  pub is : (L : Layout) → Here (shape w) b L → Gives w b L (allocate (shape w) n L) r a
