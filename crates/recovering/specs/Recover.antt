-- What giving back empty pages promises.
use Rattle.std.specs.Prelude.{ℕ, ◌≡◌, Bool, true, false, List, length}
use Rattle.model.specs.Shape.{shape}
use Rattle.model.specs.Parts.{kind_in, page_kind}
use Rattle.model.specs.Layout.{Slot, Layout}
use Rattle.model.specs.Reading.{held_in}
use Rattle.model.specs.Sweeping.{empties, linked_anew, swept}
use Rattle.model.specs.Calls.{drawn, drawn_in_turn}
use Rattle.model.specs.inner.Laid.{Linkable}
use Rattle.reading.specs.Counting.{PageAt}

-- whether the block at p, of tag t, is a page with no live item
pub record EmptyTold (w : ℕ) (b : List ℕ) (p t : ℕ) (r : Bool) : Type 0 where
  pub page : r ≡ true → kind_in t ≡ page_kind
  pub bare : r ≡ true → (c k : ℕ) (ss : List Slot) → PageAt w b p c k ss → held_in ss ≡ 0
  pub not_bare : r ≡ false → kind_in t ≡ page_kind → (c k : ℕ) (ss : List Slot) → PageAt w b p c k ss → held_in ss ≡ 0 → ⊥

-- n pages were given back, and the bytes c have the layout that is left: the lists linked anew there are what a sweep leaves
pub record Recovered (w : ℕ) (b : List ℕ) (L : Layout) (n : ℕ) (c : List ℕ) : Type 0 where
  pub same : length c ≡ length b
  pub count : n ≡ empties L.blocks
  pub layout : Layout
  pub linkable : Linkable w c layout
  pub bytes : drawn_in_turn (shape w) (swept (shape w) L) b ≡ drawn (shape w) (linked_anew (shape w) layout) c
