-- The live payloads of a layout: those of variable blocks and of items in use, and no others.
use Rattle.std.specs.Prelude.{ℕ, ◌+◌, ◌≡◌, ◌⊎◌, List, [], ◌∷◌, ◌++◌, take, drop}
use Rattle.model.specs.Shape.{Shape, start, item_size, item_capacity, item_shown, block_capacity, address_of}
use Rattle.model.specs.Parts.{first_item_at}
use Rattle.model.specs.Layout.{Slot, idle, held, Use, variable, page, Block, free, used, Layout, use_size}

infix 40 ◌∈◌
-- x stands in a list; x stands before y in a list
unfoldable pub ◌∈◌ : {A : Type 0} → A → List A → Type 0
◌∈◌ x [] = ⊥
◌∈◌ x (y ∷ ys) = (x ≡ y) ⊎ (◌∈◌ x ys)

unfoldable pub InTurn : {A : Type 0} → A → A → List A → Type 0
InTurn x y [] = ⊥
InTurn x y (z ∷ zs) = ((x ≡ z) × (y ∈ zs)) ⊎ InTurn x y zs

-- a payload: its address, its capacity, and how many of its bytes a look-up shows
pub record Payload : Type 0 where
  pub address : ℕ
  pub size : ℕ
  pub shown : ℕ

-- the bytes of a payload
abbrev pub content : List ℕ → Payload → List ℕ
content b x = take x.size (drop x.address b)

module _ (S : Shape) where
  -- of a page's items from position p on; of a block in use at p; of blocks from p on
  unfoldable pub slots_live : ℕ → ℕ → List Slot → List Payload
  slots_live c p [] = []
  slots_live c p (idle ∷ ss) = slots_live c (p + item_size S c) ss
  slots_live c p (held n ∷ ss) = record { address = address_of S p; size = item_capacity S c; shown = item_shown S c n } ∷ slots_live c (p + item_size S c) ss

  unfoldable pub use_live : ℕ → Use → List Payload
  use_live p (variable s) = record { address = address_of S p; size = block_capacity S s; shown = block_capacity S s } ∷ []
  use_live p (page c k ss) = slots_live c (first_item_at S p) ss

  unfoldable pub live_from : ℕ → List Block → List Payload
  live_from p [] = []
  live_from p (free s ∷ bs) = live_from (p + s) bs
  live_from p (used u ∷ bs) = use_live p u ++ live_from (p + use_size S u) bs

  abbrev pub live : Layout → List Payload
  live L = live_from (start S) L.blocks
