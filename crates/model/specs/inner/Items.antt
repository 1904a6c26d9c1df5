-- Where the items of pages have their headers. Contracts of inner calls name these; no public contract does, so no reader has to believe them.
use Rattle.std.specs.Prelude.{ℕ, ◌+◌, ◌≡◌, List, [], ◌∷◌, ◌⊎◌}
use Rattle.model.specs.Shape.{Shape, item_size}
use Rattle.model.specs.Layout.{Slot, Use, variable, page, Block, free, used, use_size}

module _ (S : Shape) where
  -- q is where an item of class c has its header
  unfoldable pub InSlots : ℕ → ℕ → ℕ → List Slot → Type 0
  InSlots c q p [] = ⊥
  InSlots c q p (s ∷ ss) = (q ≡ p) ⊎ InSlots c q (p + item_size S c) ss

  unfoldable pub InUse : ℕ → ℕ → ℕ → Use → Type 0
  InUse c q p (variable t) = ⊥
  InUse c q p (page d k ss) = (c ≡ d) × InSlots c q (p + S.word) ss

  unfoldable pub InBlocks : ℕ → ℕ → ℕ → List Block → Type 0
  InBlocks c q p [] = ⊥
  InBlocks c q p (free t ∷ bs) = InBlocks c q (p + t) bs
  InBlocks c q p (used u ∷ bs) = InUse c q p u ⊎ InBlocks c q (p + use_size S u) bs
