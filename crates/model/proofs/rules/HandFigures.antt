-- The hand unit's figures (document 02, viii), computed from the same definitions.
use Rattle.std.proofs.Common.{ℕ, ◌+◌, ◌*◌, ◌≡◌, refl, [], ◌∷◌, arith, replicate}
use Rattle.model.specs.Shape.{index, start, least_free, least_variable, item_size, page_need, shortest, end_of, hand}
use Rattle.model.specs.Parts.{index_tag_at, index_tag}
use Rattle.model.specs.Layout.{free}
use Rattle.model.specs.Rules.{fresh}

-- index tag, index page, data area, the index block's tag; the least free and the least variable block; the least page; the shortest and the longest heap
pub hand_figures : (index_tag_at hand ∷ index hand ∷ start hand ∷ index_tag hand ∷ least_free hand ∷ least_variable hand ∷ page_need hand 0 ∷ shortest hand ∷ hand.most ∷ [])
    ≡ (24 ∷ 28 ∷ 96 ∷ 75 ∷ 16 ∷ 144 ∷ 32 ∷ 112 ∷ 65536 ∷ [])
hand_figures = refl

-- an item of class c, and the items of a page
pub hand_items : (c : ℕ) → (item_size hand c ≡ 8 * c + 12) × (hand.per_page c ≡ 2)
hand_items c = (omega arith, refl)

-- the shortest heap when it is opened: one free block of 16, and 16 empty lists
pub hand_fresh : fresh hand (end_of 112) ≡ record { blocks = free 16 ∷ []; lists = replicate 16 [] }
hand_fresh = refl
