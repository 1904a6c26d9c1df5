-- What a walk along all item lists finds in the bytes.
use Rattle.std.specs.Prelude.{ℕ, ◌+◌, ◌≤◌, ◌<◌, ◌≡◌, List, [], ◌∷◌, ◌++◌}
use Rattle.words.specs.Word.{word_at}
use Rattle.words.specs.Bits.{bit_at}
use Rattle.model.specs.Shape.{shape}
use Rattle.model.specs.Parts.{head_at}
use Rattle.model.specs.Sound.{times}
use Rattle.following.specs.Lists.{Chain}
use Rattle.marking.specs.Maps.{offset_at_bit}

module _ (w : ℕ) (b : List ℕ) (end : ℕ) where
  -- the lists of the classes from c on are ls
  unfoldable pub Chains : ℕ → List (List ℕ) → Type 0
  Chains c [] = c ≡ (shape w).classes
  Chains c (l ∷ ls) = (c < (shape w).classes) × Chain w b end c (word_at w b (head_at (shape w) c)) l × Chains (c + 1) ls

-- all lists, one after the other
unfoldable pub flat : List (List ℕ) → List ℕ
flat [] = []
flat (l ∷ ls) = l ++ flat ls

-- the lists visit every marked item once and nothing else
pub record Listed (w : ℕ) (b : List ℕ) (end : ℕ) (m : List ℕ) : Type 0 where
  pub lists : List (List ℕ)
  pub chains : Chains w b end 0 lists
  pub marks : (j : ℕ) → bit_at m j ≡ times (offset_at_bit w j) (flat lists)

-- the lists of four classes from c on are empty
pub record FourEmpty (w : ℕ) (b : List ℕ) (c : ℕ) : Type 0 where
  pub few : c + 4 ≤ (shape w).classes
  pub heads : (k : ℕ) → k < 4 → word_at w b (head_at (shape w) (c + k)) ≡ 0
