-- What a walk along one item list finds in the bytes.
use Rattle.std.specs.Prelude.{◌≡◌, ℕ, ◌+◌, ◌%◌, ◌≤◌, List, [], ◌∷◌, length}
use Rattle.words.specs.Word.{word_at}
use Rattle.words.specs.Bits.{bit_at}
use Rattle.model.specs.Shape.{shape, item_at}
use Rattle.model.specs.Parts.{free_mark, class_and_flags, next_in}
use Rattle.model.specs.Sound.{times}
use Rattle.marking.specs.Maps.{offset_bit}

-- the header of a free item of class c stands at offset o
pub record FreeItemAt (w : ℕ) (b : List ℕ) (end c o : ℕ) : Type 0 where
  pub nonzero : o ≡ 0 → ⊥
  pub even : o % w ≡ 0
  pub inside : item_at (shape w) o + w ≤ end
  pub header : class_and_flags (shape w) (word_at w b (item_at (shape w) o)) ≡ free_mark c

-- the offset that the header of the item at offset o names
abbrev pub named : ℕ → List ℕ → ℕ → ℕ
named w b o = next_in (shape w) (word_at w b (item_at (shape w) o))

module _ (w : ℕ) (b : List ℕ) (end : ℕ) where
  -- the list of class c that begins at o is l
  unfoldable pub Chain : ℕ → ℕ → List ℕ → Type 0
  Chain c o [] = o ≡ 0
  Chain c o (x ∷ xs) = (o ≡ x) × FreeItemAt w b end c x × Chain c (named w b x) xs

-- the list of class c from o on goes to its end over marked items; where n were to be counted, r are left
pub record ListCounted (w : ℕ) (b : List ℕ) (end c o : ℕ) (m : List ℕ) (n r : ℕ) : Type 0 where
  pub list : List ℕ
  pub chain : Chain w b end c o list
  pub set : (x : ℕ) → 1 ≤ times x list → bit_at m (offset_bit w x) ≡ 1
  pub count : length list + r ≡ n
