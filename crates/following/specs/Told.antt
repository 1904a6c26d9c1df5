-- What the count along one item list asks and tells: how many marks are left, or nothing where the heap is not sound.
use Rattle.std.specs.Prelude.{◌≡◌, ℕ, ◌^◌, ◌≤◌, List, length, ◌≢◌, Option, Some, None}
use Rattle.words.specs.Bits.{bit_at}
use Rattle.model.specs.Shape.{shape, end_of}
use Rattle.model.specs.Parts.{free_mark, class_and_flags, next_in}
use Rattle.marking.specs.Told.{Sizes, MapSize}
use Rattle.marking.specs.Maps.{NoMarks, offset_bit}
use Rattle.following.specs.Lists.{ListCounted}

-- the bit r of the item that the header x names, or, where x is not a free item's of class c, a number beyond every map
pub record NextBit (w x c r : ℕ) : Type 0 where
  pub near : class_and_flags (shape w) x ≡ free_mark c → r ≡ offset_bit w (next_in (shape w) x)
  pub far : (class_and_flags (shape w) x ≢ free_mark c) → 2 ^ 32 ≤ r

-- a heap and a map of its free items
pub record ListRoom (w : ℕ) (b m : List ℕ) : Type 0 where
  pub sizes : Sizes w b (end_of (length b))
  pub map : MapSize (length m)
  pub clear : NoMarks w m (end_of (length b))
  pub none : bit_at m 0 ≡ 0

-- the list of class c, which begins at o, with n to be counted
pub record ListTold (w : ℕ) (b : List ℕ) (end c o : ℕ) (m : List ℕ) (n : ℕ) (a : Option ℕ) : Type 0 where
  pub is_no : a ≡ None → (r : ℕ) → ListCounted w b end c o m n r → ⊥
  pub is_yes : (r : ℕ) → a ≡ Some r → ListCounted w b end c o m n r
