-- The map of free items: it has a bit for each word from the index page on, the mark of the item whose header stands there.
use Rattle.std.specs.Prelude.{◌≡◌, ℕ, ◌+◌, ◌*◌, ◌/◌, ◌≤◌, List, length}
use Rattle.words.specs.Bits.{bit_at}
use Rattle.model.specs.Shape.{shape, item_at}
use Rattle.model.specs.Sound.{times}

-- the bit of the item with offset o; the offset that bit j stands for, and the position of the item there; bit 0 is that of offset 0, which names no item
abbrev pub offset_bit : ℕ → ℕ → ℕ
offset_bit w o = o / w

abbrev pub offset_at_bit : ℕ → ℕ → ℕ
offset_at_bit w j = w * j

abbrev pub at_bit : ℕ → ℕ → ℕ
at_bit w j = item_at (shape w) (offset_at_bit w j)

-- where the words end that a map of n words of 64 bits has bits for; and the words of a small, a middle and a large map
abbrev pub map_end : ℕ → ℕ → ℕ
map_end w n = at_bit w (64 * n)

abbrev pub small_map : ℕ
small_map = 32

abbrev pub middle_map : ℕ
middle_map = 256

abbrev pub large_map : ℕ
large_map = 2048

-- m' is m with a mark more for each item offset of l
pub record Adds (w : ℕ) (m m' l : List ℕ) : Type 0 where
  pub at : (j : ℕ) → bit_at m' j ≡ bit_at m j + times (offset_at_bit w j) l

-- there are n marks
pub record Marked (m : List ℕ) (n : ℕ) : Type 0 where
  pub list : List ℕ
  pub marks : (j : ℕ) → bit_at m j ≡ times j list
  pub count : length list ≡ n

-- there is no mark from position p on
pub record NoMarks (w : ℕ) (m : List ℕ) (p : ℕ) : Type 0 where
  pub from : (j : ℕ) → p ≤ at_bit w j → bit_at m j ≡ 0
