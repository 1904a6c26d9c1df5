-- What telling a block by its words asks and tells.
use Rattle.std.specs.Prelude.{◌≡◌, ℕ, ◌+◌, ◌*◌, ◌^◌, ◌≤◌, ◌≢◌}
use Rattle.words.specs.Width.{Width}
use Rattle.model.specs.Shape.{shape, start}
use Rattle.model.specs.Parts.{kind_in, size_in}

-- the size, in eights of bytes, that the tag t says where it says this kind, or else more than any heap has
pub record SizeIf (t kind r : ℕ) : Type 0 where
  pub near : kind_in t ≡ kind → 8 * r ≡ size_in t
  pub far : (kind_in t ≢ kind) → 2 ^ 61 ≤ r

-- room in n bytes for a free block of size s at p, and for the link that names it
pub record FreeSpot (w n p s link : ℕ) : Type 0 where
  pub width : Width w
  pub low : start (shape w) ≤ p
  pub inside : p + s ≤ n
  pub linked : link + w ≤ n
