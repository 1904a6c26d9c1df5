-- The words of a fresh heap, in three parts.
use Rattle.std.specs.Prelude.{ℕ, ◌-◌, ◌≤◌, List, [], ◌∷◌}
use Rattle.words.specs.Width.{Width}
use Rattle.model.specs.Shape.{shape, index, start, shortest}
use Rattle.model.specs.Parts.{data_at, index_at, first_free_at, end_at, index_tag, index_tag_at, index_far_tag_at}
use Rattle.model.specs.Picture.{Word}
use Rattle.links.specs.Links.{free_words}

module _ (w : ℕ) where
  -- before the index page's heads
  unfoldable pub before_heads : ℕ → List Word
  before_heads end =
      record { at = data_at (shape w); is = start (shape w) }
      ∷ record { at = index_at (shape w); is = index (shape w) }
      ∷ record { at = first_free_at (shape w); is = start (shape w) }
      ∷ record { at = end_at (shape w); is = end }
      ∷ record { at = index_tag_at (shape w); is = index_tag (shape w) }
      ∷ []

  -- and after them: the index page's far tag, and the one free block
  unfoldable pub after_heads : ℕ → List Word
  after_heads end = record { at = index_far_tag_at (shape w); is = index_tag (shape w) } ∷ free_words w (start (shape w)) (end - start (shape w)) 0 0

  -- the end is within the bytes, behind the least free block
  pub record EndRoom (bytes end : ℕ) : Type 0 where
    pub width : Width w
    pub least : shortest (shape w) ≤ end
    pub inside : end ≤ bytes
