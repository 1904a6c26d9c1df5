-- What a walk over the blocks finds in the bytes: blocks from a position to the end, or none.
use Rattle.std.specs.Prelude.{ℕ, ◌+◌, ◌≡◌, Bool, false, List, [], ◌∷◌, ◌++◌}
use Rattle.words.specs.Word.{word_at}
use Rattle.model.specs.Shape.{shape, start}
use Rattle.model.specs.Parts.{tag_of, far_tag_at, next_at, previous_at, first_free_at}
use Rattle.model.specs.Layout.{Block, free, used, use_size, ends, first_free}
use Rattle.model.specs.Sound.{AllAllowed, Apart}
use Rattle.model.specs.inner.Walks.{flag}
use Rattle.marking.specs.Uses.{use_kind, Headers, free_in}

-- blocks stand in the bytes from p on, with the links of the free ones; prev is the free block before
unfoldable pub Reads : ℕ → List ℕ → ℕ → ℕ → List Block → Type 0
Reads w b p prev [] = Unit {0}
Reads w b p prev (free s ∷ bs) =
    ((word_at w b p ≡ s)
    × (word_at w b (next_at (shape w) p) ≡ first_free (shape w) (p + s) bs 0)
    × (word_at w b (previous_at (shape w) p s) ≡ prev)
    × (word_at w b (far_tag_at (shape w) p s) ≡ s))
    × Reads w b (p + s) p bs
Reads w b p prev (used u ∷ bs) =
    ((word_at w b p ≡ tag_of (use_size (shape w) u) (use_kind u))
    × (word_at w b (far_tag_at (shape w) p (use_size (shape w) u)) ≡ tag_of (use_size (shape w) u) (use_kind u))
    × Headers w b p u)
    × Reads w b (p + use_size (shape w) u) prev bs

-- a walk that stands at p can go on to the end: touching says whether it came from a free block, and link is the position that the next free block must have
pub record Onward (w : ℕ) (b : List ℕ) (end p prev : ℕ) (touching : Bool) (link : ℕ) : Type 0 where
  pub rest : List Block
  pub reads : Reads w b p prev rest
  pub fills : ends (shape w) p rest ≡ end
  pub allowed : AllAllowed (shape w) rest
  pub apart : Apart (flag touching) rest
  pub links : first_free (shape w) p rest 0 ≡ link

-- the blocks of the whole data area: from its start, where no free block comes before, and the first one is named in the heap's header
abbrev pub Whole : ℕ → List ℕ → ℕ → Type 0
Whole w b end = Onward w b end (start (shape w)) 0 false (word_at w b (first_free_at (shape w)))

-- the offsets of the free items of every class, in blocks from p on
unfoldable pub free_items : ℕ → ℕ → List Block → List ℕ
free_items w p [] = []
free_items w p (free s ∷ bs) = free_items w (p + s) bs
free_items w p (used u ∷ bs) = free_in w p u ++ free_items w (p + use_size (shape w) u) bs
