-- A heap's layout: which blocks it has, in rising order, which items of its pages are in use, and in which order each class's free items are listed.
-- `words` is the picture of a layout: every word that a heap of that layout must hold, in rising order. All other bytes may be anything.
use Rattle.std.specs.Prelude.{ℕ, ◌+◌, ◌*◌, cond, List, [], ◌∷◌, ◌++◌, length, get_or, eqb}
use Rattle.model.specs.Picture.{Word}
use Rattle.model.specs.Shape.{Shape, start, index, tags, item_size, offset_of}
use Rattle.model.specs.Parts.{variable_kind, page_kind, tag_of, free_header, held_header, data_at, index_at, first_free_at, end_at, index_tag, index_tag_at, index_far_tag_at, far_tag_at, next_at, previous_at, first_item_at}

-- an item of a page: free, or in use, with the size that was asked for, 0 where that is not known
pub data Slot : Type 0 where
  idle : Slot
  held : ℕ → Slot

-- a block in use: a variable block, with its whole size; or a page, with its class, the unused bytes after its items, and its items
pub data Use : Type 0 where
  variable : ℕ → Use
  page : ℕ → ℕ → List Slot → Use

-- a block: free, with its whole size; or in use
pub data Block : Type 0 where
  free : ℕ → Block
  used : Use → Block

-- the blocks from the data area's start to the end, and for each class the offsets of its free items in the order of its list
pub record Layout : Type 0 where
  pub blocks : List Block
  pub lists : List (List ℕ)

-- the first of a list of offsets, or 0
unfoldable pub head_of : List ℕ → ℕ
head_of [] = 0
head_of (o ∷ os) = o

-- the offset that comes after o in a list, or 0
unfoldable pub next_of : ℕ → List ℕ → ℕ
unfolding head_of
next_of o [] = 0
next_of o (x ∷ xs) = cond (eqb o x) (head_of xs) (next_of o xs)

-- one number for a free block, another for any other
abbrev pub if_free : Block → ℕ → ℕ → ℕ
if_free (free s) x y = x
if_free (used u) x y = y

module _ (S : Shape) where
  -- a block's whole size
  unfoldable pub use_size : Use → ℕ
  use_size (variable s) = s
  use_size (page c spare slots) = tags S + length slots * item_size S c + spare

  unfoldable pub size_of : Block → ℕ
  size_of (free s) = s
  size_of (used u) = use_size u

  -- where blocks that begin at p end
  unfoldable pub ends : ℕ → List Block → ℕ
  ends p [] = p
  ends p (b ∷ bs) = ends (p + size_of b) bs

  -- where a layout's blocks end
  abbrev pub end_in : Layout → ℕ
  end_in L = ends (start S) L.blocks

  -- the position of the first free block among blocks that begin at p, or else what is given
  unfoldable pub first_free : ℕ → List Block → ℕ → ℕ
  first_free p [] d = d
  first_free p (b ∷ bs) d = if_free b p (first_free (p + size_of b) bs d)

  -- the header of the item at p, of class c, whose free items are listed in l
  unfoldable pub header : ℕ → List ℕ → ℕ → Slot → ℕ
  header c l p idle = free_header c (next_of (offset_of S p) l)
  header c l p (held n) = held_header c n

  -- the headers of a page's items from position p on
  unfoldable pub slot_words : ℕ → List ℕ → ℕ → List Slot → List Word
  slot_words c l p [] = []
  slot_words c l p (s ∷ ss) = record { at = p; is = header c l p s } ∷ slot_words c l (p + item_size S c) ss

  -- the words of a block in use that begins at p
  unfoldable pub use_words : List (List ℕ) → ℕ → Use → List Word
  use_words ls p (variable s) = record { at = p; is = tag_of s variable_kind } ∷ record { at = far_tag_at S p s; is = tag_of s variable_kind } ∷ []
  use_words ls p (page c k slots) =
      record { at = p; is = tag_of (use_size (page c k slots)) page_kind }
      ∷ slot_words c (get_or ls c []) (first_item_at S p) slots
      ++ record { at = far_tag_at S p (use_size (page c k slots)); is = tag_of (use_size (page c k slots)) page_kind }
      ∷ []

  -- a block's own words, where it begins at p, the free block before it stands at prev and the one after it at next, 0 where there is none
  unfoldable pub own : List (List ℕ) → ℕ → ℕ → ℕ → Block → List Word
  own ls p prev next (free s) =
      record { at = p; is = s }
      ∷ record { at = next_at S p; is = next }
      ∷ record { at = previous_at S p s; is = prev }
      ∷ record { at = far_tag_at S p s; is = s }
      ∷ []
  own ls p prev next (used u) = use_words ls p u

  -- the words of blocks that begin at p
  unfoldable pub block_words : List (List ℕ) → ℕ → ℕ → ℕ → List Block → List Word
  block_words ls p prev next [] = []
  block_words ls p prev next (b ∷ bs) =
      own ls p prev (first_free (p + size_of b) bs next) b ++ block_words ls (p + size_of b) (if_free b p prev) next bs

  -- the heads of the classes' lists, in the index page from position p on
  unfoldable pub head_words : ℕ → List (List ℕ) → List Word
  head_words p [] = []
  head_words p (l ∷ ls) = record { at = p; is = head_of l } ∷ head_words (p + S.word) ls

  -- the words before the first free block's, and between that and the blocks
  unfoldable pub fixed_low : List Word
  fixed_low = record { at = data_at S; is = start S } ∷ record { at = index_at S; is = index S } ∷ []

  unfoldable pub fixed_high : ℕ → List (List ℕ) → List Word
  fixed_high end ls =
      record { at = end_at S; is = end }
      ∷ record { at = index_tag_at S; is = index_tag S }
      ∷ head_words (index S) ls
      ++ record { at = index_far_tag_at S; is = index_tag S }
      ∷ []

  -- every word that a heap with this layout and this end must hold, but the magic number
  unfoldable pub words : ℕ → Layout → List Word
  words end L =
      fixed_low
      ++ record { at = first_free_at S; is = first_free (start S) L.blocks 0 }
      ∷ (fixed_high end L.lists ++ block_words L.lists (start S) 0 0 L.blocks)
