-- The parts of a heap by name: where each stands, and what its word says. The code has a function for each, of the same name.
use Rattle.std.specs.Prelude.{ℕ, ◌+◌, ◌-◌, ◌*◌, ◌/◌, ◌%◌}
use Rattle.model.specs.Shape.{Shape, index, start, tags}

-- how many bytes the magic number has, at the start of a heap of any shape
abbrev pub magic_bytes : ℕ
magic_bytes = 8

-- what a block is: free, variable, or a page
abbrev pub free_kind : ℕ
free_kind = 0

abbrev pub variable_kind : ℕ
variable_kind = 2

abbrev pub page_kind : ℕ
page_kind = 3

-- a tag is a block's whole size plus its kind, so a free block's is its size; what a tag says
abbrev pub tag_of : ℕ → ℕ → ℕ
tag_of s kind = s + kind

abbrev pub size_in : ℕ → ℕ
size_in t = t / 8 * 8

abbrev pub kind_in : ℕ → ℕ
kind_in t = t % 8

-- what the flags of an item's header say: it is free, or in use
abbrev pub free_flags : ℕ
free_flags = 1

abbrev pub held_flags : ℕ
held_flags = 3

-- an item's header is 4 times its class, its flags, and above them: of a free item 16 times the offset of the next one; of one in use 128 times the size n that was asked for, 0 where that is not known
abbrev pub free_header : ℕ → ℕ → ℕ
free_header c next = 16 * next + 4 * c + free_flags

abbrev pub held_header : ℕ → ℕ → ℕ
held_header c n = 128 * n + 4 * c + held_flags

-- class and flags of a free item's header, whatever its next
abbrev pub free_mark : ℕ → ℕ
free_mark c = 4 * c + free_flags

-- what any header says: its flags, and 1 where they are those of an item in use, 0 of a free one; and what one of an item in use says: the size that was asked for
abbrev pub flags_in : ℕ → ℕ
flags_in x = x % 4

abbrev pub used_in : ℕ → ℕ
used_in x = flags_in x / 2

abbrev pub asked_in : ℕ → ℕ
asked_in x = x / 128

module _ (S : Shape) where
  -- what a header says: its class and its flags in one, its class, and the offset of the next free item, a multiple of a word
  abbrev pub class_and_flags : ℕ → ℕ
  class_and_flags x = x % (16 * S.word)

  abbrev pub class_in : ℕ → ℕ
  class_in x = class_and_flags x / 4

  abbrev pub next_in : ℕ → ℕ
  next_in x = x / (16 * S.word) * S.word

  -- the heap's header: where it names the data area, the index page, the first free block and the end
  abbrev pub data_at : ℕ
  data_at = 8

  abbrev pub index_at : ℕ
  index_at = 8 + S.word

  abbrev pub first_free_at : ℕ
  first_free_at = 8 + 2 * S.word

  abbrev pub end_at : ℕ
  end_at = 8 + 3 * S.word

  -- the tag of the index page's block, and where it stands before and behind that page
  abbrev pub index_tag : ℕ
  index_tag = S.word * S.classes + tags S + page_kind

  abbrev pub index_tag_at : ℕ
  index_tag_at = 8 + 4 * S.word

  abbrev pub index_far_tag_at : ℕ
  index_far_tag_at = start S - S.word

  -- where the list of class c begins, in the index page
  abbrev pub head_at : ℕ → ℕ
  head_at c = index S + S.word * c

  -- of a block of size s at p: where its far tag stands; and, of a free one, its links to the next and to the previous free block; and, of a page, its first item
  abbrev pub far_tag_at : ℕ → ℕ → ℕ
  far_tag_at p s = p + s - S.word

  abbrev pub next_at : ℕ → ℕ
  next_at p = p + S.word

  abbrev pub previous_at : ℕ → ℕ → ℕ
  previous_at p s = p + s - 2 * S.word

  abbrev pub first_item_at : ℕ → ℕ
  first_item_at p = p + S.word
