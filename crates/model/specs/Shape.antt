-- The numbers in which one console's heap differs from another's, and what follows from them. All else is the same for every shape.
use Rattle.std.specs.Prelude.{ℕ, ◌+◌, ◌-◌, ◌*◌, ◌/◌, Bool, cond, eqb}

pub record Shape : Type 0 where
  -- the bytes of a word
  pub word : ℕ
  -- how many classes of items there are; and how many of them, the lowest, are handed out: the others are closed
  pub classes : ℕ
  pub offered : ℕ
  -- the items of a page of each class
  pub per_page : ℕ → ℕ
  -- the longest heap, and the largest size that can be asked for
  pub most : ℕ
  -- the magic number, as its eight bytes make one word
  pub magic : ℕ
  -- whether a heap may end before its buffer does, and grow
  pub grows : Bool

-- the heap with words of w bytes: document 01's at 8, its upper classes closed, which may grow, and the hand unit's at 4, which ends with its buffer
abbrev pub shape : ℕ → Shape
shape w =
    record {
      word = w;
      classes = 4 * w;
      offered = 16;
      per_page = λ c. cond (eqb w 8) (4096 / (8 * c + 16) + 1) 2;
      most = cond (eqb w 8) 1048576 65536;
      magic = cond (eqb w 8) 0x01636f6c6c617978 0x02636f6c6c617978;
      grows = eqb w 8;
    }

-- document 01's heap, and the hand unit's
abbrev pub wide : Shape
wide = shape 8

abbrev pub hand : Shape
hand = shape 4

-- the same heap with every class handed out: the rule before any was closed
abbrev pub all_offered : Shape → Shape
all_offered S = record { word = S.word; classes = S.classes; offered = S.classes; per_page = S.per_page; most = S.most; magic = S.magic; grows = S.grows }

-- the furthest end of a heap in a buffer of n bytes: n rounded down to a multiple of 8; and n rounded up to one
abbrev pub end_of : ℕ → ℕ
end_of n = n / 8 * 8

abbrev pub up8 : ℕ → ℕ
up8 n = (n + 7) / 8 * 8

-- the class of a size
abbrev pub class_of : ℕ → ℕ
class_of n = (n - 1) / 8

module _ (S : Shape) where
  -- where the index page begins
  abbrev pub index : ℕ
  index = 8 + 5 * S.word

  -- the first byte of the data area: after the index page and its block's tags
  abbrev pub start : ℕ
  start = index + S.word * S.classes + S.word

  -- what a block's two tags take
  abbrev pub tags : ℕ
  tags = 2 * S.word

  -- the least free block, and the least remainder that stays free
  abbrev pub least_free : ℕ
  least_free = 4 * S.word

  -- the shortest heap: room for one free block
  abbrev pub shortest : ℕ
  shortest = start + least_free

  -- the least end of a heap, in a buffer whose furthest is E
  abbrev pub least_end : ℕ → ℕ
  least_end E = cond S.grows shortest E

  -- the largest payload of an item that is handed out: a size above it has a block of its own
  abbrev pub largest_item : ℕ
  largest_item = 8 * S.offered

  -- what a block for a size needs, and the least of these
  abbrev pub need_of : ℕ → ℕ
  need_of n = up8 n + tags

  abbrev pub least_variable : ℕ
  least_variable = largest_item + 8 + tags

  -- what an item of class c takes, with its header word; what it holds; and what a page of them needs
  abbrev pub item_size : ℕ → ℕ
  item_size c = 8 * c + 8 + S.word

  abbrev pub item_capacity : ℕ → ℕ
  item_capacity c = 8 * c + 8

  -- how many of its bytes are shown where n were asked for: all where n is 0, not known
  abbrev pub item_shown : ℕ → ℕ → ℕ
  item_shown c n = cond (eqb n 0) (item_capacity c) n

  -- what a variable block of size s holds
  abbrev pub block_capacity : ℕ → ℕ
  block_capacity s = s - tags

  abbrev pub page_need : ℕ → ℕ
  page_need c = tags + S.per_page c * item_size c

  -- three ways of counting a place: the address of the payload behind the tag or header at position p, and back
  abbrev pub address_of : ℕ → ℕ
  address_of p = p + S.word

  abbrev pub position_of : ℕ → ℕ
  position_of a = a - S.word

  -- the item offset of the item whose header is at position p, and back
  abbrev pub offset_of : ℕ → ℕ
  offset_of p = p - index

  abbrev pub item_at : ℕ → ℕ
  item_at o = index + o
