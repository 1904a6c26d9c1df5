-- What a sound heap is, and a buffer with one.
use Rattle.std.specs.Prelude.{ℕ, ◌+◌, ◌%◌, ◌≤◌, ◌<◌, cond, ◌≡◌, ◌⊎◌, List, [], ◌∷◌, ◌++◌, length, get_or, take, eqb}
use Rattle.words.specs.Word.{word_at}
use Rattle.model.specs.Picture.{Shows}
use Rattle.model.specs.Shape.{Shape, start, least_free, least_end, least_variable, class_of, item_size, offset_of, end_of}
use Rattle.model.specs.Parts.{magic_bytes, end_at, first_item_at}
use Rattle.model.specs.Layout.{Slot, idle, held, Use, variable, page, Block, free, used, Layout, if_free, size_of, ends, words}

-- how often o stands in a list
unfoldable pub times : ℕ → List ℕ → ℕ
times o [] = 0
times o (x ∷ xs) = cond (eqb o x) 1 0 + times o xs

-- no two free blocks touch, among blocks after one that is free (1) or not (0)
unfoldable pub Apart : ℕ → List Block → Type 0
Apart d [] = Unit {0}
Apart d (b ∷ bs) = (d + if_free b 1 0 ≤ 1) × Apart (if_free b 1 0) bs

-- of an item of class c: the size that was asked for is not known, or is one of that class; and so of all of a page's items
unfoldable pub Within : ℕ → Slot → Type 0
Within c idle = Unit {0}
Within c (held n) = (n ≡ 0) ⊎ (class_of n ≡ c)

unfoldable pub AllWithin : ℕ → List Slot → Type 0
AllWithin c [] = Unit {0}
AllWithin c (s ∷ ss) = Within c s × AllWithin c ss

module _ (S : Shape) where
  -- sizes and kinds are as allowed
  unfoldable pub AllowedUse : Use → Type 0
  AllowedUse (variable s) = (least_variable S ≤ s) × (s % 8 ≡ 0)
  AllowedUse (page c spare slots) = (c < S.classes) × (length slots ≡ S.per_page c) × (spare < least_free S) × (spare % 8 ≡ 0) × AllWithin c slots

  unfoldable pub Allowed : Block → Type 0
  Allowed (free s) = (least_free S ≤ s) × (s % 8 ≡ 0)
  Allowed (used u) = AllowedUse u

  unfoldable pub AllAllowed : List Block → Type 0
  AllAllowed [] = Unit {0}
  AllAllowed (b ∷ bs) = Allowed b × AllAllowed bs

  -- the offsets of the free items, rising, of a page's items from position p on
  unfoldable pub idle_slots : ℕ → ℕ → List Slot → List ℕ
  idle_slots c p [] = []
  idle_slots c p (idle ∷ ss) = offset_of S p ∷ idle_slots c (p + item_size S c) ss
  idle_slots c p (held n ∷ ss) = idle_slots c (p + item_size S c) ss

  -- the offsets of the free items of class c in a block at p, and in blocks from p on
  unfoldable pub idle_in : ℕ → ℕ → Block → List ℕ
  idle_in c p (free s) = []
  idle_in c p (used (variable s)) = []
  idle_in c p (used (page d k ss)) = cond (eqb c d) (idle_slots d (first_item_at S p) ss) []

  unfoldable pub idle_items : ℕ → ℕ → List Block → List ℕ
  idle_items c p [] = []
  idle_items c p (b ∷ bs) = idle_in c p b ++ idle_items c (p + size_of S b) bs

  -- a layout that a heap with this end may have
  pub record Valid (end : ℕ) (L : Layout) : Type 0 where
    pub fills : ends S (start S) L.blocks ≡ end
    pub allowed : AllAllowed L.blocks
    pub apart : Apart 0 L.blocks
    pub classes : length L.lists ≡ S.classes
    -- each class's list visits every free item of that class once and nothing else
    pub listed : (c o : ℕ) → c < S.classes → times o (get_or L.lists c []) ≡ times o (idle_items c (start S) L.blocks)

  -- bytes have a layout: the magic number, and every word of the picture
  pub record Here (b : List ℕ) (L : Layout) : Type 0 where
    pub magic : word_at magic_bytes b 0 ≡ S.magic
    pub valid : Valid (end_of (length b)) L
    pub shown : Shows S.word b (words S (end_of (length b)) L)

  -- a sound heap
  pub record Sound (b : List ℕ) : Type 0 where
    pub layout : Layout
    pub here : Here b layout

  -- an end that a heap in a buffer of n bytes may have
  abbrev pub MayEnd : ℕ → ℕ → Type 0
  MayEnd n e = (least_end S (end_of n) ≤ e) × (e ≤ end_of n) × (e % 8 ≡ 0)

  -- the heap in a buffer: its bytes up to the end that it names
  abbrev pub stored_end : List ℕ → ℕ
  stored_end b = word_at S.word b (end_at S)

  abbrev pub heap_of : List ℕ → List ℕ
  heap_of b = take (stored_end b) b

  -- a heap with layout L stands in a buffer; and a sound heap does
  pub record HereIn (b : List ℕ) (L : Layout) : Type 0 where
    pub ended : MayEnd (length b) (stored_end b)
    pub here : Here (heap_of b) L

  pub record SoundIn (b : List ℕ) : Type 0 where
    pub layout : Layout
    pub here : HereIn b layout
