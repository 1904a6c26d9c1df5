-- What linking the lists anew asks and promises.
use Rattle.std.specs.Prelude.{ℕ, ◌+◌, ◌*◌, ◌/◌, ◌%◌, ◌^◌, ◌≤◌, ◌<◌, ◌≡◌, cond, List, [], ◌∷◌, ◌++◌, length, get_or, set, eqb, Some, None}
use Rattle.std.specs.declared.option.Option.{Option}
use Rattle.words.specs.Width.{Width}
use Rattle.words.specs.Word.{word_at}
use Rattle.model.specs.Shape.{Shape, shape, start, end_of}
use Rattle.model.specs.Parts.{first_item_at, head_at}
use Rattle.model.specs.Layout.{Slot, variable, page, Block, free, used, Layout, size_of}
use Rattle.model.specs.Sound.{idle_slots}
use Rattle.model.specs.Reading.{held_in}
use Rattle.model.specs.Calls.{drawn}
use Rattle.model.specs.Sweeping.{idle_with, relinked, linked_anew}
use Rattle.model.specs.inner.Laid.{Laid, Linkable}
use Rattle.model.specs.inner.Pages.{least_page}
use Rattle.model.specs.inner.Walks.{Passed}

-- a page has fewer live items than this
abbrev pub live_room : ℕ
live_room = 2 ^ 32

-- an entry of the table of pages, a page's position and its live items in one number; and what an entry says
abbrev pub entry_of : ℕ → ℕ → ℕ
entry_of p n = p * live_room + n

abbrev pub page_in : ℕ → ℕ
page_in e = e / live_room

abbrev pub live_in : ℕ → ℕ
live_in e = e % live_room

-- a table of n entries has room for the pages of so many bytes
abbrev pub Roomy : ℕ → ℕ → ℕ → Type 0
Roomy w bytes n = bytes ≤ n * least_page w

-- a page: where it stands, and its items
pub record Leaf : Type 0 where
  pub at : ℕ
  pub slots : List Slot

-- the entries of pages
unfoldable pub entries : List Leaf → List ℕ
entries [] = []
entries (x ∷ xs) = entry_of x.at (held_in x.slots) ∷ entries xs

module _ (S : Shape) where
  -- the page of class c that a block at p is, if it is one; and those of blocks from p on, rising
  unfoldable pub leaf : ℕ → ℕ → Block → List Leaf
  leaf c p (free s) = []
  leaf c p (used (variable s)) = []
  leaf c p (used (page d k ss)) = cond (eqb c d) (record { at = p; slots = ss } ∷ []) []

  unfoldable pub leaves : ℕ → ℕ → List Block → List Leaf
  leaves c p [] = []
  leaves c p (b ∷ bs) = leaf c p b ++ leaves c (p + size_of S b) bs

-- a page of class c with the items ss stands at p
pub record PageThere (w : ℕ) (L : Layout) (p c : ℕ) (ss : List Slot) : Type 0 where
  pub pre : List Block
  pub spare : ℕ
  pub post : List Block
  pub passed : Passed w L p pre (used (page c spare ss) ∷ post)

-- the layout whose list of class c is l, and the one whose list of class c has xs in front
abbrev pub listing : ℕ → List ℕ → Layout → Layout
listing c l L = record { blocks = L.blocks; lists = set L.lists c l }

abbrev pub in_front : ℕ → List ℕ → Layout → Layout
in_front c xs L = listing c (xs ++ get_or L.lists c []) L

-- bytes d have the layout M, and are b with M drawn
pub record Became (w : ℕ) (b : List ℕ) (M : Layout) (d : List ℕ) : Type 0 where
  pub laid : Laid w d M
  pub is : d ≡ drawn (shape w) M b

-- a heap that is laid out and no longer than it may be
pub record Ready (w : ℕ) (b : List ℕ) : Type 0 where
  pub width : Width w
  pub layout : Layout
  pub laid : Laid w b layout
  pub short : length b ≤ (shape w).most

-- a page of class c stands at p in it
pub record PageReady (w : ℕ) (b : List ℕ) (p c : ℕ) : Type 0 where
  pub width : Width w
  pub layout : Layout
  pub laid : Laid w b layout
  pub short : length b ≤ (shape w).most
  pub slots : List Slot
  pub there : PageThere w layout p c slots

-- its free items are in front of their list
pub record PagePushed (w : ℕ) (b : List ℕ) (p c : ℕ) (d : List ℕ) : Type 0 where
  pub is : (L : Layout) (ss : List Slot) → Laid w b L → PageThere w L p c ss → Became w b (in_front c (idle_slots (shape w) c (first_item_at (shape w) p) ss) L) d

-- a walk over the blocks stands at p, where the word is t
pub record AtBlock (w : ℕ) (b : List ℕ) (p t : ℕ) : Type 0 where
  pub width : Width w
  pub layout : Layout
  pub laid : Laid w b layout
  pub short : length b ≤ (shape w).most
  pub pre : List Block
  pub rest : List Block
  pub passed : Passed w layout p pre rest
  pub inside : p < end_of (length b)
  pub tag : t ≡ word_at w b p

-- r is the entry of the page of class c that the block there is, or none
abbrev pub unless_none : Option ℕ → List ℕ
unless_none None = []
unless_none (Some e) = e ∷ []

pub record EntryTold (w : ℕ) (b : List ℕ) (p c : ℕ) (r : Option ℕ) : Type 0 where
  pub is : (L : Layout) (pre after : List Block) (x : Block) → Laid w b L → Passed w L p pre (x ∷ after) → entries (leaf (shape w) c p x) ≡ unless_none r

-- the table has the entries of the pages of class c
pub record Gathered (w c : ℕ) (L : Layout) (table : List ℕ) : Type 0 where
  pub are : table ≡ entries (leaves (shape w) c (start (shape w)) L.blocks)

-- so it is of a heap that is laid out
pub record LevelReady (w : ℕ) (b : List ℕ) (c : ℕ) (table : List ℕ) : Type 0 where
  pub width : Width w
  pub layout : Layout
  pub laid : Laid w b layout
  pub short : length b ≤ (shape w).most
  pub class : c < (shape w).classes
  pub gathered : Gathered w c layout table

-- r is the least number of live items from k on and below most that a page of the table has; most where none has
pub record NextLevel (table : List ℕ) (k most r : ℕ) : Type 0 where
  pub from : k ≤ r
  pub to : r ≤ most
  pub none : (j : ℕ) → j < length table → k ≤ live_in (get_or table j 0) → r ≤ live_in (get_or table j 0)

-- the free items of its pages with k live items are in front of their list
pub record LevelPushed (w : ℕ) (b : List ℕ) (c : ℕ) (table : List ℕ) (k : ℕ) (d : List ℕ) : Type 0 where
  pub is : (L : Layout) → Laid w b L → Gathered w c L table → Became w b (in_front c (idle_with (shape w) k c (start (shape w)) L.blocks) L) d

-- those of all its pages are, in the order of a list that is linked anew
pub record LevelsPushed (w : ℕ) (b : List ℕ) (c : ℕ) (table : List ℕ) (d : List ℕ) : Type 0 where
  pub is : (L : Layout) → Laid w b L → Gathered w c L table → Became w b (in_front c (relinked (shape w) ((shape w).per_page c) c L.blocks) L) d

-- a heap that is laid out, and a class
pub record ClassReady (w : ℕ) (b : List ℕ) (c : ℕ) : Type 0 where
  pub width : Width w
  pub layout : Layout
  pub laid : Laid w b layout
  pub short : length b ≤ (shape w).most
  pub class : c < (shape w).classes

-- the list of class c is linked anew
pub record ClassLinked (w : ℕ) (b : List ℕ) (c : ℕ) (d : List ℕ) : Type 0 where
  pub is : (L : Layout) → Laid w b L → Became w b (listing c (relinked (shape w) ((shape w).per_page c) c L.blocks) L) d

-- a heap whose lists may be linked anew
pub record LinkReady (w : ℕ) (b : List ℕ) : Type 0 where
  pub width : Width w
  pub layout : Layout
  pub linkable : Linkable w b layout
  pub short : length b ≤ (shape w).most

-- the lists of the classes below c are empty
pub record EmptyBelow (w : ℕ) (b : List ℕ) (c : ℕ) : Type 0 where
  pub few : c ≤ (shape w).classes
  pub heads : (d : ℕ) → d < c → word_at w b (head_at (shape w) d) ≡ 0

-- all lists are linked anew
pub record Linked (w : ℕ) (b d : List ℕ) : Type 0 where
  pub is : (L : Layout) → Linkable w b L → d ≡ drawn (shape w) (linked_anew (shape w) L) b
