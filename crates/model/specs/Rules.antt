-- Document 01's rules, on layouts.
use Rattle.std.specs.Prelude.{ℕ, ◌+◌, ◌-◌, cond, List, [], ◌∷◌, ◌++◌, get_or, set, replicate, eqb, leb}
use Rattle.std.proofs.Math.Option.{Option, none, some}
use Rattle.model.specs.Shape.{Shape, start, least_free, largest_item, item_size, item_capacity, item_shown, block_capacity, class_of, need_of, page_need, address_of, offset_of, item_at}
use Rattle.model.specs.Parts.{first_item_at}
use Rattle.model.specs.Layout.{Slot, idle, held, Use, variable, page, Block, free, used, Layout, use_size, ends, end_in}
use Rattle.model.specs.Sound.{idle_slots}

-- a block among others: the blocks before it, its size, and the blocks after it
pub record Spot : Type 0 where
  pub pre : List Block
  pub size : ℕ
  pub post : List Block

abbrev pub after : Block → Option Spot → Option Spot
after b none = none
after b (some t) = some (record { pre = b ∷ t.pre; size = t.size; post = t.post })

-- the lowest free block of size at least need
unfoldable pub fit : ℕ → List Block → Option Spot
fit need [] = none
fit need (free s ∷ bs) =
    let later = after (free s) (fit need bs) in
    cond (leb need s) (some (record { pre = []; size = s; post = bs })) later
fit need (used u ∷ bs) = after (used u) (fit need bs)

-- blocks with a block in front, joined to the first of them where both are free
unfoldable pub before : Block → List Block → List Block
before (free s) [] = free s ∷ []
before (free s) (free t ∷ bs) = free (s + t) ∷ bs
before (free s) (used u ∷ bs) = free s ∷ used u ∷ bs
before (used u) bs = used u ∷ bs

unfoldable pub in_front : List Block → List Block → List Block
in_front [] bs = bs
in_front (b ∷ pre) bs = before b (in_front pre bs)

-- Free a block: it joins a free neighbour on either side
abbrev pub released : Spot → List Block
released t = in_front t.pre (before (free t.size) t.post)

-- what stands at an address: a variable block; or an item in use, with its offset, its class and the size that was asked for
pub data Found : Type 0 where
  block : Spot → Found
  thing : ℕ → ℕ → ℕ → Found
  nothing : Found

abbrev pub behind : Block → Found → Found
behind b (block t) = block (record { pre = b ∷ t.pre; size = t.size; post = t.post })
behind b (thing o c n) = thing o c n
behind b nothing = nothing

abbrev pub or_else : Found → Found → Found
or_else (block t) g = block t
or_else (thing o c n) g = thing o c n
or_else nothing g = g

-- an address, and the layout that a rule leaves
pub record Made : Type 0 where
  pub at : ℕ
  pub layout : Layout

-- blocks with a free one of exactly need at their end: a last one that is free enlarged, or else one added
unfoldable pub extended : ℕ → List Block → List Block
extended need [] = free need ∷ []
extended need (free s ∷ []) = free need ∷ []
extended need (free s ∷ b ∷ bs) = free s ∷ extended need (b ∷ bs)
extended need (used u ∷ bs) = used u ∷ extended need bs

module _ (S : Shape) where
  -- Block of payload size p, with need = p + tags: `make` makes it from its size. The low end is used and the rest stays free, or the whole where the rest is too small
  unfoldable pub cut : ℕ → (ℕ → Block) → ℕ → List Block → List Block
  cut need make s bs = cond (leb (need + least_free S) s) (make need ∷ free (s - need) ∷ bs) (make s ∷ bs)

  abbrev pub placed : ℕ → (ℕ → Block) → Spot → List Block
  placed need make t = t.pre ++ cut need make t.size t.post

  -- where a spot's block begins
  abbrev pub spot_at : Spot → ℕ
  spot_at t = ends S (start S) t.pre

  -- a block of size s as a variable block, and as a page of class c with all its items free
  abbrev pub as_variable : ℕ → Block
  as_variable s = used (variable s)

  abbrev pub as_page : ℕ → ℕ → Block
  as_page c s = used (page c (s - page_need S c) (replicate (S.per_page c) idle))

  -- the item whose header stands at q becomes s: among a page's items from p on, in a block in use at p, in blocks from p on
  unfoldable pub slot_to : Slot → ℕ → ℕ → ℕ → List Slot → List Slot
  slot_to s c q p [] = []
  slot_to s c q p (x ∷ xs) = cond (eqb q p) s x ∷ slot_to s c q (p + item_size S c) xs

  unfoldable pub use_to : Slot → ℕ → ℕ → Use → Use
  use_to s q p (variable t) = variable t
  use_to s q p (page c k ss) = page c k (slot_to s c q (first_item_at S p) ss)

  unfoldable pub item_to : Slot → ℕ → ℕ → List Block → List Block
  item_to s q p [] = []
  item_to s q p (free t ∷ bs) = free t ∷ item_to s q (p + t) bs
  item_to s q p (used u ∷ bs) = used (use_to s q p u) ∷ item_to s q (p + use_size S u) bs

  -- the first item on the list of class c is taken for n bytes, and the rest of the list stays; an item goes to the head of its list
  abbrev pub popped : ℕ → ℕ → ℕ → List ℕ → Layout → Layout
  popped n c o os L = record { blocks = item_to (held n) (item_at S o) (start S) L.blocks; lists = set L.lists c os }

  abbrev pub pushed : ℕ → ℕ → Layout → Layout
  pushed c o L = record { blocks = item_to idle (item_at S o) (start S) L.blocks; lists = set L.lists c (o ∷ get_or L.lists c []) }

  -- a page of class c is made where it fits, its items linked in rising order
  abbrev pub paged : ℕ → Spot → Layout → Layout
  paged c t L = record { blocks = placed (page_need S c) (as_page c) t; lists = set L.lists c (idle_slots S c (first_item_at S (spot_at t)) (replicate (S.per_page c) idle)) }

  -- an item of class c from its list, for n bytes
  unfoldable pub from_list : ℕ → ℕ → Layout → List ℕ → Option Made
  from_list n c L [] = none
  from_list n c L (o ∷ os) = some (record { at = address_of S (item_at S o); layout = popped n c o os L })

  -- an item of a new page of class c
  unfoldable pub from_page : ℕ → ℕ → Layout → Option Spot → Option Made
  from_page n c L none = none
  from_page n c L (some t) = from_list n c (paged c t L) (get_or (paged c t L).lists c [])

  -- a page is made only on an empty list
  unfoldable pub an_item : ℕ → ℕ → Layout → List ℕ → Option Made
  an_item n c L [] = from_page n c L (fit (page_need S c) L.blocks)
  an_item n c L (o ∷ os) = from_list n c L (o ∷ os)

  -- a variable block
  unfoldable pub a_block : ℕ → Layout → Option Spot → Option Made
  a_block need L none = none
  a_block need L (some t) = some (record { at = address_of S (spot_at t); layout = record { blocks = placed need as_variable t; lists = L.lists } })

  -- Allocate n
  unfoldable pub allocate : ℕ → Layout → Option Made
  allocate n L =
      let small = an_item n (class_of n) L (get_or L.lists (class_of n) []) in
      let large = a_block (need_of S n) L (fit (need_of S n) L.blocks) in
      cond (leb n (largest_item S)) small large

  -- the block that n bytes want where no free item will do: a page, or one of their own
  abbrev pub wanted : ℕ → ℕ
  wanted n = cond (leb n (largest_item S)) (page_need S (class_of n)) (need_of S n)

  -- the layout that a heap grows to for n bytes
  abbrev pub longer : ℕ → Layout → Layout
  longer n L = record { blocks = extended (wanted n) L.blocks; lists = L.lists }

  abbrev pub unless_found : Option Made → Option Layout → Option Layout
  unless_found (some m) grown = none
  unless_found none grown = grown

  -- Grow for n bytes, in a buffer whose furthest end is E: where the allocation finds nothing, and unless the new end would pass E
  unfoldable pub growth : ℕ → ℕ → Layout → Option Layout
  growth E n L = unless_found (allocate n L) (cond (leb (end_in S (longer n L)) E) (some (longer n L)) none)

  -- what is live at address a
  unfoldable pub in_slots : ℕ → ℕ → ℕ → List Slot → Found
  in_slots a c p [] = nothing
  in_slots a c p (idle ∷ ss) = in_slots a c (p + item_size S c) ss
  in_slots a c p (held n ∷ ss) =
      let later = in_slots a c (p + item_size S c) ss in
      cond (eqb a (address_of S p)) (thing (offset_of S p) c n) later

  unfoldable pub find_from : ℕ → ℕ → List Block → Found
  find_from a p [] = nothing
  find_from a p (free s ∷ bs) = behind (free s) (find_from a (p + s) bs)
  find_from a p (used (variable s) ∷ bs) =
      let later = behind (used (variable s)) (find_from a (p + s) bs) in
      cond (eqb a (address_of S p)) (block (record { pre = []; size = s; post = bs })) later
  find_from a p (used (page c k ss) ∷ bs) =
      or_else (in_slots a c (first_item_at S p) ss) (behind (used (page c k ss)) (find_from a (p + use_size S (page c k ss)) bs))

  abbrev pub find : ℕ → Layout → Found
  find a L = find_from a (start S) L.blocks

  -- Free what stands at an address
  unfoldable pub freed : Found → Layout → Layout
  freed (block t) L = record { blocks = released t; lists = L.lists }
  freed (thing o c n) L = pushed c o L
  freed nothing L = L

  -- how many bytes it holds
  abbrev pub capacity : Found → ℕ
  capacity (block t) = block_capacity S t.size
  capacity (thing o c n) = item_capacity S c
  capacity nothing = 0

  -- how many of them a look-up shows and a move copies: of an item as many as were asked for, of a block all
  abbrev pub shown_of : Found → ℕ
  shown_of (block t) = block_capacity S t.size
  shown_of (thing o c n) = item_shown S c n
  shown_of nothing = 0

  -- Resize in place: a block that is large enough stays, its tail freed if a free block fits there; a smaller one grows over a free right neighbour if the two reach need
  unfoldable pub shrunk : ℕ → ℕ → List Block → List Block
  shrunk need s bs = cond (leb (need + least_free S) s) (as_variable need ∷ before (free (s - need)) bs) (as_variable s ∷ bs)

  unfoldable pub grown : ℕ → ℕ → List Block → Option (List Block)
  grown need s [] = none
  grown need s (free t ∷ bs) = cond (leb need (s + t)) (some (cut need as_variable (s + t) bs)) none
  grown need s (used u ∷ bs) = none

  unfoldable pub reshaped : ℕ → Spot → Layout → Option (List Block) → Option Layout
  reshaped need t L none = none
  reshaped need t L (some bs) = some (record { blocks = t.pre ++ bs; lists = L.lists })

  -- an item in use is now for n bytes
  abbrev pub renewed : ℕ → ℕ → Layout → Layout
  renewed n o L = record { blocks = item_to (held n) (item_at S o) (start S) L.blocks; lists = L.lists }

  -- the layout where the record stays, or none where it moves
  unfoldable pub stays : ℕ → Found → Layout → Option Layout
  stays n nothing L = none
  stays n (thing o c k) L = cond (eqb (class_of n) c) (some (renewed n o L)) none
  stays n (block t) L =
      let need = need_of S n in
      let here = cond (leb need t.size) (some (shrunk need t.size t.post)) (grown need t.size t.post) in
      let there = reshaped need t L here in
      cond (leb n (largest_item S)) none there

  -- Initialise: one free block from the data area's start to the end
  abbrev pub fresh : ℕ → Layout
  fresh end = record { blocks = free (end - start S) ∷ []; lists = replicate S.classes [] }
