-- The demands, as types: what is to be proved of the calls.
use Rattle.std.specs.Prelude.{ℕ, ◌+◌, ◌≤◌, ◌<◌, min, ◌≡◌, ◌⊎◌, ◌↔◌, List, [], ◌∷◌, ◌++◌, length, get_or, take}
use Rattle.std.proofs.Math.Option.{none}
use Rattle.words.specs.Word.{put}
use Rattle.model.specs.Picture.{Word}
use Rattle.model.specs.Shape.{Shape, all_offered, start, end_of, largest_item, class_of, need_of, page_need, address_of, item_at}
use Rattle.model.specs.Parts.{end_at}
use Rattle.model.specs.Layout.{free, Layout, end_in, words}
use Rattle.model.specs.Sound.{times, Valid, stored_end, HereIn, SoundIn}
use Rattle.model.specs.Rules.{Found, block, thing, nothing, longer, find, stays, fresh}
use Rattle.model.specs.Live.{◌∈◌, InTurn, Payload, content, live}
use Rattle.model.specs.Reading.{Step, Statistics, counted, looked_up}
use Rattle.model.specs.Sweeping.{empties}
use Rattle.model.specs.Refusals.{bad_length, not_opened, not_sound, bad_size, not_live, no_room, already_opened, bad_end}
use Rattle.model.specs.Calls.{Way, staying, moving, keeping, Outcome, Told, refused, granted, or_next, Lent, Initialises, Checks, Allocates, Frees, Resizes, ResizesBy, ResizesInPlace, Moves, Keeps, Sweeps, LooksUp, Steps, Counts, Tabulates}

-- a call that may change the heap, by its sizes and addresses
pub data Call : Type 0 where
  initialising : ℕ → Call
  checking : Call
  allocating : ℕ → Call
  freeing : ℕ → Call
  resizing : ℕ → ℕ → Call
  resizing_by : Way → ℕ → ℕ → Call
  sweeping : Call

-- a call that can move the heap's end
abbrev pub MayGrow : Call → Type 0
MayGrow (initialising e) = ⊥
MayGrow checking = ⊥
MayGrow (allocating n) = Unit {0}
MayGrow (freeing a) = ⊥
MayGrow (resizing a n) = Unit {0}
MayGrow (resizing_by staying a n) = ⊥
MayGrow (resizing_by moving a n) = Unit {0}
MayGrow (resizing_by keeping a n) = ⊥
MayGrow sweeping = ⊥

-- any call may be in a run
abbrev pub Any : Call → Type 0
Any q = Unit {0}

-- the calls that free addresses, in their order
unfoldable pub freeing_all : List ℕ → List Call
freeing_all [] = []
freeing_all (a ∷ rest) = freeing a ∷ freeing_all rest

-- the numbers that a call can answer at all; those that a call that only reads can, and a look-up
unfoldable pub numbers_of : Call → List ℕ
numbers_of (initialising e) = 0 ∷ bad_length ∷ already_opened ∷ bad_end ∷ []
numbers_of checking = 0 ∷ bad_length ∷ not_opened ∷ not_sound ∷ []
numbers_of (allocating n) = 0 ∷ bad_length ∷ not_opened ∷ not_sound ∷ bad_size ∷ no_room ∷ []
numbers_of (freeing a) = 0 ∷ bad_length ∷ not_opened ∷ not_sound ∷ not_live ∷ []
numbers_of (resizing a n) = 0 ∷ bad_length ∷ not_opened ∷ not_sound ∷ bad_size ∷ not_live ∷ no_room ∷ []
numbers_of (resizing_by v a n) = 0 ∷ bad_length ∷ not_opened ∷ not_sound ∷ bad_size ∷ not_live ∷ no_room ∷ []
numbers_of sweeping = 0 ∷ bad_length ∷ not_opened ∷ not_sound ∷ []

abbrev pub reading_numbers : List ℕ
reading_numbers = 0 ∷ bad_length ∷ not_opened ∷ not_sound ∷ []

abbrev pub look_up_numbers : List ℕ
look_up_numbers = 0 ∷ bad_length ∷ not_opened ∷ not_sound ∷ not_live ∷ []

-- what a call of a run answered
pub record Reply : Type 0 where
  pub refusal : ℕ
  pub address : ℕ

abbrev pub replied : Outcome → Reply
replied r = record { refusal = r.refusal; address = r.address }

-- the addresses of payloads
unfoldable pub addresses : List Payload → List ℕ
addresses [] = []
addresses (x ∷ xs) = x.address ∷ addresses xs

-- the item at offset o is free, on the list of class c
abbrev pub Waits : ℕ → ℕ → Layout → Type 0
Waits c o L = o ∈ get_or L.lists c []

-- an item was found
abbrev pub IsItem : Found → Type 0
IsItem (block t) = ⊥
IsItem (thing o c n) = Unit {0}
IsItem nothing = ⊥

module _ (S : Shape) where
  -- what may come of a call on bytes b
  unfoldable pub Comes : List ℕ → Call → Outcome → Type 0
  Comes b (initialising e) r = Initialises S b e r
  Comes b checking r = Checks S b r
  Comes b (allocating n) r = Allocates S b n r
  Comes b (freeing a) r = Frees S b a r
  Comes b (resizing a n) r = Resizes S b a n r
  Comes b (resizing_by v a n) r = ResizesBy S v b a n r
  Comes b sweeping r = Sweeps S b r

  -- Demand 1: a refusal answers address 0 and leaves every byte as it was
  abbrev pub RefusedUntouched : Type 0
  RefusedUntouched = (b : List ℕ) (q : Call) (r : Outcome) → Comes b q r → (r.refusal ≡ 0 → ⊥) → r ≡ refused b r.refusal

  -- a call answers none but its numbers
  abbrev pub AnswersOnly : Type 0
  AnswersOnly = (b : List ℕ) (q : Call) (r : Outcome) → Comes b q r → r.refusal ∈ numbers_of q

  abbrev pub ReadingAnswersOnly : Type 0
  ReadingAnswersOnly =
      (b : List ℕ)
      → ((a : ℕ) (r : Told (List ℕ)) → LooksUp S b a r → r.refusal ∈ look_up_numbers)
      × ((w : ℕ) (r : Told Step) → Steps S b w r → r.refusal ∈ reading_numbers)
      × ((r : Told Statistics) → Counts S b r → r.refusal ∈ reading_numbers)
      × ((r : Told (List (List ℕ))) → Tabulates S b r → r.refusal ∈ reading_numbers)

  -- Any two results that a contract allows are equal
  abbrev pub Determined : Type 0
  Determined = (b : List ℕ) (q : Call) (r r' : Outcome) → Comes b q r → Comes b q r' → r ≡ r'

  abbrev pub OnlyOne : {A : Type 0} → (A → Type 0) → Type 0
  OnlyOne {A} P = (r r' : A) → P r → P r' → r ≡ r'

  abbrev pub ReadingDetermined : Type 0
  ReadingDetermined =
      (b : List ℕ)
      → ((a : ℕ) → OnlyOne (LooksUp S b a)) × ((w : ℕ) → OnlyOne (Steps S b w)) × OnlyOne (Counts S b) × OnlyOne (Tabulates S b)

  -- Demand 2: the check accepts exactly the sound heaps, and a heap has one layout at most
  abbrev pub AcceptsExactly : Type 0
  AcceptsExactly = (b : List ℕ) (r : Outcome) → Checks S b r → (r.refusal ≡ 0) ↔ (Lent S b × SoundIn S b)

  abbrev pub OneLayout : Type 0
  OneLayout = (b : List ℕ) (L L' : Layout) → HereIn S b L → HereIn S b L' → L ≡ L'

  -- a heap that was sound by the rule before is sound; it has the same layout, and the same is live
  abbrev pub SoundBefore : Type 0
  SoundBefore = (b : List ℕ) → SoundIn (all_offered S) b → SoundIn S b

  abbrev pub LayoutBefore : Type 0
  LayoutBefore = (b : List ℕ) (L : Layout) → HereIn (all_offered S) b L → HereIn S b L × (live (all_offered S) L ≡ live S L)

  -- no call makes a sound heap unsound, and a heap that is opened is sound
  abbrev pub StaysSound : Type 0
  StaysSound = (b : List ℕ) (q : Call) (r : Outcome) → Comes b q r → SoundIn S b → SoundIn S r.heap

  abbrev pub OpensSound : Type 0
  OpensSound = (b : List ℕ) (e : ℕ) (r : Outcome) → Initialises S b e r → r.refusal ≡ 0 → SoundIn S r.heap × (stored_end S r.heap ≡ e)

  -- the end never falls; only an allocation, a move and a resize can move it; and no byte behind the end then is touched
  abbrev pub EndRises : Type 0
  EndRises = (b : List ℕ) (q : Call) (r : Outcome) → Comes b q r → SoundIn S b → stored_end S b ≤ stored_end S r.heap

  abbrev pub EndStays : Type 0
  EndStays = (b : List ℕ) (q : Call) (r : Outcome) → Comes b q r → SoundIn S b → (MayGrow q → ⊥) → stored_end S r.heap ≡ stored_end S b

  abbrev pub BehindUntouched : Type 0
  BehindUntouched = (b : List ℕ) (q : Call) (r : Outcome) → Comes b q r → (i : ℕ) → stored_end S r.heap ≤ i → get_or r.heap i 0 ≡ get_or b i 0

  -- live payloads never overlap, lie in the data area, and hold no word of the picture
  abbrev pub NoOverlap : Type 0
  NoOverlap = (end : ℕ) (L : Layout) → Valid S end L → (x y : Payload) → InTurn x y (live S L) → x.address + x.size ≤ y.address

  abbrev pub InArea : Type 0
  InArea = (end : ℕ) (L : Layout) → Valid S end L → (x : Payload) → x ∈ live S L → (start S ≤ x.address) × (x.address + x.size ≤ end)

  abbrev pub NoWordInside : Type 0
  NoWordInside =
      (end : ℕ) (L : Layout) → Valid S end L → (x : Payload) → x ∈ live S L → (v : Word) → v ∈ words S end L
      → x.address < v.at + S.word → v.at < x.address + x.size → ⊥

  -- what is found at an address is what is live there, so that 5 is answered exactly where nothing is; and a look-up gives what it shows of its content
  abbrev pub FoundIsLive : Type 0
  FoundIsLive =
      (end : ℕ) (L : Layout) (a : ℕ) → Valid S end L → (find S a L ≡ nothing → ⊥) ↔ ((x : Payload) × (x ∈ live S L) × (x.address ≡ a))

  abbrev pub LookUpShows : Type 0
  LookUpShows = (end : ℕ) (b : List ℕ) (L : Layout) → Valid S end L → (x : Payload) → x ∈ live S L → looked_up S b x.address L ≡ take x.shown (content b x)

  -- a payload is live in a heap after a call as before it, with the same bytes; nothing is live but what was, and what stands at a
  abbrev pub Kept : List ℕ → List ℕ → Layout → Payload → Type 0
  Kept b b' L' x = (x ∈ live S L') × (content b' x ≡ content b x)

  abbrev pub OnlyNew : Layout → Layout → ℕ → Type 0
  OnlyNew L L' a = (x : Payload) → x ∈ live S L' → (x ∈ live S L) ⊎ (x.address ≡ a)

  -- a granted call of a heap with layout L, that then has layout L'
  pub record Grants (b : List ℕ) (q : Call) (r : Outcome) (L L' : Layout) : Type 0 where
    pub lent : Lent S b
    pub here : HereIn S b L
    pub comes : Comes b q r
    pub granted : r.refusal ≡ 0
    pub then : HereIn S r.heap L'

  -- allocate alters no payload, grants what was not live and holds n bytes, and makes nothing else live
  abbrev pub AllocateKept : List ℕ → ℕ → Layout → Outcome → Layout → Type 0
  AllocateKept b n L r L' =
      ((x : Payload) → x ∈ live S L → Kept b r.heap L' x × (x.address ≡ r.address → ⊥))
      × OnlyNew L L' r.address
      × ((x : Payload) × (x ∈ live S L') × (x.address ≡ r.address) × (n ≤ x.size))

  abbrev pub AllocateKeeps : Type 0
  AllocateKeeps = (b : List ℕ) (n : ℕ) (r : Outcome) (L L' : Layout) → Grants b (allocating n) r L L' → AllocateKept b n L r L'

  -- free alters no payload but its own, and makes that one dead and no other
  abbrev pub FreeKept : List ℕ → ℕ → Layout → Outcome → Layout → Type 0
  FreeKept b a L r L' =
      ((x : Payload) → x ∈ live S L → (x.address ≡ a → ⊥) → Kept b r.heap L' x)
      × ((x : Payload) → x ∈ live S L' → (x ∈ live S L) × (x.address ≡ a → ⊥))

  abbrev pub FreeKeeps : Type 0
  FreeKeeps = (b : List ℕ) (a : ℕ) (r : Outcome) (L L' : Layout) → Grants b (freeing a) r L L' → FreeKept b a L r L'

  -- resize alters no payload but its own, makes nothing else live, grants what holds n bytes, and keeps the common beginning, which ends at the smaller of what was shown and n; where the record moved, its old address is dead
  abbrev pub ResizeKept : List ℕ → ℕ → ℕ → Layout → Outcome → Layout → Type 0
  ResizeKept b a n L r L' =
      ((x : Payload) → x ∈ live S L → (x.address ≡ a → ⊥) → Kept b r.heap L' x)
      × OnlyNew L L' r.address
      × ((x : Payload) → x ∈ live S L → x.address ≡ a
      → ((y : Payload) × (y ∈ live S L') × (y.address ≡ r.address) × (n ≤ y.size)
      × (take (min x.shown n) (content r.heap y) ≡ take (min x.shown n) (content b x))))
      × ((r.address ≡ a → ⊥) → (x : Payload) → x ∈ live S L' → x.address ≡ a → ⊥)

  abbrev pub ResizeKeeps : (ℕ → ℕ → Call) → Type 0
  ResizeKeeps form = (b : List ℕ) (a n : ℕ) (r : Outcome) (L L' : Layout) → Grants b (form a n) r L L' → ResizeKept b a n L r L'

  -- what a call grants for n bytes is an item: n has a class that is handed out, or the item at a stays, of a closed class too
  abbrev pub ForItem : Call → ℕ → Layout → Type 0
  ForItem q n L = (n ≤ largest_item S) ⊎ ((a : ℕ) × (q ≡ resizing_by staying a n) × IsItem (find S a L))

  -- an item that is granted for n bytes shows n bytes: by allocate, in place and by a move; by resize, unless the record was kept and no byte changed
  abbrev pub ShownAt : Layout → ℕ → ℕ → Type 0
  ShownAt L a n = (x : Payload) × (x ∈ live S L) × (x.address ≡ a) × (x.shown ≡ n)

  abbrev pub GrantShows : Call → ℕ → Type 0
  GrantShows q n = (b : List ℕ) (r : Outcome) (L L' : Layout) → Grants b q r L L' → ForItem q n L → ShownAt L' r.address n

  abbrev pub AskedShown : Type 0
  AskedShown =
      (a n : ℕ)
      → GrantShows (allocating n) n × GrantShows (resizing_by staying a n) n × GrantShows (resizing_by moving a n) n
      × ((b : List ℕ) (r : Outcome) (L L' : Layout) → Grants b (resizing a n) r L L' → n ≤ largest_item S → ShownAt L' r.address n ⊎ (r ≡ granted a b))

  -- a free item of a closed class is never handed out: every granted call but a sweep leaves it on its list, and none answers its address
  abbrev pub ClosedWait : Type 0
  ClosedWait =
      (b : List ℕ) (q : Call) (r : Outcome) (L L' : Layout) → Grants b q r L L' → (q ≡ sweeping → ⊥)
      → (c o : ℕ) → S.offered ≤ c → Waits c o L → Waits c o L' × (r.address ≡ address_of S (item_at S o) → ⊥)

  -- no more is shown of a payload than it holds
  abbrev pub ShownWithin : Type 0
  ShownWithin = (end : ℕ) (L : Layout) → Valid S end L → (x : Payload) → x ∈ live S L → x.shown ≤ x.size

  -- in place gives the record's own address, a move never does
  abbrev pub InPlaceStays : Type 0
  InPlaceStays = (b : List ℕ) (a n : ℕ) (r : Outcome) → ResizesInPlace S b a n r → r.refusal ≡ 0 → r.address ≡ a

  abbrev pub MoveMoves : Type 0
  MoveMoves = (b : List ℕ) (a n : ℕ) (r : Outcome) → Moves S b a n r → r.refusal ≡ 0 → r.address ≡ a → ⊥

  -- in place, then a move where that says "no room", then keeping the record where that says so too: what resize gives, address and bytes
  abbrev pub SplitGives : Type 0
  SplitGives =
      (b : List ℕ) (a n : ℕ) (r s t : Outcome) → ResizesInPlace S b a n r
      → (r.refusal ≡ no_room → Moves S r.heap a n s)
      → (r.refusal ≡ no_room → s.refusal ≡ no_room → Keeps S s.heap a n t)
      → Resizes S b a n (or_next r (or_next s t))

  -- a sweep changes no live payload, and makes nothing live or dead
  abbrev pub SweepKept : List ℕ → Layout → Outcome → Layout → Type 0
  SweepKept b L r L' = (live S L' ≡ live S L) × ((x : Payload) → x ∈ live S L → content r.heap x ≡ content b x)

  abbrev pub SweepKeeps : Type 0
  SweepKeeps = (b : List ℕ) (r : Outcome) (L L' : Layout) → Grants b sweeping r L L' → SweepKept b L r L'

  -- a second one straight after answers 0 and changes no byte
  abbrev pub SweptStays : Type 0
  SweptStays = (b : List ℕ) (r t : Outcome) → Sweeps S b r → r.refusal ≡ 0 → Sweeps S r.heap t → t ≡ granted 0 r.heap

  -- it answers the number of pages that it gives back: those with no live item, and so many pages are fewer
  abbrev pub SweepCounted : Layout → Outcome → Layout → Type 0
  SweepCounted L r L' = (r.address ≡ empties L.blocks) × ((counted L'.blocks).pages + r.address ≡ (counted L.blocks).pages)

  abbrev pub SweepCounts : Type 0
  SweepCounts = (b : List ℕ) (r : Outcome) (L L' : Layout) → Grants b sweeping r L L' → SweepCounted L r L'

  -- "no room" exactly when there is no item and no block that fits, and with one at its end the heap would pass E, the furthest end in its buffer
  abbrev pub NoBlock : ℕ → Layout → Type 0
  NoBlock need L = (t : ℕ) → free t ∈ L.blocks → t < need

  abbrev pub NothingFits : ℕ → Layout → Type 0
  NothingFits n L =
      (n ≤ largest_item S → (get_or L.lists (class_of n) [] ≡ []) × NoBlock (page_need S (class_of n)) L)
      × (largest_item S < n → NoBlock (need_of S n) L)

  abbrev pub NoRoom : ℕ → ℕ → Layout → Type 0
  NoRoom E n L = NothingFits n L × (E < end_in S (longer S n L))

  -- one way of resize says 6 exactly when the record x cannot stay, or the allocation finds nothing, or x does not hold n bytes as it is; resize, when all three
  abbrev pub NotOpen : Way → ℕ → Payload → ℕ → Layout → Type 0
  NotOpen staying E x n L = stays S n (find S x.address L) L ≡ none
  NotOpen moving E x n L = NoRoom E n L
  NotOpen keeping E x n L = x.size < n

  abbrev pub NoRoomFor : ℕ → Payload → ℕ → Layout → Type 0
  NoRoomFor E x n L = NotOpen staying E x n L × NotOpen moving E x n L × NotOpen keeping E x n L

  abbrev pub NoRoomExactly : Type 0
  NoRoomExactly =
      (b : List ℕ) (n : ℕ) (r : Outcome) (L : Layout) → Lent S b → HereIn S b L → 1 ≤ n → n ≤ S.most
      → (Allocates S b n r → (r.refusal ≡ no_room) ↔ NoRoom (end_of (length b)) n L)
      × ((x : Payload) → x ∈ live S L → Resizes S b x.address n r → (r.refusal ≡ no_room) ↔ NoRoomFor (end_of (length b)) x n L)
      × ((v : Way) (x : Payload) → x ∈ live S L → ResizesBy S v b x.address n r → (r.refusal ≡ no_room) ↔ NotOpen v (end_of (length b)) x n L)

  -- a size that the record x holds already is never refused: where x can neither stay nor move it is kept, and no byte changes
  abbrev pub SmallerKept : Type 0
  SmallerKept =
      (b : List ℕ) (n : ℕ) (r : Outcome) (L : Layout) → Lent S b → HereIn S b L → (x : Payload) → x ∈ live S L → 1 ≤ n → n ≤ x.size
      → Resizes S b x.address n r → (r.refusal ≡ 0) × (stays S n (find S x.address L) L ≡ none → NoRoom (end_of (length b)) n L → r ≡ granted x.address b)

  -- Demand 3: bytes that differ from a heap's at most inside its live payloads, and behind its end
  abbrev pub Written : List ℕ → List ℕ → Type 0
  Written b b' =
      (length b' ≡ length b)
      × ((L : Layout) → HereIn S b L → (i : ℕ) → i < stored_end S b → ((x : Payload) → x ∈ live S L → x.address ≤ i → i < x.address + x.size → ⊥) → get_or b' i 0 ≡ get_or b i 0)

  -- an allocation, a free or a sweep
  abbrev pub Plain : Call → Type 0
  Plain (initialising e) = ⊥
  Plain checking = ⊥
  Plain (allocating n) = Unit {0}
  Plain (freeing a) = Unit {0}
  Plain (resizing a n) = ⊥
  Plain (resizing_by v a n) = ⊥
  Plain sweeping = Unit {0}

  -- a run of calls, each of a kind that may be in it, from bytes b to bytes c, with writes before each: what was answered
  pub data Run (May : Call → Type 0) : List ℕ → List Call → List Reply → List ℕ → Type 0 where
    over : {b : List ℕ} → Run May b [] [] b
    call : {b : List ℕ} (b' : List ℕ) {q : Call} {qs : List Call} {r : Outcome} {rs : List Reply} {c : List ℕ}
        → Written b b' → May q → Comes b' q r → Run May r.heap qs rs c → Run May b (q ∷ qs) (replied r ∷ rs) c

  -- two fresh heaps, one in a longer buffer: the same run gives the same answers, as long as the one in the shorter never says "no room"
  abbrev pub AgreeFrom : List ℕ → ℕ → List ℕ → ℕ → Type 0
  AgreeFrom b e d f =
      (r t : Outcome) → Initialises S b e r → r.refusal ≡ 0 → Initialises S d f t → t.refusal ≡ 0 → length b ≤ length d
      → (qs : List Call) (rs ts : List Reply) (b' d' : List ℕ) → Run Plain r.heap qs rs b' → Run Plain t.heap qs ts d'
      → ((a : ℕ) → record { refusal = no_room; address = a } ∈ rs → ⊥) → rs ≡ ts

  -- both started at their furthest ends; and both with the same starting end
  abbrev pub LongerAgrees : Type 0
  LongerAgrees = (b d : List ℕ) → AgreeFrom b (end_of (length b)) d (end_of (length d))

  abbrev pub SameStartAgrees : Type 0
  SameStartAgrees = (b d : List ℕ) (e : ℕ) → AgreeFrom b e d e

  -- the bytes d are those of the fresh heap h before the data area, but for the end, and one free block fills the rest
  pub record AsFresh (h d : List ℕ) : Type 0 where
    pub header : take (start S) d ≡ take (start S) (put S.word h (end_at S) (stored_end S d))
    pub rest : HereIn S d (fresh S (stored_end S d))

  -- Everything comes back: of a fresh heap, after any run, then all live payloads freed in any order, then a sweep
  abbrev pub EverythingBack : Type 0
  EverythingBack =
      (b : List ℕ) (e : ℕ) (r : Outcome) → Initialises S b e r → r.refusal ≡ 0
      → (qs : List Call) (rs : List Reply) (c : List ℕ) → Run Any r.heap qs rs c
      → (L : Layout) → HereIn S c L → (order : List ℕ) → ((a : ℕ) → times a order ≡ times a (addresses (live S L)))
      → (ts : List Reply) (d : List ℕ) → Run Any c (freeing_all order ++ sweeping ∷ []) ts d
      → ((t : Reply) → t ∈ ts → t.refusal ≡ 0) × AsFresh r.heap d

  -- two heaps of one layout, in buffers of one length: the same run of any calls gives the same answers
  abbrev pub SameLayoutAgrees : Type 0
  SameLayoutAgrees =
      (b d : List ℕ) (L : Layout) → Lent S b → length d ≡ length b → HereIn S b L → HereIn S d L
      → (qs : List Call) (rs ts : List Reply) (b' d' : List ℕ) → Run Any b qs rs b' → Run Any d qs ts d' → rs ≡ ts

  -- THE PROMISES: every demand of document 01, as 02's requests change and add to them, of heaps of this shape
  pub record Promised : Type 0 where
    pub determined : Determined
    pub reading_determined : ReadingDetermined
    pub refused_untouched : RefusedUntouched
    pub answers_only : AnswersOnly
    pub reading_answers_only : ReadingAnswersOnly
    pub accepts_exactly : AcceptsExactly
    pub one_layout : OneLayout
    pub sound_before : SoundBefore
    pub layout_before_lem : LayoutBefore
    pub stays_sound : StaysSound
    pub opens_sound : OpensSound
    pub end_rises : EndRises
    pub end_stays : EndStays
    pub behind_untouched : BehindUntouched
    pub no_overlap : NoOverlap
    pub in_area : InArea
    pub no_word_inside : NoWordInside
    pub found_is_live : FoundIsLive
    pub look_up_shows : LookUpShows
    pub shown_within : ShownWithin
    pub allocate_keeps : AllocateKeeps
    pub free_keeps : FreeKeeps
    pub resize_keeps : ResizeKeeps resizing
    pub each_way_keeps : (v : Way) → ResizeKeeps (resizing_by v)
    pub asked_shown : AskedShown
    pub closed_wait : ClosedWait
    pub in_place_stays : InPlaceStays
    pub move_moves : MoveMoves
    pub split_gives : SplitGives
    pub sweep_keeps : SweepKeeps
    pub swept_stays : SweptStays
    pub sweep_counts : SweepCounts
    pub no_room_exactly : NoRoomExactly
    pub smaller_kept : SmallerKept
    pub longer_agrees : LongerAgrees
    pub same_start_agrees : SameStartAgrees
    pub everything_back : EverythingBack
    pub same_layout_agrees : SameLayoutAgrees
