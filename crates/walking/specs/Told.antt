-- What a walk over the blocks asks and tells.
use Rattle.std.specs.Prelude.{ℕ, ◌+◌, ◌*◌, ◌%◌, ◌≤◌, ◌<◌, ◌≡◌, Bool, false, List, [], length, Option, Some, None}
use Rattle.words.specs.Word.{word_at}
use Rattle.model.specs.Shape.{shape, start}
use Rattle.model.specs.Parts.{free_kind, variable_kind, kind_in, size_in, first_free_at}
use Rattle.model.specs.inner.Links.{link_of}
use Rattle.walking.specs.Onward.{Onward, Whole, free_items}
use Rattle.marking.specs.Maps.{Adds, map_end}
use Rattle.walking.specs.declared.Stand.{Stand}
use Rattle.walking.specs.declared.Reached.{Reached}
use Rattle.walking.specs.declared.Reached.TheVariants.{Beyond, On}
use Rattle.marking.specs.Told.{Sizes, Marking}
use Rattle.telling.specs.Neighbours.{touches, expected}

-- blocks from p to the end, whose free items are marked in m' beyond what m has
pub record BlocksMarked (w : ℕ) (b : List ℕ) (end p prev : ℕ) (touching : Bool) (link : ℕ) (m m' : List ℕ) : Type 0 where
  pub onward : Onward w b end p prev touching link
  pub adds : Adds w m m' (free_items w p onward.rest)

-- the same of the whole data area
abbrev pub WholeMarked : ℕ → List ℕ → ℕ → List ℕ → List ℕ → Type 0
WholeMarked w b end = BlocksMarked w b end (start (shape w)) 0 false (word_at w b (first_free_at (shape w)))

-- a walk stands at p, with `left` eights of bytes to go, the last free block at prev, and the link to the next one at `link`
pub record WalkRoom (w : ℕ) (b : List ℕ) (end p left prev link : ℕ) : Type 0 where
  pub sizes : Sizes w b end
  pub low : start (shape w) ≤ p
  pub stops : p + 8 * left ≡ end
  pub eight : p % 8 ≡ 0
  pub before : prev + 2 * w ≤ p
  pub linked : link ≡ link_of (shape w) prev

-- it has come there from the start, with n marks in the map m: what is ahead of it is there exactly where the whole is
pub record Stood (w : ℕ) (b : List ℕ) (end p left prev link n : ℕ) (m : List ℕ) : Type 0 where
  pub room : WalkRoom w b end p left prev link
  pub ahead : Whole w b end → Onward w b end p prev (touches w b p) (expected w b prev)
  pub back : (m' : List ℕ) → BlocksMarked w b end p prev (touches w b p) (expected w b prev) m m' → WholeMarked w b end [] m'
  pub marking : Marking w m n p

-- the block at p is no variable and no free one within `left` eights of bytes
pub record Paused (w : ℕ) (b : List ℕ) (p left : ℕ) : Type 0 where
  pub variable : kind_in (word_at w b p) ≡ variable_kind → 8 * left < size_in (word_at w b p)
  pub free : kind_in (word_at w b p) ≡ free_kind → 8 * left < size_in (word_at w b p)

-- the same of a place in a walk: where the walk ends; and that it has halted there, at the end or at such a block
abbrev pub end_from : Stand → ℕ
end_from s = s.at.0 + 8 * s.left

abbrev pub WalkRoomAt : ℕ → List ℕ → ℕ → Stand → Type 0
WalkRoomAt w b end s = WalkRoom w b end s.at.0 s.left s.prev.0 s.link.0

abbrev pub StoodAt : ℕ → List ℕ → ℕ → Stand → List ℕ → Type 0
StoodAt w b end s m = Stood w b end s.at.0 s.left s.prev.0 s.link.0 s.marks m

abbrev pub HaltsIn : ℕ → List ℕ → ℕ → Stand → Type 0
HaltsIn w b left s = (0 < s.left → Paused w b s.at.0 s.left) × (s.left ≤ left)

pub record Halted (w : ℕ) (b : List ℕ) (end : ℕ) (s : Stand) (m : List ℕ) : Type 0 where
  pub stood : StoodAt w b end s m
  pub paused : 0 < s.left → Paused w b s.at.0 s.left

-- a walk's answer, nothing where the heap is not sound; where it has gone on, P holds of where it stands
pub record WalkTold (w : ℕ) (b : List ℕ) (end : ℕ) (P : Stand → Type 0) (r : Option Reached) (m' : List ℕ) : Type 0 where
  pub is_no : r ≡ None → Whole w b end → ⊥
  pub is_beyond : (s : Stand) → r ≡ Some (Beyond s) → Halted w b end s m' × (map_end w (length m') < end)
  pub is_on : (s : Stand) → r ≡ Some (On s) → StoodAt w b end s m' × P s

-- the same of a walk over blocks without items, whatever the map
pub record PassTold (w : ℕ) (b : List ℕ) (end : ℕ) (P : Stand → Type 0) (r : Option Stand) (m : List ℕ) : Type 0 where
  pub is_no : r ≡ None → Whole w b end → ⊥
  pub is_to : (s : Stand) → r ≡ Some s → StoodAt w b end s m × P s
