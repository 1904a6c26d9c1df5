-- Where a walk over the blocks stands, and what it has found. Contracts of inner calls name these; no public contract does, so no reader has to believe them.
use Rattle.std.specs.Prelude.{ℕ, ◌+◌, ◌≤◌, ◌≡◌, Bool, cond, List, [], ◌∷◌, ◌++◌, ◌⊎◌}
use Rattle.std.proofs.Math.Option.{Option, none, some}
use Rattle.model.specs.Shape.{Shape, shape, start}
use Rattle.model.specs.Layout.{Use, variable, Block, free, used, Layout, if_free, use_size, size_of, ends}
use Rattle.model.specs.Sound.{Here}
use Rattle.model.specs.Rules.{Spot}

-- whether something is so, as the number 1 or 0
abbrev pub flag : Bool → ℕ
flag b = cond b 1 0

-- 1 where the last of the blocks is free, d where there is none
unfoldable pub ends_free : ℕ → List Block → ℕ
ends_free d [] = d
ends_free d (b ∷ bs) = ends_free (if_free b 1 0) bs

-- the spot t splits a layout's blocks, and its free block is large enough for need
pub record Split (need : ℕ) (L : Layout) (t : Spot) : Type 0 where
  pub blocks : L.blocks ≡ t.pre ++ ((free t.size ∷ []) ++ t.post)
  pub large : need ≤ t.size

module _ (S : Shape) where
  -- the position of the last free block among blocks that begin at p, or else what is given
  unfoldable pub last_free : ℕ → List Block → ℕ → ℕ
  last_free p [] d = d
  last_free p (b ∷ bs) d = last_free (p + size_of S b) bs (if_free b p d)

  -- the position of a spot's block among blocks from p on, or 0 where there is none
  abbrev pub found_from : ℕ → Option Spot → ℕ
  found_from p none = 0
  found_from p (some t) = ends S p t.pre

  abbrev pub found_at : Option Spot → ℕ
  found_at t = found_from (start S) t

module _ (S : Shape) where
  -- in b, of layout L, the free block of the spot t stands at p and is large enough for need
  pub record SpotIn (b : List ℕ) (p need : ℕ) (L : Layout) (t : Spot) : Type 0 where
    pub here : Here S b L
    pub split : Split need L t
    pub at : ends S (start S) t.pre ≡ p

  -- there is such a spot
  pub record Spotted (b : List ℕ) (p need : ℕ) : Type 0 where
    pub layout : Layout
    pub spot : Spot
    pub is : SpotIn b p need layout spot

  -- a variable block of size s stands at p; the last free block before it is at prev, and touches it or not
  pub record Stands (L : Layout) (p s prev left : ℕ) : Type 0 where
    pub pre : List Block
    pub post : List Block
    pub blocks : L.blocks ≡ pre ++ (used (variable s) ∷ post)
    pub begins : ends S (start S) pre ≡ p
    pub before : last_free S (start S) pre 0 ≡ prev
    pub touches : ends_free 0 pre ≡ left

  -- the free block at prev was taken, and a free rest stayed; or the whole of it was taken, and `before` is the free block before it
  pub record RestLeft (L : Layout) (p s prev left : ℕ) : Type 0 where
    pub low : List Block
    pub taker : Use
    pub size : ℕ
    pub high : List Block
    pub blocks : L.blocks ≡ low ++ (used taker ∷ (free size ∷ high))
    pub at : ends S (start S) low ≡ prev
    pub stands : Stands L p s (prev + use_size S taker) left

  pub record NoneLeft (L : Layout) (p s prev before : ℕ) : Type 0 where
    pub low : List Block
    pub taker : Use
    pub next : Use
    pub high : List Block
    pub blocks : L.blocks ≡ low ++ (used taker ∷ (used next ∷ high))
    pub at : ends S (start S) low ≡ prev
    pub stands : Stands L p s before 0

  abbrev pub Mend : Layout → ℕ → ℕ → ℕ → ℕ → ℕ → Type 0
  Mend L p s prev left before = Stands L p s prev left ⊎ (RestLeft L p s prev left ⊎ NoneLeft L p s prev before)

-- the walk stands at p; the last free block before p is at prev, 0 where there is none; left is 1 where that touches p, else 0
pub record Standing (w : ℕ) (L : Layout) (p prev left : ℕ) : Type 0 where
  pub pre : List Block
  pub rest : List Block
  pub blocks : L.blocks ≡ pre ++ rest
  pub begins : ends (shape w) (start (shape w)) pre ≡ p
  pub before : last_free (shape w) (start (shape w)) pre 0 ≡ prev
  pub touches : ends_free 0 pre ≡ left

-- the walk stands at p, behind the blocks `pre` and before the blocks `rest`
pub record Passed (w : ℕ) (L : Layout) (p : ℕ) (pre rest : List Block) : Type 0 where
  pub blocks : L.blocks ≡ pre ++ rest
  pub begins : ends (shape w) (start (shape w)) pre ≡ p

-- a value v has come of the blocks before p, as f says
pub record Gone {A : Type 0} (w : ℕ) (f : List Block → A) (L : Layout) (p : ℕ) (v : A) : Type 0 where
  pub pre : List Block
  pub rest : List Block
  pub passed : Passed w L p pre rest
  pub so_far : v ≡ f pre
