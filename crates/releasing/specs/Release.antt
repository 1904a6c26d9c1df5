-- What giving a block back asks and promises.
use Rattle.std.specs.Prelude.{ℕ, ◌+◌, ◌-◌, ◌≤◌, ◌≡◌, Bool, cond, List, [], ◌∷◌, ◌++◌, length, eqb}
use Rattle.words.specs.Width.{Width}
use Rattle.words.specs.Word.{word_at}
use Rattle.model.specs.Shape.{shape, start, tags}
use Rattle.model.specs.Parts.{next_at, previous_at}
use Rattle.model.specs.Layout.{Use, used, Layout, use_size, ends}
use Rattle.model.specs.Sound.{Here}
use Rattle.model.specs.Rules.{Spot, released}
use Rattle.model.specs.Calls.{drawn}
use Rattle.model.specs.inner.Walks.{flag, last_free, ends_free}
use Rattle.model.specs.inner.Laid.{Laid}
use Rattle.find.specs.declared.UsedBlock.{UsedBlock}
use Rattle.find.specs.Find.{BlockFound}

-- the low edge of what the block at p becomes, and the free block before that
abbrev pub left_at : ℕ → ℕ → Bool → ℕ
left_at p prev touching = cond touching prev p

abbrev pub left_free : ℕ → List ℕ → ℕ → ℕ → Bool → ℕ
left_free w b p prev touching = cond touching (word_at w b (previous_at (shape w) prev (p - prev))) prev

-- the high edge of what the block that ends at q becomes, and the free block behind that
abbrev pub right_at : ℕ → List ℕ → ℕ → ℕ → ℕ
right_at w b q next = cond (eqb next q) (q + word_at w b q) q

abbrev pub right_free : ℕ → List ℕ → ℕ → ℕ → ℕ
right_free w b q next = cond (eqb next q) (word_at w b (next_at (shape w) q)) next

-- the block at p and the last free block before it are within the bytes
pub record LeftRoom (w : ℕ) (b : List ℕ) (p prev : ℕ) : Type 0 where
  pub width : Width w
  pub low : tags (shape w) ≤ p
  pub below : prev ≤ p
  pub inside : p ≤ length b

-- where the next free block is at q, it is within the bytes
pub record RightRoom (w : ℕ) (b : List ℕ) (q next : ℕ) : Type 0 where
  pub width : Width w
  pub block : next ≡ q → (tags (shape w) ≤ word_at w b q) × (q + word_at w b q ≤ length b)

-- x is the block in use u of the spot t
pub record BlockAt (w : ℕ) (L : Layout) (t : Spot) (u : Use) (x : UsedBlock) : Type 0 where
  pub blocks : L.blocks ≡ t.pre ++ ((used u ∷ []) ++ t.post)
  pub fits : use_size (shape w) u ≡ t.size
  pub at : ends (shape w) (start (shape w)) t.pre ≡ x.at.0
  pub size : t.size ≡ x.size
  pub before : last_free (shape w) (start (shape w)) t.pre 0 ≡ x.prev.0
  pub touches : ends_free 0 t.pre ≡ flag x.touching

-- x is a block in use of a heap, whatever its lists name
pub record BlockIn (w : ℕ) (b : List ℕ) (x : UsedBlock) : Type 0 where
  pub width : Width w
  pub layout : Layout
  pub laid : Laid w b layout
  pub short : length b ≤ (shape w).most
  pub spot : Spot
  pub block : Use
  pub in_use : BlockAt w layout spot block x

-- the heap with it given back
pub record GivenBack (w : ℕ) (b : List ℕ) (x : UsedBlock) (c : List ℕ) : Type 0 where
  pub draws : (L : Layout) (t : Spot) (u : Use) → Laid w b L → BlockAt w L t u x → c ≡ drawn (shape w) (record { blocks = released t; lists = L.lists }) b

-- x is a live block of a sound heap
pub record BlockLive (w : ℕ) (b : List ℕ) (x : UsedBlock) : Type 0 where
  pub width : Width w
  pub layout : Layout
  pub here : Here (shape w) b layout
  pub short : length b ≤ (shape w).most
  pub address : ℕ
  pub spot : Spot
  pub found : BlockFound w layout address spot x
