-- What taking an item, giving it back and renewing it ask and promise.
use Rattle.std.specs.Prelude.{ℕ, ◌≤◌, ◌<◌, ◌≡◌, List, [], ◌∷◌, length, get_or}
use Rattle.words.specs.Width.{Width}
use Rattle.words.specs.Word.{word_at}
use Rattle.model.specs.Shape.{shape, class_of, address_of, item_at, offset_of, index, start}
use Rattle.model.specs.Parts.{head_at}
use Rattle.model.specs.Layout.{Layout}
use Rattle.model.specs.Sound.{Here, Sound}
use Rattle.model.specs.Rules.{popped, pushed, thing, find, renewed}
use Rattle.model.specs.Calls.{drawn}
use Rattle.model.specs.inner.Laid.{Laid}
use Rattle.model.specs.inner.Items.{InBlocks}

-- there is an item of class c on its list, and n is a size of that class
pub record HasItem (w : ℕ) (b : List ℕ) (c n : ℕ) : Type 0 where
  pub width : Width w
  pub sound : Sound (shape w) b
  pub class : c < (shape w).classes
  pub short : length b ≤ (shape w).most
  pub some_item : word_at w b (head_at (shape w) c) ≡ 0 → ⊥
  pub own : class_of n ≡ c

-- the address of the item that was first on the list, and the heap with it in use for n bytes
pub record TookItem (w : ℕ) (b : List ℕ) (c n r : ℕ) (a : List ℕ) : Type 0 where
  pub is : (L : Layout) (o : ℕ) (os : List ℕ) → Here (shape w) b L → get_or L.lists c [] ≡ o ∷ os → (r ≡ address_of (shape w) (item_at (shape w) o)) × (a ≡ drawn (shape w) (popped (shape w) n c o os L) b)

-- an item of class c is in use, with its header at q, for some size that was asked for
pub record ItemLive (w : ℕ) (b : List ℕ) (q c : ℕ) : Type 0 where
  pub width : Width w
  pub layout : Layout
  pub here : Here (shape w) b layout
  pub short : length b ≤ (shape w).most
  pub low : index (shape w) ≤ q
  pub address : ℕ
  pub asked : ℕ
  pub found : find (shape w) address layout ≡ thing (offset_of (shape w) q) c asked

-- an item of class c, free or in use, has its header at q, whatever the lists name
pub record ItemIn (w : ℕ) (b : List ℕ) (q c : ℕ) : Type 0 where
  pub width : Width w
  pub layout : Layout
  pub laid : Laid w b layout
  pub short : length b ≤ (shape w).most
  pub there : InBlocks (shape w) c q (start (shape w)) layout.blocks

-- the heap with it at the head of its list
pub record GaveItem (w : ℕ) (b : List ℕ) (q c : ℕ) (d : List ℕ) : Type 0 where
  pub draws : (L : Layout) → Laid w b L → InBlocks (shape w) c q (start (shape w)) L.blocks → d ≡ drawn (shape w) (pushed (shape w) c (offset_of (shape w) q) L) b

-- the heap with it for n bytes from now on
pub record RenewedItem (w : ℕ) (b : List ℕ) (q c n : ℕ) (d : List ℕ) : Type 0 where
  pub draws : (L : Layout) (a k : ℕ) → Here (shape w) b L → find (shape w) a L ≡ thing (offset_of (shape w) q) c k → d ≡ drawn (shape w) (renewed (shape w) n (offset_of (shape w) q) L) b
  pub sound : Sound (shape w) d
