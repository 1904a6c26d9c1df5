-- What the bytes hold of a block in use: of a page, the headers of its items.
use Rattle.std.specs.Prelude.{◌≡◌, ℕ, zero, suc, ◌+◌, ◌<◌, List, [], ◌∷◌, length}
use Rattle.words.specs.Word.{word_at}
use Rattle.model.specs.Shape.{shape, item_size}
use Rattle.model.specs.Parts.{variable_kind, page_kind, free_flags, free_mark, held_header, flags_in, class_and_flags, class_in, first_item_at}
use Rattle.model.specs.Layout.{Slot, idle, held, Use, variable, page, use_size}
use Rattle.model.specs.Sound.{Within, AllWithin, AllowedUse, idle_slots}

-- the headers of a page's items from p on, whatever a free one names as the next
unfoldable pub Slots : ℕ → List ℕ → ℕ → ℕ → List Slot → Type 0
Slots w b c p [] = Unit {0}
Slots w b c p (idle ∷ ss) = (class_and_flags (shape w) (word_at w b p) ≡ free_mark c) × Slots w b c (p + item_size (shape w) c) ss
Slots w b c p (held n ∷ ss) = (word_at w b p ≡ held_header c n) × Slots w b c (p + item_size (shape w) c) ss

-- n items of class c have their headers from q on
pub record Items (w : ℕ) (b : List ℕ) (c q n : ℕ) : Type 0 where
  pub slots : List Slot
  pub count : length slots ≡ n
  pub headers : Slots w b c q slots
  pub within : AllWithin c slots

-- the header x of an item of class c is a free one's by its flags, or is one's in use for a size that is not known or of that class; and so of n items from q on
abbrev pub Right : ℕ → ℕ → Type 0
Right c x = free_flags < flags_in x → (n : ℕ) × (x ≡ held_header c n) × Within c (held n)

unfoldable pub AllRight : ℕ → List ℕ → ℕ → ℕ → ℕ → Type 0
AllRight w b c q zero = Unit {0}
AllRight w b c q (suc n) = Right c (word_at w b q) × AllRight w b c (q + item_size (shape w) c) n

-- the class that the first header of a page at p says; and whether all its items are right for it
abbrev pub class_at : ℕ → List ℕ → ℕ → ℕ
class_at w b p = class_in (shape w) (word_at w b (first_item_at (shape w) p))

abbrev pub PageRight : ℕ → List ℕ → ℕ → Type 0
PageRight w b p = AllRight w b (class_at w b p) (first_item_at (shape w) p) ((shape w).per_page (class_at w b p))

-- what the tag of a block in use says that it is
unfoldable pub use_kind : Use → ℕ
use_kind (variable s) = variable_kind
use_kind (page c k ss) = page_kind

-- the item headers of a block in use at p
unfoldable pub Headers : ℕ → List ℕ → ℕ → Use → Type 0
Headers w b p (variable s) = Unit {0}
Headers w b p (page c k ss) = Slots w b c (first_item_at (shape w) p) ss

-- a block in use of size s and of this kind stands at p, but for its tags
pub record UseAt (w : ℕ) (b : List ℕ) (p s kind : ℕ) : Type 0 where
  pub use_is : Use
  pub allowed : AllowedUse (shape w) use_is
  pub size : use_size (shape w) use_is ≡ s
  pub kind_is : use_kind use_is ≡ kind
  pub headers : Headers w b p use_is

-- the offsets of the free items of every class, in a block in use at p
unfoldable pub free_in : ℕ → ℕ → Use → List ℕ
free_in w p (variable s) = []
free_in w p (page c k ss) = idle_slots (shape w) c (first_item_at (shape w) p) ss
