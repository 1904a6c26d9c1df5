-- What marking the items of a page asks and tells: how many marks there are, or nothing where the heap is not sound.
use Rattle.std.specs.Prelude.{◌≡◌, ℕ, ◌+◌, ◌*◌, ◌%◌, ◌<◌, ◌≤◌, Bool, true, ◌⊎◌, List, length, ◌≢◌, Option, Some, None}
use Rattle.words.specs.Width.{Width}
use Rattle.model.specs.Shape.{shape, start, shortest, item_size}
use Rattle.model.specs.Parts.{page_kind, class_and_flags, first_item_at}
use Rattle.model.specs.inner.Headers.{SameClass}
use Rattle.model.specs.Sound.{idle_slots}
use Rattle.marking.specs.declared.pages.Tally.{Tally}
use Rattle.marking.specs.Uses.{Items, AllRight, class_at, PageRight, UseAt, free_in}
use Rattle.marking.specs.Maps.{Adds, Marked, NoMarks, at_bit, map_end, large_map}

-- a heap that ends at `end`
pub record Sizes (w : ℕ) (b : List ℕ) (end : ℕ) : Type 0 where
  pub width : Width w
  pub low : shortest (shape w) ≤ end
  pub inside : end ≤ length b
  pub eight : end % 8 ≡ 0

-- a map of n words
pub record MapSize (n : ℕ) : Type 0 where
  pub some : 1 ≤ n
  pub few : n ≤ large_map

-- up to position p the map has n marks, and none beyond
pub record Marking (w : ℕ) (m : List ℕ) (n p : ℕ) : Type 0 where
  pub marked : Marked m n
  pub clear : NoMarks w m p
  pub few : n ≤ p

-- a page's items of class c from bit i to bit stop, and n marks before them
pub record MarkRoom (w : ℕ) (b m : List ℕ) (i stop c n : ℕ) : Type 0 where
  pub width : Width w
  pub class : c < (shape w).classes
  pub stops : at_bit w stop ≡ at_bit w i + (shape w).per_page c * item_size (shape w) c
  pub low : start (shape w) + w ≤ at_bit w i
  pub inside : at_bit w stop + w ≤ length b
  pub map : at_bit w stop ≤ map_end w (length m)
  pub size : MapSize (length m)
  pub marking : Marking w m n (at_bit w i)

-- n items of class c from q on, of which the free ones are marked in m' beyond what m has
pub record ItemsMarked (w : ℕ) (b : List ℕ) (c q n : ℕ) (m m' : List ℕ) : Type 0 where
  pub items : Items w b c q n
  pub adds : Adds w m m' (idle_slots (shape w) c q items.slots)

-- what the tally tells of a page's items of class c from bit i to bit stop: the marked ones are free where `wrong` has no class and flags, those in use are right where `above` is less than a class
pub record ItemsTold (w : ℕ) (b m : List ℕ) (i stop c : ℕ) (r : Tally) (m' : List ℕ) : Type 0 where
  pub bad : (class_and_flags (shape w) r.wrong ≢ 0) → Items w b c (at_bit w i) ((shape w).per_page c) → ⊥
  pub near : SameClass r.above → AllRight w b c (at_bit w i) ((shape w).per_page c)
  pub good : class_and_flags (shape w) r.wrong ≡ 0 → AllRight w b c (at_bit w i) ((shape w).per_page c)
      → ItemsMarked w b c (at_bit w i) ((shape w).per_page c) m m' × Marking w m' r.marks (at_bit w stop)

-- the items of the page at p lie within the heap; whether all are right
pub record PageItems (w : ℕ) (b : List ℕ) (p : ℕ) : Type 0 where
  pub width : Width w
  pub first : first_item_at (shape w) p + w ≤ length b
  pub inside : first_item_at (shape w) p + (shape w).per_page (class_at w b p) * item_size (shape w) (class_at w b p) ≤ length b

pub record RightTold (w : ℕ) (b : List ℕ) (p : ℕ) (r : Bool) : Type 0 where
  pub yes_is : r ≡ true → PageRight w b p
  pub is_yes : PageRight w b p → r ≡ true

-- what is judged of the page at p by its tally
pub record Judged (w : ℕ) (b : List ℕ) (p : ℕ) (t : Tally) (r : Option ℕ) : Type 0 where
  pub is_no : r ≡ None → (class_and_flags (shape w) t.wrong ≢ 0) ⊎ (PageRight w b p → ⊥)
  pub is_yes : (n : ℕ) → r ≡ Some n → (class_and_flags (shape w) t.wrong ≡ 0) × PageRight w b p × (n ≡ t.marks)

-- a page of size s at p
pub record PageRoom (w : ℕ) (b m : List ℕ) (p s n : ℕ) : Type 0 where
  pub width : Width w
  pub low : start (shape w) ≤ p
  pub eight : p % 8 ≡ 0
  pub size_eight : s % 8 ≡ 0
  pub inside : p + s ≤ length b
  pub map : p + s ≤ map_end w (length m)
  pub size : MapSize (length m)
  pub marking : Marking w m n p

-- a block in use of size s at p, whose free items are marked in m' beyond what m has
pub record UseMarked (w : ℕ) (b : List ℕ) (p s kind : ℕ) (m m' : List ℕ) : Type 0 where
  pub use_at_lem : UseAt w b p s kind
  pub adds : Adds w m m' (free_in w p use_at_lem.use_is)

pub record PageTold (w : ℕ) (b m : List ℕ) (p s : ℕ) (r : Option ℕ) (m' : List ℕ) : Type 0 where
  pub is_no : r ≡ None → UseAt w b p s page_kind → ⊥
  pub is_yes : (n : ℕ) → r ≡ Some n → UseMarked w b p s page_kind m m' × Marking w m' n (p + s)
