-- What the walks that count ask and promise.
use Rattle.std.specs.Prelude.{ℕ, zero, suc, ◌+◌, ◌-◌, ◌%◌, ◌^◌, ◌≤◌, ◌<◌, ◌≡◌, List, [], ◌∷◌, length, get_or}
use Rattle.words.specs.Width.{Width}
use Rattle.words.specs.Word.{word_at}
use Rattle.model.specs.Shape.{shape, wide, item_size, end_of}
use Rattle.model.specs.Parts.{used_in, first_item_at}
use Rattle.model.specs.Picture.{Shows}
use Rattle.model.specs.Layout.{Slot, page, Block, Layout, next_of, use_size, slot_words}
use Rattle.model.specs.Sound.{Here, Sound}
use Rattle.model.specs.Reading as reading
use Rattle.model.specs.Reading.{held_in}
use Rattle.model.specs.inner.Walks.{Gone}
use Rattle.reading.specs.declared.counting.Page.{Page}
use Rattle.reading.specs.declared.counting.Statistics.{Statistics}

-- the rows of a table: as many as document 01's heap has classes
abbrev pub table_rows : ℕ
table_rows = wide.classes

-- how many of n items of class c, with their headers from q on, say that they are in use
unfoldable pub held_from : ℕ → List ℕ → ℕ → ℕ → ℕ → ℕ
held_from w b c q zero = 0
held_from w b c q (suc n) = used_in (word_at w b q) + held_from w b c (q + item_size (shape w) c) n

-- a page of class c with the items ss stands at p; its free items are listed in l
pub record PageAt (w : ℕ) (b : List ℕ) (p c k : ℕ) (ss : List Slot) : Type 0 where
  pub width : Width w
  pub few : c < (shape w).classes
  pub count : length ss ≡ (shape w).per_page c
  pub inside : p + use_size (shape w) (page c k ss) ≤ end_of (length b)
  pub list : List ℕ
  pub aligned : (o : ℕ) → next_of o list % w ≡ 0
  pub shown : Shows w b (slot_words (shape w) c list (first_item_at (shape w) p) ss)

pub record AtPage (w : ℕ) (b : List ℕ) (p : ℕ) : Type 0 where
  pub class : ℕ
  pub spare : ℕ
  pub slots : List Slot
  pub at : PageAt w b p class spare slots

-- what is told of a page
pub record PageTold (r : Page) (c : ℕ) (ss : List Slot) : Type 0 where
  pub class : r.class ≡ c
  pub held : r.held ≡ held_in ss
  pub idle : r.idle ≡ length ss - held_in ss

-- a row of the table with one page more, and room for it
abbrev pub row_and : List ℕ → ℕ → ℕ → List ℕ
row_and row held idle = (get_or row 0 0 + 1) ∷ (get_or row 1 0 + held) ∷ (get_or row 2 0 + idle) ∷ []

abbrev pub RowRoom : List ℕ → ℕ → ℕ → Type 0
RowRoom row held idle = (get_or row 0 0 + 1 < 2 ^ 64) × (get_or row 1 0 + held < 2 ^ 64) × (get_or row 2 0 + idle < 2 ^ 64)

-- a walk that stands at p: v has come of the blocks before p, as f says, whatever layout the heap has
pub record Going {A : Type 0} (w : ℕ) (f : List Block → A) (b : List ℕ) (p : ℕ) (v : A) : Type 0 where
  pub width : Width w
  pub sound : Sound (shape w) b
  pub gone : (L : Layout) → Here (shape w) b L → Gone w f L p v

-- the statistics that a value stands for
abbrev pub told : Statistics → reading.Statistics
told s =
    record {
      free_bytes = s.free_bytes;
      free_blocks = s.free_blocks;
      largest_free = s.largest_free;
      variables = s.variables;
      pages = s.pages;
      items = s.items;
    }
