-- A heap between two steps of a sweep: its blocks are as they must be, but its lists may name items that are gone. Contracts of inner calls name these; no public contract does, so no reader has to believe them.
use Rattle.std.specs.Prelude.{ℕ, ◌%◌, ◌≤◌, ◌<◌, ◌≡◌, List, [], length, get_or}
use Rattle.words.specs.Word.{word_at}
use Rattle.model.specs.Shape.{Shape, shape, start, end_of}
use Rattle.model.specs.Parts.{magic_bytes}
use Rattle.model.specs.Picture.{Shows}
use Rattle.model.specs.Layout.{Layout, head_of, ends, words}
use Rattle.model.specs.Sound.{times, AllAllowed, Apart, idle_items}

-- the blocks are those of a valid layout, and the lists name offsets within the heap
pub record Tiled (S : Shape) (end : ℕ) (L : Layout) : Type 0 where
  pub fills : ends S (start S) L.blocks ≡ end
  pub allowed : AllAllowed S L.blocks
  pub apart : Apart 0 L.blocks
  pub classes : length L.lists ≡ S.classes
  pub below : (c o : ℕ) → 1 ≤ times o (get_or L.lists c []) → o ≤ end

-- bytes have such a layout, and all that the lists name are multiples of a word
pub record Laid (w : ℕ) (b : List ℕ) (L : Layout) : Type 0 where
  pub magic : word_at magic_bytes b 0 ≡ (shape w).magic
  pub tiled : Tiled (shape w) (end_of (length b)) L
  pub aligned : (c o : ℕ) → 1 ≤ times o (get_or L.lists c []) → o % w ≡ 0
  pub shown : Shows w b (words (shape w) (end_of (length b)) L)

-- and a class whose list is empty has no free item, so that its list need not be linked anew
pub record Linkable (w : ℕ) (b : List ℕ) (L : Layout) : Type 0 where
  pub laid : Laid w b L
  pub none_left : (c : ℕ) → c < (shape w).classes → head_of (get_or L.lists c []) ≡ 0 → (o : ℕ) → times o (idle_items (shape w) c (start (shape w)) L.blocks) ≡ 0
