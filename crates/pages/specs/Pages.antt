-- What the calls that make a page ask and promise.
use Rattle.std.specs.Prelude.{ℕ, ◌+◌, ◌*◌, ◌≤◌, ◌<◌, ◌≡◌, List, length}
use Rattle.words.specs.Width.{Width}
use Rattle.words.specs.Word.{word_at}
use Rattle.model.specs.Shape.{shape, item_size, page_need, index}
use Rattle.model.specs.Parts.{head_at}
use Rattle.model.specs.Layout.{Layout}
use Rattle.model.specs.Rules.{Spot, paged}
use Rattle.model.specs.Calls.{drawn}
use Rattle.model.specs.inner.Walks.{SpotIn}

-- a page's k items of class c have room from p on, within n bytes
pub record ItemsRoom (w : ℕ) (n c k p : ℕ) : Type 0 where
  pub width : Width w
  pub class : c < (shape w).classes
  pub all : k ≡ (shape w).per_page c
  pub low : index (shape w) ≤ p
  pub inside : p + (shape w).per_page c * item_size (shape w) c ≤ n
  pub short : n ≤ (shape w).most

-- there is no item of class c on its list
pub record NoItem (w : ℕ) (b : List ℕ) (c : ℕ) : Type 0 where
  pub width : Width w
  pub class : c < (shape w).classes
  pub short : length b ≤ (shape w).most
  pub none : word_at w b (head_at (shape w) c) ≡ 0

-- the heap after a page was made
pub record MadePage (w : ℕ) (b : List ℕ) (p c : ℕ) (a : List ℕ) : Type 0 where
  pub draws : (L : Layout) (t : Spot) → SpotIn (shape w) b p (page_need (shape w) c) L t → a ≡ drawn (shape w) (paged (shape w) c t L) b
