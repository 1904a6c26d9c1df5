-- What the words beside a block say of its free neighbours.
use Rattle.std.specs.Prelude.{ℕ, ◌-◌, Bool, List, ◌==◌}
use Rattle.words.specs.Word.{word_at}
use Rattle.model.specs.Shape.{shape}
use Rattle.model.specs.Parts.{free_kind, kind_in}
use Rattle.model.specs.inner.Links.{link_of}

-- whether a free block ends at p: the tag right before p says it, which is the index page's before the first block
abbrev pub touches : ℕ → List ℕ → ℕ → Bool
touches w b p = kind_in (word_at w b (p - w)) == free_kind

-- where the free block behind the one at prev must be: that one, or the header, names it
abbrev pub expected : ℕ → List ℕ → ℕ → ℕ
expected w b prev = word_at w b (link_of (shape w) prev)
