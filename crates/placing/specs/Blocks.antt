-- What the calls that take a free block ask and promise.
use Rattle.std.specs.Prelude.{ℕ, ◌+◌, ◌-◌, ◌%◌, ◌^◌, ◌≤◌, ◌<◌, ◌≡◌, cond, List, [], ◌∷◌, length, ltb}
use Rattle.words.specs.Width.{Width}
use Rattle.words.specs.Word.{word_at}
use Rattle.model.specs.Shape.{shape, tags, least_free, least_variable}
use Rattle.model.specs.Parts.{page_kind, tag_of, far_tag_at, next_at, previous_at}
use Rattle.model.specs.Picture.{Word}
use Rattle.model.specs.Layout.{Layout}
use Rattle.model.specs.Rules.{Spot, placed, as_variable}
use Rattle.model.specs.Calls.{drawn}
use Rattle.model.specs.inner.Links.{link_of, back_of, rest_at}
use Rattle.model.specs.inner.Walks.{SpotIn}
use Rattle.placing.specs.declared.Gap.{Gap}
use Rattle.links.specs.Links.{BackRoom, free_words}

-- a free block stands at p, as far as reading it asks
pub record GapRoom (w : ℕ) (b : List ℕ) (p : ℕ) : Type 0 where
  pub width : Width w
  pub least : least_free (shape w) ≤ word_at w b p
  pub inside : p + word_at w b p ≤ length b
  pub prev_low : word_at w b (previous_at (shape w) p (word_at w b p)) + w ≤ length b
  pub behind : BackRoom w b (word_at w b (next_at (shape w) p))

-- what is read of it
pub record GapRead (w : ℕ) (b : List ℕ) (p : ℕ) (g : Gap) : Type 0 where
  pub at : g.at.0 ≡ p
  pub size : g.size ≡ word_at w b p
  pub next : g.next.0 ≡ word_at w b (next_at (shape w) p)
  pub prev : g.prev.0 ≡ word_at w b (previous_at (shape w) p g.size)
  pub link : g.link.0 ≡ link_of (shape w) g.prev.0
  pub back : g.back.0 ≡ back_of (shape w) b g.next.0

-- a block of size u and of a kind has room in the gap, which is within n bytes
pub record PartRoom (w : ℕ) (n : ℕ) (g : Gap) (u kind : ℕ) : Type 0 where
  pub small : n + page_kind < 2 ^ 64
  pub inside : g.at.0 + g.size ≤ n
  pub part : u ≤ g.size
  pub width : Width w
  pub least : tags (shape w) ≤ u
  pub rest : u < g.size → u + least_free (shape w) ≤ g.size
  pub tag : kind ≤ page_kind
  pub linked : g.link.0 + w ≤ n
  pub behind : g.back.0 + w ≤ n

-- the words of such a block up to its payload, and after it, but the link back
unfoldable pub low_words : ℕ → Gap → ℕ → ℕ → List Word
low_words w g u kind =
    record { at = g.link.0; is = rest_at (shape w) u g.size g.at.0 g.next.0 } ∷ record { at = g.at.0; is = tag_of u kind } ∷ []

unfoldable pub high_words : ℕ → Gap → ℕ → ℕ → List Word
high_words w g u kind =
    record { at = far_tag_at (shape w) g.at.0 u; is = tag_of u kind } ∷ cond (ltb u g.size) (free_words w (g.at.0 + u) (g.size - u) g.prev.0 g.next.0) []

-- a size that a variable block may have, in a heap of n bytes
pub record Needed (w : ℕ) (n need : ℕ) : Type 0 where
  pub width : Width w
  pub large : least_variable (shape w) ≤ need
  pub eight : need % 8 ≡ 0
  pub short : n ≤ (shape w).most

-- the heap after a variable block was made
pub record Placed (w : ℕ) (b : List ℕ) (p need : ℕ) (c : List ℕ) : Type 0 where
  pub draws : (L : Layout) (t : Spot) → SpotIn (shape w) b p need L t → c ≡ drawn (shape w) (record { blocks = placed (shape w) need (as_variable (shape w)) t; lists = L.lists }) b
