-- What the calls on links ask, and a free block's words.
use Rattle.std.specs.Prelude.{ℕ, ◌+◌, ◌-◌, ◌^◌, ◌≤◌, ◌<◌, ◌≡◌, List, [], ◌∷◌, length}
use Rattle.words.specs.Width.{Width}
use Rattle.words.specs.Word.{word_at}
use Rattle.model.specs.Shape.{shape, tags, least_free}
use Rattle.model.specs.Parts.{far_tag_at, next_at, previous_at}
use Rattle.model.specs.Picture.{Word, draw}
use Rattle.model.specs.inner.Links.{link_of, back_of, put_if}

-- where next is no 0 a free block stands there, as far as a link back asks
pub record BackRoom (w : ℕ) (b : List ℕ) (next : ℕ) : Type 0 where
  pub width : Width w
  pub block : (next ≡ 0 → ⊥) → (tags (shape w) ≤ word_at w b next) × (next + word_at w b next ≤ length b)

-- a free block of size s at p is within so many bytes
pub record FreeRoom (w bytes p s : ℕ) : Type 0 where
  pub width : Width w
  pub least : least_free (shape w) ≤ s
  pub inside : p + s ≤ bytes

-- the words of a free block of size s at p
unfoldable pub free_words : ℕ → ℕ → ℕ → ℕ → ℕ → List Word
free_words w p s prev next =
    record { at = p; is = s } ∷ record { at = next_at (shape w) p; is = next } ∷ record { at = previous_at (shape w) p s; is = prev } ∷ record { at = far_tag_at (shape w) p s; is = s } ∷ []

-- a free block from `from` to `to` and the links around it are within the bytes
pub record LinkRoom (w : ℕ) (b : List ℕ) (from to before behind : ℕ) : Type 0 where
  pub width : Width w
  pub least : from + least_free (shape w) ≤ to
  pub inside : to ≤ length b
  pub linked : link_of (shape w) before + w ≤ length b
  pub before_fits : next_at (shape w) before < 2 ^ 64
  pub back : BackRoom w b behind
  pub behind_inside : back_of (shape w) b behind + w ≤ length b

-- the bytes with that block and those links
unfoldable pub linked_bytes : ℕ → List ℕ → ℕ → ℕ → ℕ → ℕ → List ℕ
linked_bytes w b from to before behind =
    put_if (shape w) (draw w (record { at = link_of (shape w) before; is = from } ∷ free_words w from (to - from) before behind) b) (back_of (shape w) b behind) from
