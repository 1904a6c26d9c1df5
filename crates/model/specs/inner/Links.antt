-- Free blocks and items as inner calls link them. Contracts of inner calls name these; no public contract does, so no reader has to believe them.
use Rattle.std.specs.Prelude.{ℕ, zero, suc, ◌+◌, cond, List, [], ◌∷◌, eqb, leb, ltb}
use Rattle.words.specs.Word.{word_at, put}
use Rattle.model.specs.Shape.{Shape, least_free, item_size, offset_of}
use Rattle.model.specs.Parts.{first_free_at, next_at, previous_at, free_header, free_mark}
use Rattle.model.specs.Picture.{Word}

module _ (S : Shape) where
  -- where the link to what follows the free block at prev stands: in that block, or in the header
  abbrev pub link_of : ℕ → ℕ
  link_of prev = cond (eqb prev 0) (first_free_at S) (next_at S prev)

  -- where the free block at next has its link back, or 0
  abbrev pub back_of : List ℕ → ℕ → ℕ
  back_of b next = cond (eqb next 0) 0 (previous_at S next (word_at S.word b next))

  -- v put at a position, unless that is 0
  abbrev pub put_if : List ℕ → ℕ → ℕ → List ℕ
  put_if b at v = cond (eqb at 0) b (put S.word b at v)

  -- what a block in use takes of a free one of size s: need, or the whole where too little would remain
  abbrev pub takes : ℕ → ℕ → ℕ
  takes need s = cond (leb (need + least_free S) s) need s

  -- where the free rest stands behind a block of size u at p, or else d
  abbrev pub rest_at : ℕ → ℕ → ℕ → ℕ → ℕ
  rest_at u s p d = cond (ltb u s) (p + u) d

  -- the headers of n free items of class c from position p on, each with the offset of the next, the last with 0
  unfoldable pub item_words : ℕ → ℕ → ℕ → List Word
  item_words c p zero = []
  item_words c p (suc zero) = record { at = p; is = free_mark c } ∷ []
  item_words c p (suc (suc n)) = record { at = p; is = free_header c (offset_of S (p + item_size S c)) } ∷ item_words c (p + item_size S c) (suc n)
