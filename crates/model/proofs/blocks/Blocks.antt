-- Laws of a layout's picture.
use Rattle.std.proofs.Common.{ℕ, ◌+◌, ◌-◌, ◌*◌, ◌≤◌, ◌≡◌, refl, sym, ap, List, [], ◌∷◌, ◌++◌, append_assoc, arith, length, get_or}
use Rattle.model.proofs.pictures.Pictures.{Rise, rise_down, rise_append}
use Rattle.model.specs.Shape.{Shape, item_size}
use Rattle.model.specs.Picture.{Word}
use Rattle.model.specs.Layout.{Slot, Use, variable, page, Block, free, used, if_free, use_size, size_of, ends, first_free, slot_words, use_words, own, block_words}
use Rattle.model.specs.Sound.{AllowedUse, Allowed, AllAllowed}
use Rattle.model.specs.inner.Walks.{last_free}

module _ (S : Shape) where
  -- where the link to what comes after the blocks from p on stands: in the last free block, or else at d
  unfoldable pub link_at : ℕ → List Block → ℕ → ℕ
  link_at p [] d = d
  link_at p (b ∷ bs) d = link_at (p + size_of S b) bs (if_free b (p + S.word) d)

  -- v as the previous link of the first free block from p on, if there is one
  unfoldable pub back_words : ℕ → List Block → ℕ → List Word
  back_words p [] v = []
  back_words p (free s ∷ bs) v = record { at = p + s - 2 * S.word; is = v } ∷ []
  back_words p (used u ∷ bs) v = back_words (p + size_of S (used u)) bs v

module _ (S : Shape) where
  pub ends_append : (p : ℕ) (xs ys : List Block) → ends S p (xs ++ ys) ≡ ends S (ends S p xs) ys
  unfolding ends
  ends_append p [] ys = refl
  ends_append p (b ∷ xs) ys = ends_append (p + size_of S b) xs ys

  pub le_ends : (p : ℕ) (xs : List Block) → p ≤ ends S p xs
  unfolding ends
  le_ends p [] = omega arith
  le_ends p (b ∷ xs) = omega (arith, le_ends (p + size_of S b) xs)

  pub first_append : (p : ℕ) (xs ys : List Block) (d : ℕ) → first_free S p (xs ++ ys) d ≡ first_free S p xs (first_free S (ends S p xs) ys d)
  unfolding ends first_free
  first_append p [] ys d = refl
  first_append p (b ∷ xs) ys d = ap (λ (x : ℕ). if_free b p x) (first_append (p + size_of S b) xs ys d)

  pub last_append : (p : ℕ) (xs ys : List Block) (d : ℕ) → last_free S p (xs ++ ys) d ≡ last_free S (ends S p xs) ys (last_free S p xs d)
  unfolding ends last_free
  last_append p [] ys d = refl
  last_append p (b ∷ xs) ys d = last_append (p + size_of S b) xs ys (if_free b p d)

  pub allowed_append : (xs ys : List Block) → AllAllowed S xs → AllAllowed S ys → AllAllowed S (xs ++ ys)
  unfolding AllAllowed
  allowed_append [] ys h k = k
  allowed_append (b ∷ xs) ys h k = (h.0, allowed_append xs ys h.1 k)

  pub allowed_left : (xs ys : List Block) → AllAllowed S (xs ++ ys) → AllAllowed S xs
  unfolding AllAllowed
  allowed_left [] ys h = tt
  allowed_left (b ∷ xs) ys h = (h.0, allowed_left xs ys h.1)

  pub allowed_right : (xs ys : List Block) → AllAllowed S (xs ++ ys) → AllAllowed S ys
  unfolding AllAllowed
  allowed_right [] ys h = h
  allowed_right (b ∷ xs) ys h = allowed_right xs ys h.1

  -- the picture of blocks in two parts
  pub words_append : (ls : List (List ℕ)) (p prev next : ℕ) (xs ys : List Block)
      → block_words S ls p prev next (xs ++ ys) ≡ block_words S ls p prev (first_free S (ends S p xs) ys next) xs ++ block_words S ls (ends S p xs) (last_free S p xs prev) next ys
  unfolding ends last_free block_words
  words_append ls p prev next [] ys = refl
  words_append ls p prev next (b ∷ xs) ys =
      rw (first_append (p + size_of S b) xs ys next, words_append ls (p + size_of S b) (if_free b p prev) next xs ys)
      (sym (append_assoc (own S ls p prev (first_free S (p + size_of S b) xs (first_free S (ends S (p + size_of S b) xs) ys next)) b) _ _))

  -- a block's words stand in it, and those of blocks in them
  pub rise_slots : (c : ℕ) (l : List ℕ) (p : ℕ) (ss : List Slot) (hi : ℕ) → p + length ss * item_size S c ≤ hi → Rise S.word p (slot_words S c l p ss) hi
  unfolding Rise slot_words
  rise_slots c l p [] hi h = omega arith
  rise_slots c l p (s ∷ ss) hi h = (omega arith, rise_down S.word (p + S.word) (p + item_size S c) (slot_words S c l (p + item_size S c) ss) hi (omega arith) (rise_slots c l (p + item_size S c) ss hi (omega arith)))

  rise_use : (ls : List (List ℕ)) (p : ℕ) (u : Use) → AllowedUse S u → Rise S.word p (use_words S ls p u) (p + use_size S u)
  unfolding Rise use_words AllowedUse use_size
  rise_use ls p (variable s) h = omega arith
  rise_use ls p (page c k ss) h = (
    omega arith,
    rise_append S.word (p + S.word) (slot_words S c (get_or ls c []) (p + S.word) ss) (p + S.word + length ss * item_size S c)
        (record { at = p + use_size S (page c k ss) - S.word; is = use_size S (page c k ss) + 3 } ∷ []) (p + use_size S (page c k ss))
        (rise_slots c (get_or ls c []) (p + S.word) ss (p + S.word + length ss * item_size S c) (omega arith)) (omega arith),
  )

  pub rise_own : (ls : List (List ℕ)) (p prev next : ℕ) (b : Block) → Allowed S b → Rise S.word p (own S ls p prev next b) (p + size_of S b)
  unfolding own Allowed size_of
  rise_own ls p prev next (free s) h = unfold Rise in omega arith
  rise_own ls p prev next (used u) h = rise_use ls p u h

  pub rise_blocks : (ls : List (List ℕ)) (p prev next : ℕ) (bs : List Block) → AllAllowed S bs → Rise S.word p (block_words S ls p prev next bs) (ends S p bs)
  unfolding Rise block_words ends AllAllowed
  rise_blocks ls p prev next [] h = omega arith
  rise_blocks ls p prev next (b ∷ bs) h =
      rise_append S.word p (own S ls p prev (first_free S (p + size_of S b) bs next) b) (p + size_of S b)
      (block_words S ls (p + size_of S b) (if_free b p prev) next bs) (ends S (p + size_of S b) bs)
      (rise_own ls p prev (first_free S (p + size_of S b) bs next) b h.0) (rise_blocks ls (p + size_of S b) (if_free b p prev) next bs h.1)

  -- the first and the last free block of some are no further than their end
  pub first_below : (end p : ℕ) (bs : List Block) (next : ℕ) → ends S p bs ≤ end → next ≤ end → first_free S p bs next ≤ end
  unfolding first_free ends
  first_below end p [] next h k = k
  first_below end p (free s ∷ bs) next h k = omega (arith, le_ends (p + size_of S (free s)) bs)
  first_below end p (used u ∷ bs) next h k = first_below end (p + size_of S (used u)) bs next h k

  pub last_below : (end p : ℕ) (bs : List Block) (prev : ℕ) → ends S p bs ≤ end → prev ≤ end → last_free S p bs prev ≤ end
  unfolding last_free ends
  last_below end p [] prev h k = k
  last_below end p (free s ∷ bs) prev h k = last_below end (p + size_of S (free s)) bs p h (omega (arith, le_ends (p + size_of S (free s)) bs))
  last_below end p (used u ∷ bs) prev h k = last_below end (p + size_of S (used u)) bs prev h k
