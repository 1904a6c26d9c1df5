-- Blocks in the middle of a layout become others: a block is split, taken whole, or joined to its neighbours.
-- The new blocks written whole, and the two links that lead there from outside, draw the new layout.
use Rattle.std.proofs.Common.{ℕ, ◌+◌, ◌-◌, ◌%◌, ◌≤◌, ◌≡◌, refl, sym, ap, ◌∙◌, List, [], ◌∷◌, ◌++◌, arith, length}
use Rattle.words.specs.Word.{Bytes}
use Rattle.model.specs.Shape.{Shape, start, least_free}
use Rattle.model.specs.Picture.{Shows, draw}
use Rattle.model.specs.Layout.{Use, Block, free, used, use_size, size_of, ends, block_words, words}
use Rattle.model.specs.Sound.{AllowedUse, Allowed, AllAllowed, Apart, idle_in, idle_items, Valid}
use Rattle.model.specs.inner.Laid.{Tiled}
use Rattle.model.proofs.Good.{Good}
use Rattle.model.proofs.pictures.Pictures.{Rise, rise_inside, draw_shows}
use Rattle.model.proofs.blocks.Blocks.{le_ends, ends_append, allowed_left, allowed_right, rise_blocks, first_below, last_below}
use Rattle.model.proofs.blocks.Replace.{three, Places, changes, replaced}
use Rattle.model.proofs.pictures.Drawn.{fit_blocks}
use Rattle.model.proofs.blocks.Valid.{replaced_tiled, replaced_valid, replaced_valid_at, apart_down}
use Rattle.model.specs.inner.Walks.{ends_free}

module _ (S : Shape) (end : ℕ) (ls : List (List ℕ)) (pre old mid post : List Block) (p q prev next : ℕ) where
  -- THE LAW, for any old and new blocks of the same extent
  pub remade : Good S → (b : List ℕ) → Bytes b → end ≤ length b → end ≤ S.most
      → AllAllowed S old → Tiled S end (three S ls pre mid post) → Places S pre old post p q prev next → ends S p mid ≡ q
      → Shows S.word b (words S end (three S ls pre old post))
      → draw S.word (changes S pre mid post p q prev next (block_words S ls p prev next mid)) b ≡ draw S.word (words S end (three S ls pre mid post)) b
  remade good b bytes inside short aold will at f shown =
      let ms = block_words S ls p prev next mid in
      let apre = allowed_left S pre (mid ++ post) will.allowed in
      let amid = allowed_left S mid post (allowed_right S pre (mid ++ post) will.allowed) in
      let apost = allowed_right S mid post (allowed_right S pre (mid ++ post) will.allowed) in
      let e : ends S q post ≡ end =
      ap (λ (x : ℕ). ends S x post) (sym f) ∙ sym (ends_append S p mid post) ∙ ap (λ (x : ℕ). ends S x (mid ++ post)) (sym at.begins) ∙ sym (ends_append S (start S) pre (mid ++ post)) ∙ will.fills in
      let pe : ends S (start S) pre ≤ end = omega (arith, at.begins, f, le_ends S p mid, le_ends S q post) in
      let next_le : next ≤ end = omega (arith, at.behind, first_below S end q post 0 (omega arith) (omega arith)) in
      let prev-le : prev ≤ end = omega (arith, at.before, last_below S end (start S) pre 0 pe (omega arith)) in
      let mid_le : ends S p mid ≤ end = omega (arith, le_ends S q post) in
      let first_le = first_below S end p mid next mid_le next_le in
      let last-le = last_below S end p mid prev mid_le prev-le in
      let r : Rise S.word p ms q = rw f at (rise_blocks S ls p prev next mid amid) in
      let new : Places S pre mid post p q prev next = record { begins = at.begins; finishes = f; before = at.before; behind = at.behind } in
      replaced S end ls pre old mid post p q prev next b ms at new bytes will.classes apre aold amid apost (omega (arith, good.fits end short)) (omega (arith, good.fits end short)) (omega (arith, good.fits end short))
      (rise_inside S.word p p ms q (omega arith) r) (λ i o. o)
      (λ c k s. draw_shows S.word p ms q c r (omega (arith, le_ends S q post)) (fit_blocks S good end (three S ls pre mid post) will short p prev next mid amid mid_le prev-le next_le)) shown

-- where the new layout is valid
module _ (S : Shape) (end : ℕ) (ls : List (List ℕ)) (pre post : List Block) where
  -- a free block is split: its low end is in use, and the rest stays free
  pub split_valid : (s : ℕ) (u : Use) → Valid S end (three S ls pre (free s ∷ []) post) → AllowedUse S u → use_size S u + least_free S ≤ s → use_size S u % 8 ≡ 0
      → ((c : ℕ) → idle_in S c (ends S (start S) pre) (used u) ≡ []) → Valid S end (three S ls pre (used u ∷ free (s - use_size S u) ∷ []) post)
  unfolding AllAllowed Allowed Apart ends size_of idle_items
  split_valid s u v a short eight none =
      let old = allowed_left S (free s ∷ []) post (allowed_right S pre ((free s ∷ []) ++ post) v.allowed) in
      replaced_valid S end ls pre (free s ∷ []) (used u ∷ free (s - use_size S u) ∷ []) post v (a, ((omega arith, omega (arith, old.0.1)), tt))
      (omega arith) (λ d h. (omega (arith, h.0), (omega arith, h.1)))
      (λ c. unfold idle_in in rw (none c) refl)

  -- or it is taken whole
  pub whole_valid : (s : ℕ) (u : Use) → Valid S end (three S ls pre (free s ∷ []) post) → AllowedUse S u → use_size S u ≡ s
      → ((c : ℕ) → idle_in S c (ends S (start S) pre) (used u) ≡ []) → Valid S end (three S ls pre (used u ∷ []) post)
  unfolding AllAllowed Allowed Apart ends size_of idle_items
  whole_valid s u v a size none =
      replaced_valid S end ls pre (free s ∷ []) (used u ∷ []) post v (a, tt)
      (omega arith) (λ d h. (omega (arith, h.0), apart_down 1 0 post (omega arith) h.1))
      (λ c. unfold idle_in in rw (none c) refl)

  -- blocks become one free block
  pub joined_tiled : (old : List Block) (n : ℕ) → Tiled S end (three S ls pre old post) → ends S (ends S (start S) pre) old ≡ ends S (start S) pre + n → least_free S ≤ n → n % 8 ≡ 0
      → (Apart (ends_free 0 pre) (old ++ post) → Apart (ends_free 0 pre) (free n ∷ post)) → Tiled S end (three S ls pre (free n ∷ []) post)
  unfolding AllAllowed Allowed ends size_of
  joined_tiled old n v e big eight a = replaced_tiled S end ls pre old (free n ∷ []) post v ((big, eight), tt) (sym e) a

  -- and the layout stays valid where they have no free item
  pub joined_valid : (old : List Block) (n : ℕ) → Valid S end (three S ls pre old post) → ends S (ends S (start S) pre) old ≡ ends S (start S) pre + n → least_free S ≤ n → n % 8 ≡ 0
      → ((c : ℕ) → idle_items S c (ends S (start S) pre) old ≡ []) → (Apart (ends_free 0 pre) (old ++ post) → Apart (ends_free 0 pre) (free n ∷ post)) → Valid S end (three S ls pre (free n ∷ []) post)
  unfolding AllAllowed Allowed ends size_of idle_items idle_in
  joined_valid old n v e big eight none a = replaced_valid_at S end ls pre old (free n ∷ []) post v ((big, eight), tt) (sym e) a (λ c. sym (none c))
