-- What a change of the free block before or after some blocks does to their picture: one link changes.
use Rattle.std.proofs.Common.{ℕ, ◌+◌, ◌-◌, ◌*◌, ◌^◌, ◌≤◌, ◌<◌, ◌≡◌, refl, ◌∙◌, List, [], ◌∷◌, ◌⊎◌, inl, inr, ⊎_elim, arith, length}
use Rattle.words.specs.Word.{word_at, put}
use Rattle.words.proofs.WordLaws.{word_same, word_other}
use Rattle.model.specs.Picture.{Shows, draw}
use Rattle.model.proofs.pictures.Pictures.{Rise, Outside, rise_down, rise_clear, shows_append, shows_left, shows_right, outside_left, outside_right, shows_put, shows_draw}
use Rattle.model.specs.Shape.{Shape}
use Rattle.model.specs.Layout.{Block, free, used, use_size, use_words, size_of, ends, first_free, own, block_words}
use Rattle.model.proofs.blocks.Blocks.{link_at, back_words, le_ends, rise_own, rise_blocks}
use Rattle.model.specs.Sound.{Allowed, AllAllowed}

module _ (S : Shape) where
  -- the link stands at d, or within the blocks
  pub link_range : (p : ℕ) (bs : List Block) (d : ℕ) → AllAllowed S bs → (link_at S p bs d ≡ d) ⊎ ((p + S.word ≤ link_at S p bs d) × (link_at S p bs d + S.word ≤ ends S p bs))
  unfolding link_at ends AllAllowed Allowed size_of
  link_range p [] d h = inl refl
  link_range p (free s ∷ bs) d h =
      ⊎_elim (λ e. inr (omega (arith, h.0.0), omega (arith, h.0.0, le_ends S (p + s) bs))) (λ e. inr (omega (arith, e.0), e.1)) (link_range (p + s) bs (p + S.word) h.1)
  link_range p (used u ∷ bs) d h = ⊎_elim (λ e. inl e) (λ e. inr (omega (arith, e.0), e.1)) (link_range (p + use_size S u) bs d h.1)

  pub rise_back : (p : ℕ) (bs : List Block) (v : ℕ) → AllAllowed S bs → Rise S.word p (back_words S p bs v) (ends S p bs)
  unfolding back_words ends AllAllowed Allowed size_of Rise
  rise_back p [] v h = omega arith
  rise_back p (free s ∷ bs) v h = omega (arith, h.0.0, le_ends S (p + s) bs)
  rise_back p (used u ∷ bs) v h = rise_down S.word p (p + use_size S u) (back_words S (p + use_size S u) bs v) (ends S (p + use_size S u) bs) (omega arith) (rise_back (p + use_size S u) bs v h.1)

  -- another free block comes after the blocks: the link to it changes
  pub relink : (ls : List (List ℕ)) (p prev next v : ℕ) (bs : List Block) (d : ℕ) (b : List ℕ) → AllAllowed S bs → d + S.word ≤ p → ends S p bs ≤ length b → v < 256 ^ S.word
      → word_at S.word b d ≡ first_free S p bs next → Shows S.word b (block_words S ls p prev next bs)
      → (word_at S.word (put S.word b (link_at S p bs d) v) d ≡ first_free S p bs v) × Shows S.word (put S.word b (link_at S p bs d) v) (block_words S ls p prev v bs)
  unfolding first_free link_at block_words AllAllowed ends own size_of Allowed Shows
  relink ls p prev next v [] d b h below r f e s = (word_same S.word b d v (omega arith) f, tt)
  relink ls p prev next v (free t ∷ bs) d b h below r f e s =
      let q = p + t in
      let x = link_at S q bs (p + S.word) in
      let b' = put S.word b x v in
      let o = shows_left S.word b (own S ls p prev (first_free S q bs next) (free t)) (block_words S ls q p next bs) s in
      let g = link_range q bs (p + S.word) h.1 in
      let ih = relink ls q p next v bs (p + S.word) b h.1 (omega (arith, h.0.0)) r f o.1.0 (shows_right S.word b (own S ls p prev (first_free S q bs next) (free t)) (block_words S ls q p next bs) s) in (
        word_other S.word b x v d (λ k l. ⊎_elim (λ e. omega arith) (λ e. omega (arith, e.0)) g) ∙ e,
        shows_append S.word b' (own S ls p prev (first_free S q bs v) (free t)) (block_words S ls q p v bs)
            ((
              word_other S.word b x v p (λ k l. ⊎_elim (λ e. omega arith) (λ e. omega (arith, e.0)) g) ∙ o.0,
              (
                ih.0,
                (
                  word_other S.word b x v (p + t - 2 * S.word) (λ k l. ⊎_elim (λ e. omega (arith, h.0.0)) (λ e. omega (arith, e.0)) g) ∙ o.1.1.0,
                  (word_other S.word b x v (p + t - S.word) (λ k l. ⊎_elim (λ e. omega (arith, h.0.0)) (λ e. omega (arith, e.0)) g) ∙ o.1.1.1.0, tt),
                ),
              ),
            ))
            ih.1,
      )
  relink ls p prev next v (used u ∷ bs) d b h below r f e s =
      let q = p + use_size S u in
      let ih = relink ls q prev next v bs d b h.1 (omega arith) r f e (shows_right S.word b (use_words S ls p u) (block_words S ls q prev next bs) s) in
      let x = link_at S q bs d in (
        ih.0,
        shows_append S.word (put S.word b x v) (use_words S ls p u) (block_words S ls q prev v bs)
            (shows_put S.word b p (use_words S ls p u) q x v (rise_own S ls p prev next (used u) h.0)
            (λ k l. ⊎_elim (λ e. omega arith) (λ e. omega (arith, e.0)) (link_range q bs d h.1))
            (shows_left S.word b (use_words S ls p u) (block_words S ls q prev next bs) s)) ih.1,
      )

  -- another free block comes before the blocks: the link back to it changes
  pub reback : (ls : List (List ℕ)) (p prev next v : ℕ) (bs : List Block) (b : List ℕ) → AllAllowed S bs → ends S p bs ≤ length b → v < 256 ^ S.word
      → Shows S.word b (block_words S ls p prev next bs) → Shows S.word (draw S.word (back_words S p bs v) b) (block_words S ls p v next bs)
  unfolding block_words back_words AllAllowed ends own size_of Allowed draw Shows
  reback ls p prev next v [] b h r f s = s
  reback ls p prev next v (free t ∷ bs) b h r f s =
      let q = p + t in
      let x = p + t - 2 * S.word in
      let o = shows_left S.word b (own S ls p prev (first_free S q bs next) (free t)) (block_words S ls q p next bs) s in
      shows_append S.word (put S.word b x v) (own S ls p v (first_free S q bs next) (free t)) (block_words S ls q p next bs)
      ((
        word_other S.word b x v p (λ k l. omega (arith, h.0.0)) ∙ o.0,
        (
          word_other S.word b x v (p + S.word) (λ k l. omega (arith, h.0.0)) ∙ o.1.0,
          (
            word_same S.word b x v (omega (arith, h.0.0, le_ends S q bs)) f,
            (word_other S.word b x v (p + t - S.word) (λ k l. omega (arith, h.0.0)) ∙ o.1.1.1.0, tt),
          ),
        ),
      ))
      (shows_put S.word b q (block_words S ls q p next bs) (ends S q bs) x v (rise_blocks S ls q p next bs h.1) (λ k l. omega (arith, h.0.0))
      (shows_right S.word b (own S ls p prev (first_free S q bs next) (free t)) (block_words S ls q p next bs) s))
  reback ls p prev next v (used u ∷ bs) b h r f s =
      let q = p + use_size S u in
      shows_append S.word (draw S.word (back_words S q bs v) b) (use_words S ls p u) (block_words S ls q v next bs)
      (shows_draw S.word b p (use_words S ls p u) q (back_words S q bs v) (rise_own S ls p prev next (used u) h.0)
      (rise_clear S.word p q q (back_words S q bs v) (ends S q bs) (rise_back q bs v h.1) (λ k l. omega arith))
      (shows_left S.word b (use_words S ls p u) (block_words S ls q prev next bs) s))
      (reback ls q prev next v bs b h.1 r f (shows_right S.word b (use_words S ls p u) (block_words S ls q prev next bs) s))

  -- a byte outside the picture is in neither link
  pub link_out : (ls : List (List ℕ)) (p prev next : ℕ) (bs : List Block) (d i : ℕ) → Outside S.word i (block_words S ls p prev next bs)
      → (d ≤ i → i < d + S.word → ⊥) → link_at S p bs d ≤ i → i < link_at S p bs d + S.word → ⊥
  unfolding block_words link_at own Outside
  link_out ls p prev next [] d i o h = h
  link_out ls p prev next (free t ∷ bs) d i o h =
      let w = own S ls p prev (first_free S (p + size_of S (free t)) bs next) (free t) in
      link_out ls (p + size_of S (free t)) p next bs (p + S.word) i (outside_right S.word i w (block_words S ls (p + size_of S (free t)) p next bs) o)
      (outside_left S.word i w (block_words S ls (p + size_of S (free t)) p next bs) o).1.0
  link_out ls p prev next (used u ∷ bs) d i o h =
      link_out ls (p + size_of S (used u)) prev next bs d i (outside_right S.word i (use_words S ls p u) (block_words S ls (p + size_of S (used u)) prev next bs) o) h

  pub back_out : (ls : List (List ℕ)) (p prev next v : ℕ) (bs : List Block) (i : ℕ) → Outside S.word i (block_words S ls p prev next bs) → Outside S.word i (back_words S p bs v)
  unfolding block_words back_words own Outside
  back_out ls p prev next v [] i o = o
  back_out ls p prev next v (free t ∷ bs) i o =
      let w = own S ls p prev (first_free S (p + size_of S (free t)) bs next) (free t) in
      ((outside_left S.word i w (block_words S ls (p + size_of S (free t)) p next bs) o).1.1.0, tt)
  back_out ls p prev next v (used u ∷ bs) i o =
      back_out ls (p + size_of S (used u)) prev next v bs i (outside_right S.word i (use_words S ls p u) (block_words S ls (p + size_of S (used u)) prev next bs) o)
