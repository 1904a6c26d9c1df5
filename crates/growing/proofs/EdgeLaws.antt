-- The end of a heap: what the tag before it tells, and where its last free block stands.
use Rattle.std.proofs.Common.{ℕ, ◌+◌, ◌-◌, ◌%◌, ◌≤◌, ◌<◌, ◌≡◌, refl, sym, ap, subst, ◌∙◌, List, [], ◌∷◌, ◌++◌, append-nil, ◌⊎◌, inl, inr, ⊎_elim, arith, length, get_or}
use Rattle.words.specs.Width.{Width}
use Rattle.words.specs.Word.{word_at}
use Rattle.model.specs.Shape.{shape, start, least_free, end_of}
use Rattle.model.specs.Parts.{free_kind, kind_in, far_tag_at, previous_at, first_item_at, index_tag, index_far_tag_at}
use Rattle.model.specs.Picture.{Shows}
use Rattle.model.specs.Layout.{Use, variable, page, Block, free, used, Layout, use_size, size_of, ends, first_free, slot_words, use_words, own, block_words, head_words, fixed_low, fixed_high, words}
use Rattle.model.specs.Sound.{AllowedUse, Allowed, AllAllowed, Here}
use Rattle.model.specs.inner.Walks.{last_free, ends_free}
use Rattle.model.specs.inner.Edges.{Last, added, enlarged, Edged}
use Rattle.model.proofs.Good.{shape_good}
use Rattle.model.proofs.Sizes.{start_eight}
use Rattle.model.proofs.pictures.Pictures.{shows_left, shows_right}
use Rattle.model.proofs.blocks.Blocks.{ends_append, le_ends, last_append, allowed_right}
use Rattle.model.proofs.blocks.Middle.{middle_of, old_shown, all_old}
use Rattle.model.proofs.rules.Growth.{extends}
use Rattle.find.specs.Find.{Nearest}
use Rattle.growing.specs.Growing.{Whole, EdgeAt, FreeBefore}

module _ {w : ℕ} (wd : Width w) where
  -- the far tag of a block in use is not a free one's
  use_tagged : (ls : List (List ℕ)) (b : List ℕ) (p : ℕ) (u : Use) → AllowedUse (shape w) u → Shows w b (use_words (shape w) ls p u) → kind_in (word_at w b (far_tag_at (shape w) p (use_size (shape w) u))) ≡ free_kind → ⊥
  unfolding use_words use_size AllowedUse Shows
  use_tagged ls b p (variable s) a h k = omega (arith, h.1.0, a.1, k)
  use_tagged ls b p (page c j ss) a h k =
      let far = (shows_right w b (slot_words (shape w) c (get_or ls c []) (first_item_at (shape w) p) ss) _ h.1).0 in
      let size : use_size (shape w) (page c j ss) % 8 ≡ 0 = rw a.1 (omega (arith, (shape_good wd).pages c, a.3)) in
      omega (arith, far, size, k)

  -- nor is the tag before the end of blocks that end with one in use
  last_tagged : (ls : List (List ℕ)) (b : List ℕ) (p prev next d : ℕ) (bs : List Block) → (d ≡ 0 → kind_in (word_at w b (p - w)) ≡ free_kind → ⊥) → AllAllowed (shape w) bs
      → Shows w b (block_words (shape w) ls p prev next bs) → ends_free d bs ≡ 0 → kind_in (word_at w b (ends (shape w) p bs - w)) ≡ free_kind → ⊥
  unfolding block_words own ends size_of AllAllowed Allowed ends_free
  last_tagged ls b p prev next d [] f a h e = f e
  last_tagged ls b p prev next d (free s ∷ bs) f a h e =
      last_tagged ls b (p + s) p next 1 bs (λ z. absurd (omega (arith, z))) a.1 (shows_right w b (own (shape w) ls p prev (first_free (shape w) (p + s) bs next) (free s)) (block_words (shape w) ls (p + s) p next bs) h) e
  last_tagged ls b p prev next d (used u ∷ bs) f a h e =
      let q = p + use_size (shape w) u in
      last_tagged ls b q prev next 0 bs (λ z. use_tagged ls b p u a.0 (shows_left w b (use_words (shape w) ls p u) (block_words (shape w) ls q prev next bs) h)) a.1
      (shows_right w b (use_words (shape w) ls p u) (block_words (shape w) ls q prev next bs) h) e

  -- blocks with no free one among them have none before or behind
  none_free : (p d : ℕ) (bs : List Block) → 0 < p → first_free (shape w) p bs 0 ≡ 0 → last_free (shape w) p bs d ≡ d
  unfolding first_free last_free
  none_free p d [] z e = refl
  none_free p d (free s ∷ bs) z e = absurd (omega (arith, z, e))
  none_free p d (used u ∷ bs) z e = none_free (p + size_of (shape w) (used u)) d bs (omega (arith, z)) e

  -- the first free one begins before they end
  first_before : (p : ℕ) (bs : List Block) → AllAllowed (shape w) bs → (first_free (shape w) p bs 0 ≡ 0) ⊎ (first_free (shape w) p bs 0 < ends (shape w) p bs)
  unfolding first_free ends size_of AllAllowed Allowed
  first_before p [] a = inl refl
  first_before p (free s ∷ bs) a = inr (omega (arith, a.0.0, (shape_good wd).word, le_ends (shape w) (p + s) bs))
  first_before p (used u ∷ bs) a = first_before (p + use_size (shape w) u) bs a.1

  module _ (b : List ℕ) (whole : Whole w b) where
    ends_here : (L : Layout) → Here (shape w) b L → ends (shape w) (start (shape w)) L.blocks ≡ length b
    ends_here L h = omega (arith, h.valid.fills, whole.eight)

    module _ (L : Layout) (h : Here (shape w) b L) where
      -- a last block that is free, by its words
      enlarged_read : (pre : List Block) (s : ℕ) → L.blocks ≡ pre ++ (free s ∷ [])
          → (ends (shape w) (start (shape w)) pre + s ≡ length b) × (s % 8 ≡ 0) × (least_free (shape w) ≤ s) × (word_at w b (length b - w) ≡ s)
          × (word_at w b (previous_at (shape w) (ends (shape w) (start (shape w)) pre) s) ≡ last_free (shape w) (start (shape w)) pre 0)
      unfolding block_words own Shows AllAllowed Allowed ends size_of
      enlarged_read pre s e =
          let p = ends (shape w) (start (shape w)) pre in
          let m = middle_of (shape w) b L pre (free s ∷ []) [] p h (e ∙ ap (λ (bs : List Block). pre ++ bs) (sym (append-nil (free s ∷ [])))) refl in
          let x = old_shown (shape w) m in
          let a = all_old (shape w) m in
          let f : p + s ≡ length b = sym (ends_append (shape w) (start (shape w)) pre (free s ∷ [])) ∙ ap (λ (bs : List Block). ends (shape w) (start (shape w)) bs) (sym e) ∙ ends_here L h in
          (f, a.0.1, a.0.0, subst (λ (y : ℕ). word_at w b (y - w) ≡ s) f x.1.1.1.0, x.1.1.0)

      blocks_there : Shows w b (block_words (shape w) L.lists (start (shape w)) 0 0 L.blocks)
      unfolding words fixed_low Shows
      blocks_there = shows_right w b (fixed_high (shape w) (end_of (length b)) L.lists) (block_words (shape w) L.lists (start (shape w)) 0 0 L.blocks) h.shown.1.1.1

      index_tagged : kind_in (word_at w b (start (shape w) - w)) ≡ free_kind → ⊥
      unfolding words fixed_low fixed_high Shows
      index_tagged k =
          let high = shows_left w b (fixed_high (shape w) (end_of (length b)) L.lists) (block_words (shape w) L.lists (start (shape w)) 0 0 L.blocks) h.shown.1.1.1 in
          let far : word_at w b (index_far_tag_at (shape w)) ≡ index_tag (shape w) = (shows_right w b (head_words (shape w) _ L.lists) _ high.1.1).0 in
          omega (arith, far, k, start_eight wd, wd.fours)

      -- a last block in use, by the tag before the end
      added_read : (pre : List Block) → L.blocks ≡ pre ++ [] → ends_free 0 pre ≡ 0 → (ends (shape w) (start (shape w)) pre ≡ length b) × (kind_in (word_at w b (length b - w)) ≡ free_kind → ⊥)
      added_read pre e z =
          let same : L.blocks ≡ pre = e ∙ append-nil pre in
          let f : ends (shape w) (start (shape w)) pre ≡ length b = ap (λ (bs : List Block). ends (shape w) (start (shape w)) bs) (sym same) ∙ ends_here L h in (
            f,
            (λ k. last_tagged L.lists b (start (shape w)) 0 0 0 L.blocks (λ _. index_tagged) h.valid.allowed blocks_there (ap (λ (bs : List Block). ends_free 0 bs) same ∙ z)
                (subst (λ (y : ℕ). kind_in (word_at w b (y - w)) ≡ free_kind) (sym (ends_here L h)) k)),
          )

    -- a free block that grows the heap begins where the last one does, if that is free
    pub edge_free : (t : ℕ) → t ≡ word_at w b (length b - w) → kind_in t ≡ free_kind → (t ≤ length b) × EdgeAt w b (length b - t)
    edge_free t e k =
        let x = extends 0 0 whole.sound.layout.blocks (λ z. refl) in
        (inside whole.sound.layout whole.sound.here x.pre x.last x.was, record { is = λ L h pre old d. at L h pre d.last d.blocks })
      where
        at : (L : Layout) → Here (shape w) b L → (pre : List Block) {old : List Block} → Last 0 pre old → L.blocks ≡ pre ++ old → length b - t ≡ ends (shape w) (start (shape w)) pre
        at L h pre (added z) f = absurd ((added_read L h pre f z).1 (subst (λ (y : ℕ). kind_in y ≡ free_kind) e k))
        at L h pre (enlarged s) f = let r = enlarged_read L h pre s f in omega (arith, e, r.0, r.3)

        inside : (L : Layout) → Here (shape w) b L → (pre : List Block) {old : List Block} → Last 0 pre old → L.blocks ≡ pre ++ old → t ≤ length b
        inside L h pre (added z) f = absurd ((added_read L h pre f z).1 (subst (λ (y : ℕ). kind_in y ≡ free_kind) e k))
        inside L h pre (enlarged s) f = let r = enlarged_read L h pre s f in omega (arith, e, r.0, r.3)

    -- or else at the end
    pub edge_used : (t : ℕ) → t ≡ word_at w b (length b - w) → (kind_in t ≡ free_kind → ⊥) → EdgeAt w b (length b)
    edge_used t e k = record { is = λ L h pre old d. at L h pre d.last d.blocks }
      where
        at : (L : Layout) → Here (shape w) b L → (pre : List Block) {old : List Block} → Last 0 pre old → L.blocks ≡ pre ++ old → length b ≡ ends (shape w) (start (shape w)) pre
        at L h pre (added z) f = sym (added_read L h pre f z).0
        at L h pre (enlarged s) f = let r = enlarged_read L h pre s f in absurd (k (omega (arith, e, r.3, r.1)))

    -- the free block before that place: the last of all, where it is the end
    pub before_end : (from prev : ℕ) → EdgeAt w b from → from ≡ length b → ((L : Layout) → Here (shape w) b L → Nearest w b L (length b) prev) → FreeBefore w b prev
    before_end from prev x e n = record { is = λ L h pre old d. at L h pre old d d.last d.blocks }
      where
        last_of : (L : Layout) → Here (shape w) b L → last_free (shape w) (start (shape w)) L.blocks 0 ≡ prev
        last_of L h =
            let c = (n L h).clear in
            let m = c.between in
            let p = ends (shape w) (start (shape w)) m.pre in
            let split : L.blocks ≡ m.pre ++ m.rest = m.passed.blocks in
            let ended : ends (shape w) p m.rest ≡ length b = sym (ends_append (shape w) (start (shape w)) m.pre m.rest) ∙ ap (λ (bs : List Block). ends (shape w) (start (shape w)) bs) (sym split) ∙ ends_here L h in
            ap (λ (bs : List Block). last_free (shape w) (start (shape w)) bs 0) split
            ∙ last_append (shape w) (start (shape w)) m.pre m.rest 0
            ∙ none_free p _ m.rest (omega (arith, le_ends (shape w) (start (shape w)) m.pre))
            (⊎_elim (λ z. subst (λ (y : ℕ). first_free (shape w) y m.rest 0 ≡ 0) (sym m.passed.begins) (m.onward ∙ z))
            (λ z. ⊎_elim (λ y. y) (λ y. absurd (omega (arith, y, z, ended, ap (λ (q : ℕ). first_free (shape w) q m.rest 0) m.passed.begins, m.onward)))
            (first_before p m.rest (rest_allowed L h m.pre m.rest split)))
            c.above)
            ∙ m.before
          where
            rest_allowed : (L : Layout) → Here (shape w) b L → (pre rest : List Block) → L.blocks ≡ pre ++ rest → AllAllowed (shape w) rest
            rest_allowed L h pre rest e = allowed_right (shape w) pre rest (subst (λ (bs : List Block). AllAllowed (shape w) bs) e h.valid.allowed)

        at : (L : Layout) → Here (shape w) b L → (pre old : List Block) → Edged L pre old → Last 0 pre old → L.blocks ≡ pre ++ old → prev ≡ last_free (shape w) (start (shape w)) pre 0
        at L h pre old d (added z) f = sym (last_of L h) ∙ ap (λ (bs : List Block). last_free (shape w) (start (shape w)) bs 0) (f ∙ append-nil pre)
        at L h pre old d (enlarged s) f = let r = enlarged_read L h pre s f in absurd (omega (arith, x.is L h pre old d, e, r.0, r.2, (shape_good wd).word))

    -- or the one that a last free block names
    pub before_edge : (from : ℕ) → EdgeAt w b from → (from ≡ length b → ⊥) → (from + least_free (shape w) ≤ length b) × FreeBefore w b (word_at w b (previous_at (shape w) from (length b - from)))
    before_edge from x n =
        let y = extends 0 0 whole.sound.layout.blocks (λ z. refl) in
        (inside whole.sound.layout whole.sound.here y.pre y.old (record { blocks = y.was; last = y.last }) y.last y.was, record { is = λ L h pre old d. at L h pre old d d.last d.blocks })
      where
        inside : (L : Layout) → Here (shape w) b L → (pre old : List Block) → Edged L pre old → Last 0 pre old → L.blocks ≡ pre ++ old → from + least_free (shape w) ≤ length b
        inside L h pre old d (added z) f = absurd (n (x.is L h pre old d ∙ (added_read L h pre f z).0))
        inside L h pre old d (enlarged s) f = let r = enlarged_read L h pre s f in omega (arith, x.is L h pre old d, r.0, r.2)

        at : (L : Layout) → Here (shape w) b L → (pre old : List Block) → Edged L pre old → Last 0 pre old → L.blocks ≡ pre ++ old → word_at w b (previous_at (shape w) from (length b - from)) ≡ last_free (shape w) (start (shape w)) pre 0
        at L h pre old d (added z) f = absurd (n (x.is L h pre old d ∙ (added_read L h pre f z).0))
        at L h pre old d (enlarged s) f =
            let r = enlarged_read L h pre s f in
            let p = x.is L h pre old d in
            ap (λ (q : ℕ). word_at w b q) (omega (arith, p, r.0, r.2)) ∙ r.4
