-- A walk over a heap's blocks: where it stands, and what the tag there says.
use Rattle.std.proofs.Common.{ℕ, ◌+◌, ◌*◌, ◌/◌, ◌%◌, ◌≤◌, ◌<◌, ◌≡◌, refl, sym, ap, subst, ◌∙◌, List, [], ◌∷◌, ◌++◌, append_assoc, arith, length}
use Rattle.words.specs.Word.{word_at}
use Rattle.words.specs.Width.{Width}
use Rattle.model.specs.Shape.{shape, tags, item_size, end_of, start}
use Rattle.model.specs.Picture.{Shows}
use Rattle.model.specs.Layout.{Slot, variable, page, Block, free, used, Layout, if_free, use_size, size_of, ends, first_free, use_words, own, block_words}
use Rattle.model.specs.Sound.{Allowed, AllowedUse, AllAllowed}
use Rattle.model.proofs.pictures.Pictures.{shows_left, shows_right}
use Rattle.model.proofs.blocks.Blocks.{ends_append, le_ends, last_append, words_append, allowed_right}
use Rattle.model.specs.inner.Walks.{last_free, ends_free, Standing}
use Rattle.model.specs.inner.Laid.{Laid}
use Rattle.model.proofs.blocks.Valid.{ends_free_append}
use Rattle.model.proofs.pictures.Shown.{blocks_in}
use Rattle.model.proofs.Sizes.{page_least, page_eight}

pub stand_start : (w : ℕ) (L : Layout) → Standing w L (start (shape w)) 0 0
unfolding ends last_free ends_free
stand_start w L = record { pre = []; rest = L.blocks; blocks = refl; begins = refl; before = refl; touches = refl }

-- a block's tag
unfoldable pub block_tag : ℕ → Block → ℕ
block_tag w (free s) = s
block_tag w (used (variable s)) = s + 2
block_tag w (used (page c k ss)) = use_size (shape w) (page c k ss) + 3

-- what is known of the block x at p, with `after` behind it
pub record Met (w : ℕ) (b : List ℕ) (L : Layout) (p prev : ℕ) (x : Block) (after : List Block) : Type 0 where
  pub allowed : Allowed (shape w) x
  pub tag : word_at w b p ≡ block_tag w x
  pub least : 4 * w ≤ size_of (shape w) x
  pub eight : size_of (shape w) x % 8 ≡ 0
  pub inside : p + size_of (shape w) x ≤ end_of (length b)
  pub shown : Shows w b (own (shape w) L.lists p prev (first_free (shape w) (p + size_of (shape w) x) after 0) x)

module _ {w : ℕ} (wd : Width w) where
  pub sizes : (x : Block) → Allowed (shape w) x → (4 * w ≤ size_of (shape w) x) × (size_of (shape w) x % 8 ≡ 0)
  unfolding Allowed AllowedUse size_of use_size
  sizes (free s) a = omega arith
  sizes (used (variable s)) a = omega arith
  sizes (used (page c k ss)) a = page_large a.1
    where
      page_large : length ss ≡ (shape w).per_page c → (4 * w ≤ tags (shape w) + length ss * item_size (shape w) c + k) × ((tags (shape w) + length ss * item_size (shape w) c + k) % 8 ≡ 0)
      page_large e = rw e (omega (arith, page_least wd c), omega (arith, page_eight wd c, a.3))

  tag_shown : (b : List ℕ) (ls : List (List ℕ)) (p prev next : ℕ) (x : Block) → Shows w b (own (shape w) ls p prev next x) → word_at w b p ≡ block_tag w x
  unfolding own use_words Shows block_tag
  tag_shown b ls p prev next (free s) h = h.0
  tag_shown b ls p prev next (used (variable s)) h = h.0
  tag_shown b ls p prev next (used (page c k ss)) h = h.0

  module _ {b : List ℕ} {L : Layout} (h : Laid w b L) {p prev left : ℕ} (s : Standing w L p prev left) where
    pub met : (x : Block) (after : List Block) → s.rest ≡ x ∷ after → Met w b L p prev x after
    unfolding block_words ends AllAllowed
    met x after e =
        let blocks : L.blocks ≡ s.pre ++ (x ∷ after) = s.blocks ∙ ap (λ (l : List Block). s.pre ++ l) e in
        let all : AllAllowed (shape w) (s.pre ++ (x ∷ after)) = subst (λ (l : List Block). AllAllowed (shape w) l) blocks h.tiled.allowed in
        let a = (allowed_right (shape w) s.pre (x ∷ after) all).0 in
        let shown : Shows w b (block_words (shape w) L.lists (start (shape w)) 0 0 (s.pre ++ (x ∷ after))) = subst (λ (l : List Block). Shows w b (block_words (shape w) L.lists (start (shape w)) 0 0 l)) blocks (blocks_in (shape w) b (end_of (length b)) L h.shown) in
        let both = rw (words_append (shape w) L.lists (start (shape w)) 0 0 s.pre (x ∷ after), s.begins, s.before) at shown in
        let here = shows_right w b (block_words (shape w) L.lists (start (shape w)) 0 (first_free (shape w) p (x ∷ after) 0) s.pre) (block_words (shape w) L.lists p prev 0 (x ∷ after)) both in
        let own-shown = shows_left w b (own (shape w) L.lists p prev (first_free (shape w) (p + size_of (shape w) x) after 0) x) (block_words (shape w) L.lists (p + size_of (shape w) x) (if_free x p prev) 0 after) here in
        let fills : ends (shape w) (start (shape w)) (s.pre ++ (x ∷ after)) ≡ end_of (length b) = subst (λ (l : List Block). ends (shape w) (start (shape w)) l ≡ end_of (length b)) blocks h.tiled.fills in
        let f : ends (shape w) (p + size_of (shape w) x) after ≡ end_of (length b) = rw (ends_append (shape w) (start (shape w)) s.pre (x ∷ after), s.begins) at fills in
        record {
          allowed = a;
          tag = tag_shown b L.lists p prev (first_free (shape w) (p + size_of (shape w) x) after 0) x own-shown;
          least = (sizes x a).0;
          eight = (sizes x a).1;
          inside = omega (arith, f, le_ends (shape w) (p + size_of (shape w) x) after);
          shown = own-shown;
        }

    -- before the end there is a block
    pub record Block_there : Type 0 where
      pub block : Block
      pub after : List Block
      pub rest : s.rest ≡ block ∷ after
      pub met : Met w b L p prev block after

    pub there : p < end_of (length b) → Block_there
    unfolding ends
    there l = go s.rest refl
      where
        go : (r : List Block) → s.rest ≡ r → Block_there
        go [] e =
            let blocks : L.blocks ≡ s.pre ++ [] = s.blocks ∙ ap (λ (l : List Block). s.pre ++ l) e in
            let fills : ends (shape w) (start (shape w)) (s.pre ++ []) ≡ end_of (length b) = subst (λ (l : List Block). ends (shape w) (start (shape w)) l ≡ end_of (length b)) blocks h.tiled.fills in
            let f : p ≡ end_of (length b) = rw (ends_append (shape w) (start (shape w)) s.pre [], s.begins) at fills in
            absurd (omega arith)
        go (x ∷ after) e = record { block = x; after = after; rest = e; met = met x after e }

    -- the walk goes on behind it
    pub onward : (x : Block) (after : List Block) → s.rest ≡ x ∷ after → Standing w L (p + size_of (shape w) x) (if_free x p prev) (if_free x 1 0)
    unfolding ends last_free ends_free
    onward x after e =
        record {
          pre = s.pre ++ (x ∷ []);
          rest = after;
          blocks = s.blocks ∙ ap (λ (l : List Block). s.pre ++ l) e ∙ sym (append_assoc s.pre (x ∷ []) after);
          begins = ends_append (shape w) (start (shape w)) s.pre (x ∷ []) ∙ ap (λ (y : ℕ). y + size_of (shape w) x) s.begins;
          before = last_append (shape w) (start (shape w)) s.pre (x ∷ []) 0 ∙ rw (s.begins, s.before) refl;
          touches = ends_free_append 0 s.pre (x ∷ []);
        }

    -- what the tag t at p says: the block's size and kind
    module _ (t : ℕ) (e : t ≡ word_at w b p) (l : p < end_of (length b)) where
      size_told : (x : Block) → Allowed (shape w) x → size_of (shape w) x % 8 ≡ 0 → t ≡ block_tag w x → size_of (shape w) x ≡ t / 8 * 8
      unfolding block_tag size_of
      size_told (free s) a m f = omega arith
      size_told (used (variable s)) a m f = unfold use_size in omega arith
      size_told (used (page c k ss)) a m f = omega arith

      pub size_is : (x : Block) (after : List Block) → Met w b L p prev x after → size_of (shape w) x ≡ t / 8 * 8
      size_is x after m = size_told x m.allowed m.eight (e ∙ m.tag)

      -- the block is within the heap
      pub record Sized : Type 0 where
        pub least : 4 * w ≤ t / 8 * 8
        pub eight : t / 8 * 8 % 8 ≡ 0
        pub inside : p + t / 8 * 8 ≤ end_of (length b)

      pub sized : Sized
      sized =
          let x = there l in
          let k = size_is x.block x.after x.met in
          record { least = omega (arith, k, x.met.least); eight = omega arith; inside = omega (arith, k, x.met.inside) }

      pub walk_free : t % 8 ≡ 0 → Standing w L (p + t / 8 * 8) p 1
      unfolding block_tag
      walk_free z = go (there l).block (there l).after (there l).rest (there l).met
        where
          go : (x : Block) (after : List Block) → s.rest ≡ x ∷ after → Met w b L p prev x after → Standing w L (p + t / 8 * 8) p 1
          go (free n) after r m = rw (← size_is (free n) after m) (onward (free n) after r)
          go (used (variable n)) after r m = absurd (unfold size_of use_size in omega (arith, m.tag, m.eight))
          go (used (page c k ss)) after r m = absurd (unfold size_of in omega (arith, m.tag, m.eight))

      pub walk_used : (t % 8 ≡ 0 → ⊥) → Standing w L (p + t / 8 * 8) prev 0
      unfolding block_tag
      walk_used z = go (there l).block (there l).after (there l).rest (there l).met
        where
          go : (x : Block) (after : List Block) → s.rest ≡ x ∷ after → Met w b L p prev x after → Standing w L (p + t / 8 * 8) prev 0
          go (free n) after r m = absurd (z (unfold size_of in omega (arith, m.tag, m.eight)))
          go (used u) after r m = rw (← size_is (used u) after m) (onward (used u) after r)

      -- a variable block, or a page: which
      pub is_variable_lem : t % 8 ≡ 2 → (after : List Block) × (s.rest ≡ used (variable (t / 8 * 8)) ∷ after)
      unfolding block_tag
      is_variable_lem z = go (there l).block (there l).after (there l).rest (there l).met
        where
          go : (x : Block) (after : List Block) → s.rest ≡ x ∷ after → Met w b L p prev x after → (after : List Block) × (s.rest ≡ used (variable (t / 8 * 8)) ∷ after)
          go (free n) after r m = absurd (unfold size_of in omega (arith, m.tag, m.eight))
          go (used (variable n)) after r m = (after, r ∙ ap (λ (y : ℕ). used (variable y) ∷ after) (unfold size_of use_size in size_is (used (variable n)) after m))
          go (used (page c k ss)) after r m = absurd (unfold size_of in omega (arith, m.tag, m.eight))

      pub is_free : t % 8 ≡ 0 → (after : List Block) × (s.rest ≡ free (t / 8 * 8) ∷ after)
      unfolding block_tag
      is_free z = go (there l).block (there l).after (there l).rest (there l).met
        where
          go : (x : Block) (after : List Block) → s.rest ≡ x ∷ after → Met w b L p prev x after → (after : List Block) × (s.rest ≡ free (t / 8 * 8) ∷ after)
          go (free n) after r m = (after, r ∙ ap (λ (y : ℕ). free y ∷ after) (unfold size_of in size_is (free n) after m))
          go (used (variable n)) after r m = absurd (unfold size_of use_size in omega (arith, m.tag, m.eight))
          go (used (page c k ss)) after r m = absurd (unfold size_of in omega (arith, m.tag, m.eight))

      pub record PageThere : Type 0 where
        pub class : ℕ
        pub spare : ℕ
        pub slots : List Slot
        pub after : List Block
        pub rest : s.rest ≡ used (page class spare slots) ∷ after
        pub met : Met w b L p prev (used (page class spare slots)) after
        pub size : use_size (shape w) (page class spare slots) ≡ t / 8 * 8

      pub is_page : (t % 8 ≡ 0 → ⊥) → (t % 8 ≡ 2 → ⊥) → PageThere
      unfolding block_tag
      is_page z y = go (there l).block (there l).after (there l).rest (there l).met
        where
          go : (x : Block) (after : List Block) → s.rest ≡ x ∷ after → Met w b L p prev x after → PageThere
          go (free n) after r m = absurd (z (unfold size_of in omega (arith, m.tag, m.eight)))
          go (used (variable n)) after r m = absurd (y (unfold size_of use_size in omega (arith, m.tag, m.eight)))
          go (used (page c k ss)) after r m = record { class = c; spare = k; slots = ss; after = after; rest = r; met = m; size = unfold size_of in size_is (used (page c k ss)) after m }
