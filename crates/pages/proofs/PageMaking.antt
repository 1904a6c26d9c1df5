-- A page is written in a free block: the head of its class, its block and its items.
use Rattle.std.proofs.Common.{◌≡◌, ℕ, ◌+◌, ◌*◌, ◌<◌, ◌≤◌, List, [], ◌∷◌, ◌++◌, length, get_or, set, refl, sym, ap, ◌∙◌, arith, get_or-set_same}
use Rattle.words.specs.Width.{Width}
use Rattle.words.specs.Word.{put, Bytes}
use Rattle.words.proofs.WordLaws.{length_put, bytes_put}
use Rattle.model.specs.Shape.{shape, start, offset_of, page_need, end_of, index}
use Rattle.model.specs.Parts.{page_kind, tag_of, head_at, far_tag_at, first_item_at}
use Rattle.model.specs.Picture.{draw}
use Rattle.model.specs.Layout.{free, Layout, head_of, first_free, use_words, words}
use Rattle.model.specs.Rules.{Spot, paged}
use Rattle.model.specs.Calls.{drawn}
use Rattle.model.specs.inner.Walks.{last_free, SpotIn}
use Rattle.model.proofs.Good.{shape_good}
use Rattle.model.proofs.blocks.Middle.{Middle, start_le}
use Rattle.model.specs.inner.Links.{put_if, takes, rest_at, item_words}
use Rattle.model.proofs.blocks.Spots.{spot_middle}
use Rattle.model.proofs.blocks.Taken.{takes_of, block_in}
use Rattle.model.proofs.pictures.Drawn.{tiled}
use Rattle.model.proofs.pictures.Relist.{head_middle, head_over}
use Rattle.model.proofs.pictures.Heads.{empty_list, none_idle}
use Rattle.model.proofs.items.PageWords.{first_offset, items_linked}
use Rattle.model.proofs.items.Paged.{page_of, page_list, page_takes, page_layout, page_size, paged_as, page_valid}
use Rattle.placing.specs.declared.Gap.{Gap}
use Rattle.placing.specs.Blocks.{GapRead, low_words, high_words}
use Rattle.pages.specs.Pages.{NoItem}
use Rattle.placing.proofs.Taking.{s_is, gap_drawn}
use Rattle.model.proofs.Sizes.{per_page_bound, page_eight, words_fit, most_bound}

-- the words of a page that takes u bytes at p
page_words : {w : ℕ} → Width w → (ls : List (List ℕ)) (c p u : ℕ) → index (shape w) ≤ p → page_need (shape w) c ≤ u → c < length ls
    → use_words (shape w) (set ls c (page_list (shape w) c p)) p (page_of (shape w) c u) ≡ record { at = p; is = tag_of u page_kind } ∷ (item_words (shape w) c (first_item_at (shape w) p) ((shape w).per_page c) ++ (record { at = far_tag_at (shape w) p u; is = tag_of u page_kind } ∷ []))
unfolding use_words
page_words {w} wd ls c p u low l cl =
    rw (page_size (shape w) c u l, get_or-set_same ls c (page_list (shape w) c p) [] cl, items_linked (shape w) c (first_item_at (shape w) p) ((shape w).per_page c) (omega arith)) refl

module _ {w : ℕ} {b : List ℕ} {p c : ℕ} (k : NoItem w b c) where
  module _ {L : Layout} {t : Spot} (x : SpotIn (shape w) b p (page_need (shape w) c) L t) where
    page_low : start (shape w) ≤ p
    page_low = start_le (shape w) (spot_middle (shape w) x)

    page_in_lem : p + page_need (shape w) c ≤ length b
    page_in_lem = omega (arith, block_in (shape w) (spot_middle (shape w) x), x.split.large)

    -- where the page may stand, in numbers
    pub page_fits : (start (shape w) ≤ p) × (p + page_need (shape w) c ≤ length b) × (length b ≤ (shape w).most) × ((shape w).most ≤ 131072 * w)
    page_fits = (page_low, page_in_lem, k.short, most_bound k.width)

    empty : get_or L.lists c [] ≡ []
    empty = empty_list (shape w) (shape_good k.width) b L x.here c k.class k.short k.none

    -- the heap once the head is written: the free block can be read as before
    module _ (head first : ℕ) (b₁ : List ℕ) (eh : head ≡ head_at (shape w) c) (ef : first ≡ offset_of (shape w) (first_item_at (shape w) p)) (e₁ : b₁ ≡ put w b head first) where
      first_is : first ≡ head_of (page_list (shape w) c p)
      first_is = ef ∙ sym (first_offset (shape w) c (first_item_at (shape w) p) ((shape w).per_page c) (omega (arith, per_page_bound k.width c)))

      put_is : b₁ ≡ put w b (head_at (shape w) c) (head_of (page_list (shape w) c p))
      put_is = rw (e₁, eh, first_is) refl

      pub page_middle : Middle (shape w) b₁ (end_of (length b)) (set L.lists c (page_list (shape w) c p)) t.pre (free t.size ∷ []) t.post p (p + t.size) (last_free (shape w) (start (shape w)) t.pre 0) (first_free (shape w) (p + t.size) t.post 0)
      page_middle =
          rw put_is
          (head_middle (shape w) (shape_good k.width) (end_of (length b)) L (tiled (shape w) x.here.valid) c k.class (page_list (shape w) c p) (spot_middle (shape w) x) x.split.blocks
          (omega (arith, first_is, page_in_lem, page_low, words_fit k.width (length b) k.short)) (omega (arith, k.short)) (none_idle (shape w) (shape_good k.width) b L x.here c k.class empty))

      pub page_drawn : Bytes b → (g : Gap) → GapRead w b₁ p g → (u need : ℕ) → need ≡ page_need (shape w) c → u ≡ takes (shape w) need g.size
          → (h₁ h₂ h₃ : List ℕ) → h₁ ≡ draw w (low_words w g u page_kind) b₁ → h₂ ≡ draw w (item_words (shape w) c (first_item_at (shape w) p) ((shape w).per_page c)) h₁
          → h₃ ≡ put_if (shape w) (draw w (high_words w g u page_kind) h₂) g.back.0 (rest_at (shape w) u g.size g.at.0 g.prev.0) → h₃ ≡ drawn (shape w) (paged (shape w) c t L) b
      page_drawn bytes g r u need en eu h₁ h₂ h₃ d₁ d₂ d₃ =
          let z = takes_of (shape w) (page_need (shape w) c) t.size x.split.large in
          let u_is : u ≡ page_takes (shape w) c t = eu ∙ rw (en, s_is k.width page_middle g r) refl in
          let len : length b₁ ≡ length b = ap length e₁ ∙ length_put w b head first in
          let v = page_valid (shape w) c p x.here.valid x.split x.at (shape_good k.width) k.class (page_eight k.width c) empty in
          let written : h₃ ≡ draw w (words (shape w) (end_of (length b)) (page_layout (shape w) c p L t)) b₁ =
          rw (← u_is)
          (gap_drawn k.width page_middle g r u page_kind (page_of (shape w) c u) (item_words (shape w) c (first_item_at (shape w) p) ((shape w).per_page c)) (page_size (shape w) c u (omega (arith, u_is, z.enough))) (omega (arith, u_is, z.within))
          (page_words k.width L.lists c p u (omega (arith, page_low)) (omega (arith, u_is, z.enough)) (omega (arith, x.here.valid.classes, k.class)))
          (rw e₁ (bytes_put w b head first bytes)) (omega (arith, len, k.short)) (rw u_is v) h₁ h₂ h₃ d₁ d₂ d₃) in
          written
          ∙ ap (λ (y : List ℕ). draw w (words (shape w) (end_of (length b)) (page_layout (shape w) c p L t)) y) put_is
          ∙ head_over (shape w) (shape_good k.width) (end_of (length b)) L (tiled (shape w) x.here.valid) c k.class (page_list (shape w) c p) b (page_layout (shape w) c p L t) (omega arith) bytes (omega (arith, k.short)) (tiled (shape w) v)
          ∙ rw (paged_as (shape w) c p x.here.valid x.split x.at (shape_good k.width)) refl
