-- The items of a page: their headers, which of them are free, and where they are.
use Rattle.std.proofs.Common.{ℕ, zero, suc, ◌+◌, ◌*◌, ◌%◌, ◌≤◌, ◌<◌, ◌≡◌, refl, sym, ap, subst, ◌∙◌, List, [], ◌∷◌, inl, inr, arith, length, get_or, drop, drop-cons, eq-eqb}
use Rattle.words.specs.Width.{Width}
use Rattle.words.specs.Word.{word_at}
use Rattle.model.specs.Shape.{Shape, shape, start, index, item_size, offset_of, end_of}
use Rattle.model.specs.Parts.{tag_of, page_kind, far_tag_at, first_item_at, used_in}
use Rattle.model.specs.Picture.{Shows}
use Rattle.model.specs.Layout.{Slot, idle, held, page, used, Layout, use_size, size_of, header, slot_words, use_words, own}
use Rattle.model.specs.Sound.{times, Allowed, AllowedUse, idle_slots, idle_in, idle_items}
use Rattle.model.specs.Rules.{item_to}
use Rattle.model.specs.inner.Laid.{Laid}
use Rattle.model.specs.inner.Items.{InSlots, InUse, InBlocks}
use Rattle.model.specs.inner.Walks.{last_free}
use Rattle.model.proofs.Sizes.{start_eight}
use Rattle.model.proofs.blocks.Valid.{items_append}
use Rattle.model.proofs.items.ItemPlaces.{in_rear}
use Rattle.model.proofs.items.Items.{blocks_range}
use Rattle.model.proofs.items.Offsets.{items_off}
use Rattle.model.proofs.items.Pop.{items_found}
use Rattle.model.proofs.pictures.Pictures.{shows_left}
use Rattle.model.proofs.pictures.Drawn.{times_append}
use Rattle.model.proofs.walks.Standing.{Met, met}
use Rattle.model.proofs.walks.Passing.{stands}
use Rattle.relinking.specs.Relink.{PageThere, listing}

-- item i of a page's items from q on
module _ (S : Shape) (c : ℕ) where
  item_there : (q i : ℕ) (ss : List Slot) → i < length ss → InSlots S c (q + i * item_size S c) q ss
  unfolding InSlots
  item_there q i [] l = absurd (omega arith)
  item_there q zero (s ∷ ss) l = inl (omega arith)
  item_there q (suc i) (s ∷ ss) l = let e : q + item_size S c + i * item_size S c ≡ q + suc i * item_size S c = omega arith in inr (subst (λ (y : ℕ). InSlots S c y (q + item_size S c) ss) e (item_there (q + item_size S c) i ss (omega arith)))

  pub item_word : (w : ℕ) (b l : List ℕ) (q i : ℕ) (ss : List Slot) → i < length ss → Shows w b (slot_words S c l q ss) → word_at w b (q + i * item_size S c) ≡ header S c l (q + i * item_size S c) (get_or ss i idle)
  unfolding slot_words Shows
  item_word w b l q i [] n s = absurd (omega arith)
  item_word w b l q zero (x ∷ ss) n s = let e : q ≡ q + 0 * item_size S c = omega arith in subst (λ (y : ℕ). word_at w b y ≡ header S c l y x) e s.0
  item_word w b l q (suc i) (x ∷ ss) n s =
      let e : q + item_size S c + i * item_size S c ≡ q + suc i * item_size S c = omega arith in
      subst (λ (y : ℕ). word_at w b y ≡ header S c l y (get_or ss i idle)) e (item_word w b l (q + item_size S c) i ss (omega arith) s.1)

  -- what its header says: it is free, or in use
  pub said_idle : (l : List ℕ) (q x : ℕ) (s : Slot) → x ≡ header S c l q s → used_in x ≡ 0 → s ≡ idle
  unfolding header
  said_idle l q x idle e f = refl
  said_idle l q x (held n) e f = absurd (omega arith)

  pub said_held : (l : List ℕ) (q x : ℕ) (s : Slot) → x ≡ header S c l q s → (used_in x ≡ 0 → ⊥) → (n : ℕ) × (s ≡ held n)
  unfolding header
  said_held l q x idle e f = absurd (f (omega arith))
  said_held l q x (held n) e f = (n, refl)

  -- the free items from item i on: it and those after it, or those after it
  module _ (q i : ℕ) (ss : List Slot) (n : i < length ss) where
    next_place : q + i * item_size S c + item_size S c ≡ q + suc i * item_size S c
    next_place = omega arith

    pub idle_first : get_or ss i idle ≡ idle → idle_slots S c (q + i * item_size S c) (drop i ss) ≡ offset_of S (q + i * item_size S c) ∷ idle_slots S c (q + suc i * item_size S c) (drop (suc i) ss)
    unfolding idle_slots
    idle_first e =
        ap (λ (l : List Slot). idle_slots S c (q + i * item_size S c) l) (drop-cons ss i idle n ∙ ap (λ (s : Slot). s ∷ drop (suc i) ss) e)
        ∙ ap (λ (y : ℕ). offset_of S (q + i * item_size S c) ∷ idle_slots S c y (drop (suc i) ss)) next_place

    pub held_first : (m : ℕ) → get_or ss i idle ≡ held m → idle_slots S c (q + i * item_size S c) (drop i ss) ≡ idle_slots S c (q + suc i * item_size S c) (drop (suc i) ss)
    unfolding idle_slots
    held_first m e =
        ap (λ (l : List Slot). idle_slots S c (q + i * item_size S c) l) (drop-cons ss i idle n ∙ ap (λ (s : Slot). s ∷ drop (suc i) ss) e)
        ∙ ap (λ (y : ℕ). idle_slots S c y (drop (suc i) ss)) next_place

  -- a free item counts
  idle_counts : (q i : ℕ) (ss : List Slot) → i < length ss → get_or ss i idle ≡ idle → 1 ≤ times (offset_of S (q + i * item_size S c)) (idle_slots S c q ss)
  unfolding idle_slots times
  idle_counts q i [] n e = absurd (omega arith)
  idle_counts q zero (x ∷ ss) n e =
      let z : q + 0 * item_size S c ≡ q = omega arith in
      rw (z, e, eq-eqb (offset_of S q) (offset_of S q) refl) (omega arith)
  idle_counts q (suc i) (x ∷ ss) n e =
      let z : q + item_size S c + i * item_size S c ≡ q + suc i * item_size S c = omega arith in
      go x (subst (λ (y : ℕ). 1 ≤ times (offset_of S y) (idle_slots S c (q + item_size S c) ss)) z (idle_counts (q + item_size S c) i ss (omega arith) e))
    where
      go : (x : Slot) → 1 ≤ times (offset_of S (q + suc i * item_size S c)) (idle_slots S c (q + item_size S c) ss) → 1 ≤ times (offset_of S (q + suc i * item_size S c)) (idle_slots S c q (x ∷ ss))
      go idle r = omega (arith, r)
      go (held m) r = r

-- a page that stands at p of a heap
module _ {w : ℕ} (wd : Width w) {b : List ℕ} {L : Layout} (h : Laid w b L) {p c : ℕ} {ss : List Slot} (t : PageThere w L p c ss) where
  page_met : Met w b L p (last_free (shape w) (start (shape w)) t.pre 0) (used (page c t.spare ss)) t.post
  page_met = met wd h (stands t.passed) (used (page c t.spare ss)) t.post refl

  pub page_few : c < (shape w).classes
  unfolding Allowed AllowedUse
  page_few = page_met.allowed.0

  pub page_count : length ss ≡ (shape w).per_page c
  unfolding Allowed AllowedUse
  page_count = page_met.allowed.1

  pub page_inside : p + use_size (shape w) (page c t.spare ss) ≤ end_of (length b)
  unfolding size_of
  page_inside = page_met.inside

  pub page_shown : Shows w b (slot_words (shape w) c (get_or L.lists c []) (first_item_at (shape w) p) ss)
  unfolding own use_words Shows
  page_shown =
      shows_left w b (slot_words (shape w) c (get_or L.lists c []) (first_item_at (shape w) p) ss)
      (record { at = far_tag_at (shape w) p (use_size (shape w) (page c t.spare ss)); is = tag_of (use_size (shape w) (page c t.spare ss)) page_kind } ∷ [])
      page_met.shown.1

  module _ (i : ℕ) (n : i < length ss) where
    pub item_in : InBlocks (shape w) c (first_item_at (shape w) p + i * item_size (shape w) c) (start (shape w)) L.blocks
    unfolding InBlocks InUse
    item_in =
        rw t.passed.blocks
        (in_rear (shape w) c (first_item_at (shape w) p + i * item_size (shape w) c) (start (shape w)) t.pre (used (page c t.spare ss) ∷ t.post)
        (rw t.passed.begins (inl (refl, item_there (shape w) c (first_item_at (shape w) p) i ss n))))

    module _ (e : get_or ss i idle ≡ idle) where
      item_counts : 1 ≤ times (offset_of (shape w) (first_item_at (shape w) p + i * item_size (shape w) c)) (idle_items (shape w) c (start (shape w)) L.blocks)
      unfolding idle_items idle_in
      item_counts =
          let o = offset_of (shape w) (first_item_at (shape w) p + i * item_size (shape w) c) in
          let there : 1 ≤ times o (idle_slots (shape w) c (first_item_at (shape w) p) ss) = idle_counts (shape w) c (first_item_at (shape w) p) i ss n e in
          let here : 1 ≤ times o (idle_items (shape w) c p (used (page c t.spare ss) ∷ t.post)) =
          rw (eq-eqb c c refl) (omega (arith, there, times_append o (idle_slots (shape w) c (first_item_at (shape w) p) ss) (idle_items (shape w) c (p + size_of (shape w) (used (page c t.spare ss))) t.post))) in
          rw (t.passed.blocks, items_append (shape w) c (start (shape w)) t.pre (used (page c t.spare ss) ∷ t.post), t.passed.begins)
          (omega (arith, here, times_append o (idle_items (shape w) c (start (shape w)) t.pre) (idle_items (shape w) c p (used (page c t.spare ss) ∷ t.post))))

      -- a free item stays what it is where it is made free
      pub item_stays : item_to (shape w) idle (first_item_at (shape w) p + i * item_size (shape w) c) (start (shape w)) L.blocks ≡ L.blocks
      item_stays =
          let q = first_item_at (shape w) p + i * item_size (shape w) c in
          let z : index (shape w) + offset_of (shape w) q ≡ q = omega (arith, (blocks_range (shape w) c q (start (shape w)) L.blocks item_in).0) in
          ap (λ (y : ℕ). item_to (shape w) idle y (start (shape w)) L.blocks) (sym z) ∙ (items_found (shape w) c (offset_of (shape w) q) (start (shape w)) L.blocks (omega arith) item_counts).free_item

      pub item_even : offset_of (shape w) (first_item_at (shape w) p + i * item_size (shape w) c) % w ≡ 0
      item_even = (items_off wd c (offset_of (shape w) (first_item_at (shape w) p + i * item_size (shape w) c)) (start (shape w)) L.blocks h.tiled.allowed (omega arith) (start_eight wd) item_counts).even

-- it stands there whatever the lists
pub there_listing : {w : ℕ} {L : Layout} {p c : ℕ} {ss : List Slot} (d : ℕ) (l : List ℕ) → PageThere w L p c ss → PageThere w (listing d l L) p c ss
there_listing d l t = record { pre = t.pre; spare = t.spare; post = t.post; passed = record { blocks = t.passed.blocks; begins = t.passed.begins } }
