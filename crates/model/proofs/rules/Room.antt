-- There is no room exactly where no item and no block is large enough.
use Rattle.std.proofs.Common.{ℕ, zero, suc, ◌+◌, ◌≤◌, ◌<◌, ◌≡◌, refl, sym, ap, ◌∙◌, cond, List, [], ◌∷◌, ◌⊎◌, inl, inr, arith, length, get_or, replicate, get_or-set_same, leb, le-leb}
use Rattle.std.proofs.Math.Logic.{◌↔◌}
use Rattle.std.proofs.Math.Option.{Option, none, some}
use Rattle.std.proofs.Math.Decide.{dec_le}
use Rattle.std.proofs.lemmas.Bool.{lt-leb}
use Rattle.model.specs.Shape.{Shape, largest_item, class_of, need_of, page_need}
use Rattle.model.specs.Layout.{idle, Block, free, used, Layout}
use Rattle.model.specs.Sound.{idle_slots, Valid}
use Rattle.model.specs.Rules.{Spot, after, fit, paged, from_list, from_page, an_item, a_block, allocate, spot_at}
use Rattle.model.specs.Live.{◌∈◌}
use Rattle.model.specs.Promises.{NothingFits}

-- a rule that gives something does not give nothing
some_none : {A : Type 0} (x : A) → some x ≡ none → ⊥
some_none x e = let z : ◌≡◌ {A = ℕ} 0 1 = ap (λ (o : Option _). told o) e in omega arith
  where
    told : {A : Type 0} → Option A → ℕ
    told none = 1
    told (some x) = 0

after_none : (b : Block) (o : Option Spot) → after b o ≡ none → o ≡ none
after_none b none e = refl
after_none b (some t) e = absurd (some_none _ e)

-- no free block is large enough exactly where none is found
pub fit_none : (need : ℕ) (bs : List Block) → fit need bs ≡ none → (s : ℕ) → free s ∈ bs → s < need
unfolding fit ◌∈◌
fit_none need [] e s h = absurd h
fit_none need (free t ∷ bs) e s h = go (dec_le need t) e h (fit_none need bs)
  where
    go : Dec (need ≤ t) → cond (leb need t) (some (record { pre = []; size = t; post = bs })) (after (free t) (fit need bs)) ≡ none → (free s ≡ free t) ⊎ (free s ∈ bs) → (fit need bs ≡ none → (s : ℕ) → free s ∈ bs → s < need) → s < need
    go (yes l) k h r = absurd (some_none _ (rw (le-leb need t l) at k))
    go (no l) k (inl i) r = let same : s ≡ t = cc in omega arith
    go (no l) k (inr i) r = r (after_none (free t) (fit need bs) (rw (lt-leb need t (omega arith)) at k)) s i
fit_none need (used u ∷ bs) e s (inl i) = let z : ◌≡◌ {A = ℕ} 0 1 = cc in absurd (omega arith)
fit_none need (used u ∷ bs) e s (inr i) = fit_none need bs (after_none (used u) (fit need bs) e) s i

pub none_fits_lem : (need : ℕ) (bs : List Block) → ((s : ℕ) → free s ∈ bs → s < need) → fit need bs ≡ none
unfolding fit ◌∈◌
none_fits_lem need [] h = refl
none_fits_lem need (free t ∷ bs) h =
    let l = h t (inl refl) in
    let r = none_fits_lem need bs (λ s i. h s (inr i)) in
    rw (lt-leb need t l, r) refl
none_fits_lem need (used u ∷ bs) h = let r = none_fits_lem need bs (λ s i. h s (inr i)) in rw r refl

module _ (S : Shape) where
  -- a page has an item, so that only an empty list and no room for a page give nothing
  list_some : (n c : ℕ) (L : Layout) (l : List ℕ) → (l ≡ [] → ⊥) → from_list S n c L l ≡ none → ⊥
  unfolding from_list
  list_some n c L [] h e = h refl
  list_some n c L (o ∷ os) h e = some_none _ e

  slots_some : (c p n : ℕ) → 0 < n → idle_slots S c p (replicate n idle) ≡ [] → ⊥
  unfolding idle_slots
  slots_some c p zero h e = omega arith
  slots_some c p (suc n) h e = let z : ◌≡◌ {A = ℕ} 0 1 = cc in omega arith

  page_none : (n c : ℕ) (L : Layout) → c < length L.lists → 0 < S.per_page c → (o : Option Spot) → from_page S n c L o ≡ none → o ≡ none
  unfolding from_page
  page_none n c L cl k none e = refl
  page_none n c L cl k (some t) e =
      let l = idle_slots S c (spot_at S t + S.word) (replicate (S.per_page c) idle) in
      absurd (list_some n c (paged S c t L) (get_or (paged S c t L).lists c []) (λ z. slots_some c (spot_at S t + S.word) (S.per_page c) k (sym (get_or-set_same L.lists c l [] cl) ∙ z)) e)

  item_none : (n c : ℕ) (L : Layout) → c < length L.lists → 0 < S.per_page c → (l : List ℕ) → an_item S n c L l ≡ none → (l ≡ []) × (fit (page_need S c) L.blocks ≡ none)
  unfolding an_item
  item_none n c L cl k [] e = (refl, page_none n c L cl k (fit (page_need S c) L.blocks) e)
  item_none n c L cl k (o ∷ os) e = absurd (list_some n c L (o ∷ os) (λ z. let y : ◌≡◌ {A = ℕ} 0 1 = cc in omega arith) e)

  block_none : (need : ℕ) (L : Layout) (o : Option Spot) → a_block S need L o ≡ none → o ≡ none
  unfolding a_block
  block_none need L none e = refl
  block_none need L (some t) e = absurd (some_none _ e)

  none_item : (n c : ℕ) (L : Layout) → get_or L.lists c [] ≡ [] → fit (page_need S c) L.blocks ≡ none → an_item S n c L (get_or L.lists c []) ≡ none
  unfolding an_item from_page
  none_item n c L e f = rw (e, f) refl

  none_block : (need : ℕ) (L : Layout) → fit need L.blocks ≡ none → a_block S need L (fit need L.blocks) ≡ none
  unfolding a_block
  none_block need L f = rw f refl

  -- THE LAW: an allocation finds nothing exactly where there is no room
  pub no_room_lem : S.offered ≤ S.classes → (end n : ℕ) (L : Layout) → Valid S end L → 1 ≤ n → ((c : ℕ) → 0 < S.per_page c) → (allocate S n L ≡ none) ↔ NothingFits S n L
  unfolding allocate
  no_room_lem few end n L v some_byte per = (there, back (dec_le n (largest_item S)))
    where
      small : n ≤ largest_item S → allocate S n L ≡ none → (get_or L.lists (class_of n) [] ≡ []) × (fit (page_need S (class_of n)) L.blocks ≡ none)
      small l e = item_none n (class_of n) L (omega (arith, few, v.classes)) (per (class_of n)) (get_or L.lists (class_of n) []) (rw (le-leb n (largest_item S) l) at e)

      there : allocate S n L ≡ none → NothingFits S n L
      there e = (
        (λ l. ((small l e).0, fit_none (page_need S (class_of n)) L.blocks (small l e).1)),
        (λ l. fit_none (need_of S n) L.blocks (block_none (need_of S n) L (fit (need_of S n) L.blocks) (rw (lt-leb n (largest_item S) l) at e))),
      )

      back : Dec (n ≤ largest_item S) → NothingFits S n L → allocate S n L ≡ none
      back (yes l) h = rw (le-leb n (largest_item S) l) (none_item n (class_of n) L (h.0 l).0 (none_fits_lem (page_need S (class_of n)) L.blocks (h.0 l).1))
      back (no l) h = rw (lt-leb n (largest_item S) (omega arith)) (none_block (need_of S n) L (none_fits_lem (need_of S n) L.blocks (h.1 (omega arith))))
