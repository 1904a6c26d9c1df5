-- Where items have their headers: an allocation leaves each in its page, and no variable block begins there. (An item of a closed class may hold as much as a variable block, so its size does not tell which it is.)
use Rattle.std.proofs.Common.{ℕ, ◌+◌, ◌≤◌, ◌<◌, ◌≡◌, refl, sym, subst, List, [], ◌∷◌, ◌++◌, ◌⊎◌, inl, inr, ⊎_elim, arith}
use Rattle.std.proofs.Math.Option.{Option, none, some}
use Rattle.model.specs.Shape.{Shape, start, class_of, need_of, page_need, item_size, item_at}
use Rattle.model.specs.Layout.{Slot, held, Use, variable, page, Block, free, used, Layout, use_size, size_of, ends}
use Rattle.model.specs.Sound.{Valid}
use Rattle.model.specs.Rules.{Spot, Made, spot_at, slot_to, use_to, item_to, paged, allocate}
use Rattle.model.specs.inner.Items.{InSlots, InUse, InBlocks}
use Rattle.model.specs.inner.Links.{takes}
use Rattle.model.specs.inner.Walks.{Split}
use Rattle.model.proofs.Good.{Good}
use Rattle.model.proofs.blocks.Taken.{parts, takes_of}
use Rattle.model.proofs.blocks.Placed.{placed_as}
use Rattle.model.proofs.rules.Makings.{Makes, nothing_fits, listed_item, new_page, own_block, makes}
use Rattle.model.proofs.items.Items.{blocks_range, size_use_to}
use Rattle.model.proofs.items.Paged.{parts_ends, page_of, page_size, page_takes, paged_as}

module _ (S : Shape) where
  -- whatever an item becomes, all stay where they are
  slots_to : (s : Slot) (d r k c q p : ℕ) (ss : List Slot) → InSlots S c q p ss → InSlots S c q p (slot_to S s d r k ss)
  unfolding InSlots slot_to
  slots_to s d r k c q p [] h = h
  slots_to s d r k c q p (x ∷ ss) (inl e) = inl e
  slots_to s d r k c q p (x ∷ ss) (inr h) = inr (slots_to s d r (k + item_size S d) c q (p + item_size S c) ss h)

  use_to_lem : (s : Slot) (r c q p : ℕ) (u : Use) → InUse S c q p u → InUse S c q p (use_to S s r p u)
  unfolding InUse use_to
  use_to_lem s r c q p (variable t) h = h
  use_to_lem s r c q p (page d k ss) h = (h.0, slots_to s d r (p + S.word) c q (p + S.word) ss h.1)

  blocks_to : (s : Slot) (r c q p : ℕ) (bs : List Block) → InBlocks S c q p bs → InBlocks S c q p (item_to S s r p bs)
  unfolding InBlocks item_to
  blocks_to s r c q p [] h = h
  blocks_to s r c q p (free t ∷ bs) h = blocks_to s r c q (p + t) bs h
  blocks_to s r c q p (used u ∷ bs) (inl h) = inl (use_to_lem s r c q p u h)
  blocks_to s r c q p (used u ∷ bs) (inr h) = inr (subst (λ (z : ℕ). InBlocks S c q (p + z) (item_to S s r (p + use_size S u) bs)) (sym (size_use_to S s r p u)) (blocks_to s r c q (p + use_size S u) bs h))

  -- among blocks in two runs
  module _ (c q : ℕ) where
    pub in_rear : (p : ℕ) (xs ys : List Block) → InBlocks S c q (ends S p xs) ys → InBlocks S c q p (xs ++ ys)
    unfolding InBlocks ends size_of
    in_rear p [] ys h = h
    in_rear p (free t ∷ xs) ys h = in_rear (p + t) xs ys h
    in_rear p (used u ∷ xs) ys h = inr (in_rear (p + use_size S u) xs ys h)

    in_front_lem : (p : ℕ) (xs ys : List Block) → InBlocks S c q p xs → InBlocks S c q p (xs ++ ys)
    unfolding InBlocks
    in_front_lem p [] ys h = absurd h
    in_front_lem p (free t ∷ xs) ys h = in_front_lem (p + t) xs ys h
    in_front_lem p (used u ∷ xs) ys (inl h) = inl h
    in_front_lem p (used u ∷ xs) ys (inr h) = inr (in_front_lem (p + use_size S u) xs ys h)

    in_which : (p : ℕ) (xs ys : List Block) → InBlocks S c q p (xs ++ ys) → InBlocks S c q p xs ⊎ InBlocks S c q (ends S p xs) ys
    unfolding InBlocks ends size_of
    in_which p [] ys h = inr h
    in_which p (free t ∷ xs) ys h = in_which (p + t) xs ys h
    in_which p (used u ∷ xs) ys (inl h) = inl (inl h)
    in_which p (used u ∷ xs) ys (inr h) = ⊎_elim (λ i. inl (inr i)) (λ i. inr i) (in_which (p + use_size S u) xs ys h)

    -- where a free block becomes other blocks of the same extent
    in_taken : (p s : ℕ) (pre mid post : List Block) → ends S (ends S p pre) mid ≡ ends S (ends S p pre) (free s ∷ []) → InBlocks S c q p (pre ++ ((free s ∷ []) ++ post)) → InBlocks S c q p (pre ++ (mid ++ post))
    in_taken p s pre mid post e h =
        ⊎_elim (λ i. in_front_lem p pre (mid ++ post) i)
        (λ i. in_rear p pre (mid ++ post) (in_rear (ends S p pre) mid post (rw e (behind (ends S p pre) i))))
        (in_which p pre ((free s ∷ []) ++ post) h)
      where
        behind : (k : ℕ) → InBlocks S c q k (free s ∷ post) → InBlocks S c q (ends S k (free s ∷ [])) post
        behind k i = unfold InBlocks in unfold ends in unfold size_of in i

    -- no variable block begins at an item's header
    pub no_block : (p s : ℕ) (pre post : List Block) → 0 < s → ends S p pre ≡ q → InBlocks S c q p (pre ++ (used (variable s) ∷ post)) → ⊥
    no_block p s pre post some_byte e h = ⊎_elim (λ i. omega (arith, blocks_range S c q p pre i, e)) (λ i. behind (ends S p pre) e i) (in_which p pre (used (variable s) ∷ post) h)
      where
        apart : (k : ℕ) → InBlocks S c q k (used (variable s) ∷ post) → InBlocks S c q (k + s) post
        apart k i = unfold InBlocks in unfold InUse in unfold use_size in ⊎_elim (λ j. absurd j) (λ j. j) i

        behind : (k : ℕ) → k ≡ q → InBlocks S c q k (used (variable s) ∷ post) → ⊥
        behind k f i = omega (arith, blocks_range S c q (k + s) post (apart k i), f)

    -- THE LAW: an allocation leaves an item in its page
    module _ (good : Good S) {end : ℕ} {L : Layout} (v : Valid S end L) (n : ℕ) (there : InBlocks S c q (start S) L.blocks) where
      abbrev Still : Option Made → Type 0
      Still none = Unit {0}
      Still (some m) = InBlocks S c q (start S) m.layout.blocks

      -- where a free block is taken
      still_in : {need : ℕ} (t : Spot) → Split need L t → (u : ℕ) (U : Use) → use_size S U ≡ u → u ≤ t.size → InBlocks S c q (start S) (t.pre ++ (parts S u t.size U ++ t.post))
      still_in t s u U e l = in_taken (start S) t.size t.pre (parts S u t.size U) t.post (parts_ends S t.size u U e l (spot_at S t)) (rw s.blocks at there)

      made_still : {x : Option Made} → Makes S n L x → Still x
      unfolding use_size
      made_still nothing_fits = tt
      made_still (listed_item h o os e) = blocks_to (held n) (item_at S o) c q (start S) L.blocks there
      made_still (new_page h e t s o os k) =
          let d = class_of n in
          let u = page_takes S d t in
          let z = takes_of S (page_need S d) t.size s.large in
          blocks_to (held n) (item_at S o) c q (start S) (paged S d t L).blocks
          (subst (λ (M : Layout). InBlocks S c q (start S) M.blocks) (sym (paged_as S d (spot_at S t) v s refl good)) (still_in t s u (page_of S d u) (page_size S d u z.enough) z.within))
      made_still (own_block h t s) =
          let u = takes S (need_of S n) t.size in
          subst (λ (M : Layout). InBlocks S c q (start S) M.blocks) (sym (placed_as S v s good)) (still_in t s u (variable u) refl (takes_of S (need_of S n) t.size s.large).within)

      pub allocate_still : (m : Made) → allocate S n L ≡ some m → InBlocks S c q (start S) m.layout.blocks
      allocate_still m e = let g : Still (some m) = subst Still e (made_still (makes S n L)) in g
