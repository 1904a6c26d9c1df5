-- An item of a page changes between free and in use, and its class's list with it: two words of the picture change.
use Rattle.std.proofs.Common.{ℕ, suc, ◌+◌, ◌-◌, ◌*◌, ◌≤◌, ◌<◌, ◌≡◌, refl, sym, ap, subst, cond, List, [], ◌∷◌, ◌++◌, inl, inr, arith, length, get_or, eqb, eq-eqb, ne_eqb}
use Rattle.std.proofs.Math.Decide.{ℕ_discrete}
use Rattle.model.specs.Picture.{Word}
use Rattle.model.specs.Shape.{Shape, index, tags, item_size}
use Rattle.model.specs.Layout.{Slot, idle, held, Use, variable, page, Block, free, used, next_of, use_size, size_of, ends, first_free, header, slot_words, use_words, own, block_words}
use Rattle.model.specs.Sound.{Allowed, AllowedUse, AllAllowed}
unfoldable pub use Rattle.model.specs.inner.Items.{InSlots, InUse, InBlocks}
use Rattle.model.proofs.blocks.Blocks.{le_ends, rise_own, rise_blocks}
use Rattle.model.proofs.pictures.Change.{set_at, set_append, set_away}
use Rattle.model.specs.Rules.{item_to, slot_to, use_to}
use Rattle.model.proofs.Good.{Good}

module _ (S : Shape) where
  pub slots_range : (c q p : ℕ) (ss : List Slot) → InSlots S c q p ss → (p ≤ q) × (q + item_size S c ≤ p + length ss * item_size S c)
  unfolding InSlots
  slots_range c q p [] h = absurd h
  slots_range c q p (s ∷ ss) (inl e) = (omega arith, omega arith)
  slots_range c q p (s ∷ ss) (inr h) = let k = slots_range c q (p + item_size S c) ss h in (omega (arith, k.0), omega (arith, k.1))

  pub use_range : (c q p : ℕ) (u : Use) → InUse S c q p u → (p + S.word ≤ q) × (q + 2 * S.word + 8 ≤ p + use_size S u)
  unfolding InUse use_size
  use_range c q p (variable t) h = absurd h
  use_range c q p (page d k ss) h = let r = slots_range c q (p + S.word) ss h.1 in (r.0, rw (← h.0) (omega (arith, r.1)))

  pub blocks_range : (c q p : ℕ) (bs : List Block) → InBlocks S c q p bs → (p ≤ q) × (q + 2 * S.word + 8 ≤ ends S p bs)
  unfolding InBlocks ends size_of
  blocks_range c q p [] h = absurd h
  blocks_range c q p (free t ∷ bs) h = let k = blocks_range c q (p + t) bs h in (omega (arith, k.0), k.1)
  blocks_range c q p (used u ∷ bs) (inl h) = let k = use_range c q p u h in (omega (arith, k.0), omega (arith, k.1, le_ends S (p + use_size S u) bs))
  blocks_range c q p (used u ∷ bs) (inr h) = let k = blocks_range c q (p + use_size S u) bs h in (omega (arith, k.0), k.1)

  -- and its class is one that there is
  pub blocks_class : (c q p : ℕ) (bs : List Block) → AllAllowed S bs → InBlocks S c q p bs → c < S.classes
  unfolding InBlocks InUse AllAllowed Allowed AllowedUse
  blocks_class c q p [] a i = absurd i
  blocks_class c q p (free t ∷ bs) a i = blocks_class c q (p + t) bs a.1 i
  blocks_class c q p (used (variable t) ∷ bs) a (inl i) = absurd i
  blocks_class c q p (used (page d k ss) ∷ bs) a (inl i) = omega (arith, i.0, a.0.0)
  blocks_class c q p (used u ∷ bs) a (inr i) = blocks_class c q (p + use_size S u) bs a.1 i

  pub length_slot_to : (s : Slot) (c q p : ℕ) (ss : List Slot) → length (slot_to S s c q p ss) ≡ length ss
  unfolding slot_to
  length_slot_to s c q p [] = refl
  length_slot_to s c q p (x ∷ xs) = ap suc (length_slot_to s c q (p + item_size S c) xs)

  pub size_use_to : (s : Slot) (q p : ℕ) (u : Use) → use_size S (use_to S s q p u) ≡ use_size S u
  unfolding use_to use_size
  size_use_to s q p (variable t) = refl
  size_use_to s q p (page c k ss) = rw (length_slot_to s c q (p + S.word) ss)

  pub first_item_to : (s : Slot) (q p : ℕ) (bs : List Block) (d : ℕ) → first_free S p (item_to S s q p bs) d ≡ first_free S p bs d
  unfolding item_to first_free size_of
  first_item_to s q p [] d = refl
  first_item_to s q p (free t ∷ bs) d = refl
  first_item_to s q p (used u ∷ bs) d = rw (size_use_to s q p u) (first_item_to s q (p + use_size S u) bs d)

  module _ (good : Good S) (ls ls' : List (List ℕ)) (o q : ℕ) (qo : q ≡ index S + o) (agree : (d x : ℕ) → (x ≡ o → ⊥) → next_of x (get_or ls' d []) ≡ next_of x (get_or ls d [])) (s : Slot) where
    header_away : (c p : ℕ) (x : Slot) → index S ≤ p → (q ≡ p → ⊥) → header S c (get_or ls' c []) p x ≡ header S c (get_or ls c []) p x
    unfolding header
    header_away c p idle h n = ap (λ (y : ℕ). 16 * y + 4 * c + 1) (agree c (p - index S) (λ e. n (omega arith)))
    header_away c p (held m) h n = refl

    slots_away : (c p : ℕ) (ss : List Slot) → index S ≤ p → (p ≤ q → q < p + length ss * item_size S c → ⊥) → slot_words S c (get_or ls' c []) p (slot_to S s c q p ss) ≡ slot_words S c (get_or ls c []) p ss
    unfolding slot_words slot_to
    slots_away c p [] h n = refl
    slots_away c p (x ∷ xs) h n =
        rw (ne_eqb q p (λ e. n (omega arith) (omega arith)), header_away c p x h (λ e. n (omega arith) (omega arith)), slots_away c (p + item_size S c) xs (omega arith) (λ k l. n (omega arith) (omega arith)))

    use_away : (p : ℕ) (u : Use) → index S ≤ p → (p ≤ q → q < p + use_size S u → ⊥) → use_words S ls' p (use_to S s q p u) ≡ use_words S ls p u
    unfolding use_words use_to use_size
    use_away p (variable t) h n = refl
    use_away p (page c k ss) h n = rw (length_slot_to s c q (p + S.word) ss, slots_away c (p + S.word) ss (omega arith) (λ i j. n (omega arith) (omega arith)))

    blocks_away : (p prev next : ℕ) (bs : List Block) → index S ≤ p → (p ≤ q → q < ends S p bs → ⊥) → block_words S ls' p prev next (item_to S s q p bs) ≡ block_words S ls p prev next bs
    unfolding block_words item_to ends own size_of
    blocks_away p prev next [] h n = refl
    blocks_away p prev next (free t ∷ bs) h n = rw (first_item_to s q (p + t) bs next, blocks_away (p + t) p next bs (omega arith) (λ i j. n (omega arith) j))
    blocks_away p prev next (used u ∷ bs) h n =
        rw (size_use_to s q p u, use_away p u h (λ i j. n i (omega (arith, le_ends S (p + use_size S u) bs))), blocks_away (p + use_size S u) prev next bs (omega arith) (λ i j. n (omega arith) j))

    -- where it stands, its header changes
    module _ (c : ℕ) where
      slots_here : (p : ℕ) (ss : List Slot) → index S ≤ p → slot_words S c (get_or ls' c []) p (slot_to S s c q p ss) ≡ set_at q (header S c (get_or ls' c []) q s) (slot_words S c (get_or ls c []) p ss)
      unfolding slot_words slot_to set_at
      slots_here p [] h = refl
      slots_here p (x ∷ xs) h = go (ℕ_discrete q p) (slots_here (p + item_size S c) xs (omega arith))
        where
          go : Dec (q ≡ p) → slot_words S c (get_or ls' c []) (p + item_size S c) (slot_to S s c q (p + item_size S c) xs) ≡ set_at q (header S c (get_or ls' c []) q s) (slot_words S c (get_or ls c []) (p + item_size S c) xs)
              → ◌≡◌ {A = List Word} (record { at = p; is = header S c (get_or ls' c []) p (cond (eqb q p) s x) } ∷ slot_words S c (get_or ls' c []) (p + item_size S c) (slot_to S s c q (p + item_size S c) xs))
              (record { at = p; is = cond (eqb q p) (header S c (get_or ls' c []) q s) (header S c (get_or ls c []) p x) } ∷ set_at q (header S c (get_or ls' c []) q s) (slot_words S c (get_or ls c []) (p + item_size S c) xs))
          go (yes e) r = rw (eq-eqb q p e, r, e)
          go (no e) r = rw (ne_eqb q p e, header_away c p x h e, r)

      page_here : (p k : ℕ) (ss : List Slot) → index S ≤ p → InSlots S c q (p + S.word) ss
          → use_words S ls' p (use_to S s q p (page c k ss)) ≡ set_at q (header S c (get_or ls' c []) q s) (use_words S ls p (page c k ss))
      unfolding use_words use_to set_at use_size
      page_here p k ss h i =
          let r = slots_range c q (p + S.word) ss i in
          let v = header S c (get_or ls' c []) q s in
          rw (
            length_slot_to s c q (p + S.word) ss,
            slots_here (p + S.word) ss (omega arith),
            ne_eqb q p (λ e. omega (arith, r.0)),
            set_append q v (slot_words S c (get_or ls c []) (p + S.word) ss) (record { at = p + (tags S + length ss * item_size S c + k) - S.word; is = tags S + length ss * item_size S c + k + 3 } ∷ []),
            ne_eqb q (p + (tags S + length ss * item_size S c + k) - S.word) (λ e. omega (arith, r.1)),
          )

      use_here : (p : ℕ) (u : Use) → index S ≤ p → InUse S c q p u → use_words S ls' p (use_to S s q p u) ≡ set_at q (header S c (get_or ls' c []) q s) (use_words S ls p u)
      unfolding InUse
      use_here p (variable t) h i = absurd i
      use_here p (page d k ss) h i =
          subst (λ (d : ℕ). use_words S ls' p (use_to S s q p (page d k ss)) ≡ set_at q (header S c (get_or ls' c []) q s) (use_words S ls p (page d k ss))) i.0 (page_here p k ss h i.1)

      pub blocks_here : (p prev next : ℕ) (bs : List Block) → AllAllowed S bs → index S ≤ p → InBlocks S c q p bs → block_words S ls' p prev next (item_to S s q p bs) ≡ set_at q (header S c (get_or ls' c []) q s) (block_words S ls p prev next bs)
      unfolding block_words item_to InBlocks size_of AllAllowed own
      blocks_here p prev next [] a h i = absurd i
      blocks_here p prev next (free t ∷ bs) a h i =
          let r = blocks_range c q (p + t) bs i in
          let v = header S c (get_or ls' c []) q s in
          rw (first_item_to s q (p + t) bs next, set_append q v (own S ls p prev (first_free S (p + t) bs next) (free t)) (block_words S ls (p + t) p next bs), set_away S.word good.word q v p (own S ls p prev (first_free S (p + t) bs next) (free t)) (p + t) (rise_own S ls p prev (first_free S (p + t) bs next) (free t) a.0) (λ j k. omega (arith, r.0)))
          (ap (λ (l : List Word). own S ls p prev (first_free S (p + t) bs next) (free t) ++ l) (blocks_here (p + t) p next bs a.1 (omega arith) i))
      blocks_here p prev next (used u ∷ bs) a h (inl i) =
          let r = use_range c q p u i in
          let v = header S c (get_or ls' c []) q s in
          rw (size_use_to s q p u, set_append q v (use_words S ls p u) (block_words S ls (p + use_size S u) prev next bs), use_here p u h i, blocks_away (p + use_size S u) prev next bs (omega arith) (λ j k. omega (arith, r.1)))
          (ap (λ (l : List Word). set_at q v (use_words S ls p u) ++ l) (sym (set_away S.word good.word q v (p + use_size S u) (block_words S ls (p + use_size S u) prev next bs) (ends S (p + use_size S u) bs) (rise_blocks S ls (p + use_size S u) prev next bs a.1) (λ j k. omega (arith, r.1)))))
      blocks_here p prev next (used u ∷ bs) a h (inr i) =
          let r = blocks_range c q (p + use_size S u) bs i in
          let v = header S c (get_or ls' c []) q s in
          rw (size_use_to s q p u, set_append q v (use_words S ls p u) (block_words S ls (p + use_size S u) prev next bs), use_away p u h (λ j k. omega (arith, r.0)), set_away S.word good.word q v p (use_words S ls p u) (p + use_size S u) (rise_own S ls p prev next (used u) a.0) (λ j k. omega (arith, r.0)))
          (ap (λ (l : List Word). use_words S ls p u ++ l) (blocks_here (p + use_size S u) prev next bs a.1 (omega arith) i))
