-- What is live after an item is taken from its list: what was, and the item.
use Rattle.std.proofs.Common.{ℕ, ◌+◌, ◌*◌, ◌≤◌, ◌<◌, ◌≡◌, refl, sym, ap, subst, ◌∙◌, cond, List, [], ◌∷◌, ◌++◌, ◌⊎◌, inl, inr, ⊎_elim, arith, get_or, eqb, eq-eqb, ne_eqb}
use Rattle.std.proofs.Math.Decide.{ℕ_discrete}
use Rattle.model.specs.Shape.{Shape, start, item_size, item_capacity, item_shown, address_of, item_at}
use Rattle.model.specs.Layout.{Slot, idle, held, variable, page, Block, free, used, Layout, use_size}
use Rattle.model.specs.Sound.{AllowedUse, Allowed, AllAllowed, Valid}
use Rattle.model.specs.Rules.{slot_to, use_to, item_to, popped}
use Rattle.model.specs.Live.{◌∈◌, Payload, slots_live, use_live, live_from}
use Rattle.model.proofs.Good.{Good}
use Rattle.model.proofs.lives.Members.{in_left, in_right, in_either}
use Rattle.model.proofs.lives.Payloads.{live_within}
use Rattle.model.proofs.items.Items.{InSlots, InUse, InBlocks, slots_range, use_range, blocks_range, size_use_to}
use Rattle.model.proofs.items.Asked.{idle_within}
use Rattle.model.proofs.items.ItemValid.{allowed_item_to}
use Rattle.model.proofs.items.Pop.{slots_stay, blocks_stay, first_found}
use Rattle.model.proofs.lives.Lives.{Adds}

module _ (S : Shape) where
  -- the payload of the item of class c, for n bytes, whose header stands at q
  abbrev pub item_payload : ℕ → ℕ → ℕ → Payload
  item_payload c n q = record { address = address_of S q; size = item_capacity S c; shown = item_shown S c n }

  module _ (n q : ℕ) (x : Payload) where
    -- what is live where the item is free is live where it is in use
    slots_kept : (c p : ℕ) (ss : List Slot) → x ∈ slots_live S c p (slot_to S idle c q p ss) → x ∈ slots_live S c p (slot_to S (held n) c q p ss)
    unfolding slots_live slot_to ◌∈◌
    slots_kept c p [] h = h
    slots_kept c p (y ∷ ss) h = go y (ℕ_discrete q p) h (slots_kept c (p + item_size S c) ss)
      where
        go : (y : Slot) → Dec (q ≡ p) → x ∈ slots_live S c p (cond (eqb q p) idle y ∷ slot_to S idle c q (p + item_size S c) ss)
            → (x ∈ slots_live S c (p + item_size S c) (slot_to S idle c q (p + item_size S c) ss) → x ∈ slots_live S c (p + item_size S c) (slot_to S (held n) c q (p + item_size S c) ss))
            → x ∈ slots_live S c p (cond (eqb q p) (held n) y ∷ slot_to S (held n) c q (p + item_size S c) ss)
        go y (yes e) k r = rw (eq-eqb q p e) (inr (r (rw (eq-eqb q p e) at k)))
        go idle (no e) k r = rw (ne_eqb q p e) (r (rw (ne_eqb q p e) at k))
        go (held m) (no e) k r = rw (ne_eqb q p e) (⊎_elim (λ j. inl j) (λ j. inr (r j)) (rw (ne_eqb q p e) at k))

    -- nothing else is but the item
    slots_only : (c p : ℕ) (ss : List Slot) → x ∈ slots_live S c p (slot_to S (held n) c q p ss) → (x ∈ slots_live S c p (slot_to S idle c q p ss)) ⊎ (x ≡ item_payload c n q)
    unfolding slots_live slot_to ◌∈◌
    slots_only c p [] h = inl h
    slots_only c p (y ∷ ss) h = go y (ℕ_discrete q p) h (slots_only c (p + item_size S c) ss)
      where
        go : (y : Slot) → Dec (q ≡ p) → x ∈ slots_live S c p (cond (eqb q p) (held n) y ∷ slot_to S (held n) c q (p + item_size S c) ss)
            → (x ∈ slots_live S c (p + item_size S c) (slot_to S (held n) c q (p + item_size S c) ss) → (x ∈ slots_live S c (p + item_size S c) (slot_to S idle c q (p + item_size S c) ss)) ⊎ (x ≡ item_payload c n q))
            → (x ∈ slots_live S c p (cond (eqb q p) idle y ∷ slot_to S idle c q (p + item_size S c) ss)) ⊎ (x ≡ item_payload c n q)
        go y (yes e) k r = rw (eq-eqb q p e) (⊎_elim (λ j. inr (rw e j)) (λ j. r j) (rw (eq-eqb q p e) at k))
        go idle (no e) k r = rw (ne_eqb q p e) (r (rw (ne_eqb q p e) at k))
        go (held m) (no e) k r = rw (ne_eqb q p e) (⊎_elim (λ j. inl (inl j)) (λ j. ⊎_elim (λ i. inl (inr i)) (λ i. inr i) (r j)) (rw (ne_eqb q p e) at k))

    -- no free item has a live payload
    slots_new : (c p : ℕ) (ss : List Slot) → x ∈ slots_live S c p (slot_to S idle c q p ss) → x.address ≡ address_of S q → ⊥
    unfolding slots_live slot_to ◌∈◌
    slots_new c p [] h e = h
    slots_new c p (y ∷ ss) h e = go y (ℕ_discrete q p) h (slots_new c (p + item_size S c) ss)
      where
        go : (y : Slot) → Dec (q ≡ p) → x ∈ slots_live S c p (cond (eqb q p) idle y ∷ slot_to S idle c q (p + item_size S c) ss)
            → (x ∈ slots_live S c (p + item_size S c) (slot_to S idle c q (p + item_size S c) ss) → x.address ≡ address_of S q → ⊥) → ⊥
        go y (yes d) k r = r (rw (eq-eqb q p d) at k) e
        go idle (no d) k r = r (rw (ne_eqb q p d) at k) e
        go (held m) (no d) k r = ⊎_elim (λ j. d (omega (arith, e, ap (λ (z : Payload). z.address) j))) (λ j. r j e) (rw (ne_eqb q p d) at k)

    -- of blocks behind a page, where they begin by its size with the item changed
    behind_page : (s : Slot) (c p k : ℕ) (ss : List Slot) (bs : List Block) → x ∈ live_from S p (item_to S s q p (used (page c k ss) ∷ bs))
        → (x ∈ slots_live S c (p + S.word) (slot_to S s c q (p + S.word) ss)) ⊎ (x ∈ live_from S (p + use_size S (page c k ss)) (item_to S s q (p + use_size S (page c k ss)) bs))
    unfolding live_from item_to use_live use_to
    behind_page s c p k ss bs h =
        let z = use_size S (page c k ss) in
        let slots = slots_live S c (p + S.word) (slot_to S s c q (p + S.word) ss) in
        in_either x slots (live_from S (p + z) (item_to S s q (p + z) bs)) (subst (λ (y : ℕ). x ∈ (slots ++ live_from S (p + y) (item_to S s q (p + z) bs))) (size_use_to S s q p (page c k ss)) h)

    page_behind : (s : Slot) (c p k : ℕ) (ss : List Slot) (bs : List Block)
        → (x ∈ slots_live S c (p + S.word) (slot_to S s c q (p + S.word) ss)) ⊎ (x ∈ live_from S (p + use_size S (page c k ss)) (item_to S s q (p + use_size S (page c k ss)) bs))
        → x ∈ live_from S p (item_to S s q p (used (page c k ss) ∷ bs))
    unfolding live_from item_to use_live use_to
    page_behind s c p k ss bs h =
        let z = use_size S (page c k ss) in
        let later = item_to S s q (p + z) bs in
        let slots = slots_live S c (p + S.word) (slot_to S s c q (p + S.word) ss) in
        subst (λ (y : ℕ). x ∈ (slots ++ live_from S (p + y) later)) (sym (size_use_to S s q p (page c k ss)))
        (⊎_elim (λ j. in_left x slots (live_from S (p + z) later) j) (λ j. in_right x slots (live_from S (p + z) later) j) h)

    -- the same of blocks
    blocks_kept : (p : ℕ) (bs : List Block) → x ∈ live_from S p (item_to S idle q p bs) → x ∈ live_from S p (item_to S (held n) q p bs)
    unfolding live_from item_to use_live use_to
    blocks_kept p [] h = h
    blocks_kept p (free t ∷ bs) h = blocks_kept (p + t) bs h
    blocks_kept p (used (variable t) ∷ bs) h =
        let v = use_live S p (variable t) in
        let z = use_size S (variable t) in
        let later = live_from S (p + z) (item_to S (held n) q (p + z) bs) in
        ⊎_elim (λ k. in_left x v later k) (λ k. in_right x v later (blocks_kept (p + z) bs k)) (in_either x v (live_from S (p + z) (item_to S idle q (p + z) bs)) h)
    blocks_kept p (used (page c k ss) ∷ bs) h =
        page_behind (held n) c p k ss bs (⊎_elim (λ j. inl (slots_kept c (p + S.word) ss j)) (λ j. inr (blocks_kept (p + use_size S (page c k ss)) bs j)) (behind_page idle c p k ss bs h))

    blocks_only : (c p : ℕ) (bs : List Block) → InBlocks S c q p bs → x ∈ live_from S p (item_to S (held n) q p bs) → (x ∈ live_from S p (item_to S idle q p bs)) ⊎ (x ≡ item_payload c n q)
    unfolding live_from item_to use_live use_to InBlocks InUse
    blocks_only c p [] i h = absurd i
    blocks_only c p (free t ∷ bs) i h = blocks_only c (p + t) bs i h
    blocks_only c p (used (variable t) ∷ bs) (inl i) h = absurd i
    blocks_only c p (used (variable t) ∷ bs) (inr i) h =
        let z = use_size S (variable t) in
        let v = use_live S p (variable t) in
        let later = live_from S (p + z) (item_to S idle q (p + z) bs) in
        ⊎_elim (λ k. inl (in_left x v later k)) (λ k. ⊎_elim (λ j. inl (in_right x v later j)) (λ j. inr j) (blocks_only c (p + z) bs i k))
        (in_either x v (live_from S (p + z) (item_to S (held n) q (p + z) bs)) h)
    blocks_only c p (used (page d k ss) ∷ bs) (inl i) h =
        let z = use_size S (page d k ss) in
        let r = use_range S c q p (page d k ss) i in
        let same : item_to S (held n) q (p + z) bs ≡ item_to S idle q (p + z) bs = blocks_stay S (held n) q (p + z) bs (λ a e. omega (arith, r.1)) ∙ sym (blocks_stay S idle q (p + z) bs (λ a e. omega (arith, r.1))) in
        ⊎_elim
        (λ j. ⊎_elim (λ m. inl (page_behind idle d p k ss bs (inl m))) (λ m. inr (rw i.0 m)) (slots_only d (p + S.word) ss j))
        (λ j. inl (page_behind idle d p k ss bs (inr (subst (λ (l : List Block). x ∈ live_from S (p + z) l) same j))))
        (behind_page (held n) d p k ss bs h)
    blocks_only c p (used (page d k ss) ∷ bs) (inr i) h =
        let z = use_size S (page d k ss) in
        let r = blocks_range S c q (p + z) bs i in
        let same : slot_to S (held n) d q (p + S.word) ss ≡ slot_to S idle d q (p + S.word) ss =
        slots_stay S (held n) d q (p + S.word) ss (λ a e. unfold use_size in omega (arith, r.0)) ∙ sym (slots_stay S idle d q (p + S.word) ss (λ a e. unfold use_size in omega (arith, r.0))) in
        ⊎_elim
        (λ j. inl (page_behind idle d p k ss bs (inl (subst (λ (l : List Slot). x ∈ slots_live S d (p + S.word) l) same j))))
        (λ j. ⊎_elim (λ m. inl (page_behind idle d p k ss bs (inr m))) (λ m. inr m) (blocks_only c (p + z) bs i j))
        (behind_page (held n) d p k ss bs h)

    variable_address : (p t : ℕ) → x ∈ use_live S p (variable t) → x.address ≡ address_of S p
    unfolding use_live ◌∈◌
    variable_address p t (inl e) = ap (λ (y : Payload). y.address) e
    variable_address p t (inr h) = absurd h

    variable_size : (t : ℕ) → Allowed S (used (variable t)) → 2 * S.word ≤ use_size S (variable t)
    unfolding Allowed AllowedUse use_size
    variable_size t a = omega (arith, a.0)

    -- no payload of other blocks has a free item's address
    blocks_new : Good S → (c p : ℕ) (bs : List Block) → AllAllowed S bs → InBlocks S c q p bs → x ∈ live_from S p (item_to S idle q p bs) → x.address ≡ address_of S q → ⊥
    unfolding live_from item_to use_live use_to InBlocks InUse AllAllowed ◌∈◌
    blocks_new good c p [] a i h e = absurd i
    blocks_new good c p (free t ∷ bs) a i h e = blocks_new good c (p + t) bs a.1 i h e
    blocks_new good c p (used (variable t) ∷ bs) a (inl i) h e = absurd i
    blocks_new good c p (used (variable t) ∷ bs) a (inr i) h e =
        let z = use_size S (variable t) in
        let r = blocks_range S c q (p + z) bs i in
        ⊎_elim (λ j. omega (arith, e, variable_address p t j, r.0, variable_size t a.0)) (λ j. blocks_new good c (p + z) bs a.1 i j e)
        (in_either x (use_live S p (variable t)) (live_from S (p + z) (item_to S idle q (p + z) bs)) h)
    blocks_new good c p (used (page d k ss) ∷ bs) a (inl i) h e =
        let z = use_size S (page d k ss) in
        let r = use_range S c q p (page d k ss) i in
        ⊎_elim (λ j. slots_new d (p + S.word) ss j e)
        (λ j. omega (arith, e, r.1, (live_within S (p + z) (item_to S idle q (p + z) bs) (allowed_item_to S idle q (p + z) bs (λ e j. idle_within e) a.1) x j).0))
        (behind_page idle d p k ss bs h)
    blocks_new good c p (used (page d k ss) ∷ bs) a (inr i) h e =
        let z = use_size S (page d k ss) in
        let r = blocks_range S c q (p + z) bs i in
        ⊎_elim (λ j. slots_new d (p + S.word) ss j e) (λ j. blocks_new good c (p + z) bs a.1 i j e) (behind_page idle d p k ss bs h)

  -- the item is live
  slots_there : (n c q p : ℕ) (ss : List Slot) → InSlots S c q p ss → item_payload c n q ∈ slots_live S c p (slot_to S (held n) c q p ss)
  unfolding slots_live slot_to ◌∈◌ InSlots
  slots_there n c q p [] i = i
  slots_there n c q p (y ∷ ss) (inl e) = rw (eq-eqb q p e) (inl (ap (λ (z : ℕ). item_payload c n z) e))
  slots_there n c q p (y ∷ ss) (inr i) =
      let r = slots_range S c q (p + item_size S c) ss i in
      rw (ne_eqb q p (λ e. omega (arith, r.0))) (go y (slots_there n c q (p + item_size S c) ss i))
    where
      go : (y : Slot) → item_payload c n q ∈ slots_live S c (p + item_size S c) (slot_to S (held n) c q (p + item_size S c) ss) → item_payload c n q ∈ slots_live S c p (y ∷ slot_to S (held n) c q (p + item_size S c) ss)
      go idle h = h
      go (held m) h = inr h

  blocks_there : (n c q p : ℕ) (bs : List Block) → InBlocks S c q p bs → item_payload c n q ∈ live_from S p (item_to S (held n) q p bs)
  unfolding live_from item_to use_live use_to InBlocks InUse
  blocks_there n c q p [] i = absurd i
  blocks_there n c q p (free t ∷ bs) i = blocks_there n c q (p + t) bs i
  blocks_there n c q p (used (variable t) ∷ bs) (inl i) = absurd i
  blocks_there n c q p (used (variable t) ∷ bs) (inr i) =
      let z = use_size S (variable t) in
      in_right (item_payload c n q) (use_live S p (variable t)) (live_from S (p + z) (item_to S (held n) q (p + z) bs)) (blocks_there n c q (p + z) bs i)
  blocks_there n c q p (used (page d k ss) ∷ bs) (inl i) =
      page_behind n q (item_payload c n q) (held n) d p k ss bs
      (inl (subst (λ (y : ℕ). item_payload c n q ∈ slots_live S y (p + S.word) (slot_to S (held n) y q (p + S.word) ss)) i.0 (slots_there n c q (p + S.word) ss i.1)))
  blocks_there n c q p (used (page d k ss) ∷ bs) (inr i) = page_behind n q (item_payload c n q) (held n) d p k ss bs (inr (blocks_there n c q (p + use_size S (page d k ss)) bs i))

  -- THE LAW: two layouts that differ in one item, free in the one and in use for n bytes in the other
  pub item_adds : Good S → (L L₀ L₁ : Layout) → AllAllowed S L.blocks → (n c q : ℕ) → InBlocks S c q (start S) L.blocks → L₀.blocks ≡ item_to S idle q (start S) L.blocks → L₁.blocks ≡ item_to S (held n) q (start S) L.blocks → Adds S L₀ L₁ (item_payload c n q)
  item_adds good L L₀ L₁ all n c q there is_free in_use =
      record {
        kept = λ x h. after x (blocks_kept n q x (start S) L.blocks (before x h));
        only = λ x h. ⊎_elim (λ j. inl (subst (λ (bs : List Block). x ∈ live_from S (start S) bs) (sym is_free) j)) (λ j. inr j) (blocks_only n q x c (start S) L.blocks there (subst (λ (bs : List Block). x ∈ live_from S (start S) bs) in_use h));
        there = after (item_payload c n q) (blocks_there n c q (start S) L.blocks there);
        new = λ x h. blocks_new n q x good c (start S) L.blocks all there (before x h);
      }
    where
      before : (x : Payload) → x ∈ live_from S (start S) L₀.blocks → x ∈ live_from S (start S) (item_to S idle q (start S) L.blocks)
      before x h = subst (λ (bs : List Block). x ∈ live_from S (start S) bs) is_free h

      after : (x : Payload) → x ∈ live_from S (start S) (item_to S (held n) q (start S) L.blocks) → x ∈ live_from S (start S) L₁.blocks
      after x h = subst (λ (bs : List Block). x ∈ live_from S (start S) bs) (sym in_use) h

  pub popped_adds : {end : ℕ} {L : Layout} → Valid S end L → Good S → (n c o : ℕ) (os : List ℕ) → c < S.classes → get_or L.lists c [] ≡ o ∷ os → Adds S L (popped S n c o os L) (item_payload c n (item_at S o))
  popped_adds {end} {L} v good n c o os cl is = let f = first_found S v cl is in item_adds good L L (popped S n c o os L) v.allowed n c (item_at S o) f.there (sym f.free_item) refl
