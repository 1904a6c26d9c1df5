-- A layout stays valid where an item goes from its list into use, or back.
use Rattle.std.proofs.Common.{ℕ, ◌+◌, ◌-◌, ◌*◌, ◌≤◌, ◌<◌, ◌≡◌, refl, sym, ap, subst, ◌∙◌, Bool, true, false, cond, List, [], ◌∷◌, inl, inr, arith, length, get_or, set, length-set, get_or-set_same, get_or-set_other, eqb, eq-eqb, ne_eqb}
use Rattle.std.proofs.Math.Decide.{ℕ_discrete}
use Rattle.model.specs.Shape.{Shape, start, index, item_size}
use Rattle.model.specs.Layout.{Slot, idle, held, variable, page, Block, free, used, Layout, use_size, size_of, ends}
use Rattle.model.specs.Sound.{times, Within, AllWithin, Allowed, AllowedUse, AllAllowed, Apart, idle_slots, idle_in, idle_items, Valid}
use Rattle.model.proofs.items.Items.{InSlots, InUse, InBlocks, slots_range, use_range, blocks_range, length_slot_to, size_use_to}
use Rattle.model.proofs.pictures.Drawn.{times_append}
use Rattle.model.specs.Rules.{item_to, slot_to, use_to}

-- how often a slot counts as free
abbrev pub is_idle : Slot → ℕ
is_idle idle = 1
is_idle (held n) = 0

module _ (S : Shape) where
  pub ends_item_to : (s : Slot) (q p : ℕ) (bs : List Block) → ends S p (item_to S s q p bs) ≡ ends S p bs
  unfolding ends item_to size_of
  ends_item_to s q p [] = refl
  ends_item_to s q p (free t ∷ bs) = ends_item_to s q (p + t) bs
  ends_item_to s q p (used u ∷ bs) = ap (λ (z : ℕ). ends S (p + z) (item_to S s q (p + use_size S u) bs)) (size_use_to S s q p u) ∙ ends_item_to s q (p + use_size S u) bs

  -- the item at q may become s where that is within its class
  within_slot_to : (s : Slot) (c q p : ℕ) (ss : List Slot) → (InSlots S c q p ss → Within c s) → AllWithin c ss → AllWithin c (slot_to S s c q p ss)
  unfolding AllWithin slot_to InSlots
  within_slot_to s c q p [] k a = tt
  within_slot_to s c q p (x ∷ xs) k a = (go (ℕ_discrete q p), within_slot_to s c q (p + item_size S c) xs (λ i. k (inr i)) a.1)
    where
      go : Dec (q ≡ p) → Within c (cond (eqb q p) s x)
      go (yes e) = rw (eq-eqb q p e) (k (inl e))
      go (no e) = rw (ne_eqb q p e) a.0

  pub allowed_item_to : (s : Slot) (q p : ℕ) (bs : List Block) → ((c : ℕ) → InBlocks S c q p bs → Within c s) → AllAllowed S bs → AllAllowed S (item_to S s q p bs)
  unfolding AllAllowed Allowed item_to use_to AllowedUse InBlocks InUse
  allowed_item_to s q p [] w a = tt
  allowed_item_to s q p (free t ∷ bs) w a = (a.0, allowed_item_to s q (p + t) bs w a.1)
  allowed_item_to s q p (used (variable t) ∷ bs) w a = (a.0, allowed_item_to s q (p + use_size S (variable t)) bs (λ c i. w c (inr i)) a.1)
  allowed_item_to s q p (used (page c k ss) ∷ bs) w a = (
    (a.0.0, length_slot_to S s c q (p + S.word) ss ∙ a.0.1, a.0.2, a.0.3, within_slot_to s c q (p + S.word) ss (λ i. w c (inl (refl, i))) a.0.4),
    allowed_item_to s q (p + use_size S (page c k ss)) bs (λ d i. w d (inr i)) a.1,
  )

  -- an item has one class
  one_class : (c d q p : ℕ) (bs : List Block) → InBlocks S c q p bs → InBlocks S d q p bs → c ≡ d
  unfolding InBlocks InUse
  one_class c d q p [] i j = absurd i
  one_class c d q p (free t ∷ bs) i j = one_class c d q (p + t) bs i j
  one_class c d q p (used (variable t) ∷ bs) (inl i) j = absurd i
  one_class c d q p (used (variable t) ∷ bs) (inr i) (inl j) = absurd j
  one_class c d q p (used (variable t) ∷ bs) (inr i) (inr j) = one_class c d q (p + use_size S (variable t)) bs i j
  one_class c d q p (used (page e k ss) ∷ bs) (inl i) (inl j) = i.0 ∙ sym j.0
  one_class c d q p (used (page e k ss) ∷ bs) (inl i) (inr j) = absurd (omega (arith, (use_range S c q p (page e k ss) i).1, (blocks_range S d q (p + use_size S (page e k ss)) bs j).0))
  one_class c d q p (used (page e k ss) ∷ bs) (inr i) (inl j) = absurd (omega (arith, (use_range S d q p (page e k ss) j).1, (blocks_range S c q (p + use_size S (page e k ss)) bs i).0))
  one_class c d q p (used (page e k ss) ∷ bs) (inr i) (inr j) = one_class c d q (p + use_size S (page e k ss)) bs i j

  pub apart_item_to : (s : Slot) (q p d : ℕ) (bs : List Block) → Apart d bs → Apart d (item_to S s q p bs)
  unfolding Apart item_to
  apart_item_to s q p d [] a = tt
  apart_item_to s q p d (free t ∷ bs) a = (a.0, apart_item_to s q (p + t) 1 bs a.1)
  apart_item_to s q p d (used u ∷ bs) a = (a.0, apart_item_to s q (p + use_size S u) 0 bs a.1)

  module _ (o q : ℕ) (qo : q ≡ index S + o) (s : Slot) where
    -- no item from p on has the offset, where p is past it
    slots_none : (c p : ℕ) (ss : List Slot) → q < p → times o (idle_slots S c p ss) ≡ 0
    unfolding idle_slots times
    slots_none c p [] h = refl
    slots_none c p (idle ∷ ss) h = rw (ne_eqb o (p - index S) (λ e. omega arith)) (omega (arith, slots_none c (p + item_size S c) ss (omega arith)))
    slots_none c p (held n ∷ ss) h = slots_none c (p + item_size S c) ss (omega arith)

    pick : (t : Bool) (x : ℕ) (l m : List ℕ) → times x l ≡ times x m → times x (cond t l []) ≡ times x (cond t m [])
    pick true x l m e = e
    pick false x l m e = refl

    -- other offsets are free or in use as before
    slots_other : (x : ℕ) → (x ≡ o → ⊥) → (c p : ℕ) (ss : List Slot) → index S ≤ p → times x (idle_slots S c p (slot_to S s c q p ss)) ≡ times x (idle_slots S c p ss)
    unfolding idle_slots slot_to times
    slots_other x n c p [] h = refl
    slots_other x n c p (y ∷ ss) h = go y (ℕ_discrete q p) (slots_other x n c (p + item_size S c) ss (omega arith))
      where
        both : (a : Slot) (xs : List Slot) → q ≡ p → times x (idle_slots S c p (a ∷ xs)) ≡ times x (idle_slots S c (p + item_size S c) xs)
        both idle xs e = rw (ne_eqb x (p - index S) (λ k. n (omega arith))) (omega arith)
        both (held m) xs e = refl

        go : (y : Slot) → Dec (q ≡ p) → times x (idle_slots S c (p + item_size S c) (slot_to S s c q (p + item_size S c) ss)) ≡ times x (idle_slots S c (p + item_size S c) ss)
            → times x (idle_slots S c p (cond (eqb q p) s y ∷ slot_to S s c q (p + item_size S c) ss)) ≡ times x (idle_slots S c p (y ∷ ss))
        go y (yes e) r = rw (eq-eqb q p e) (both s (slot_to S s c q (p + item_size S c) ss) e ∙ r ∙ sym (both y ss e))
        go idle (no e) r = rw (ne_eqb q p e) (ap (λ (k : ℕ). cond (eqb x (p - index S)) 1 0 + k) r)
        go (held m) (no e) r = rw (ne_eqb q p e) r

    pub items_other : (x : ℕ) → (x ≡ o → ⊥) → (d p : ℕ) (bs : List Block) → index S ≤ p → times x (idle_items S d p (item_to S s q p bs)) ≡ times x (idle_items S d p bs)
    unfolding idle_items item_to idle_in size_of use_to
    items_other x n d p [] h = refl
    items_other x n d p (free t ∷ bs) h = items_other x n d (p + t) bs (omega arith)
    items_other x n d p (used (variable t) ∷ bs) h = items_other x n d (p + use_size S (variable t)) bs (omega arith)
    items_other x n d p (used (page c k ss) ∷ bs) h =
        let e = ap (λ (z : ℕ). times x (idle_items S d (p + z) (item_to S s q (p + use_size S (page c k ss)) bs))) (size_use_to S s q p (page c k ss)) ∙ items_other x n d (p + use_size S (page c k ss)) bs (omega arith) in
        times_append x (cond (eqb d c) (idle_slots S c (p + S.word) (slot_to S s c q (p + S.word) ss)) []) (idle_items S d (p + use_size S (page c k (slot_to S s c q (p + S.word) ss))) (item_to S s q (p + use_size S (page c k ss)) bs))
        ∙ omega (arith, e, pick (eqb d c) x (idle_slots S c (p + S.word) (slot_to S s c q (p + S.word) ss)) (idle_slots S c (p + S.word) ss) (slots_other x n c (p + S.word) ss (omega arith)))
        ∙ sym (times_append x (cond (eqb d c) (idle_slots S c (p + S.word) ss) []) (idle_items S d (p + use_size S (page c k ss)) bs))

    -- and this one as s says
    slots_this : (c p : ℕ) (ss : List Slot) → index S ≤ p → InSlots S c q p ss → times o (idle_slots S c p (slot_to S s c q p ss)) ≡ is_idle s
    unfolding idle_slots slot_to times InSlots
    slots_this c p [] h i = absurd i
    slots_this c p (y ∷ ss) h (inl e) = rw (eq-eqb q p e) (go s)
      where
        go : (a : Slot) → times o (idle_slots S c p (a ∷ slot_to S s c q (p + item_size S c) ss)) ≡ is_idle a
        go idle = rw (eq-eqb o (p - index S) (omega arith)) (omega (arith, slots_none c (p + item_size S c) (slot_to S s c q (p + item_size S c) ss) (omega arith)))
        go (held m) = slots_none c (p + item_size S c) (slot_to S s c q (p + item_size S c) ss) (omega arith)
    slots_this c p (y ∷ ss) h (inr i) =
        let r = slots_range S c q (p + item_size S c) ss i in
        rw (ne_eqb q p (λ e. omega (arith, r.0))) (go y (slots_this c (p + item_size S c) ss (omega arith) i) r.0)
      where
        go : (a : Slot) → times o (idle_slots S c (p + item_size S c) (slot_to S s c q (p + item_size S c) ss)) ≡ is_idle s → p + item_size S c ≤ q → times o (idle_slots S c p (a ∷ slot_to S s c q (p + item_size S c) ss)) ≡ is_idle s
        go idle e k = rw (ne_eqb o (p - index S) (λ z. omega arith)) (omega arith)
        go (held m) e k = e

    slots_past : (c p : ℕ) (ss : List Slot) → index S ≤ p → p + length ss * item_size S c ≤ q → times o (idle_slots S c p ss) ≡ 0
    unfolding idle_slots times
    slots_past c p [] j h = refl
    slots_past c p (idle ∷ ss) j h = rw (ne_eqb o (p - index S) (λ e. omega arith)) (omega (arith, slots_past c (p + item_size S c) ss (omega arith) (omega arith)))
    slots_past c p (held n ∷ ss) j h = slots_past c (p + item_size S c) ss (omega arith) (omega arith)

    items_none : (d p : ℕ) (bs : List Block) → q < p → times o (idle_items S d p bs) ≡ 0
    unfolding idle_items idle_in
    items_none d p [] h = unfold times in refl
    items_none d p (b ∷ bs) h = times_append o (idle_in S d p b) (idle_items S d (p + size_of S b) bs) ∙ omega (arith, go b, items_none d (p + size_of S b) bs (omega arith))
      where
        go : (b : Block) → times o (idle_in S d p b) ≡ 0
        go (free t) = unfold times in refl
        go (used (variable t)) = unfold times in refl
        go (used (page c k ss)) = pick (eqb d c) o (idle_slots S c (p + S.word) ss) [] (slots_none c (p + S.word) ss (omega arith) ∙ unfold times in refl) ∙ cond_nil (eqb d c)
          where
            cond_nil : (t : Bool) → times o (cond t [] []) ≡ 0
            cond_nil true = unfold times in refl
            cond_nil false = unfold times in refl

    zero_pick : (t : Bool) (l : List ℕ) → times o l ≡ 0 → times o (cond t l []) ≡ 0
    unfolding times
    zero_pick true l e = e
    zero_pick false l e = refl

    pick_this : (t : Bool) (l : List ℕ) (k : ℕ) → times o l ≡ k → times o (cond t l []) ≡ cond t k 0
    unfolding times
    pick_this true l k e = e
    pick_this false l k e = refl

    pub items_this : (c d p : ℕ) (bs : List Block) → index S ≤ p → InBlocks S c q p bs → times o (idle_items S d p (item_to S s q p bs)) ≡ cond (eqb d c) (is_idle s) 0
    unfolding idle_items item_to idle_in size_of use_to InBlocks InUse
    items_this c d p [] h i = absurd i
    items_this c d p (free t ∷ bs) h i = items_this c d (p + t) bs (omega arith) i
    items_this c d p (used (variable t) ∷ bs) h (inl i) = absurd i
    items_this c d p (used (variable t) ∷ bs) h (inr i) = items_this c d (p + use_size S (variable t)) bs (omega arith) i
    items_this c d p (used (page e k ss) ∷ bs) h (inl i) =
        let z = use_size S (page e k (slot_to S s e q (p + S.word) ss)) in
        let r = use_range S c q p (page e k ss) i in
        times_append o (cond (eqb d e) (idle_slots S e (p + S.word) (slot_to S s e q (p + S.word) ss)) []) (idle_items S d (p + z) (item_to S s q (p + use_size S (page e k ss)) bs))
        ∙ omega (
          arith,
          items_none d (p + z) (item_to S s q (p + use_size S (page e k ss)) bs) (omega (arith, r.1, size_use_to S s q p (page e k ss))),
          pick_this (eqb d e) (idle_slots S e (p + S.word) (slot_to S s e q (p + S.word) ss)) (is_idle s) (slots_this e (p + S.word) ss (omega arith) (subst (λ (x : ℕ). InSlots S x q (p + S.word) ss) i.0 i.1)),
        )
        ∙ ap (λ (x : ℕ). cond (eqb d x) (is_idle s) 0) (sym i.0)
    items_this c d p (used (page e k ss) ∷ bs) h (inr i) =
        let z = use_size S (page e k (slot_to S s e q (p + S.word) ss)) in
        let r = blocks_range S c q (p + use_size S (page e k ss)) bs i in
        let f = ap (λ (y : ℕ). times o (idle_items S d (p + y) (item_to S s q (p + use_size S (page e k ss)) bs))) (size_use_to S s q p (page e k ss)) ∙ items_this c d (p + use_size S (page e k ss)) bs (omega arith) i in
        times_append o (cond (eqb d e) (idle_slots S e (p + S.word) (slot_to S s e q (p + S.word) ss)) []) (idle_items S d (p + z) (item_to S s q (p + use_size S (page e k ss)) bs))
        ∙ omega (arith, f, zero_pick (eqb d e) (idle_slots S e (p + S.word) (slot_to S s e q (p + S.word) ss)) (slots_past e (p + S.word) (slot_to S s e q (p + S.word) ss) (omega arith) (rw (length_slot_to S s e q (p + S.word) ss) (unfold use_size in omega (arith, r.0)))))

  -- the item at q, which was s₀, becomes s, and the list of its class l
  pub changed_valid : (end : ℕ) (L : Layout) (c q o : ℕ) (s₀ s : Slot) (l : List ℕ) → Valid S end L → c < S.classes → Within c s → q ≡ index S + o → InBlocks S c q (start S) L.blocks
      → item_to S s₀ q (start S) L.blocks ≡ L.blocks → times o l ≡ is_idle s → ((x : ℕ) → (x ≡ o → ⊥) → times x l ≡ times x (get_or L.lists c []))
      → Valid S end (record { blocks = item_to S s q (start S) L.blocks; lists = set L.lists c l })
  changed_valid end L c q o s₀ s l v cl w qo i was this others =
      record {
        fills = ends_item_to s q (start S) L.blocks ∙ v.fills;
        allowed = allowed_item_to s q (start S) L.blocks (λ d j. subst (λ (x : ℕ). Within x s) (one_class c d q (start S) L.blocks i j) w) v.allowed;
        apart = apart_item_to s q (start S) 0 L.blocks v.apart;
        classes = length-set L.lists c l ∙ v.classes;
        listed = λ d x h. go d x h (ℕ_discrete d c) (ℕ_discrete x o);
      }
    where
      new : List Block
      new = item_to S s q (start S) L.blocks

      old_this : (d : ℕ) → times o (idle_items S d (start S) L.blocks) ≡ cond (eqb d c) (is_idle s₀) 0
      old_this d = ap (λ (bs : List Block). times o (idle_items S d (start S) bs)) (sym was) ∙ items_this o q qo s₀ c d (start S) L.blocks (omega arith) i

      go : (d x : ℕ) → d < S.classes → Dec (d ≡ c) → Dec (x ≡ o) → times x (get_or (set L.lists c l) d []) ≡ times x (idle_items S d (start S) (item_to S s q (start S) L.blocks))
      go d x h (yes e) (yes k) =
          let z : cond (eqb c c) (is_idle s) 0 ≡ is_idle s = rw (eq-eqb c c refl) refl in
          rw (e, k) (ap (λ (m : List ℕ). times o m) (get_or-set_same L.lists c l [] (omega (arith, v.classes))) ∙ this ∙ sym (items_this o q qo s c c (start S) L.blocks (omega arith) i ∙ z))
      go d x h (yes e) (no k) =
          rw e (ap (λ (m : List ℕ). times x m) (get_or-set_same L.lists c l [] (omega (arith, v.classes))) ∙ others x k ∙ v.listed c x cl ∙ sym (items_other o q qo s x k c (start S) L.blocks (omega arith)))
      go d x h (no e) (yes k) =
          let y : cond (eqb d c) (is_idle s₀) 0 ≡ 0 = rw (ne_eqb d c e) refl in
          let z : cond (eqb d c) (is_idle s) 0 ≡ 0 = rw (ne_eqb d c e) refl in
          rw k (ap (λ (m : List ℕ). times o m) (get_or-set_other L.lists c d l [] e) ∙ v.listed d o h ∙ old_this d ∙ y ∙ sym (items_this o q qo s c d (start S) L.blocks (omega arith) i ∙ z))
      go d x h (no e) (no k) =
          ap (λ (m : List ℕ). times x m) (get_or-set_other L.lists c d l [] e) ∙ v.listed d x h ∙ sym (items_other o q qo s x k d (start S) L.blocks (omega arith))
