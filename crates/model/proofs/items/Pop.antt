-- The first item of a class's list is taken.
use Rattle.std.proofs.Common.{ℕ, ◌+◌, ◌-◌, ◌*◌, ◌^◌, ◌≤◌, ◌<◌, ◌≡◌, refl, sym, ap, ap₂, subst, ◌∙◌, List, [], ◌∷◌, inl, inr, arith, length, get_or, set, get_or-set_same, get_or-set_other, eq-eqb, ne_eqb}
use Rattle.std.proofs.Math.Decide.{ℕ_discrete, dec_le}
use Rattle.words.specs.Word.{put, Bytes}
use Rattle.model.specs.Picture.{draw}
use Rattle.model.specs.Shape.{Shape, start, index, tags, item_size, end_of}
use Rattle.model.specs.Layout.{Slot, idle, held, variable, page, Block, free, used, Layout, head_of, next_of, use_size, size_of, ends, header, words}
use Rattle.model.specs.Parts.{held_header}
use Rattle.model.specs.Sound.{times, Within, idle_slots, idle_in, idle_items, Valid, Here}
use Rattle.model.proofs.blocks.Blocks.{le_ends}
use Rattle.model.proofs.items.Items.{InSlots, InUse, InBlocks, slots_range, blocks_range}
use Rattle.model.proofs.items.Asked.{held_fits}
use Rattle.model.proofs.items.ItemLaws.{item_law, item_over}
use Rattle.model.proofs.items.ItemValid.{items_this, changed_valid}
use Rattle.model.proofs.pictures.Drawn.{times_append, tiled, drawn_here}
use Rattle.model.specs.Rules.{item_to, popped, slot_to, use_to}
use Rattle.model.proofs.Good.{Good}

module _ (S : Shape) where
  -- a slot that is not where q is stays
  pub slots_stay : (s : Slot) (c q p : ℕ) (ss : List Slot) → (p ≤ q → q < p + length ss * item_size S c → ⊥) → slot_to S s c q p ss ≡ ss
  unfolding slot_to
  slots_stay s c q p [] h = refl
  slots_stay s c q p (x ∷ xs) h = rw (ne_eqb q p (λ e. h (omega arith) (omega arith)), slots_stay s c q (p + item_size S c) xs (λ i j. h (omega arith) (omega arith)))

  pub blocks_stay : (s : Slot) (q p : ℕ) (bs : List Block) → (p ≤ q → q < ends S p bs → ⊥) → item_to S s q p bs ≡ bs
  unfolding item_to use_to ends size_of use_size
  blocks_stay s q p [] h = refl
  blocks_stay s q p (free t ∷ bs) h = ap (λ (l : List Block). free t ∷ l) (blocks_stay s q (p + t) bs (λ i j. h (omega arith) j))
  blocks_stay s q p (used (variable t) ∷ bs) h = ap (λ (l : List Block). used (variable t) ∷ l) (blocks_stay s q (p + t) bs (λ i j. h (omega arith) j))
  blocks_stay s q p (used (page c k ss) ∷ bs) h =
      let z = tags S + length ss * item_size S c + k in
      ap₂ (λ (x : List Slot) (l : List Block). used (page c k x) ∷ l) (slots_stay s c q (p + S.word) ss (λ i j. h (omega arith) (omega (arith, le_ends S (p + z) bs))))
      (blocks_stay s q (p + z) bs (λ i j. h (omega arith) j))

  -- a free item that counts is there, and is free
  pub record IdleAt (c q p : ℕ) (bs : List Block) : Type 0 where
    pub there : InBlocks S c q p bs
    pub free_item : item_to S idle q p bs ≡ bs

  record IdleIn (c q p : ℕ) (ss : List Slot) : Type 0 where
    there : InSlots S c q p ss
    free_item : slot_to S idle c q p ss ≡ ss

  slots_found : (c o p : ℕ) (ss : List Slot) → index S ≤ p → 1 ≤ times o (idle_slots S c p ss) → IdleIn c (index S + o) p ss
  unfolding idle_slots times slot_to InSlots
  slots_found c o p [] h k = absurd (omega arith)
  slots_found c o p (held n ∷ ss) h k =
      let r = slots_found c o (p + item_size S c) ss (omega arith) k in
      let z = slots_range S c (index S + o) (p + item_size S c) ss r.there in
      record { there = inr r.there; free_item = rw (ne_eqb (index S + o) p (λ e. omega (arith, z.0)), r.free_item) }
  slots_found c o p (idle ∷ ss) h k = go (ℕ_discrete o (p - index S)) (slots_found c o (p + item_size S c) ss (omega arith))
    where
      go : Dec (o ≡ p - index S) → (1 ≤ times o (idle_slots S c (p + item_size S c) ss) → IdleIn c (index S + o) (p + item_size S c) ss) → IdleIn c (index S + o) p (idle ∷ ss)
      go (yes e) r = record { there = inl (omega arith); free_item = rw (eq-eqb (index S + o) p (omega arith), slots_stay idle c (index S + o) (p + item_size S c) ss (λ i j. omega arith)) }
      go (no e) r =
          let y = r (omega (arith, rw (ne_eqb o (p - index S) e) at k)) in
          let z = slots_range S c (index S + o) (p + item_size S c) ss y.there in
          record { there = inr y.there; free_item = rw (ne_eqb (index S + o) p (λ e. omega (arith, z.0)), y.free_item) }

  pub items_found : (c o p : ℕ) (bs : List Block) → index S ≤ p → 1 ≤ times o (idle_items S c p bs) → IdleAt c (index S + o) p bs
  unfolding idle_items idle_in InBlocks InUse item_to use_to size_of
  items_found c o p [] h k = absurd (unfold times in omega arith)
  items_found c o p (free t ∷ bs) h k = let r = items_found c o (p + t) bs (omega arith) k in record { there = r.there; free_item = ap (λ (l : List Block). free t ∷ l) r.free_item }
  items_found c o p (used (variable t) ∷ bs) h k =
      let r = items_found c o (p + use_size S (variable t)) bs (omega arith) k in record { there = inr r.there; free_item = ap (λ (l : List Block). used (variable t) ∷ l) r.free_item }
  items_found c o p (used (page d j ss) ∷ bs) h k = go (ℕ_discrete c d) (dec_le 1 (times o (idle_slots S d (p + S.word) ss))) (items_found c o (p + z) bs (omega arith))
    where
      q : ℕ
      q = index S + o

      z : ℕ
      z = use_size S (page d j ss)

      other : (1 ≤ times o (idle_items S c (p + z) bs)) → (1 ≤ times o (idle_items S c (p + z) bs) → IdleAt c (index S + o) (p + z) bs) → IdleAt c (index S + o) p (used (page d j ss) ∷ bs)
      other i r =
          let y = r i in
          let g = blocks_range S c (index S + o) (p + z) bs y.there in
          record { there = inr y.there; free_item = ap₂ (λ (x : List Slot) (l : List Block). used (page d j x) ∷ l) (slots_stay idle d (index S + o) (p + S.word) ss (λ a e. unfold use_size in omega (arith, g.0))) y.free_item }

      go : Dec (c ≡ d) → Dec (1 ≤ times o (idle_slots S d (p + S.word) ss)) → (1 ≤ times o (idle_items S c (p + z) bs) → IdleAt c (index S + o) (p + z) bs) → IdleAt c (index S + o) p (used (page d j ss) ∷ bs)
      go (no e) i r = other (omega (arith, rw (ne_eqb c d e) at k)) r
      go (yes e) (no n) r = other (omega (arith, rw (eq-eqb c d e) at k, times_append o (idle_slots S d (p + S.word) ss) (idle_items S c (p + z) bs))) r
      go (yes e) (yes i) r =
          let y = slots_found d o (p + S.word) ss (omega arith) i in
          let g = slots_range S d (index S + o) (p + S.word) ss y.there in
          record {
            there = inl (e, subst (λ (x : ℕ). InSlots S x (index S + o) (p + S.word) ss) (sym e) y.there);
            free_item = ap₂ (λ (x : List Slot) (l : List Block). used (page d j x) ∷ l) y.free_item (blocks_stay idle (index S + o) (p + z) bs (λ a f. unfold use_size in omega (arith, g.1)));
          }

  -- the first item on a list, of a valid layout
  module _ {end : ℕ} {L : Layout} (v : Valid S end L) {c o : ℕ} {os : List ℕ} (cl : c < S.classes) (is : get_or L.lists c [] ≡ o ∷ os) where
    pub first_counted : 1 ≤ times o (idle_items S c (start S) L.blocks)
    unfolding times
    first_counted = rw (← (v.listed c o cl)) (rw is (rw (eq-eqb o o refl) (omega arith)))

    pub first_found : IdleAt c (index S + o) (start S) L.blocks
    first_found = items_found c o (start S) L.blocks (omega arith) first_counted

    -- it is on the list but once
    first_once : times o os ≡ 0
    unfolding times
    first_once =
        let e = rw is at (v.listed c o cl) in
        let f = ap (λ (bs : List Block). times o (idle_items S c (start S) bs)) (sym first_found.free_item) ∙ items_this S o (index S + o) refl idle c c (start S) L.blocks (omega arith) first_found.there in
        omega (arith, rw (eq-eqb o o refl) at e, rw (eq-eqb c c refl) at f)

    pub pop_valid : (n : ℕ) → Within c (held n) → Valid S end (popped S n c o os L)
    unfolding times
    pop_valid n w =
        changed_valid S end L c (index S + o) o idle (held n) os v cl w refl first_found.there first_found.free_item first_once
        (λ x z. sym (ap (λ (l : List ℕ). times x l) is ∙ rw (ne_eqb x o z) (omega arith)))

  module _ (good : Good S) (b : List ℕ) (L : Layout) (h : Here S b L) (c o : ℕ) (os : List ℕ) (cl : c < S.classes) (is : get_or L.lists c [] ≡ o ∷ os) (short : length b ≤ S.most) where
    pub counted : 1 ≤ times o (idle_items S c (start S) L.blocks)
    counted = first_counted h.valid cl is

    pub found : IdleAt c (index S + o) (start S) L.blocks
    found = first_found h.valid cl is

    agree : (d x : ℕ) → (x ≡ o → ⊥) → next_of x (get_or (set L.lists c os) d []) ≡ next_of x (get_or L.lists d [])
    unfolding next_of
    agree d x n = go (ℕ_discrete d c)
      where
        go : Dec (d ≡ c) → next_of x (get_or (set L.lists c os) d []) ≡ next_of x (get_or L.lists d [])
        go (no e) = ap (λ (l : List ℕ). next_of x l) (get_or-set_other L.lists c d os [] e)
        go (yes e) = rw e (ap (λ (l : List ℕ). next_of x l) (get_or-set_same L.lists c os [] (omega (arith, h.valid.classes))) ∙ sym (ap (λ (l : List ℕ). next_of x l) is ∙ rw (ne_eqb x o n) refl))

    -- it is taken for n bytes
    module _ (n : ℕ) (fits : Within c (held n)) where
      popped_valid : Valid S (end_of (length b)) (popped S n c o os L)
      popped_valid = pop_valid h.valid cl is n fits

      pub popped_here : Here S (draw S.word (words S (end_of (length b)) (popped S n c o os L)) b) (popped S n c o os L)
      popped_here = drawn_here S good b (popped S n c o os L) h.magic popped_valid short

      pub pop_law : Bytes b → head_of os < 256 ^ S.word
          → put S.word (put S.word b (index S + S.word * c) (head_of os)) (index S + o) (held_header c n) ≡ draw S.word (words S (end_of (length b)) (popped S n c o os L)) b
      unfolding header
      pop_law bytes f =
          item_law S good (end_of (length b)) L (tiled S h.valid) c cl os (index S + o) o refl (held n) agree found.there b (omega arith) bytes f (held_fits S good c n cl fits) (omega arith) h.shown

      -- drawn over the layout before it, the layout with the item in use is drawn alone
      pub popped_over : (a : List ℕ) → length a ≡ length b → Bytes a
          → draw S.word (words S (end_of (length b)) (popped S n c o os L)) (draw S.word (words S (end_of (length b)) L) a) ≡ draw S.word (words S (end_of (length b)) (popped S n c o os L)) a
      popped_over a e bytes =
          item_over S good (end_of (length b)) L (tiled S h.valid) c cl os (index S + o) o refl (held n) agree found.there a (omega arith) bytes (omega arith) (tiled S popped_valid)
