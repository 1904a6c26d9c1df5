-- What is live at an address: laws of `find`.
use Rattle.std.proofs.Common.{ℕ, ◌+◌, ◌*◌, ◌≤◌, ◌<◌, ◌≡◌, refl, sym, ap, ap₂, ◌∙◌, Bool, true, false, cond, List, [], ◌∷◌, ◌++◌, inl, inr, arith, length, eqb, eq-eqb, ne_eqb}
use Rattle.std.proofs.Math.Decide.{ℕ_discrete}
use Rattle.model.specs.Shape.{Shape, index, tags, item_size, address_of, offset_of, item_at}
use Rattle.model.specs.Layout.{Slot, idle, held, variable, page, Block, free, used, use_size, size_of, ends}
use Rattle.model.specs.Sound.{Within, AllWithin, Allowed, AllowedUse, AllAllowed}
use Rattle.model.specs.Rules.{Spot, Found, block, thing, nothing, behind, or_else, slot_to, use_to, item_to, in_slots, find_from}
use Rattle.model.proofs.Good.{Good}
use Rattle.model.proofs.blocks.Blocks.{le_ends}
use Rattle.model.proofs.items.Items.{InSlots, InUse, InBlocks, slots_range, blocks_range}
use Rattle.model.proofs.items.Pop.{slots_stay, blocks_stay}

-- what was found, with blocks in front
abbrev pub behinds : List Block → Found → Found
behinds pre (block t) = block (record { pre = pre ++ t.pre; size = t.size; post = t.post })
behinds pre (thing o c n) = thing o c n
behinds pre nothing = nothing

behinds_cons : (b : Block) (pre : List Block) (f : Found) → behind b (behinds pre f) ≡ behinds (b ∷ pre) f
behinds_cons b pre (block t) = refl
behinds_cons b pre (thing o c n) = refl
behinds_cons b pre nothing = refl

behinds_none : (f : Found) → f ≡ behinds [] f
behinds_none (block t) = refl
behinds_none (thing o c n) = refl
behinds_none nothing = refl

module _ (S : Shape) (good : Good S) where
  -- nothing is found below the first address, nor behind the last
  pub slots_below : (a c p : ℕ) (ss : List Slot) → a < address_of S p → in_slots S a c p ss ≡ nothing
  unfolding in_slots
  slots_below a c p [] h = refl
  slots_below a c p (idle ∷ ss) h = slots_below a c (p + item_size S c) ss (omega arith)
  slots_below a c p (held n ∷ ss) h = rw (ne_eqb a (address_of S p) (λ e. omega arith)) (slots_below a c (p + item_size S c) ss (omega arith))

  pub slots_above : (a c p : ℕ) (ss : List Slot) → p + length ss * item_size S c ≤ a → in_slots S a c p ss ≡ nothing
  unfolding in_slots
  slots_above a c p [] h = refl
  slots_above a c p (idle ∷ ss) h = slots_above a c (p + item_size S c) ss (omega arith)
  slots_above a c p (held n ∷ ss) h = rw (ne_eqb a (address_of S p) (λ e. omega arith)) (slots_above a c (p + item_size S c) ss (omega arith))

  pub find_below : (a p : ℕ) (bs : List Block) → a < address_of S p → find_from S a p bs ≡ nothing
  unfolding find_from use_size
  find_below a p [] h = refl
  find_below a p (free s ∷ bs) h = rw (find_below a (p + s) bs (omega arith))
  find_below a p (used (variable s) ∷ bs) h = rw (ne_eqb a (address_of S p) (λ e. omega arith), find_below a (p + s) bs (omega arith))
  find_below a p (used (page c k ss) ∷ bs) h =
      rw (slots_below a c (p + S.word) ss (omega arith), find_below a (p + (tags S + length ss * item_size S c + k)) bs (omega arith))

  -- a block that ends before the address is passed over
  pub find_skip : (a p : ℕ) (b : Block) (bs : List Block) → Allowed S b → p + size_of S b ≤ a → find_from S a p (b ∷ bs) ≡ behind b (find_from S a (p + size_of S b) bs)
  unfolding find_from size_of use_size Allowed AllowedUse
  find_skip a p (free s) bs al h = refl
  find_skip a p (used (variable s)) bs al h = rw (ne_eqb a (address_of S p) (λ e. omega (arith, al.0)))
  find_skip a p (used (page c k ss)) bs al h = rw (slots_above a c (p + S.word) ss (omega arith))

  pub find_past : (a p : ℕ) (pre rest : List Block) → AllAllowed S pre → ends S p pre ≤ a → find_from S a p (pre ++ rest) ≡ behinds pre (find_from S a (ends S p pre) rest)
  unfolding ends AllAllowed
  find_past a p [] rest al h = behinds_none (find_from S a p rest)
  find_past a p (b ∷ pre) rest al h =
      find_skip a p b (pre ++ rest) al.0 (omega (arith, le_ends S (p + size_of S b) pre))
      ∙ ap (λ (f : Found). behind b f) (find_past a (p + size_of S b) pre rest al.1 h)
      ∙ behinds_cons b pre (find_from S a (ends S (p + size_of S b) pre) rest)

  -- a block that reaches past the address: nothing behind it is found
  pub find_at : (a p s : ℕ) (bs : List Block) → a ≡ address_of S p → find_from S a p (used (variable s) ∷ bs) ≡ block (record { pre = []; size = s; post = bs })
  unfolding find_from
  find_at a p s bs e = rw (eq-eqb a (address_of S p) e)

  pub find_not_at : (a p s : ℕ) (bs : List Block) → (a ≡ address_of S p → ⊥) → a < p + s → find_from S a p (used (variable s) ∷ bs) ≡ nothing
  unfolding find_from
  find_not_at a p s bs n h = rw (ne_eqb a (address_of S p) n, find_below a (p + s) bs (omega arith))

  pub find_free : (a p s : ℕ) (bs : List Block) → a < p + s → find_from S a p (free s ∷ bs) ≡ nothing
  unfolding find_from
  find_free a p s bs h = rw (find_below a (p + s) bs (omega arith))

  pub find_page : (a p c k : ℕ) (ss : List Slot) (bs : List Block) → a < p + use_size S (page c k ss) → find_from S a p (used (page c k ss) ∷ bs) ≡ in_slots S a c (p + S.word) ss
  unfolding find_from
  find_page a p c k ss bs h = rw (find_below a (p + use_size S (page c k ss)) bs (omega arith)) (go (in_slots S a c (p + S.word) ss))
    where
      go : (f : Found) → or_else f nothing ≡ f
      go (block t) = refl
      go (thing o d n) = refl
      go nothing = refl

  -- a variable block that was found, among blocks from p on
  pub record SpotFound (a p : ℕ) (bs : List Block) (t : Spot) : Type 0 where
    pub blocks : bs ≡ t.pre ++ ((used (variable t.size) ∷ []) ++ t.post)
    pub at : a ≡ address_of S (ends S p t.pre)

  block_same : (t u : Spot) → block t ≡ block u → t ≡ u
  block_same t u e = cc

  not_thing : (t : Spot) (o c n : ℕ) → block t ≡ thing o c n → ⊥
  not_thing t o c n e = let z : ◌≡◌ {A = ℕ} 0 1 = cc in omega arith

  not_block : (t : Spot) (o c n : ℕ) → thing o c n ≡ block t → ⊥
  not_block t o c n e = let z : ◌≡◌ {A = ℕ} 0 1 = cc in omega arith

  none_block : (t : Spot) → nothing ≡ block t → ⊥
  none_block t e = let z : ◌≡◌ {A = ℕ} 0 1 = cc in omega arith

  none_thing : (o c n : ℕ) → nothing ≡ thing o c n → ⊥
  none_thing o c n e = let z : ◌≡◌ {A = ℕ} 0 1 = cc in omega arith

  -- with one block in front
  block_behind : (a p : ℕ) (b : Block) (bs : List Block) (t : Spot) (f : Found) → ((u : Spot) → f ≡ block u → SpotFound a (p + size_of S b) bs u) → behind b f ≡ block t → SpotFound a p (b ∷ bs) t
  unfolding ends
  block_behind a p b bs t (block u) r e =
      let g = r u refl in
      let same : record { pre = b ∷ u.pre; size = u.size; post = u.post } ≡ t = block_same (record { pre = b ∷ u.pre; size = u.size; post = u.post }) t e in
      rw (← same) (record { blocks = ap (λ (l : List Block). b ∷ l) g.blocks; at = g.at })
  block_behind a p b bs t (thing o c n) r e = absurd (not_block t o c n e)
  block_behind a p b bs t nothing r e = absurd (none_block t e)

  slots_no_block : (a c p : ℕ) (ss : List Slot) (t : Spot) → in_slots S a c p ss ≡ block t → ⊥
  unfolding in_slots
  slots_no_block a c p [] t e = none_block t e
  slots_no_block a c p (idle ∷ ss) t e = slots_no_block a c (p + item_size S c) ss t e
  slots_no_block a c p (held n ∷ ss) t e = go (eqb a (address_of S p)) e (slots_no_block a c (p + item_size S c) ss t)
    where
      go : (y : Bool) → cond y (thing (offset_of S p) c n) (in_slots S a c (p + item_size S c) ss) ≡ block t → (in_slots S a c (p + item_size S c) ss ≡ block t → ⊥) → ⊥
      go true e r = not_block t (offset_of S p) c n e
      go false e r = r e

  pub block_found : (a p : ℕ) (bs : List Block) (t : Spot) → find_from S a p bs ≡ block t → SpotFound a p bs t
  unfolding find_from ends size_of
  block_found a p [] t e = absurd (none_block t e)
  block_found a p (free s ∷ bs) t e = block_behind a p (free s) bs t (find_from S a (p + s) bs) (λ u. block_found a (p + s) bs u) e
  block_found a p (used (variable s) ∷ bs) t e = go (ℕ_discrete a (address_of S p)) (λ u. block_found a (p + s) bs u)
    where
      go : Dec (a ≡ address_of S p) → ((u : Spot) → find_from S a (p + s) bs ≡ block u → SpotFound a (p + s) bs u) → SpotFound a p (used (variable s) ∷ bs) t
      go (yes k) r =
          let f : block (record { pre = []; size = s; post = bs }) ≡ block t = rw (eq-eqb a (address_of S p) k) at e in
          rw (← block_same (record { pre = []; size = s; post = bs }) t f) (record { blocks = refl; at = k })
      go (no k) r = unfold use_size in block_behind a p (used (variable s)) bs t (find_from S a (p + s) bs) r (rw (ne_eqb a (address_of S p) k) at e)
  block_found a p (used (page c k ss) ∷ bs) t e = go (in_slots S a c (p + S.word) ss) (slots_no_block a c (p + S.word) ss t) e (λ u. block_found a (p + use_size S (page c k ss)) bs u)
    where
      go : (f : Found) → (f ≡ block t → ⊥) → or_else f (behind (used (page c k ss)) (find_from S a (p + use_size S (page c k ss)) bs)) ≡ block t
          → ((u : Spot) → find_from S a (p + use_size S (page c k ss)) bs ≡ block u → SpotFound a (p + use_size S (page c k ss)) bs u) → SpotFound a p (used (page c k ss) ∷ bs) t
      go (block u) n e r = absurd (n e)
      go (thing o d m) n e r = absurd (not_block t o d m e)
      go nothing n e r = block_behind a p (used (page c k ss)) bs t (find_from S a (p + use_size S (page c k ss)) bs) r e

  -- an item in use that was found: among a page's items, and among blocks, from p on
  record SlotFound (a o c n d p : ℕ) (ss : List Slot) : Type 0 where
    class : c ≡ d
    at : a ≡ address_of S (item_at S o)
    there : InSlots S d (item_at S o) p ss
    in_use : slot_to S (held n) d (item_at S o) p ss ≡ ss
    fits : Within d (held n)

  pub record ItemFound (a o c n p : ℕ) (bs : List Block) : Type 0 where
    pub class : c < S.classes
    pub at : a ≡ address_of S (item_at S o)
    pub there : InBlocks S c (item_at S o) p bs
    pub in_use : item_to S (held n) (item_at S o) p bs ≡ bs
    pub fits : Within c (held n)

  thing_same : (o c n o' c' n' : ℕ) → thing o c n ≡ thing o' c' n' → (o ≡ o') × (c ≡ c') × (n ≡ n')
  thing_same o c n o' c' n' e = (cc, cc, cc)

  slot_behind : (a o c n d p : ℕ) (x : Slot) (ss : List Slot) → SlotFound a o c n d (p + item_size S d) ss → SlotFound a o c n d p (x ∷ ss)
  unfolding InSlots slot_to
  slot_behind a o c n d p x ss r =
      let z = slots_range S d (item_at S o) (p + item_size S d) ss r.there in
      record { class = r.class; at = r.at; there = inr r.there; in_use = rw (ne_eqb (item_at S o) p (λ e. omega (arith, z.0)), r.in_use); fits = r.fits }

  slot_found : (a o c n d p : ℕ) (ss : List Slot) → index S ≤ p → AllWithin d ss → in_slots S a d p ss ≡ thing o c n → SlotFound a o c n d p ss
  unfolding in_slots InSlots slot_to AllWithin
  slot_found a o c n d p [] h w e = absurd (none_thing o c n e)
  slot_found a o c n d p (idle ∷ ss) h w e = slot_behind a o c n d p idle ss (slot_found a o c n d (p + item_size S d) ss (omega arith) w.1 e)
  slot_found a o c n d p (held m ∷ ss) h w e = go (ℕ_discrete a (address_of S p)) (slot_found a o c n d (p + item_size S d) ss (omega arith) w.1)
    where
      go : Dec (a ≡ address_of S p) → (in_slots S a d (p + item_size S d) ss ≡ thing o c n → SlotFound a o c n d (p + item_size S d) ss) → SlotFound a o c n d p (held m ∷ ss)
      go (no k) r = slot_behind a o c n d p (held m) ss (r (rw (ne_eqb a (address_of S p) k) at e))
      go (yes k) r =
          let s = thing_same (offset_of S p) d m o c n (rw (eq-eqb a (address_of S p) k) at e) in
          let q : item_at S o ≡ p = omega (arith, s.0) in
          record {
            class = sym s.1;
            at = omega arith;
            there = inl q;
            in_use = rw (eq-eqb (item_at S o) p q, s.2, slots_stay S (held n) d (item_at S o) (p + item_size S d) ss (λ i j. omega arith));
            fits = rw s.2 at w.0;
          }

  -- with one block in front that does not reach the item
  item_behind : (a o c n p : ℕ) (b : Block) (bs : List Block) (f : Found) → (f ≡ thing o c n → ItemFound a o c n (p + size_of S b) bs) → behind b f ≡ thing o c n → ItemFound a o c n p (b ∷ bs)
  unfolding InBlocks item_to use_to size_of use_size
  item_behind a o c n p b bs (block t) r e = absurd (not_thing (record { pre = b ∷ t.pre; size = t.size; post = t.post }) o c n e)
  item_behind a o c n p b bs nothing r e = absurd (none_thing o c n e)
  item_behind a o c n p (free s) bs (thing x d m) r e = let g = r e in record { class = g.class; at = g.at; there = g.there; in_use = ap (λ (l : List Block). free s ∷ l) g.in_use; fits = g.fits }
  item_behind a o c n p (used (variable s)) bs (thing x d m) r e =
      let g = r e in record { class = g.class; at = g.at; there = inr g.there; in_use = ap (λ (l : List Block). used (variable s) ∷ l) g.in_use; fits = g.fits }
  item_behind a o c n p (used (page d k ss)) bs (thing x y m) r e =
      let g = r e in
      let z = blocks_range S c (item_at S o) (p + (tags S + length ss * item_size S d + k)) bs g.there in
      record {
        class = g.class;
        at = g.at;
        there = inr g.there;
        in_use = ap₂ (λ (l : List Slot) (m : List Block). used (page d k l) ∷ m) (slots_stay S (held n) d (item_at S o) (p + S.word) ss (λ i j. omega (arith, z.0))) g.in_use;
        fits = g.fits;
      }

  pub item_found : (a o c n p : ℕ) (bs : List Block) → index S ≤ p → AllAllowed S bs → find_from S a p bs ≡ thing o c n → ItemFound a o c n p bs
  unfolding find_from size_of AllAllowed Allowed AllowedUse
  item_found a o c n p [] h al e = absurd (none_thing o c n e)
  item_found a o c n p (free s ∷ bs) h al e = item_behind a o c n p (free s) bs (find_from S a (p + s) bs) (item_found a o c n (p + s) bs (omega arith) al.1) e
  item_found a o c n p (used (variable s) ∷ bs) h al e = go (eqb a (address_of S p)) e (item_found a o c n (p + s) bs (omega arith) al.1)
    where
      go : (y : Bool) → cond y (block (record { pre = []; size = s; post = bs })) (behind (used (variable s)) (find_from S a (p + s) bs)) ≡ thing o c n
          → (find_from S a (p + s) bs ≡ thing o c n → ItemFound a o c n (p + s) bs) → ItemFound a o c n p (used (variable s) ∷ bs)
      go true e r = absurd (not_thing (record { pre = []; size = s; post = bs }) o c n e)
      go false e r = unfold use_size in item_behind a o c n p (used (variable s)) bs (find_from S a (p + s) bs) r e
  item_found a o c n p (used (page d k ss) ∷ bs) h al e =
      go (in_slots S a d (p + S.word) ss) (slot_found a o c n d (p + S.word) ss (omega arith) al.0.4) e (item_found a o c n (p + use_size S (page d k ss)) bs (omega arith) al.1)
    where
      here : SlotFound a o c n d (p + S.word) ss → ItemFound a o c n p (used (page d k ss) ∷ bs)
      here g =
          let z = slots_range S d (item_at S o) (p + S.word) ss g.there in
          unfold InBlocks InUse item_to use_to AllowedUse use_size in
          record {
            class = omega (arith, g.class, al.0.0);
            at = g.at;
            there = inl (g.class, rw g.class g.there);
            in_use = ap₂ (λ (l : List Slot) (m : List Block). used (page d k l) ∷ m) g.in_use (blocks_stay S (held n) (item_at S o) (p + (tags S + length ss * item_size S d + k)) bs (λ i j. omega (arith, z.1)));
            fits = rw g.class g.fits;
          }

      go : (f : Found) → (f ≡ thing o c n → SlotFound a o c n d (p + S.word) ss) → or_else f (behind (used (page d k ss)) (find_from S a (p + use_size S (page d k ss)) bs)) ≡ thing o c n
          → (find_from S a (p + use_size S (page d k ss)) bs ≡ thing o c n → ItemFound a o c n (p + use_size S (page d k ss)) bs) → ItemFound a o c n p (used (page d k ss) ∷ bs)
      go (block t) s e r = absurd (not_thing t o c n e)
      go (thing x y m) s e r = here (s e)
      go nothing s e r = item_behind a o c n p (used (page d k ss)) bs (find_from S a (p + use_size S (page d k ss)) bs) r e
