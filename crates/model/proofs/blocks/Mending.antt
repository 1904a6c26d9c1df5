-- A variable block, and the last free block before it, while an allocation takes a free block somewhere.
use Rattle.std.proofs.Common.{ℕ, ◌+◌, ◌-◌, ◌≤◌, ◌<◌, ◌≡◌, refl, sym, ap, subst, ◌∙◌, List, [], ◌∷◌, ◌++◌, append_assoc, ◌⊎◌, inl, inr, ⊎_elim, arith, lt-ltb, le-ltb}
use Rattle.std.proofs.Math.Option.{Option, none, some}
use Rattle.std.proofs.Math.Decide.{dec_lt}
use Rattle.model.specs.Shape.{Shape, start, class_of, need_of, page_need, item_at}
use Rattle.model.specs.Layout.{Slot, held, Use, variable, Block, free, used, Layout, if_free, use_size, size_of, ends}
use Rattle.model.specs.Sound.{Valid}
use Rattle.model.specs.Rules.{Made, use_to, item_to, popped, paged, allocate, placed, as_variable}
use Rattle.model.proofs.blocks.Blocks.{ends_append, last_append}
use Rattle.model.specs.inner.Walks.{last_free, ends_free, Stands, Mend}
use Rattle.model.proofs.blocks.Valid.{ends_free_append}
use Rattle.model.proofs.items.Items.{size_use_to}
use Rattle.model.proofs.items.ItemValid.{ends_item_to}
use Rattle.model.proofs.rules.Makings.{Makes, nothing_fits, listed_item, new_page, own_block, makes}
use Rattle.model.proofs.blocks.Taken.{parts, takes_of}
use Rattle.model.specs.inner.Links.{takes}
use Rattle.model.proofs.Good.{Good}
use Rattle.model.proofs.blocks.Placed.{placed_as}
use Rattle.model.proofs.items.Paged.{page_of, page_takes, page_size, parts_ends, paged_as}

-- none of the blocks is free
unfoldable pub NoFree : List Block → Type 0
NoFree [] = Unit {0}
NoFree (b ∷ bs) = (if_free b 1 0 ≡ 0) × NoFree bs

no_free_touch : (bs : List Block) → NoFree bs → ends_free 0 bs ≡ 0
unfolding NoFree ends_free
no_free_touch [] n = refl
no_free_touch (free s ∷ bs) n = absurd (omega (arith, n.0))
no_free_touch (used u ∷ bs) n = no_free_touch bs n.1

-- two ways to split blocks, at a free one and at one in use: which comes first
pub record FreeFirst (xs ys : List Block) (z : ℕ) (pre post : List Block) (v : Use) : Type 0 where
  pub between : List Block
  pub pre_is : pre ≡ xs ++ (free z ∷ between)
  pub ys_is : ys ≡ between ++ (used v ∷ post)

pub record UsedFirst (xs ys : List Block) (z : ℕ) (pre post : List Block) (v : Use) : Type 0 where
  pub between : List Block
  pub xs_is : xs ≡ pre ++ (used v ∷ between)

cons_head : (a b : Block) (xs ys : List Block) → a ∷ xs ≡ b ∷ ys → a ≡ b
cons_head a b xs ys e = cc

cons_tail : (a b : Block) (xs ys : List Block) → a ∷ xs ≡ b ∷ ys → xs ≡ ys
cons_tail a b xs ys e = cc

pub which_first : (xs ys : List Block) (z : ℕ) (pre post : List Block) (v : Use) → xs ++ (free z ∷ ys) ≡ pre ++ (used v ∷ post) → FreeFirst xs ys z pre post v ⊎ UsedFirst xs ys z pre post v
which_first [] ys z [] post v e = absurd (clash (cons_head (free z) (used v) ys post e))
  where
    clash : free z ≡ used v → ⊥
    clash e = let k : ◌≡◌ {A = ℕ} 0 1 = cc in omega arith
which_first [] ys z (b ∷ pre) post v e =
    inl (record { between = pre; pre_is = ap (λ (x : Block). x ∷ pre) (sym (cons_head (free z) b ys (pre ++ (used v ∷ post)) e)); ys_is = cons_tail (free z) b ys (pre ++ (used v ∷ post)) e })
which_first (a ∷ xs) ys z [] post v e =
    inr (record { between = xs; xs_is = ap (λ (x : Block). x ∷ xs) (cons_head a (used v) (xs ++ (free z ∷ ys)) post e) })
which_first (a ∷ xs) ys z (b ∷ pre) post v e =
    let h : a ≡ b = cons_head a b (xs ++ (free z ∷ ys)) (pre ++ (used v ∷ post)) e in
    ⊎_elim
    (λ r. inl (record { between = r.between; pre_is = ap (λ (l : List Block). b ∷ l) r.pre_is ∙ ap (λ (x : Block). x ∷ (xs ++ (free z ∷ r.between))) (sym h); ys_is = r.ys_is }))
    (λ r. inr (record { between = r.between; xs_is = ap (λ (x : Block). x ∷ xs) h ∙ ap (λ (l : List Block). b ∷ l) r.xs_is }))
    (which_first xs ys z pre post v (cons_tail a b (xs ++ (free z ∷ ys)) (pre ++ (used v ∷ post)) e))

module _ (S : Shape) where
  no_free_last : (p : ℕ) (bs : List Block) (d : ℕ) → NoFree bs → last_free S p bs d ≡ d
  unfolding NoFree last_free
  no_free_last p [] d n = refl
  no_free_last p (free s ∷ bs) d n = absurd (omega (arith, n.0))
  no_free_last p (used u ∷ bs) d n = no_free_last (p + size_of S (used u)) bs d n.1

  -- the last free block of some, at x
  pub record Last (p : ℕ) (bs : List Block) (x : ℕ) : Type 0 where
    pub low : List Block
    pub size : ℕ
    pub high : List Block
    pub is : bs ≡ low ++ (free size ∷ high)
    pub at : ends S p low ≡ x

  pub last_of : (p : ℕ) (bs : List Block) (d : ℕ) → ((last_free S p bs d ≡ d) × NoFree bs) ⊎ Last p bs (last_free S p bs d)
  unfolding last_free NoFree ends
  last_of p [] d = inl (refl, tt)
  last_of p (free s ∷ bs) d = go (last_of (p + size_of S (free s)) bs p)
    where
      go : ((last_free S (p + size_of S (free s)) bs p ≡ p) × NoFree bs) ⊎ Last (p + size_of S (free s)) bs (last_free S (p + size_of S (free s)) bs p)
          → ((last_free S p (free s ∷ bs) d ≡ d) × NoFree (free s ∷ bs)) ⊎ Last p (free s ∷ bs) (last_free S p (free s ∷ bs) d)
      go (inl e) = inr (record { low = []; size = s; high = bs; is = refl; at = sym e.0 })
      go (inr l) = inr (record { low = free s ∷ l.low; size = l.size; high = l.high; is = ap (λ (x : List Block). free s ∷ x) l.is; at = l.at })
  last_of p (used u ∷ bs) d = go (last_of (p + size_of S (used u)) bs d)
    where
      go : ((last_free S (p + size_of S (used u)) bs d ≡ d) × NoFree bs) ⊎ Last (p + size_of S (used u)) bs (last_free S (p + size_of S (used u)) bs d)
          → ((last_free S p (used u ∷ bs) d ≡ d) × NoFree (used u ∷ bs)) ⊎ Last p (used u ∷ bs) (last_free S p (used u ∷ bs) d)
      go (inl e) = inl (e.0, (refl, e.1))
      go (inr l) = inr (record { low = used u ∷ l.low; size = l.size; high = l.high; is = ap (λ (x : List Block). used u ∷ x) l.is; at = l.at })

  -- `before` is the free block before the one at prev
  abbrev pub Before : Layout → ℕ → ℕ → Type 0
  Before L prev before = (xs ys : List Block) (z : ℕ) → L.blocks ≡ xs ++ (free z ∷ ys) → ends S (start S) xs ≡ prev → last_free S (start S) xs 0 ≡ before

  -- a free block is taken somewhere
  module _ (L M : Layout) (xs ys : List Block) (z u : ℕ) (U : Use) (el : L.blocks ≡ xs ++ (free z ∷ ys)) (em : M.blocks ≡ xs ++ (parts S u z U ++ ys)) (eu : use_size S U ≡ u) (l : u ≤ z) (p s prev left before : ℕ)
      (h : Stands S L p s prev left) (b : Before L prev before) where
    abbrev sp : ℕ
    sp = ends S (start S) xs

    -- behind the block
    used_first : UsedFirst xs ys z h.pre h.post (variable s) → Stands S M p s prev left
    used_first r =
        record {
          pre = h.pre;
          post = r.between ++ (parts S u z U ++ ys);
          blocks = em ∙ ap (λ (x : List Block). x ++ (parts S u z U ++ ys)) r.xs_is ∙ append_assoc h.pre (used (variable s) ∷ r.between) (parts S u z U ++ ys);
          begins = h.begins;
          before = h.before;
          touches = h.touches;
        }

    -- before the block
    module _ (r : FreeFirst xs ys z h.pre h.post (variable s)) where
      abbrev w : List Block
      w = r.between

      was_last : last_free S (sp + z) w sp ≡ prev
      unfolding last_free size_of
      was_last = sym (last_append S (start S) xs (free z ∷ w) 0) ∙ ap (λ (x : List Block). last_free S (start S) x 0) (sym r.pre_is) ∙ h.before

      was_touch : ends_free 1 w ≡ left
      unfolding ends_free
      was_touch = sym (ends_free_append 0 xs (free z ∷ w)) ∙ ap (λ (x : List Block). ends_free 0 x) (sym r.pre_is) ∙ h.touches

      was_end : ends S (sp + z) w ≡ p
      unfolding ends size_of
      was_end = sym (ends_append S (start S) xs (free z ∷ w)) ∙ ap (λ (x : List Block). ends S (start S) x) (sym r.pre_is) ∙ h.begins

      new_blocks : M.blocks ≡ (xs ++ (parts S u z U ++ w)) ++ (used (variable s) ∷ h.post)
      new_blocks =
          em ∙ ap (λ (x : List Block). xs ++ (parts S u z U ++ x)) r.ys_is
          ∙ ap (λ (x : List Block). xs ++ x) (sym (append_assoc (parts S u z U) w (used (variable s) ∷ h.post)))
          ∙ sym (append_assoc xs (parts S u z U ++ w) (used (variable s) ∷ h.post))

      mid_end : ends S sp (parts S u z U) ≡ sp + z
      unfolding ends size_of
      mid_end = parts_ends S z u U eu l sp

      new_end : ends S (start S) (xs ++ (parts S u z U ++ w)) ≡ p
      new_end = ends_append S (start S) xs (parts S u z U ++ w) ∙ ends_append S sp (parts S u z U) w ∙ ap (λ (x : ℕ). ends S x w) mid_end ∙ was_end

      new_last : last_free S (start S) (xs ++ (parts S u z U ++ w)) 0 ≡ last_free S (sp + z) w (last_free S sp (parts S u z U) (last_free S (start S) xs 0))
      new_last =
          last_append S (start S) xs (parts S u z U ++ w) 0 ∙ last_append S sp (parts S u z U) w (last_free S (start S) xs 0)
          ∙ ap (λ (x : ℕ). last_free S x w (last_free S sp (parts S u z U) (last_free S (start S) xs 0))) mid_end

      new_touch : ends_free 0 (xs ++ (parts S u z U ++ w)) ≡ ends_free (ends_free (ends_free 0 xs) (parts S u z U)) w
      new_touch = ends_free_append 0 xs (parts S u z U ++ w) ∙ ends_free_append (ends_free 0 xs) (parts S u z U) w

      -- where another free block lies between, what comes before it does not count
      another : (x : ℕ) → Last (sp + z) w x → Stands S M p s prev left
      unfolding last_free ends_free
      another x k =
          let low = k.low in
          let end = free k.size ∷ k.high in
          let same-last : (d e : ℕ) → last_free S (sp + z) w d ≡ last_free S (sp + z) w e = λ d e.
          rw k.is (last_append S (sp + z) low end d ∙ sym (last_append S (sp + z) low end e)) in
          let same-touch : (d e : ℕ) → ends_free d w ≡ ends_free e w = λ d e.
          rw k.is (ends_free_append d low end ∙ sym (ends_free_append e low end)) in
          record {
            pre = xs ++ (parts S u z U ++ w);
            post = h.post;
            blocks = new_blocks;
            begins = new_end;
            before = new_last ∙ same-last (last_free S sp (parts S u z U) (last_free S (start S) xs 0)) sp ∙ was_last;
            touches = new_touch ∙ same-touch (ends_free (ends_free 0 xs) (parts S u z U)) 1 ∙ was_touch;
          }

      -- where none does, the block that was taken is the one at prev
      last_taken : NoFree w → Mend S M p s prev left before
      unfolding NoFree last_free ends_free size_of
      last_taken n = go (dec_lt u z)
        where
          here : sp ≡ prev
          here = sym (no_free_last (sp + z) w sp n) ∙ was_last

          next_used : (bs : List Block) → NoFree bs → (v : Use) × (rest : List Block) × (bs ++ (used (variable s) ∷ h.post) ≡ used v ∷ rest)
          next_used [] k = (variable s, h.post, refl)
          next_used (used v ∷ bs) k = (v, bs ++ (used (variable s) ∷ h.post), refl)
          next_used (free t ∷ bs) k = absurd (omega (arith, k.0))

          go : Dec (u < z) → Mend S M p s prev left before
          go (yes k) =
              let mid : parts S u z U ≡ used U ∷ free (z - u) ∷ [] = rw (lt-ltb u z k) refl in
              let a : last_free S sp (parts S u z U) (last_free S (start S) xs 0) ≡ prev + use_size S U = rw mid (ap (λ (x : ℕ). x + use_size S U) here) in
              let t : ends_free (ends_free 0 xs) (parts S u z U) ≡ 1 = rw mid refl in
              inr (inl (record {
                low = xs;
                taker = U;
                size = z - u;
                high = ys;
                blocks = em ∙ rw mid refl;
                at = here;
                stands = record {
                  pre = xs ++ (parts S u z U ++ w);
                  post = h.post;
                  blocks = new_blocks;
                  begins = new_end;
                  before = new_last ∙ no_free_last (sp + z) w (last_free S sp (parts S u z U) (last_free S (start S) xs 0)) n ∙ a;
                  touches = new_touch ∙ ap (λ (x : ℕ). ends_free x w) t ∙ was_touch;
                };
              }))
          go (no k) =
              let mid : parts S u z U ≡ used U ∷ [] = rw (le-ltb u z (omega arith)) refl in
              let a : last_free S sp (parts S u z U) (last_free S (start S) xs 0) ≡ before = rw mid (b xs ys z el here) in
              let t : ends_free (ends_free 0 xs) (parts S u z U) ≡ 0 = rw mid refl in
              let v = next_used w n in
              inr (inr (record {
                low = xs;
                taker = U;
                next = v.0;
                high = v.1;
                blocks = em ∙ ap (λ (x : List Block). xs ++ (x ++ ys)) mid ∙ ap (λ (x : List Block). xs ++ (used U ∷ x)) r.ys_is ∙ ap (λ (x : List Block). xs ++ (used U ∷ x)) v.2;
                at = here;
                stands = record {
                  pre = xs ++ (parts S u z U ++ w);
                  post = h.post;
                  blocks = new_blocks;
                  begins = new_end;
                  before = new_last ∙ no_free_last (sp + z) w (last_free S sp (parts S u z U) (last_free S (start S) xs 0)) n ∙ a;
                  touches = new_touch ∙ ap (λ (x : ℕ). ends_free x w) t ∙ no_free_touch w n;
                };
              }))

      free_first : Mend S M p s prev left before
      free_first = ⊎_elim (λ k. last_taken k.1) (λ k. inl (another (last_free S (sp + z) w sp) k)) (last_of (sp + z) w sp)

    pub taken_mends : Mend S M p s prev left before
    taken_mends = ⊎_elim (λ r. free_first r) (λ r. inl (used_first r)) (which_first xs ys z h.pre h.post (variable s) (sym el ∙ h.blocks))

  -- an item changes: the blocks stand as they did
  module _ (x : Slot) (q : ℕ) where
    item_append : (p : ℕ) (xs ys : List Block) → item_to S x q p (xs ++ ys) ≡ item_to S x q p xs ++ item_to S x q (ends S p xs) ys
    unfolding item_to ends size_of
    item_append p [] ys = refl
    item_append p (free t ∷ xs) ys = ap (λ (l : List Block). free t ∷ l) (item_append (p + t) xs ys)
    item_append p (used u ∷ xs) ys = ap (λ (l : List Block). used (use_to S x q p u) ∷ l) (item_append (p + use_size S u) xs ys)

    item_last : (p : ℕ) (bs : List Block) (d : ℕ) → last_free S p (item_to S x q p bs) d ≡ last_free S p bs d
    unfolding item_to last_free size_of
    item_last p [] d = refl
    item_last p (free t ∷ bs) d = item_last (p + t) bs p
    item_last p (used u ∷ bs) d = ap (λ (y : ℕ). last_free S (p + y) (item_to S x q (p + use_size S u) bs) d) (size_use_to S x q p u) ∙ item_last (p + use_size S u) bs d

    item_touch : (p d : ℕ) (bs : List Block) → ends_free d (item_to S x q p bs) ≡ ends_free d bs
    unfolding item_to ends_free
    item_touch p d [] = refl
    item_touch p d (free t ∷ bs) = item_touch (p + t) 1 bs
    item_touch p d (used u ∷ bs) = item_touch (p + use_size S u) 0 bs

    module _ (L M : Layout) (em : M.blocks ≡ item_to S x q (start S) L.blocks) where
      item_stands : (p s prev left : ℕ) → Stands S L p s prev left → Stands S M p s prev left
      unfolding item_to use_to use_size
      item_stands p s prev left h =
          record {
            pre = item_to S x q (start S) h.pre;
            post = item_to S x q (ends S (start S) h.pre + s) h.post;
            blocks = em ∙ ap (λ (l : List Block). item_to S x q (start S) l) h.blocks ∙ item_append (start S) h.pre (used (variable s) ∷ h.post);
            begins = ends_item_to S x q (start S) h.pre ∙ h.begins;
            before = item_last (start S) h.pre 0 ∙ h.before;
            touches = item_touch (start S) 0 h.pre ∙ h.touches;
          }

      pub item_mends : (p s prev left before : ℕ) → Mend S L p s prev left before → Mend S M p s prev left before
      unfolding item_to
      item_mends p s prev left before (inl h) = inl (item_stands p s prev left h)
      item_mends p s prev left before (inr (inl h)) =
          let at : ℕ = ends S (start S) h.low in
          inr (inl (record {
            low = item_to S x q (start S) h.low;
            taker = use_to S x q at h.taker;
            size = h.size;
            high = item_to S x q (at + use_size S h.taker + h.size) h.high;
            blocks = em ∙ ap (λ (l : List Block). item_to S x q (start S) l) h.blocks ∙ item_append (start S) h.low (used h.taker ∷ (free h.size ∷ h.high));
            at = ends_item_to S x q (start S) h.low ∙ h.at;
            stands = subst (λ (y : ℕ). Stands S M p s (prev + y) left) (sym (size_use_to S x q at h.taker)) (item_stands p s (prev + use_size S h.taker) left h.stands);
          }))
      item_mends p s prev left before (inr (inr h)) =
          let at : ℕ = ends S (start S) h.low in
          inr (inr (record {
            low = item_to S x q (start S) h.low;
            taker = use_to S x q at h.taker;
            next = use_to S x q (at + use_size S h.taker) h.next;
            high = item_to S x q (at + use_size S h.taker + use_size S h.next) h.high;
            blocks = em ∙ ap (λ (l : List Block). item_to S x q (start S) l) h.blocks ∙ item_append (start S) h.low (used h.taker ∷ (used h.next ∷ h.high));
            at = ends_item_to S x q (start S) h.low ∙ h.at;
            stands = item_stands p s before 0 h.stands;
          }))

  -- THE LAW: where the block stands after an allocation
  module _ (good : Good S) (end n : ℕ) (L : Layout) (v : Valid S end L) (p s prev left before : ℕ) (h : Stands S L p s prev left) (b : Before L prev before) where
    unfoldable Mends : Option Made → Type 0
    Mends none = Unit {0}
    Mends (some m) = Mend S m.layout p s prev left before

    popped_mends : (c o : ℕ) (os : List ℕ) (M : Layout) → Mend S M p s prev left before → Mend S (popped S n c o os M) p s prev left before
    popped_mends c o os M g = item_mends (held n) (item_at S o) M (popped S n c o os M) refl p s prev left before g

    made_mends : {x : Option Made} → Makes S n L x → Mends x
    unfolding Mends use_size
    made_mends nothing_fits = tt
    made_mends (listed_item i o os e) = popped_mends (class_of n) o os L (inl h)
    made_mends (new_page i e t d o os f) =
        let c = class_of n in
        let u = page_takes S c t in
        let k = takes_of S (page_need S c) t.size d.large in
        popped_mends c o os (paged S c t L)
        (taken_mends L (paged S c t L) t.pre t.post t.size u (page_of S c u) d.blocks (ap (λ (M : Layout). M.blocks) (paged_as S c (ends S (start S) t.pre) v d refl good)) (page_size S c u k.enough) k.within p s prev left before h b)
    made_mends (own_block i t d) =
        let need = need_of S n in
        let u = takes S need t.size in
        let k = takes_of S need t.size d.large in
        taken_mends L (record { blocks = placed S need (as_variable S) t; lists = L.lists }) t.pre t.post t.size u (variable u) d.blocks (ap (λ (M : Layout). M.blocks) (placed_as S v d good)) refl k.within p s prev left before h b

    pub allocate_mends : (m : Made) → allocate S n L ≡ some m → Mend S m.layout p s prev left before
    unfolding Mends
    allocate_mends m e = let g : Mends (some m) = subst (λ (o : Option Made). Mends o) e (made_mends (makes S n L)) in g
