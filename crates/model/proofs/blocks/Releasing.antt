-- A block is given back: it joins a free neighbour on either side.
use Rattle.std.proofs.Common.{ℕ, ◌+◌, ◌%◌, ◌≤◌, ◌<◌, ◌≡◌, refl, sym, ap, subst, ◌∙◌, List, [], ◌∷◌, ◌++◌, append_assoc, append-nil, ◌⊎◌, inl, inr, ⊎_elim, arith}
use Rattle.model.specs.Shape.{Shape, start, least_free, least_variable}
use Rattle.model.specs.Layout.{Use, variable, Block, free, used, Layout, if_free, use_size, size_of, ends, first_free}
use Rattle.model.specs.Sound.{times, Allowed, AllowedUse, AllAllowed, Apart, idle_in, idle_items, Valid}
use Rattle.model.specs.Rules.{Spot, before, in_front, released}
use Rattle.model.proofs.blocks.Blocks.{allowed_left, allowed_right}
use Rattle.model.proofs.blocks.Replace.{three}
use Rattle.model.proofs.blocks.Valid.{apart_append, apart_left, apart_right, items_append}
use Rattle.model.proofs.pictures.Drawn.{times_append}
use Rattle.model.specs.inner.Walks.{ends_free}
use Rattle.model.proofs.blocks.Remade.{joined_tiled, joined_valid}
use Rattle.model.specs.inner.Laid.{Tiled}

-- blocks that touch no free block stay as they are with a block in front
pub before_apart : (b : Block) (bs : List Block) → Apart (if_free b 1 0) bs → before b bs ≡ b ∷ bs
unfolding before Apart
before_apart (free s) [] h = refl
before_apart (free s) (free t ∷ bs) h = absurd (omega (arith, h.0))
before_apart (free s) (used u ∷ bs) h = refl
before_apart (used u) bs h = refl

in_front_apart : (d : ℕ) (pre bs : List Block) → Apart d (pre ++ bs) → in_front pre bs ≡ pre ++ bs
unfolding in_front Apart
in_front_apart d [] bs h = refl
in_front_apart d (b ∷ pre) bs h = ap (λ (l : List Block). before b l) (in_front_apart (if_free b 1 0) pre bs h.1) ∙ before_apart b (pre ++ bs) h.1

in_front_append : (xs ys bs : List Block) → in_front (xs ++ ys) bs ≡ in_front xs (in_front ys bs)
unfolding in_front
in_front_append [] ys bs = refl
in_front_append (x ∷ xs) ys bs = ap (λ (l : List Block). before x l) (in_front_append xs ys bs)

-- a free neighbour of so many bytes, or none
pub data Side : List Block → ℕ → Type 0 where
  nobody : Side [] 0
  neighbour : (s : ℕ) → Side (free s ∷ []) s

-- blocks whose last is free
last_free_lem : (d : ℕ) (b : Block) (bs : List Block) → ends_free d (b ∷ bs) ≡ 1 → (pre : List Block) × (s : ℕ) × (b ∷ bs ≡ pre ++ (free s ∷ []))
unfolding ends_free
last_free_lem d (free s) [] e = ([], s, refl)
last_free_lem d (used u) [] e = absurd (omega arith)
last_free_lem d b (c ∷ bs) e = let r = last_free_lem (if_free b 1 0) c bs e in (b ∷ r.0, r.1, ap (λ (l : List Block). b ∷ l) r.2)

pub left_side : (bs : List Block) → ends_free 0 bs ≡ 1 → (pre : List Block) × (s : ℕ) × (bs ≡ pre ++ (free s ∷ []))
unfolding ends_free
left_side [] e = absurd (omega arith)
left_side (b ∷ bs) e = last_free_lem 0 b bs e

module _ (S : Shape) where
  first_above : (p : ℕ) (bs : List Block) → (first_free S p bs 0 ≡ 0) ⊎ (p ≤ first_free S p bs 0)
  unfolding first_free
  first_above p [] = inl refl
  first_above p (free s ∷ bs) = inr (omega arith)
  first_above p (used u ∷ bs) = ⊎_elim (λ e. inl e) (λ e. inr (omega (arith, e))) (first_above (p + size_of S (used u)) bs)

  -- the block at q is free exactly where the next free block from q on is there
  pub right_side : (q : ℕ) (bs : List Block) → 0 < q → AllAllowed S bs → ((b : Block) → Allowed S b → 0 < size_of S b) → first_free S q bs 0 ≡ q → (s : ℕ) × (post : List Block) × (bs ≡ free s ∷ post)
  unfolding first_free AllAllowed
  right_side q [] z a pos e = absurd (omega arith)
  right_side q (free s ∷ bs) z a pos e = (s, bs, refl)
  right_side q (used u ∷ bs) z a pos e =
      absurd (⊎_elim (λ f. omega arith) (λ f. omega (arith, f, pos (used u) a.0)) (first_above (q + size_of S (used u)) bs))

  pub right_not : (q : ℕ) (bs : List Block) → (first_free S q bs 0 ≡ q → ⊥) → Apart 0 bs → Apart 1 bs
  unfolding first_free Apart
  right_not q [] n a = tt
  right_not q (free s ∷ bs) n a = absurd (n refl)
  right_not q (used u ∷ bs) n a = (omega arith, a.1)

  -- the released block between its two sides: the blocks before and behind all three, and the sizes of the sides
  module _ (end : ℕ) (ls : List (List ℕ)) (t : Spot) (u : Use) (fits : use_size S u ≡ t.size) (pre lefts rights post : List Block) (l r : ℕ) (left : Side lefts l) (right : Side rights r) (ep : t.pre ≡ pre ++ lefts) (eq : t.post ≡ rights ++ post) where
    abbrev pub old : List Block
    old = lefts ++ (used u ∷ rights)

    abbrev pub joined_size : ℕ
    joined_size = l + (t.size + r)

    pub sides_blocks : t.pre ++ ((used u ∷ []) ++ t.post) ≡ pre ++ (old ++ post)
    sides_blocks =
        rw (ep, eq) (append_assoc pre lefts (used u ∷ (rights ++ post)) ∙ ap (λ (x : List Block). pre ++ x) (sym (append_assoc lefts (used u ∷ rights) post)))

    -- the rule's result, where no free block touches the three
    right_joined : Apart 1 post → before (free t.size) t.post ≡ free (t.size + r) ∷ post
    unfolding before
    right_joined a = rw eq (go right)
      where
        go : {rs : List Block} {n : ℕ} → Side rs n → before (free t.size) (rs ++ post) ≡ free (t.size + n) ∷ post
        go nobody = before_apart (free t.size) post a ∙ ap (λ (x : ℕ). free x ∷ post) (omega arith)
        go (neighbour s) = refl

    left_joined : in_front t.pre (free (t.size + r) ∷ post) ≡ in_front pre (free joined_size ∷ post)
    unfolding in_front before
    left_joined = rw ep (in_front_append pre lefts (free (t.size + r) ∷ post) ∙ ap (λ (x : List Block). in_front pre x) (go left))
      where
        go : {ss : List Block} {n : ℕ} → Side ss n → in_front ss (free (t.size + r) ∷ post) ≡ free (n + (t.size + r)) ∷ post
        go nobody = ap (λ (x : ℕ). free x ∷ post) (omega arith)
        go (neighbour s) = refl

    pub left_clear : Apart 0 (pre ++ (old ++ post)) → (ends_free 0 t.pre ≡ 0) ⊎ (1 ≤ l) → ends_free 0 pre ≡ 0
    unfolding Apart ends_free
    left_clear a z = go left (ap (λ (x : List Block). ends_free 0 x) ep) z (apart_right 0 pre (old ++ post) a)
      where
        go : {ss : List Block} {n : ℕ} → Side ss n → ends_free 0 t.pre ≡ ends_free 0 (pre ++ ss) → (ends_free 0 t.pre ≡ 0) ⊎ (1 ≤ n) → Apart (ends_free 0 pre) ((ss ++ (used u ∷ rights)) ++ post) → ends_free 0 pre ≡ 0
        go nobody e (inl k) h = ap (λ (x : List Block). ends_free 0 x) (sym (append-nil pre)) ∙ sym e ∙ k
        go nobody e (inr k) h = absurd (omega arith)
        go (neighbour s) e k h = omega (arith, h.0)

    apart_joined : Apart (ends_free 0 pre) (old ++ post) → ends_free 0 pre ≡ 0 → Apart 1 post → Apart (ends_free 0 pre) (free joined_size ∷ post)
    unfolding Apart
    apart_joined h z k = (omega arith, k)

    pub released_is : Apart 0 (pre ++ (old ++ post)) → ends_free 0 pre ≡ 0 → Apart 1 post → released t ≡ pre ++ (free joined_size ∷ post)
    unfolding Apart
    released_is a z k =
        ap (λ (x : List Block). in_front t.pre x) (right_joined k) ∙ left_joined
        ∙ in_front_apart 0 pre (free joined_size ∷ post) (apart_append 0 pre (free joined_size ∷ post) (apart_left 0 pre (old ++ post) a) (omega arith, k))

    -- its extent, and that it holds no free item where the block holds none
    pub ends_old : (p : ℕ) → ends S p old ≡ p + joined_size
    unfolding ends size_of
    ends_old p = go left right
      where
        go : {ss rs : List Block} {m n : ℕ} → Side ss m → Side rs n → ends S p (ss ++ (used u ∷ rs)) ≡ p + (m + (t.size + n))
        go nobody nobody = omega arith
        go nobody (neighbour n) = omega arith
        go (neighbour m) nobody = omega arith
        go (neighbour m) (neighbour n) = omega arith

    idle_old : ((c p : ℕ) → idle_in S c p (used u) ≡ []) → (c p : ℕ) → idle_items S c p old ≡ []
    unfolding idle_items
    idle_old none c p = go left right
      where
        go : {ss rs : List Block} {m n : ℕ} → Side ss m → Side rs n → idle_items S c p (ss ++ (used u ∷ rs)) ≡ []
        go nobody nobody = rw (none c p) refl
        go nobody (neighbour n) = rw (none c p) (unfold idle_in in refl)
        go (neighbour m) nobody = rw (none c (p + size_of S (free m))) (unfold idle_in in refl)
        go (neighbour m) (neighbour n) = rw (none c (p + size_of S (free m))) (unfold idle_in in refl)

    size_old : least_free S ≤ t.size → t.size % 8 ≡ 0 → AllAllowed S old → (least_free S ≤ joined_size) × (joined_size % 8 ≡ 0)
    unfolding AllAllowed Allowed
    size_old big eight a = go left right a
      where
        go : {ss rs : List Block} {m n : ℕ} → Side ss m → Side rs n → AllAllowed S (ss ++ (used u ∷ rs)) → (least_free S ≤ m + (t.size + n)) × ((m + (t.size + n)) % 8 ≡ 0)
        go nobody nobody a = (omega arith, omega arith)
        go nobody (neighbour n) a = (omega arith, omega (arith, a.1.0.1))
        go (neighbour m) nobody a = (omega arith, omega (arith, a.0.1))
        go (neighbour m) (neighbour n) a = (omega arith, omega (arith, a.0.1, a.1.1.0.1))

    -- the heap with the block given back
    pub released_tiled : least_free S ≤ t.size → t.size % 8 ≡ 0 → Tiled S end (three S ls pre old post) → ends_free 0 pre ≡ 0 → Apart 1 post → Tiled S end (three S ls pre (free joined_size ∷ []) post)
    released_tiled big eight v z k =
        let a = size_old big eight (allowed_left S old post (allowed_right S pre (old ++ post) v.allowed)) in
        joined_tiled S end ls pre post old joined_size v (ends_old (ends S (start S) pre)) a.0 a.1 (λ h. apart_joined h z k)

    pub released_valid : least_free S ≤ t.size → t.size % 8 ≡ 0 → ((c p : ℕ) → idle_in S c p (used u) ≡ []) → Valid S end (three S ls pre old post) → ends_free 0 pre ≡ 0 → Apart 1 post
        → Valid S end (three S ls pre (free joined_size ∷ []) post)
    released_valid big eight none v z k =
        let a = size_old big eight (allowed_left S old post (allowed_right S pre (old ++ post) v.allowed)) in
        joined_valid S end ls pre post old joined_size v (ends_old (ends S (start S) pre)) a.0 a.1 (λ c. idle_old none c (ends S (start S) pre)) (λ h. apart_joined h z k)

-- 1 or 0 is said of whether the last block is free
pub free_or_not : (d : ℕ) (bs : List Block) → (d ≡ 0) ⊎ (d ≡ 1) → (ends_free d bs ≡ 0) ⊎ (ends_free d bs ≡ 1)
unfolding ends_free
free_or_not d [] z = z
free_or_not d (free s ∷ bs) z = free_or_not 1 bs (inr refl)
free_or_not d (used u ∷ bs) z = free_or_not 0 bs (inl refl)

-- a block in a layout where no two free blocks touch, with its two sides
pub record Sides (t : Spot) : Type 0 where
  pub pre : List Block
  pub lefts : List Block
  pub rights : List Block
  pub post : List Block
  pub l : ℕ
  pub r : ℕ
  pub left : Side lefts l
  pub right : Side rights r
  pub pre_is : t.pre ≡ pre ++ lefts
  pub post_is : t.post ≡ rights ++ post
  pub clear_left : ends_free 0 pre ≡ 0
  pub clear_right : Apart 1 post

-- what stands right behind a block
record Right (post : List Block) : Type 0 where
  rights : List Block
  rest : List Block
  r : ℕ
  side : Side rights r
  is : post ≡ rights ++ rest
  clear : Apart 1 rest

pub sides_of : (t : Spot) (u : Use) → Apart 0 (t.pre ++ (used u ∷ t.post)) → Sides t
unfolding Apart
sides_of t u a = on_left (free_or_not 0 t.pre (inl refl)) t.post refl (apart_right 0 t.pre (used u ∷ t.post) a).1
  where
    on_right : (post : List Block) → Apart 0 post → Right post
    on_right [] h = record { rights = []; rest = []; r = 0; side = nobody; is = refl; clear = tt }
    on_right (free s ∷ post) h = record { rights = free s ∷ []; rest = post; r = s; side = neighbour s; is = refl; clear = h.1 }
    on_right (used u ∷ post) h = record { rights = []; rest = used u ∷ post; r = 0; side = nobody; is = refl; clear = (omega arith, h.1) }

    on_left : (ends_free 0 t.pre ≡ 0) ⊎ (ends_free 0 t.pre ≡ 1) → (post : List Block) → t.post ≡ post → Apart 0 t.post → Sides t
    on_left (inl z) post e h =
        let g = on_right t.post h in
        record {
          pre = t.pre;
          lefts = [];
          rights = g.rights;
          post = g.rest;
          l = 0;
          r = g.r;
          left = nobody;
          right = g.side;
          pre_is = sym (append-nil t.pre);
          post_is = g.is;
          clear_left = z;
          clear_right = g.clear;
        }
    on_left (inr z) post e h =
        let g = on_right t.post h in
        let w = left_side t.pre z in
        let b : Apart 0 (w.0 ++ ((free w.1 ∷ []) ++ (used u ∷ t.post))) = rw append_assoc at (rw w.2 at a) in
        record {
          pre = w.0;
          lefts = free w.1 ∷ [];
          rights = g.rights;
          post = g.rest;
          l = w.1;
          r = g.r;
          left = neighbour w.1;
          right = g.side;
          pre_is = w.2;
          post_is = g.is;
          clear_left = omega (arith, (apart_right 0 w.0 ((free w.1 ∷ []) ++ (used u ∷ t.post)) b).0);
          clear_right = g.clear;
        }

-- a block in use, between its two sides
module _ (S : Shape) (end : ℕ) (L : Layout) (t : Spot) (u : Use) (fits : use_size S u ≡ t.size) (apart : Apart 0 L.blocks) (e : L.blocks ≡ t.pre ++ ((used u ∷ []) ++ t.post)) where
  s : Sides t
  s = sides_of t u (subst (λ (l : List Block). Apart 0 l) e apart)

  is : L.blocks ≡ s.pre ++ (old S end L.lists t u fits s.pre s.lefts s.rights s.post s.l s.r s.left s.right s.pre_is s.post_is ++ s.post)
  is = e ∙ sides_blocks S end L.lists t u fits s.pre s.lefts s.rights s.post s.l s.r s.left s.right s.pre_is s.post_is

  then : released t ≡ s.pre ++ (free (s.l + (t.size + s.r)) ∷ s.post)
  then =
      released_is S end L.lists t u fits s.pre s.lefts s.rights s.post s.l s.r s.left s.right s.pre_is s.post_is
      (subst (λ (l : List Block). Apart 0 l) is apart) s.clear_left s.clear_right

  -- THE LAW, of any block in use: the blocks stay as they must be where it is given back
  pub freed_use_tiled : Tiled S end L → least_free S ≤ t.size → t.size % 8 ≡ 0 → Tiled S end (record { blocks = released t; lists = L.lists })
  freed_use_tiled v big eight =
      subst (λ (l : List Block). Tiled S end (record { blocks = l; lists = L.lists })) (sym then)
      (released_tiled S end L.lists t u fits s.pre s.lefts s.rights s.post s.l s.r s.left s.right s.pre_is s.post_is big eight
      (subst (λ (l : List Block). Tiled S end (record { blocks = l; lists = L.lists })) is v) s.clear_left s.clear_right)

  -- and a layout stays valid where it has no free item
  pub freed_use_valid : Valid S end L → least_free S ≤ t.size → t.size % 8 ≡ 0 → ((c p : ℕ) → idle_in S c p (used u) ≡ []) → Valid S end (record { blocks = released t; lists = L.lists })
  freed_use_valid v big eight none =
      subst (λ (l : List Block). Valid S end (record { blocks = l; lists = L.lists })) (sym then)
      (released_valid S end L.lists t u fits s.pre s.lefts s.rights s.post s.l s.r s.left s.right s.pre_is s.post_is big eight none
      (subst (λ (l : List Block). Valid S end (record { blocks = l; lists = L.lists })) is v) s.clear_left s.clear_right)

  -- no item becomes free
  pub freed_use_idle : (c o : ℕ) → times o (idle_items S c (start S) (released t)) ≤ times o (idle_items S c (start S) L.blocks)
  unfolding idle_items idle_in size_of
  freed_use_idle c o =
      let p = ends S (start S) s.pre in
      let n = s.l + (t.size + s.r) in
      let ol = old S end L.lists t u fits s.pre s.lefts s.rights s.post s.l s.r s.left s.right s.pre_is s.post_is in
      let now = ap (λ (l : List Block). times o (idle_items S c (start S) l)) then ∙ ap (λ (l : List ℕ). times o l) (items_append S c (start S) s.pre (free n ∷ s.post)) ∙ times_append o (idle_items S c (start S) s.pre) (idle_items S c (p + n) s.post) in
      let was = ap (λ (l : List Block). times o (idle_items S c (start S) l)) is ∙ ap (λ (l : List ℕ). times o l) (items_append S c (start S) s.pre (ol ++ s.post)) ∙ times_append o (idle_items S c (start S) s.pre) (idle_items S c p (ol ++ s.post)) in
      let there = ap (λ (l : List ℕ). times o l) (items_append S c p ol s.post) ∙ times_append o (idle_items S c p ol) (idle_items S c (ends S p ol) s.post) in
      let same = ap (λ (q : ℕ). times o (idle_items S c q s.post)) (ends_old S end L.lists t u fits s.pre s.lefts s.rights s.post s.l s.r s.left s.right s.pre_is s.post_is p) in
      omega (arith, now, was, there, same)

-- so where a variable block is given back
pub freed_block_valid : (S : Shape) → least_free S ≤ least_variable S → (end : ℕ) (L : Layout) (t : Spot) → Valid S end L → L.blocks ≡ t.pre ++ ((used (variable t.size) ∷ []) ++ t.post)
    → Valid S end (record { blocks = released t; lists = L.lists })
unfolding use_size idle_in AllAllowed Allowed AllowedUse
freed_block_valid S g end L t v e =
    let a = (allowed_right S t.pre (used (variable t.size) ∷ t.post) (subst (λ (l : List Block). AllAllowed S l) e v.allowed)).0 in
    freed_use_valid S end L t (variable t.size) refl v.apart e v (omega (arith, a.0)) a.1 (λ c p. refl)
