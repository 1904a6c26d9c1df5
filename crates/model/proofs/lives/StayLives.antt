-- What a resize in place leaves: a valid layout, in which the same is live, with the record at its address.
use Rattle.std.proofs.Common.{ℕ, ◌+◌, ◌-◌, ◌%◌, ◌≤◌, ◌<◌, ◌≡◌, refl, sym, ap, ap₂, subst, ◌∙◌, cond, List, [], ◌∷◌, ◌++◌, ◌⊎◌, inl, inr, ⊎_elim, arith, eqb, leb, eq-eqb, ne_eqb, le-leb}
use Rattle.std.proofs.Math.Option.{Option, none, some}
use Rattle.std.proofs.Math.Decide.{ℕ_discrete, dec_le}
use Rattle.std.proofs.lemmas.Bool.{lt-leb}
use Rattle.model.specs.Shape.{Shape, start, tags, least_free, least_variable, largest_item, class_of, need_of, address_of, item_at}
use Rattle.model.specs.Layout.{variable, Block, free, used, Layout, use_size, size_of, ends}
use Rattle.model.specs.Sound.{Allowed, AllowedUse, AllAllowed, Apart, idle_in, idle_items, Valid}
use Rattle.model.specs.Rules.{Spot, before, Found, block, thing, nothing, cut, as_variable, find, shrunk, grown, reshaped, pushed, renewed, stays}
use Rattle.model.specs.Live.{◌∈◌, Payload, use_live, live_from, live}
use Rattle.model.specs.Promises.{IsItem}
use Rattle.model.proofs.lives.Members.{in_left, in_right, in_either}
use Rattle.model.proofs.blocks.Blocks.{allowed_right}
use Rattle.model.proofs.blocks.Replace.{three}
use Rattle.model.proofs.blocks.Valid.{apart_down, replaced_valid}
use Rattle.model.proofs.walks.Finding.{block_found, item_found}
use Rattle.model.proofs.blocks.Releasing.{Side, nobody, neighbour, Sides, sides_of}
use Rattle.model.proofs.lives.Lives.{live_append}
use Rattle.model.proofs.Good.{Good}
use Rattle.model.proofs.Sizes.{up_above, need_eight}
use Rattle.model.proofs.lives.FreeLives.{variable_payload, block_payload}
use Rattle.model.proofs.lives.ItemLives.{item_payload, item_adds}
use Rattle.model.proofs.items.Asked.{within_own, within_capacity, shown_asked}
use Rattle.model.proofs.items.Push.{renew_valid}

-- blocks whose first is not free, with a free block in front
front_apart : (s : ℕ) (bs : List Block) → Apart 1 bs → before (free s) bs ≡ free s ∷ bs
unfolding before Apart
front_apart s [] h = refl
front_apart s (free t ∷ bs) h = absurd (omega (arith, h.0))
front_apart s (used u ∷ bs) h = refl

module _ (S : Shape) where
  -- a free block, or none, of an allowed size
  unfoldable pub SideAllowed : {ss : List Block} {k : ℕ} → Side ss k → Type 0
  SideAllowed nobody = Unit {0}
  SideAllowed (neighbour k) = (least_free S ≤ k) × (k % 8 ≡ 0)

  -- a variable block and the free block behind it, or none
  abbrev run : ℕ → List Block → List Block
  run z ss = used (variable z) ∷ ss

  run_allowed : (z : ℕ) {ss : List Block} {k : ℕ} (m : Side ss k) → least_variable S ≤ z → z % 8 ≡ 0 → SideAllowed m → AllAllowed S (run z ss)
  unfolding SideAllowed AllAllowed Allowed AllowedUse
  run_allowed z nobody a b c = ((a, b), tt)
  run_allowed z (neighbour k) a b c = ((a, b), (c, tt))

  run_ends : (p z : ℕ) {ss : List Block} {k : ℕ} → Side ss k → ends S p (run z ss) ≡ p + (z + k)
  unfolding ends size_of use_size
  run_ends p z nobody = omega arith
  run_ends p z (neighbour k) = omega arith

  run_apart : (d z s : ℕ) {ss rs : List Block} {k r : ℕ} (rest : List Block) → Side ss k → Side rs r → Apart 1 rest → Apart d (run s rs ++ rest) → Apart d (run z ss ++ rest)
  unfolding Apart
  run_apart d z s rest nobody y c h = (h.0, apart_down 1 0 rest (omega arith) c)
  run_apart d z s rest (neighbour k) y c h = (h.0, (omega arith, c))

  run_idle : (c p z : ℕ) {ss : List Block} {k : ℕ} → Side ss k → idle_items S c p (run z ss) ≡ []
  unfolding idle_items idle_in
  run_idle c p z nobody = refl
  run_idle c p z (neighbour k) = refl

  run_live : (p z : ℕ) {ss : List Block} {k : ℕ} → Side ss k → live_from S p (run z ss) ≡ variable_payload S p z ∷ []
  unfolding live_from use_live
  run_live p z nobody = refl
  run_live p z (neighbour k) = refl

  -- the block of a spot, in use, becomes one of size z, and what is behind it free or in use changes with it
  pub record Reshapes (t : Spot) (bs : List Block) (need : ℕ) : Type 0 where
    pub rights : List Block
    pub rest : List Block
    pub r : ℕ
    pub right : Side rights r
    pub post_is : t.post ≡ rights ++ rest
    pub clear : Apart 1 rest
    pub z : ℕ
    pub mine : List Block
    pub k : ℕ
    pub side : Side mine k
    pub is : bs ≡ run z mine ++ rest
    pub same : z + k ≡ t.size + r
    pub large : need ≤ z
    pub eight : z % 8 ≡ 0
    pub allowed : SideAllowed side

  module _ (n a : ℕ) (L : Layout) where
    -- the layout M is L with the record at a changed to hold n bytes
    pub record Stayed (end : ℕ) (M : Layout) : Type 0 where
      pub valid : Valid S end M
      pub others : (x : Payload) → x ∈ live S L → (x.address ≡ a → ⊥) → x ∈ live S M
      pub only : (x : Payload) → x ∈ live S M → (x ∈ live S L) ⊎ (x.address ≡ a)
      pub payload : Payload
      pub there : payload ∈ live S M
      pub at : payload.address ≡ a
      pub large : n ≤ payload.size
      pub shown : (n ≤ largest_item S) ⊎ IsItem (find S a L) → payload.shown ≡ n

    unfoldable StayedAs : ℕ → Option Layout → Type 0
    StayedAs end none = Unit {0}
    StayedAs end (some M) = Stayed end M

    module _ {end : ℕ} (v : Valid S end L) (t : Spot) (is_block : find S a L ≡ block t) (e : L.blocks ≡ t.pre ++ ((used (variable t.size) ∷ []) ++ t.post)) (at : a ≡ address_of S (ends S (start S) t.pre)) where
      reshaped_stayed : (bs : List Block) (need : ℕ) → largest_item S < n → least_variable S ≤ need → n + tags S ≤ need → Reshapes t bs need → Stayed end (record { blocks = t.pre ++ bs; lists = L.lists })
      unfolding ◌∈◌
      reshaped_stayed bs need above big holds-it s =
          let p = ends S (start S) t.pre in
          let old = run t.size s.rights in
          let mid = run s.z s.mine in
          let A = live_from S (start S) t.pre in
          let C = live_from S (p + (t.size + s.r)) s.rest in
          let y = variable_payload S p s.z in
          let was : L.blocks ≡ t.pre ++ (old ++ s.rest) = e ∙ ap (λ (l : List Block). t.pre ++ (used (variable t.size) ∷ l)) s.post_is in
          let v' : Valid S end (three S L.lists t.pre old s.rest) = subst (λ (l : List Block). Valid S end (record { blocks = l; lists = L.lists })) was v in
          let w : Valid S end (three S L.lists t.pre mid s.rest) =
          replaced_valid S end L.lists t.pre old mid s.rest v' (run_allowed s.z s.side (omega (arith, s.large)) s.eight s.allowed)
          (run_ends p s.z s.side ∙ ap (λ (x : ℕ). p + x) s.same ∙ sym (run_ends p t.size s.right))
          (λ d h. run_apart d s.z t.size s.rest s.side s.right s.clear h)
          (λ c. run_idle c p s.z s.side ∙ sym (run_idle c p t.size s.right)) in
          let l : live S L ≡ A ++ (block_payload S t ∷ C) =
          ap (λ (l : List Block). live_from S (start S) l) was ∙ live_append S (start S) t.pre (old ++ s.rest)
          ∙ ap (λ (x : List Payload). A ++ x) (live_append S p old s.rest ∙ ap₂ (λ (x : List Payload) (q : ℕ). x ++ live_from S q s.rest) (run_live p t.size s.right) (run_ends p t.size s.right)) in
          let m : live_from S (start S) (t.pre ++ bs) ≡ A ++ (y ∷ C) =
          ap (λ (l : List Block). live_from S (start S) (t.pre ++ l)) s.is ∙ live_append S (start S) t.pre (mid ++ s.rest)
          ∙ ap (λ (x : List Payload). A ++ x)
          (live_append S p mid s.rest ∙ ap₂ (λ (x : List Payload) (q : ℕ). x ++ live_from S q s.rest) (run_live p s.z s.side) (run_ends p s.z s.side ∙ ap (λ (x : ℕ). p + x) s.same)) in
          record {
            valid = subst (λ (l : List Block). Valid S end (record { blocks = t.pre ++ l; lists = L.lists })) (sym s.is) w;
            others = λ x h k.
                subst (λ (q : List Payload). x ∈ q) (sym m)
                (⊎_elim (λ i. in_left x A (y ∷ C) i) (λ i. ⊎_elim (λ j. absurd (k (ap (λ (q : Payload). q.address) j ∙ sym at))) (λ j. in_right x A (y ∷ C) (inr j)) i)
                (in_either x A (block_payload S t ∷ C) (subst (λ (q : List Payload). x ∈ q) l h)));
            only = λ x h.
                ⊎_elim (λ i. inl (subst (λ (q : List Payload). x ∈ q) (sym l) (in_left x A (block_payload S t ∷ C) i)))
                (λ i. ⊎_elim (λ j. inr (ap (λ (q : Payload). q.address) j ∙ sym at)) (λ j. inl (subst (λ (q : List Payload). x ∈ q) (sym l) (in_right x A (block_payload S t ∷ C) (inr j)))) i)
                (in_either x A (y ∷ C) (subst (λ (q : List Payload). x ∈ q) m h));
            payload = y;
            there = subst (λ (q : List Payload). y ∈ q) (sym m) (in_right y A (y ∷ C) (inl refl));
            at = sym at;
            large = omega (arith, s.large, holds-it);
            shown = ⊎_elim (λ l. absurd (omega arith)) (λ i. absurd (subst IsItem is_block i));
          }

  -- what a block's right side is allowed to be
  right_allowed : {rs : List Block} {r : ℕ} (x : Side rs r) (rest : List Block) → AllAllowed S (rs ++ rest) → SideAllowed x
  unfolding SideAllowed AllAllowed Allowed
  right_allowed nobody rest a = tt
  right_allowed (neighbour k) rest a = a.0

  unfoldable ReshapesAs : Spot → ℕ → Option (List Block) → Type 0
  ReshapesAs t need none = Unit {0}
  ReshapesAs t need (some bs) = Reshapes t bs need

  module _ (t : Spot) (s : Sides t) (need : ℕ) (eight : need % 8 ≡ 0) (mine : t.size % 8 ≡ 0) (all : SideAllowed s.right) where
    side_eight : {rs : List Block} {r : ℕ} (x : Side rs r) → SideAllowed x → r % 8 ≡ 0
    unfolding SideAllowed
    side_eight nobody c = refl
    side_eight (neighbour k) c = c.1

    tail_is : {rs : List Block} {r : ℕ} → Side rs r → before (free (t.size - need)) (rs ++ s.post) ≡ free (t.size - need + r) ∷ s.post
    unfolding before
    tail_is nobody = front_apart (t.size - need) s.post s.clear_right ∙ ap (λ (x : ℕ). free x ∷ s.post) (omega arith)
    tail_is (neighbour r) = refl

    -- it stays as large as it is, or the tail is freed
    shrunk_is : need ≤ t.size → Reshapes t (shrunk S need t.size t.post) need
    unfolding shrunk SideAllowed
    shrunk_is h = go (dec_le (need + least_free S) t.size)
      where
        go : Dec (need + least_free S ≤ t.size) → Reshapes t (cond (leb (need + least_free S) t.size) (as_variable S need ∷ before (free (t.size - need)) t.post) (as_variable S t.size ∷ t.post)) need
        go (yes i) =
            rw (le-leb (need + least_free S) t.size i)
            (record {
              rights = s.rights;
              rest = s.post;
              r = s.r;
              right = s.right;
              post_is = s.post_is;
              clear = s.clear_right;
              z = need;
              mine = free (t.size - need + s.r) ∷ [];
              k = t.size - need + s.r;
              side = neighbour (t.size - need + s.r);
              is = ap (λ (l : List Block). as_variable S need ∷ l) (ap (λ (l : List Block). before (free (t.size - need)) l) s.post_is ∙ tail_is s.right);
              same = omega arith;
              large = omega arith;
              eight = eight;
              allowed = (omega arith, omega (arith, eight, mine, side_eight s.right all));
            })
        go (no i) =
            rw (lt-leb (need + least_free S) t.size (omega arith))
            (record {
              rights = s.rights;
              rest = s.post;
              r = s.r;
              right = s.right;
              post_is = s.post_is;
              clear = s.clear_right;
              z = t.size;
              mine = s.rights;
              k = s.r;
              side = s.right;
              is = ap (λ (l : List Block). as_variable S t.size ∷ l) s.post_is;
              same = refl;
              large = h;
              eight = mine;
              allowed = all;
            })

    -- over a free right neighbour of r bytes
    over : (r : ℕ) → t.post ≡ free r ∷ s.post → r % 8 ≡ 0 → need ≤ t.size + r → Reshapes t (cut S need (as_variable S) (t.size + r) s.post) need
    unfolding cut SideAllowed
    over r post_is re h = go (dec_le (need + least_free S) (t.size + r))
      where
        go : Dec (need + least_free S ≤ t.size + r)
            → Reshapes t (cond (leb (need + least_free S) (t.size + r)) (as_variable S need ∷ free (t.size + r - need) ∷ s.post) (as_variable S (t.size + r) ∷ s.post)) need
        go (yes i) =
            rw (le-leb (need + least_free S) (t.size + r) i)
            (record {
              rights = free r ∷ [];
              rest = s.post;
              r = r;
              right = neighbour r;
              post_is = post_is;
              clear = s.clear_right;
              z = need;
              mine = free (t.size + r - need) ∷ [];
              k = t.size + r - need;
              side = neighbour (t.size + r - need);
              is = refl;
              same = omega arith;
              large = omega arith;
              eight = eight;
              allowed = (omega arith, omega (arith, eight, mine, re));
            })
        go (no i) =
            rw (lt-leb (need + least_free S) (t.size + r) (omega arith))
            (record {
              rights = free r ∷ [];
              rest = s.post;
              r = r;
              right = neighbour r;
              post_is = post_is;
              clear = s.clear_right;
              z = t.size + r;
              mine = [];
              k = 0;
              side = nobody;
              is = refl;
              same = omega arith;
              large = h;
              eight = omega (arith, mine, re);
              allowed = tt;
            })

    grown_is : ReshapesAs t need (grown S need t.size t.post)
    unfolding ReshapesAs grown SideAllowed Apart
    grown_is = subst (λ (l : List Block). ReshapesAs t need (grown S need t.size l)) (sym s.post_is) (go s.right all s.post_is)
      where
        alone : (rest : List Block) → Apart 1 rest → ReshapesAs t need (grown S need t.size rest)
        alone [] c = tt
        alone (free r ∷ rest) c = absurd (omega (arith, c.0))
        alone (used u ∷ rest) c = tt

        beside : (r : ℕ) → t.post ≡ free r ∷ s.post → r % 8 ≡ 0 → Dec (need ≤ t.size + r) → ReshapesAs t need (cond (leb need (t.size + r)) (some (cut S need (as_variable S) (t.size + r) s.post)) none)
        beside r e k (yes h) = rw (le-leb need (t.size + r) h) (over r e k h)
        beside r e k (no h) = rw (lt-leb need (t.size + r) (omega arith)) tt

        go : {rs : List Block} {r : ℕ} (x : Side rs r) → SideAllowed x → t.post ≡ rs ++ s.post → ReshapesAs t need (grown S need t.size (rs ++ s.post))
        go nobody c e = alone s.post s.clear_right
        go (neighbour r) c e = beside r e c.1 (dec_le need (t.size + r))

  module _ (n a : ℕ) {end : ℕ} {L : Layout} (v : Valid S end L) (t : Spot) (is_block : find S a L ≡ block t) (e : L.blocks ≡ t.pre ++ ((used (variable t.size) ∷ []) ++ t.post)) (at : a ≡ address_of S (ends S (start S) t.pre)) where
    big_stays : largest_item S < n → tags S % 8 ≡ 0 → t.size % 8 ≡ 0 → (s : Sides t) → SideAllowed s.right
        → StayedAs n a L end (reshaped S (need_of S n) t L (cond (leb (need_of S n) t.size) (some (shrunk S (need_of S n) t.size t.post)) (grown S (need_of S n) t.size t.post)))
    unfolding reshaped StayedAs ReshapesAs
    big_stays big te mine s all = go (dec_le (need_of S n) t.size)
      where
        there : (bs : List Block) → Reshapes t bs (need_of S n) → Stayed n a L end (record { blocks = t.pre ++ bs; lists = L.lists })
        there bs r = reshaped_stayed n a L v t is_block e at bs (need_of S n) big (omega (arith, up_above S.offered n big)) (omega arith) r

        grows : (o : Option (List Block)) → ReshapesAs t (need_of S n) o → StayedAs n a L end (reshaped S (need_of S n) t L o)
        grows none r = tt
        grows (some bs) r = there bs r

        go : Dec (need_of S n ≤ t.size)
            → StayedAs n a L end (reshaped S (need_of S n) t L (cond (leb (need_of S n) t.size) (some (shrunk S (need_of S n) t.size t.post)) (grown S (need_of S n) t.size t.post)))
        go (yes h) = rw (le-leb (need_of S n) t.size h) (there (shrunk S (need_of S n) t.size t.post) (shrunk_is t s (need_of S n) (need_eight n (tags S) te) mine all h))
        go (no h) = rw (lt-leb (need_of S n) t.size (omega arith)) (grows (grown S (need_of S n) t.size t.post) (grown_is t s (need_of S n) (need_eight n (tags S) te) mine all))

    block_stays : tags S % 8 ≡ 0 → StayedAs n a L end (stays S n (block t) L)
    unfolding stays StayedAs AllAllowed Allowed AllowedUse
    block_stays te = go (dec_le n (largest_item S))
      where
        s : Sides t
        s = sides_of t (variable t.size) (subst (λ (l : List Block). Apart 0 l) e v.apart)

        all : AllAllowed S (used (variable t.size) ∷ t.post)
        all = allowed_right S t.pre (used (variable t.size) ∷ t.post) (subst (λ (l : List Block). AllAllowed S l) e v.allowed)

        right : (s : Sides t) → AllAllowed S t.post → SideAllowed s.right
        right s h = right_allowed s.right s.post (subst (λ (l : List Block). AllAllowed S l) s.post_is h)

        go : Dec (n ≤ largest_item S)
            → StayedAs n a L end (cond (leb n (largest_item S)) none (reshaped S (need_of S n) t L (cond (leb (need_of S n) t.size) (some (shrunk S (need_of S n) t.size t.post)) (grown S (need_of S n) t.size t.post))))
        go (yes h) = rw (le-leb n (largest_item S) h) tt
        go (no h) = rw (lt-leb n (largest_item S) (omega arith)) (big_stays (omega arith) te all.0.1 s (right s all.1))

  module _ (good : Good S) (n a : ℕ) (one : 1 ≤ n) {end : ℕ} {L : Layout} (v : Valid S end L) where
    item_stays : (o c k : ℕ) → find S a L ≡ thing o c k → StayedAs n a L end (stays S n (thing o c k) L)
    unfolding stays StayedAs
    item_stays o c k e = go (ℕ_discrete (class_of n) c)
      where
        -- beside the item the same is live as where it is given back, and the item for n bytes
        same : class_of n ≡ c → Stayed n a L end (renewed S n o L)
        same own =
            let i = item_found S good a o c k (start S) L.blocks (omega arith) v.allowed e in
            let old = item_adds S good L (pushed S c o L) L v.allowed k c (item_at S o) i.there refl (sym i.in_use) in
            let new = item_adds S good L (pushed S c o L) (renewed S n o L) v.allowed n c (item_at S o) i.there refl refl in
            record {
              valid = renew_valid S v c o k i.class i.there i.in_use n (within_own c n own);
              others = λ x h z. new.kept x (⊎_elim (λ j. j) (λ j. absurd (z (ap (λ (y : Payload). y.address) j ∙ sym i.at))) (old.only x h));
              only = λ x h. ⊎_elim (λ j. inl (old.kept x j)) (λ j. inr (ap (λ (y : Payload). y.address) j ∙ sym i.at)) (new.only x h);
              payload = item_payload S c n (item_at S o);
              there = new.there;
              at = sym i.at;
              large = within_capacity S c n (within_own c n own);
              shown = λ l. shown_asked S c n one;
            }

        go : Dec (class_of n ≡ c) → StayedAs n a L end (cond (eqb (class_of n) c) (some (renewed S n o L)) none)
        go (no k) = rw (ne_eqb (class_of n) c k) tt
        go (yes k) = rw (eq-eqb (class_of n) c k) (same k)

    -- THE LAW: where the record stays, the layout is valid, and the same is live beside it
    stays_as : (f : Found) → find S a L ≡ f → StayedAs n a L end (stays S n f L)
    unfolding stays StayedAs
    stays_as nothing e = tt
    stays_as (thing o c k) e = item_stays o c k e
    stays_as (block t) e = let k = block_found S good a (start S) L.blocks t e in block_stays n a v t e k.blocks k.at good.tags

    pub stays_stayed : (M : Layout) → stays S n (find S a L) L ≡ some M → Stayed n a L end M
    unfolding StayedAs
    stays_stayed M e = let k : StayedAs n a L end (some M) = subst (λ (o : Option Layout). StayedAs n a L end o) e (stays_as (find S a L) refl) in k
