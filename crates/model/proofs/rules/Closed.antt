-- A class that is closed: its free items wait on their list, whatever call comes but a sweep, and nothing is live at them.
use Rattle.std.proofs.Common.{ℕ, ◌≤◌, ◌<◌, ◌≡◌, refl, sym, ap, subst, ◌∙◌, List, [], ◌∷◌, inl, inr, arith, length, get_or, set, get_or-set_same, get_or-set_other, le-leb, eq-eqb, ne_eqb}
use Rattle.std.proofs.Math.Option.{Option, none, some}
use Rattle.std.proofs.Math.Decide.{dec_le, dec_lt, ℕ_discrete}
use Rattle.std.proofs.Math.ListN.{get_or-eq_default}
use Rattle.std.proofs.lemmas.Bool.{lt-leb}
use Rattle.model.specs.Shape.{Shape, largest_item, start, end_of, class_of, need_of, address_of, item_at}
use Rattle.model.specs.Layout.{Block, Layout}
use Rattle.model.specs.Sound.{times, Valid}
use Rattle.model.specs.Rules.{Spot, Made, Found, block, thing, nothing, paged, allocate, longer, find, freed, reshaped, stays}
use Rattle.model.specs.Live.{◌∈◌, Payload, live}
use Rattle.model.specs.Refusals.{not_live}
use Rattle.model.specs.Calls.{Outcome, GoodSize, found, without}
use Rattle.model.specs.Promises.{Call, initialising, checking, allocating, freeing, resizing, resizing_by, sweeping, Waits}
use Rattle.model.proofs.Good.{Good}
use Rattle.model.proofs.rules.Makings.{Makes, nothing_fits, listed_item, new_page, own_block, makes}
use Rattle.model.proofs.rules.Sized.{good, bad, good_or_bad}
use Rattle.model.proofs.rules.OnLayouts.{Done, refuse, grant, sized_on, resized_on, resized_by_on, doing}
use Rattle.model.proofs.rules.ResizeWays.{Went, nowhere, in_place, elsewhere, as_it_is, no_way, went, went_by}
use Rattle.model.proofs.rules.Ready.{Ready, own, grew, Runs, none_fits, ran_on, runs}
use Rattle.model.proofs.items.Pop.{items_found}
use Rattle.model.proofs.lives.ItemLives.{item_adds}

-- what stands in a list is counted there
counted : (o : ℕ) (l : List ℕ) → o ∈ l → 1 ≤ times o l
unfolding ◌∈◌ times
counted o [] h = absurd h
counted o (x ∷ l) (inl e) = rw (eq-eqb o x e) (omega arith)
counted o (x ∷ l) (inr h) = omega (arith, counted o l h)

module _ (S : Shape) where
  -- nothing is live at an item that waits
  pub waits_dead : Good S → {end : ℕ} {L : Layout} → Valid S end L → (c o : ℕ) → Waits c o L → (x : Payload) → x ∈ live S L → x.address ≡ address_of S (item_at S o) → ⊥
  waits_dead good {end} {L} v c o h x i e = go (dec_lt c S.classes)
    where
      go : Dec (c < S.classes) → ⊥
      go (yes l) =
          let f = items_found S c o (start S) L.blocks (omega arith) (omega (arith, v.listed c o l, counted o (get_or L.lists c []) h)) in
          (item_adds S good L L (record { blocks = _; lists = [] }) v.allowed 0 c (item_at S o) f.there (sym f.free_item) refl).new x i e
      go (no l) = unfold times in omega (arith, counted o (get_or L.lists c []) h, ap (times o) (get_or-eq_default L.lists [] {n = c} (omega (arith, v.classes))))

  module _ (c : ℕ) (closed : S.offered ≤ c) where
    -- a list is set that is not c's
    other : (ls : List (List ℕ)) (d : ℕ) (l : List ℕ) → d < S.offered → get_or (set ls d l) c [] ≡ get_or ls c []
    other ls d l h = get_or-set_other ls d c l [] (λ e. omega (arith, e))

    -- the list is as it was where an allocation made something
    abbrev Same : Layout → Option Made → Type 0
    Same L none = Unit {0}
    Same L (some m) = get_or m.layout.lists c [] ≡ get_or L.lists c []

    made_same : {n : ℕ} {L : Layout} {x : Option Made} → 1 ≤ n → Makes S n L x → Same L x
    made_same one nothing_fits = tt
    made_same {n} {L} one (listed_item h o os e) = other L.lists (class_of n) os (omega arith)
    made_same {n} {L} one (new_page h e t s o os k) = other (paged S (class_of n) t L).lists (class_of n) os (omega arith) ∙ other L.lists (class_of n) _ (omega arith)
    made_same one (own_block h t s) = refl

  -- in place no list changes
  abbrev Lists : Layout → Option Layout → Type 0
  Lists L none = Unit {0}
  Lists L (some M) = M.lists ≡ L.lists

  reshaped_lists : (need : ℕ) (t : Spot) (L : Layout) (o : Option (List Block)) → Lists L (reshaped S need t L o)
  unfolding reshaped
  reshaped_lists need t L none = tt
  reshaped_lists need t L (some bs) = refl

  pub stays_lists : (n : ℕ) (f : Found) (L : Layout) → Lists L (stays S n f L)
  unfolding stays
  stays_lists n nothing L = tt
  stays_lists n (thing o c k) L = go (ℕ_discrete (class_of n) c)
    where
      go : Dec (class_of n ≡ c) → Lists L (stays S n (thing o c k) L)
      go (yes e) = rw (eq-eqb (class_of n) c e) refl
      go (no e) = rw (ne_eqb (class_of n) c e) tt
  stays_lists n (block t) L = go (dec_le n (largest_item S))
    where
      go : Dec (n ≤ largest_item S) → Lists L (stays S n (block t) L)
      go (yes l) = rw (le-leb n (largest_item S) l) tt
      go (no l) = rw (lt-leb n (largest_item S) (omega arith)) (reshaped_lists (need_of S n) t L _)

  -- what is given back is put in front
  pub without_waits : (a c o : ℕ) (L : Layout) → Waits c o L → Waits c o (without S a L)
  unfolding freed
  without_waits a c o L h = go (find S a L)
    where
      front : (d x : ℕ) → Dec (c ≡ d) → Dec (c < length L.lists) → o ∈ get_or (set L.lists d (x ∷ get_or L.lists d [])) c []
      front d x (no e) l = rw (get_or-set_other L.lists d c (x ∷ get_or L.lists d []) [] e) h
      front d x (yes e) (yes l) = rw (← e, get_or-set_same L.lists c (x ∷ get_or L.lists c []) [] l) (unfold ◌∈◌ in inr h)
      front d x (yes e) (no l) = absurd (unfold ◌∈◌ in rw (get_or-eq_default L.lists [] {n = c} (omega arith)) at h)

      go : (f : Found) → Waits c o (freed S f L)
      go nothing = h
      go (block t) = h
      go (thing x d k) = front d x (ℕ_discrete c d) (dec_lt c (length L.lists))

  -- THE LAW: every call but a sweep leaves it on its list
  module _ (c o : ℕ) (closed : S.offered ≤ c) where
    made_waits : (n : ℕ) (L : Layout) (m : Made) → 1 ≤ n → allocate S n L ≡ some m → Waits c o L → Waits c o m.layout
    made_waits n L m one e h = subst (λ (l : List ℕ). o ∈ l) (sym (subst (λ (x : Option Made). Same c closed L x) e (made_same c closed one (makes S n L)))) h

    stayed_waits : (n : ℕ) (f : Found) (L M : Layout) → stays S n f L ≡ some M → Waits c o L → Waits c o M
    stayed_waits n f L M e h = subst (λ (ls : List (List ℕ)). o ∈ get_or ls c []) (sym (subst (λ (x : Option Layout). Lists L x) e (stays_lists n f L))) h

    -- where an allocation runs, the lists are as they were
    ready_waits : {b : List ℕ} {n : ℕ} {L : Layout} {h : List ℕ} {G : Layout} → Ready S b n L h G → Waits c o L → Waits c o G
    ready_waits own h = h
    ready_waits (grew e l) h = h

    went_waits : {b : List ℕ} {a n : ℕ} {L : Layout} {x : Outcome} {d : Done} → Went S b a n L x d → 1 ≤ n → Waits c o L → Waits c o d.layout
    went_waits (nowhere e) one h = h
    went_waits {b} {a} {n} {L} (in_place i M s) one h = stayed_waits n (find S a L) L M s h
    went_waits {b} {a} {n} {L} (elsewhere i y G r m k) one h = without_waits a c o m.layout (made_waits n G m one k (ready_waits r h))
    went_waits (as_it_is i k) one h = h
    went_waits (no_way i) one h = h

    sized_waits : (n : ℕ) (L : Layout) (d : Done) → (1 ≤ n → Waits c o d.layout) → Waits c o L → Waits c o (sized_on S n L d).layout
    sized_waits n L d x h = go (good_or_bad S n)
      where
        go : Dec (GoodSize S n) → Waits c o (sized_on S n L d).layout
        go (yes g) = rw (good S n g) (x g.0)
        go (no g) = rw (bad S n g) h

    ran_waits : {b : List ℕ} {n : ℕ} {L : Layout} {bytes : List ℕ → Layout → Made → List ℕ} {x : Outcome} {d : Done} → Runs S b n L bytes (λ m. m.layout) x d → 1 ≤ n → Waits c o L → Waits c o d.layout
    ran_waits (none_fits e l) one h = h
    ran_waits {b} {n} (ran_on y G r m k) one h = made_waits n G m one k (ready_waits r h)

    pub doing_waits : (b : List ℕ) (q : Call) (L : Layout) → ((n : ℕ) → 1 ≤ n → allocate S n (longer S n L) ≡ none → ⊥) → (q ≡ sweeping → ⊥) → Waits c o L → Waits c o (doing S (end_of (length b)) q L).layout
    unfolding doing
    doing_waits b (initialising e) L finds z h = h
    doing_waits b checking L finds z h = h
    doing_waits b (allocating n) L finds z h = sized_waits n L _ (λ one. ran_waits (runs S b n L (finds n one) (λ y G m. []) (λ m. m.layout)) one h) h
    doing_waits b (freeing a) L finds z h = go (find S a L) (without_waits a c o L h)
      where
        go : (f : Found) → Waits c o (freed S f L) → Waits c o (found S f (refuse not_live L) (grant 0 (freed S f L))).layout
        go nothing k = h
        go (block t) k = k
        go (thing x d j) k = k
    doing_waits b (resizing a n) L finds z h = sized_waits n L (resized_on S (end_of (length b)) a n L) (λ one. went_waits (went S b a n L (finds n one)) one h) h
    doing_waits b (resizing_by v a n) L finds z h = sized_waits n L (resized_by_on S v (end_of (length b)) a n L) (λ one. went_waits (went_by S b a n L (finds n one) v) one h) h
    doing_waits b sweeping L finds z h = absurd (z refl)
