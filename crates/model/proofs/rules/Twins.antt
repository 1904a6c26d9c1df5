-- Two heaps, one longer: their layouts are twins where they differ in their last block alone. Allocations and frees keep them so, with the same answers; TwinCalls has every call.
use Rattle.std.proofs.Common.{ℕ, ◌+◌, ◌-◌, ◌≤◌, ◌≡◌, refl, ap, ap₂, subst, ◌∙◌, Bool, true, false, cond, ◌&&◌, List, [], ◌∷◌, arith, get_or, set, replicate, eqb, leb, le-leb}
use Rattle.std.proofs.Math.Option.{Option, none, some}
use Rattle.std.proofs.Math.Decide.{dec_le}
use Rattle.std.proofs.lemmas.Bool.{lt-leb}
use Rattle.model.specs.Shape.{Shape, start, least_free, largest_item, item_size, class_of, need_of, page_need, address_of, offset_of, item_at}
use Rattle.model.specs.Layout.{Slot, idle, held, Use, variable, page, Block, free, used, Layout, use_size, ends}
use Rattle.model.specs.Sound.{idle_slots}
use Rattle.model.specs.Rules.{Spot, after, fit, before, in_front, released, Found, block, thing, nothing, behind, or_else, Made, cut, placed, slot_to, use_to, item_to, pushed, paged, from_list, from_page, an_item, a_block, allocate, growth, in_slots, find_from, find, freed, fresh}
use Rattle.model.specs.Refusals.{no_room}
use Rattle.model.specs.Promises.{allocating, freeing}
use Rattle.model.proofs.items.Items.{size_use_to}
use Rattle.model.proofs.items.Paged.{page_of, page_size}
use Rattle.model.proofs.rules.OnLayouts.{Done, doing}

-- two blocks in use that differ in their sizes alone
pub data Alike : Use → Use → Type 0 where
  variables : (s t : ℕ) → Alike (variable s) (variable t)
  pages : (c j k : ℕ) (ss : List Slot) → Alike (page c j ss) (page c k ss)

module _ (S : Shape) where
  -- the blocks of the shorter heap and of the longer: the same up to the last of the shorter, which is free in both, or in use in both and fills the longer heap too or leaves a free block there
  pub data Twins : List Block → List Block → Type 0 where
    both : (b : Block) {bs cs : List Block} → Twins bs cs → Twins (b ∷ bs) (b ∷ cs)
    last : (s t : ℕ) → s ≤ t → Twins (free s ∷ []) (free t ∷ [])
    full : {u v : Use} → Alike u v → use_size S u ≤ use_size S v → Twins (used u ∷ []) (used v ∷ [])
    part : {u v : Use} (r : ℕ) → Alike u v → use_size S u ≤ use_size S v + r → Twins (used u ∷ []) (used v ∷ free r ∷ [])

  pub record TwinLayouts (L M : Layout) : Type 0 where
    pub blocks : Twins L.blocks M.blocks
    pub lists : L.lists ≡ M.lists

  -- fresh heaps are twins
  pub fresh_twins : (end end' : ℕ) → end ≤ end' → TwinLayouts (fresh S end) (fresh S end')
  fresh_twins end end' h = record { blocks = last (end - start S) (end' - start S) (omega arith); lists = refl }

  -- a block is made where it fits
  module _ (need : ℕ) (mk : ℕ → Use) (size : (s : ℕ) → need ≤ s → use_size S (mk s) ≡ s) (alike : (s t : ℕ) → Alike (mk s) (mk t)) where
    abbrev make : ℕ → Block
    make s = used (mk s)

    -- where the shorter heap has a spot the longer has the same, and the blocks that are left are twins
    unfoldable pub Spots : Option Spot → Option Spot → Type 0
    Spots none o = Unit {0}
    Spots (some t) none = ⊥
    Spots (some t) (some u) = (t.pre ≡ u.pre) × Twins (placed S need make t) (placed S need make u)

    cut_both : (s : ℕ) {bs cs : List Block} → Twins bs cs → Twins (cut S need make s bs) (cut S need make s cs)
    unfolding cut
    cut_both s {bs} {cs} w = go (leb (need + least_free S) s)
      where
        go : (y : Bool) → Twins (cond y (make need ∷ free (s - need) ∷ bs) (make s ∷ bs)) (cond y (make need ∷ free (s - need) ∷ cs) (make s ∷ cs))
        go true = both (make need) (both (free (s - need)) w)
        go false = both (make s) w

    cut_last : (s t : ℕ) → need ≤ s → s ≤ t → Twins (cut S need make s []) (cut S need make t [])
    unfolding cut
    cut_last s t h k = go (dec_le (need + least_free S) s) (dec_le (need + least_free S) t)
      where
        go : Dec (need + least_free S ≤ s) → Dec (need + least_free S ≤ t)
            → Twins (cond (leb (need + least_free S) s) (make need ∷ free (s - need) ∷ []) (make s ∷ [])) (cond (leb (need + least_free S) t) (make need ∷ free (t - need) ∷ []) (make t ∷ []))
        go (yes i) (yes j) = rw (le-leb (need + least_free S) s i, le-leb (need + least_free S) t j) (both (make need) (last (s - need) (t - need) (omega arith)))
        go (yes i) (no j) = absurd (omega arith)
        go (no i) (yes j) =
            rw (lt-leb (need + least_free S) s (omega arith), le-leb (need + least_free S) t j) (part (t - need) (alike s need) (omega (arith, size s h, size need (omega arith))))
        go (no i) (no j) =
            rw (lt-leb (need + least_free S) s (omega arith), lt-leb (need + least_free S) t (omega arith)) (full (alike s t) (omega (arith, size s h, size t (omega arith))))

    after_twins : (b : Block) (o p : Option Spot) → Spots o p → Spots (after b o) (after b p)
    unfolding Spots
    after_twins b none p w = tt
    after_twins b (some t) none w = absurd w
    after_twins b (some t) (some u) w = (ap (λ (l : List Block). b ∷ l) w.0, both b w.1)

    pub fit_twins : {bs cs : List Block} → Twins bs cs → Spots (fit need bs) (fit need cs)
    unfolding fit Spots
    fit_twins (both (used u) {bs} {cs} w) = after_twins (used u) (fit need bs) (fit need cs) (fit_twins w)
    fit_twins (both (free s) {bs} {cs} w) = go (leb need s) (fit_twins w)
      where
        go : (y : Bool) → Spots (fit need bs) (fit need cs)
            → Spots (cond y (some (record { pre = []; size = s; post = bs })) (after (free s) (fit need bs))) (cond y (some (record { pre = []; size = s; post = cs })) (after (free s) (fit need cs)))
        go true r = (refl, cut_both s w)
        go false r = after_twins (free s) (fit need bs) (fit need cs) r
    fit_twins (last s t k) = go (dec_le need s)
      where
        go : Dec (need ≤ s) → Spots (cond (leb need s) (some (record { pre = []; size = s; post = [] })) none) (cond (leb need t) (some (record { pre = []; size = t; post = [] })) none)
        go (yes i) = rw (le-leb need s i, le-leb need t (omega arith)) (refl, cut_last s t i k)
        go (no i) = rw (lt-leb need s (omega arith)) tt
    fit_twins (full a k) = tt
    fit_twins (part r a k) = tt

  -- an item becomes free or in use
  alike_to : (s : Slot) (q p : ℕ) {u v : Use} → Alike u v → Alike (use_to S s q p u) (use_to S s q p v)
  unfolding use_to
  alike_to s q p (variables x y) = variables x y
  alike_to s q p (pages c j k ss) = pages c j k (slot_to S s c q (p + S.word) ss)

  pub item_twins : (s : Slot) (q p : ℕ) {bs cs : List Block} → Twins bs cs → Twins (item_to S s q p bs) (item_to S s q p cs)
  unfolding item_to
  item_twins s q p (both (free t) w) = both (free t) (item_twins s q (p + t) w)
  item_twins s q p (both (used u) w) = both (used (use_to S s q p u)) (item_twins s q (p + use_size S u) w)
  item_twins s q p (last t r k) = last t r k
  item_twins s q p (full {u} {v} a k) = full (alike_to s q p a) (omega (arith, k, size_use_to S s q p u, size_use_to S s q p v))
  item_twins s q p (part {u} {v} r a k) = part r (alike_to s q p a) (omega (arith, k, size_use_to S s q p u, size_use_to S s q p v))

  -- what an allocation makes: where the shorter heap has room, the same address and twins
  unfoldable pub Mades : Option Made → Option Made → Type 0
  Mades none o = Unit {0}
  Mades (some m) none = ⊥
  Mades (some m) (some k) = (m.at ≡ k.at) × TwinLayouts m.layout k.layout

  list_twins : (n c : ℕ) {L M : Layout} → TwinLayouts L M → (l : List ℕ) → Mades (from_list S n c L l) (from_list S n c M l)
  unfolding from_list Mades
  list_twins n c w [] = tt
  list_twins n c w (o ∷ os) = (refl, record { blocks = item_twins (held n) (item_at S o) (start S) w.blocks; lists = ap (λ (ls : List (List ℕ)). set ls c os) w.lists })

  page_alike : (c s t : ℕ) → Alike (page_of S c s) (page_of S c t)
  page_alike c s t = pages c (s - page_need S c) (t - page_need S c) (replicate (S.per_page c) idle)

  page_twins : (n c : ℕ) {L M : Layout} → TwinLayouts L M → (o p : Option Spot) → Spots (page_need S c) (page_of S c) (page_size S c) (page_alike c) o p → Mades (from_page S n c L o) (from_page S n c M p)
  unfolding Spots from_page Mades
  page_twins n c w none p h = tt
  page_twins n c w (some t) none h = absurd h
  page_twins n c {L} {M} w (some t) (some u) h =
      let e : (paged S c t L).lists ≡ (paged S c u M).lists =
      ap₂ (λ (ls : List (List ℕ)) (pre : List Block). set ls c (idle_slots S c (ends S (start S) pre + S.word) (replicate (S.per_page c) idle))) w.lists h.0 in
      subst (λ (ls : List (List ℕ)). Mades (from_list S n c (paged S c t L) (get_or (paged S c t L).lists c [])) (from_list S n c (paged S c u M) (get_or ls c []))) e
      (list_twins n c (record { blocks = h.1; lists = e }) (get_or (paged S c t L).lists c []))

  an_item_twins : (n c : ℕ) {L M : Layout} → TwinLayouts L M → (l : List ℕ) → Mades (an_item S n c L l) (an_item S n c M l)
  unfolding an_item
  an_item_twins n c {L} {M} w [] = page_twins n c w (fit (page_need S c) L.blocks) (fit (page_need S c) M.blocks) (fit_twins (page_need S c) (page_of S c) (page_size S c) (page_alike c) w.blocks)
  an_item_twins n c w (o ∷ os) = list_twins n c w (o ∷ os)

  variable_fits : (need s : ℕ) → need ≤ s → use_size S (variable s) ≡ s
  unfolding use_size
  variable_fits need s l = refl

  block_twins : (need : ℕ) {L M : Layout} → TwinLayouts L M → (o p : Option Spot) → Spots need variable (variable_fits need) variables o p → Mades (a_block S need L o) (a_block S need M p)
  unfolding Spots a_block Mades
  block_twins need w none p h = tt
  block_twins need w (some t) none h = absurd h
  block_twins need w (some t) (some u) h = (ap (λ (pre : List Block). address_of S (ends S (start S) pre)) h.0, record { blocks = h.1; lists = w.lists })

  pub allocate_twins : (n : ℕ) {L M : Layout} → TwinLayouts L M → Mades (allocate S n L) (allocate S n M)
  unfolding allocate
  allocate_twins n {L} {M} w = go (leb n (largest_item S))
    where
      small : Mades (an_item S n (class_of n) L (get_or L.lists (class_of n) [])) (an_item S n (class_of n) M (get_or M.lists (class_of n) []))
      small =
          subst (λ (ls : List (List ℕ)). Mades (an_item S n (class_of n) L (get_or L.lists (class_of n) [])) (an_item S n (class_of n) M (get_or ls (class_of n) []))) w.lists
          (an_item_twins n (class_of n) w (get_or L.lists (class_of n) []))

      go : (y : Bool)
          → Mades (cond y (an_item S n (class_of n) L (get_or L.lists (class_of n) [])) (a_block S (need_of S n) L (fit (need_of S n) L.blocks)))
          (cond y (an_item S n (class_of n) M (get_or M.lists (class_of n) [])) (a_block S (need_of S n) M (fit (need_of S n) M.blocks)))
      go true = small
      go false = block_twins (need_of S n) w (fit (need_of S n) L.blocks) (fit (need_of S n) M.blocks) (fit_twins (need_of S n) variable (variable_fits (need_of S n)) variables w.blocks)

  -- what stands at an address: the same, and the blocks that are left without it are twins
  unfoldable pub Founds : Found → Found → Type 0
  Founds (block t) (block u) = Twins (released t) (released u)
  Founds (block t) (thing p d m) = ⊥
  Founds (block t) nothing = ⊥
  Founds (thing o c n) (block u) = ⊥
  Founds (thing o c n) (thing p d m) = (o ≡ p) × (c ≡ d)
  Founds (thing o c n) nothing = ⊥
  Founds nothing (block u) = ⊥
  Founds nothing (thing p d m) = ⊥
  Founds nothing nothing = Unit {0}

  pub before_twins : (b : Block) {bs cs : List Block} → Twins bs cs → Twins (before b bs) (before b cs)
  unfolding before
  before_twins (used u) w = both (used u) w
  before_twins (free s) (both (free t) w) = both (free (s + t)) w
  before_twins (free s) (both (used u) w) = both (free s) (both (used u) w)
  before_twins (free s) (last t r k) = last (s + t) (s + r) (omega arith)
  before_twins (free s) (full a k) = both (free s) (full a k)
  before_twins (free s) (part r a k) = both (free s) (part r a k)

  behind_twins : (b : Block) (f g : Found) → Founds f g → Founds (behind b f) (behind b g)
  unfolding Founds in_front
  behind_twins b (block t) (block u) w = before_twins b w
  behind_twins b (block t) (thing p d m) w = absurd w
  behind_twins b (block t) nothing w = absurd w
  behind_twins b (thing o c n) (block u) w = absurd w
  behind_twins b (thing o c n) (thing p d m) w = w
  behind_twins b (thing o c n) nothing w = absurd w
  behind_twins b nothing (block u) w = absurd w
  behind_twins b nothing (thing p d m) w = absurd w
  behind_twins b nothing nothing w = w

  or_twins : (f g f' g' : Found) → Founds f f' → Founds g g' → Founds (or_else f g) (or_else f' g')
  unfolding Founds
  or_twins (block t) g (block u) g' w v = w
  or_twins (block t) g (thing p d m) g' w v = absurd w
  or_twins (block t) g nothing g' w v = absurd w
  or_twins (thing o c n) g (block u) g' w v = absurd w
  or_twins (thing o c n) g (thing p d m) g' w v = w
  or_twins (thing o c n) g nothing g' w v = absurd w
  or_twins nothing g (block u) g' w v = absurd w
  or_twins nothing g (thing p d m) g' w v = absurd w
  or_twins nothing g nothing g' w v = v

  slots_twins : (a c p : ℕ) (ss : List Slot) → Founds (in_slots S a c p ss) (in_slots S a c p ss)
  unfolding in_slots
  slots_twins a c p [] = unfold Founds in tt
  slots_twins a c p (idle ∷ ss) = slots_twins a c (p + item_size S c) ss
  slots_twins a c p (held n ∷ ss) = go (eqb a (address_of S p)) (slots_twins a c (p + item_size S c) ss)
    where
      go : (y : Bool) → Founds (in_slots S a c (p + item_size S c) ss) (in_slots S a c (p + item_size S c) ss)
          → Founds (cond y (thing (offset_of S p) c n) (in_slots S a c (p + item_size S c) ss)) (cond y (thing (offset_of S p) c n) (in_slots S a c (p + item_size S c) ss))
      go true r = unfold Founds in (refl, refl)
      go false r = r

  pub find_twins : (a p : ℕ) {bs cs : List Block} → Twins bs cs → Founds (find_from S a p bs) (find_from S a p cs)
  unfolding find_from
  find_twins a p (both (free s) {bs} {cs} w) = behind_twins (free s) (find_from S a (p + s) bs) (find_from S a (p + s) cs) (find_twins a (p + s) w)
  find_twins a p (both (used (variable s)) {bs} {cs} w) = go (eqb a (address_of S p)) (find_twins a (p + s) w)
    where
      go : (y : Bool) → Founds (find_from S a (p + s) bs) (find_from S a (p + s) cs)
          → Founds (cond y (block (record { pre = []; size = s; post = bs })) (behind (used (variable s)) (find_from S a (p + s) bs)))
          (cond y (block (record { pre = []; size = s; post = cs })) (behind (used (variable s)) (find_from S a (p + s) cs)))
      go true r = unfold Founds in_front in before_twins (free s) w
      go false r = behind_twins (used (variable s)) (find_from S a (p + s) bs) (find_from S a (p + s) cs) r
  find_twins a p (both (used (page c k ss)) {bs} {cs} w) =
      let q = p + use_size S (page c k ss) in
      or_twins (in_slots S a c (p + S.word) ss) (behind (used (page c k ss)) (find_from S a q bs)) (in_slots S a c (p + S.word) ss) (behind (used (page c k ss)) (find_from S a q cs))
      (slots_twins a c (p + S.word) ss) (behind_twins (used (page c k ss)) (find_from S a q bs) (find_from S a q cs) (find_twins a q w))
  find_twins a p (last s t k) = unfold Founds in tt
  find_twins a p (full (variables s t) k) = go (eqb a (address_of S p))
    where
      go : (y : Bool) → Founds (cond y (block (record { pre = []; size = s; post = [] })) nothing) (cond y (block (record { pre = []; size = t; post = [] })) nothing)
      go true = unfold Founds in_front before in last s t (unfold use_size in k)
      go false = unfold Founds in tt
  find_twins a p (full (pages c i j ss) k) =
      or_twins (in_slots S a c (p + S.word) ss) nothing (in_slots S a c (p + S.word) ss) nothing (slots_twins a c (p + S.word) ss) (unfold Founds in tt)
  find_twins a p (part r (variables s t) k) = go (eqb a (address_of S p))
    where
      go : (y : Bool) → Founds (cond y (block (record { pre = []; size = s; post = [] })) nothing) (cond y (block (record { pre = []; size = t; post = free r ∷ [] })) nothing)
      go true = unfold Founds in_front before in last s (t + r) (unfold use_size in k)
      go false = unfold Founds in tt
  find_twins a p (part r (pages c i j ss) k) =
      or_twins (in_slots S a c (p + S.word) ss) nothing (in_slots S a c (p + S.word) ss) nothing (slots_twins a c (p + S.word) ss) (unfold Founds in tt)

  -- two calls answered the same and left layouts that agree
  pub record SameDone (Agree : Layout → Layout → Type 0) (d e : Done) : Type 0 where
    pub refusal : d.refusal ≡ e.refusal
    pub address : d.address ≡ e.address
    pub layouts : Agree d.layout e.layout

  -- an allocation, on twins neither of which has to grow
  pub allocating_twins : (E F n : ℕ) (L M : Layout) → TwinLayouts L M → growth S E n L ≡ none → ((m : Made) → allocate S n M ≡ some m → growth S F n M ≡ none)
      → ((doing S E (allocating n) L).refusal ≡ no_room → ⊥) → SameDone TwinLayouts (doing S E (allocating n) L) (doing S F (allocating n) M)
  unfolding doing Mades
  allocating_twins E F n L M w stop there room = go (leb 1 n && leb n S.most) refl (allocate S n L) (allocate S n M) refl refl (allocate_twins n w)
    where
      go : (y : Bool) → (leb 1 n && leb n S.most) ≡ y → (o p : Option Made) → allocate S n L ≡ o → allocate S n M ≡ p → Mades o p → SameDone TwinLayouts (doing S E (allocating n) L) (doing S F (allocating n) M)
      go false t o p e f h = rw t (record { refusal = refl; address = refl; layouts = w })
      go true t none p e f h = absurd (room (rw (t, stop, e) refl))
      go true t (some m) none e f h = absurd h
      go true t (some m) (some k) e f h = rw (t, stop, there k f, e, f) (record { refusal = refl; address = h.0; layouts = h.1 })

  pushed_twins : (o c p d : ℕ) {L M : Layout} → TwinLayouts L M → o ≡ p → c ≡ d → TwinLayouts (pushed S c o L) (pushed S d p M)
  pushed_twins o c p d {L} {M} w e f =
      record {
        blocks = subst (λ (x : ℕ). Twins (item_to S idle (item_at S o) (start S) L.blocks) (item_to S idle (item_at S x) (start S) M.blocks)) e (item_twins idle (item_at S o) (start S) w.blocks);
        lists = ap (λ (ls : List (List ℕ)). set ls c (o ∷ get_or ls c [])) w.lists ∙ ap₂ (λ (x y : ℕ). set M.lists y (x ∷ get_or M.lists y [])) e f;
      }

  pub freeing_twins : (E F a : ℕ) {L M : Layout} → TwinLayouts L M → SameDone TwinLayouts (doing S E (freeing a) L) (doing S F (freeing a) M)
  unfolding doing freed Founds
  freeing_twins E F a {L} {M} w = go (find S a L) (find S a M) refl refl (find_twins a (start S) w.blocks)
    where
      go : (f g : Found) → find S a L ≡ f → find S a M ≡ g → Founds f g → SameDone TwinLayouts (doing S E (freeing a) L) (doing S F (freeing a) M)
      go (block t) (block u) e f h = rw (e, f) (record { refusal = refl; address = refl; layouts = record { blocks = h; lists = w.lists } })
      go (block t) (thing p d m) e f h = absurd h
      go (block t) nothing e f h = absurd h
      go (thing o c n) (block u) e f h = absurd h
      go (thing o c n) (thing p d m) e f h = rw (e, f) (record { refusal = refl; address = refl; layouts = pushed_twins o c p d w h.0 h.1 })
      go (thing o c n) nothing e f h = absurd h
      go nothing (block u) e f h = absurd h
      go nothing (thing p d m) e f h = absurd h
      go nothing nothing e f h = rw (e, f) (record { refusal = refl; address = refl; layouts = w })
