-- The same call on twins answers the same and leaves twins: an allocation and a free, and here the sweep. And so on one layout in two buffers.
use Rattle.std.proofs.Common.{ℕ, zero, suc, ◌+◌, ◌≤◌, ◌≡◌, refl, sym, ap, ap₂, subst, ◌∙◌, Bool, true, false, cond, List, [], ◌∷◌, ◌++◌, arith, eqb}
use Rattle.std.proofs.Math.Option.{Option, none, some}
use Rattle.words.specs.Width.{Width}
use Rattle.model.specs.Shape.{Shape, shape, start}
use Rattle.model.specs.Layout.{page, Block, free, used, Layout, use_size, size_of}
use Rattle.model.specs.Sound.{idle_in, Valid}
use Rattle.model.specs.Rules.{Spot, Made, after, before, in_front, released, allocate, growth}
use Rattle.model.specs.Reading.{total, held_in, of_block}
use Rattle.model.specs.Sweeping.{live_items, is_empty, empties, empty_page, page_freed, idle_with, relinked, relinked_from, linked_anew}
use Rattle.model.specs.Refusals.{no_room}
use Rattle.model.specs.Calls.{GoodSize}
use Rattle.model.specs.Promises.{Call, initialising, checking, allocating, freeing, resizing, resizing_by, sweeping, Plain}
use Rattle.model.proofs.rules.OnLayouts.{Done, recovered, doing}
use Rattle.model.proofs.rules.Sized.{good, bad, good_or_bad}
use Rattle.model.proofs.rules.Growth.{Grows, found, full, grown, grows, longer_further}
use Rattle.model.proofs.rules.ResizeWays.{no_some}
use Rattle.model.proofs.rules.Twins.{variables, pages, Twins, both, last, full as whole, part, TwinLayouts, SameDone, before_twins, allocating_twins, freeing_twins}

module _ (S : Shape) where
  -- they have as many pages with no live item
  empties_twins : {bs cs : List Block} → Twins S bs cs → empties bs ≡ empties cs
  unfolding total of_block
  empties_twins (both b w) = ap (λ (n : ℕ). is_empty b + n) (empties_twins w)
  empties_twins (last s t k) = refl
  empties_twins (whole (variables s t) k) = refl
  empties_twins (whole (pages c i j ss) k) = refl
  empties_twins (part r (variables s t) k) = refl
  empties_twins (part r (pages c i j ss) k) = refl

  -- the lowest of them: in both or in neither, and the blocks that are left without it are twins
  unfoldable Pages : Option Spot → Option Spot → Type 0
  Pages none none = Unit {0}
  Pages none (some u) = ⊥
  Pages (some t) none = ⊥
  Pages (some t) (some u) = Twins S (released t) (released u)

  after_twins : (b : Block) (o p : Option Spot) → Pages o p → Pages (after b o) (after b p)
  unfolding Pages in_front
  after_twins b none none w = tt
  after_twins b none (some u) w = absurd w
  after_twins b (some t) none w = absurd w
  after_twins b (some t) (some u) w = before_twins S b w

  page_twins : {bs cs : List Block} → Twins S bs cs → Pages (empty_page S bs) (empty_page S cs)
  unfolding empty_page Pages of_block size_of
  page_twins (both b {bs} {cs} w) = go (eqb (is_empty b) 1) (page_twins w)
    where
      go : (y : Bool) → Pages (empty_page S bs) (empty_page S cs)
          → Pages (cond y (some (record { pre = []; size = size_of S b; post = bs })) (after b (empty_page S bs))) (cond y (some (record { pre = []; size = size_of S b; post = cs })) (after b (empty_page S cs)))
      go true r = unfold in_front in before_twins S (free (size_of S b)) w
      go false r = after_twins b (empty_page S bs) (empty_page S cs) r
  page_twins (last s t k) = tt
  page_twins (whole (variables s t) k) = tt
  page_twins (whole (pages c i j ss) k) = go (eqb (is_empty (used (page c i ss))) 1)
    where
      go : (y : Bool) → Pages (cond y (some (record { pre = []; size = use_size S (page c i ss); post = [] })) none) (cond y (some (record { pre = []; size = use_size S (page c j ss); post = [] })) none)
      go true = unfold in_front before in last (use_size S (page c i ss)) (use_size S (page c j ss)) k
      go false = tt
  page_twins (part r (variables s t) k) = tt
  page_twins (part r (pages c i j ss) k) = go (eqb (is_empty (used (page c i ss))) 1)
    where
      go : (y : Bool) → Pages (cond y (some (record { pre = []; size = use_size S (page c i ss); post = [] })) none) (cond y (some (record { pre = []; size = use_size S (page c j ss); post = free r ∷ [] })) none)
      go true = unfold in_front before in last (use_size S (page c i ss)) (use_size S (page c j ss) + r) k
      go false = tt

  freed_twins : (o p : Option Spot) → Pages o p → {L M : Layout} → TwinLayouts S L M → TwinLayouts S (page_freed S o L) (page_freed S p M)
  unfolding Pages
  freed_twins none none h w = w
  freed_twins none (some u) h w = absurd h
  freed_twins (some t) none h w = absurd h
  freed_twins (some t) (some u) h w = record { blocks = h; lists = w.lists }

  recovered_twins : (k : ℕ) {L M : Layout} → TwinLayouts S L M → TwinLayouts S (recovered S k L) (recovered S k M)
  unfolding recovered
  recovered_twins zero w = w
  recovered_twins (suc k) {L} {M} w = recovered_twins k (freed_twins (empty_page S L.blocks) (empty_page S M.blocks) (page_twins w.blocks) w)

  -- a free block more has no free items
  no_more : (y : Bool) → [] ≡ cond {A = List ℕ} y [] [] ++ []
  no_more true = refl
  no_more false = refl

  -- their free items are the same, in the same order
  idle_twins : (k c p : ℕ) {bs cs : List Block} → Twins S bs cs → idle_with S k c p bs ≡ idle_with S k c p cs
  unfolding idle_with idle_in of_block
  idle_twins k c p (both b w) = ap (λ (l : List ℕ). cond (eqb (live_items b) k) (idle_in S c p b) [] ++ l) (idle_twins k c (p + size_of S b) w)
  idle_twins k c p (last s t h) = refl
  idle_twins k c p (whole (variables s t) h) = refl
  idle_twins k c p (whole (pages d i j ss) h) = refl
  idle_twins k c p (part r (variables s t) h) = ap (λ (l : List ℕ). cond {A = List ℕ} (eqb 0 k) [] [] ++ l) (no_more (eqb 0 k))
  idle_twins k c p (part r (pages d i j ss) h) = ap (λ (l : List ℕ). cond (eqb (held_in ss) k) (idle_in S c p (used (page d i ss))) [] ++ l) (no_more (eqb 0 k))

  relinked_twins : (k c : ℕ) {bs cs : List Block} → Twins S bs cs → relinked S k c bs ≡ relinked S k c cs
  unfolding relinked
  relinked_twins zero c w = idle_twins zero c (start S) w
  relinked_twins (suc k) c w = ap₂ (λ (l m : List ℕ). l ++ m) (idle_twins (suc k) c (start S) w) (relinked_twins k c w)

  lists_twins : (n c : ℕ) {bs cs : List Block} → Twins S bs cs → relinked_from S n c bs ≡ relinked_from S n c cs
  unfolding relinked_from
  lists_twins zero c w = refl
  lists_twins (suc n) c w = ap₂ (λ (l : List ℕ) (ls : List (List ℕ)). l ∷ ls) (relinked_twins (S.per_page c) c w) (lists_twins n (c + 1) w)

  linked_twins : {L M : Layout} → TwinLayouts S L M → TwinLayouts S (linked_anew S L) (linked_anew S M)
  linked_twins w = record { blocks = w.blocks; lists = lists_twins S.classes 0 w.blocks }

  sweeping_twins : (E F : ℕ) {L M : Layout} → TwinLayouts S L M → SameDone S (TwinLayouts S) (doing S E sweeping L) (doing S F sweeping M)
  unfolding doing
  sweeping_twins E F {L} {M} w =
      record {
        refusal = refl;
        address = empties_twins w.blocks;
        layouts = subst (λ (k : ℕ). TwinLayouts S (linked_anew S (recovered S (empties L.blocks) L)) (linked_anew S (recovered S k M))) (empties_twins w.blocks) (linked_twins (recovered_twins (empties L.blocks) w));
      }

-- THE LAWS: the same call answers the same, where the heap in the shorter buffer does not say "no room"
module _ {w : ℕ} (wd : Width w) where
  abbrev Agrees : (Layout → Layout → Type 0) → ℕ → ℕ → Layout → Layout → Call → Type 0
  Agrees agree E F L M q = ((doing (shape w) E q L).refusal ≡ no_room → ⊥) → SameDone (shape w) agree (doing (shape w) E q L) (doing (shape w) F q M)

  -- of twins that fill their buffers, and leaves twins
  full_none : (E n : ℕ) (L : Layout) → 1 ≤ n → Valid (shape w) E L → growth (shape w) E n L ≡ none
  full_none E n L one v = go (growth (shape w) E n L) refl (grows (shape w) E n L)
    where
      go : (g : Option Layout) → growth (shape w) E n L ≡ g → Grows (shape w) E n L g → growth (shape w) E n L ≡ none
      go g e (found m k) = e
      go g e (full k l) = e
      go g e (grown k l) = absurd (omega (arith, l, longer_further wd n one E L v k))

  found_none : (E n : ℕ) (L : Layout) (m : Made) → allocate (shape w) n L ≡ some m → growth (shape w) E n L ≡ none
  unfolding growth
  found_none E n L m e = rw e refl

  pub doing_twins : (q : Call) → Plain (shape w) q → (E F : ℕ) {L M : Layout} → Valid (shape w) E L → TwinLayouts (shape w) L M → Agrees (TwinLayouts (shape w)) E F L M q
  doing_twins (initialising e) h E F v t r = absurd h
  doing_twins checking h E F v t r = absurd h
  doing_twins (allocating n) h E F {L} {M} v t r = go (good_or_bad (shape w) n)
    where
      go : Dec (GoodSize (shape w) n) → SameDone (shape w) (TwinLayouts (shape w)) (doing (shape w) E (allocating n) L) (doing (shape w) F (allocating n) M)
      go (yes g) = allocating_twins (shape w) E F n L M t (full_none E n L g.0 v) (found_none F n M) r
      go (no g) = unfold doing in rw (bad (shape w) n g) (record { refusal = refl; address = refl; layouts = t })
  doing_twins (freeing a) h E F v t r = freeing_twins (shape w) E F a t
  doing_twins (resizing a n) h E F v t r = absurd h
  doing_twins (resizing_by v a n) h E F u t r = absurd h
  doing_twins sweeping h E F v t r = sweeping_twins (shape w) E F t

  -- of the same layout in a longer buffer, and leaves the same
  pub doing_same : (q : Call) → Plain (shape w) q → (E F : ℕ) → E ≤ F → (L : Layout) → Agrees (λ K M. K ≡ M) E F L L q
  unfolding doing
  doing_same (initialising e) h E F le L r = absurd h
  doing_same checking h E F le L r = absurd h
  doing_same (allocating n) h E F le L r = go (good_or_bad (shape w) n)
    where
      same : (d : Done) → SameDone (shape w) (λ K M. K ≡ M) d d
      same d = record { refusal = refl; address = refl; layouts = refl }

      by : GoodSize (shape w) n → (g f : Option Layout) → growth (shape w) E n L ≡ g → growth (shape w) F n L ≡ f → Grows (shape w) E n L g → Grows (shape w) F n L f
          → SameDone (shape w) (λ K M. K ≡ M) (doing (shape w) E (allocating n) L) (doing (shape w) F (allocating n) L)
      by y g f i j (full k l) z = absurd (r (rw (good (shape w) n y, i, k) refl))
      by y g f i j (found m k) z = rw (i, found_none F n L m k) (same _)
      by y g f i j (grown k l) (found m z) = absurd (let c : ◌≡◌ {A = ℕ} 0 1 = no_some (sym k ∙ z) in omega (arith, c))
      by y g f i j (grown k l) (full z m) = absurd (omega (arith, l, m, le))
      by y g f i j (grown k l) (grown z m) = rw (i, j) (same _)

      go : Dec (GoodSize (shape w) n) → SameDone (shape w) (λ K M. K ≡ M) (doing (shape w) E (allocating n) L) (doing (shape w) F (allocating n) L)
      go (yes y) = by y (growth (shape w) E n L) (growth (shape w) F n L) refl refl (grows (shape w) E n L) (grows (shape w) F n L)
      go (no y) = rw (bad (shape w) n y) (record { refusal = refl; address = refl; layouts = refl })
  doing_same (freeing a) h E F le L r = record { refusal = refl; address = refl; layouts = refl }
  doing_same (resizing a n) h E F le L r = absurd h
  doing_same (resizing_by v a n) h E F le L r = absurd h
  doing_same sweeping h E F le L r = record { refusal = refl; address = refl; layouts = refl }
