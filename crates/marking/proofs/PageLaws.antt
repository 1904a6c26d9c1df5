-- Laws of a page's items and of blocks in use: what the tests of the headers tell.
use Rattle.std.proofs.Common.{◌≡◌, ℕ, zero, suc, ◌+◌, ◌-◌, ◌*◌, ◌/◌, ◌%◌, ◌^◌, ◌<◌, ◌≤◌, ◌⊎◌, List, [], ◌∷◌, length, Option, None, sym, refl, ap, ◌∙◌, subst, inl, inr, mul-le-mul_right, arith, bit_or}
use Rattle.std.proofs.Math.Decide.{ℕ_discrete, dec_le}
use Rattle.words.specs.Width.{Width}
use Rattle.words.specs.Word.{word_at}
use Rattle.words.specs.Bits.{marked}
use Rattle.model.specs.Shape.{shape, item_size, index, offset_of, least_free, least_variable, page_need}
use Rattle.model.specs.Parts.{variable_kind, page_kind, free_flags, free_mark, held_header, flags_in, class_and_flags, class_in, first_item_at}
use Rattle.model.specs.inner.Headers.{least_header, SameClass}
use Rattle.model.specs.Layout.{Slot, idle, held, Use, variable, page, used, use_size, size_of}
use Rattle.model.specs.Sound.{Within, AllWithin, Allowed, AllowedUse, idle_slots}
use Rattle.model.proofs.items.Asked.{idle_within}
use Rattle.model.proofs.Sizes.{one_less, per_page_bound, page_items_bound, page_product, class_few, class_held, page_eight, first_even}
use Rattle.model.proofs.walks.Standing.{sizes}
use Rattle.marking.specs.Uses.{Slots, Items, Right, AllRight, class_at, PageRight, use_kind, Headers, UseAt, free_in}
use Rattle.marking.specs.Maps.{NoMarks, offset_bit, at_bit, map_end}
use Rattle.marking.specs.Told.{MapSize, Marking, MarkRoom, ItemsMarked, ItemsTold, PageItems, Judged, PageRoom, UseMarked, PageTold}
use Rattle.marking.specs.declared.pages.Tally.{Tally}
use Rattle.marking.proofs.Rights.{or_near, near_right, right_in, right_out, right_none, items_right}
use Rattle.std.proofs.lemmas.Option.{none-some}
use Rattle.marking.proofs.MapLaws.{adds_none, adds_mark, marking_on, marking_more, length_marked}
use Rattle.marking.proofs.Places.{near_parts, far_part, or_low, no_flags, bit_room, bit_step, bits_less, bits_order, bits_stop, bits_within, bit_least, map_end_bound, first_bit}

-- a header of an item of class c: of a free one, or of one in use
pub data Header (w : ℕ) (b : List ℕ) (c q : ℕ) : Type 0 where
  of_idle : class_and_flags (shape w) (word_at w b q) ≡ free_mark c → Header w b c q
  of_held : (n : ℕ) → word_at w b q ≡ held_header c n → Header w b c q

pub items_in : {w : ℕ} (b : List ℕ) (c q n : ℕ) → (n ≡ 0 → ⊥) → Items w b c q n → Header w b c q × Items w b c (q + item_size (shape w) c) (n - 1)
unfolding Slots AllWithin
items_in {w} b c q n z r = go r.slots r.count r.headers r.within
  where
    go : (ss : List Slot) → length ss ≡ n → Slots w b c q ss → AllWithin c ss → Header w b c q × Items w b c (q + item_size (shape w) c) (n - 1)
    go [] e h a = absurd (z (sym e))
    go (idle ∷ ss) e h a = (of_idle h.0, record { slots = ss; count = omega arith; headers = h.1; within = a.1 })
    go (held k ∷ ss) e h a = (of_held k h.0, record { slots = ss; count = omega arith; headers = h.1; within = a.1 })

items_none : {w : ℕ} → Width w → (b : List ℕ) (c q : ℕ) (m : List ℕ) → ItemsMarked w b c q 0 m m
unfolding Slots idle_slots AllWithin
items_none wd b c q m = record { items = record { slots = []; count = refl; headers = tt; within = tt }; adds = adds_none wd m }

items_idle : {w : ℕ} → Width w → {b : List ℕ} {c n : ℕ} {m m₁ m' : List ℕ} (i : ℕ) → (n ≡ 0 → ⊥) → class_and_flags (shape w) (word_at w b (at_bit w i)) ≡ free_mark c → at_bit w i < map_end w (length m) → NoMarks w m (at_bit w i) → m₁ ≡ marked m i
    → ItemsMarked w b c (at_bit w i + item_size (shape w) c) (n - 1) m₁ m' → ItemsMarked w b c (at_bit w i) n m m'
unfolding Slots idle_slots AllWithin
items_idle {w} wd {b} {c} {n} {m} i z e u k em r =
    record {
      items = record { slots = idle ∷ r.items.slots; count = omega (arith, r.items.count); headers = (e, r.items.headers); within = (idle_within c, r.items.within) };
      adds = adds_mark wd i (at_bit w i - index (shape w)) (bit_room wd i (length m) u) (k.from i (omega arith)) em (omega arith) r.adds;
    }

items_held : {w : ℕ} {b : List ℕ} {c q n : ℕ} {m m' : List ℕ} → (n ≡ 0 → ⊥) → (k : ℕ) × (word_at w b q ≡ held_header c k) × Within c (held k) → ItemsMarked w b c (q + item_size (shape w) c) (n - 1) m m' → ItemsMarked w b c q n m m'
unfolding Slots idle_slots AllWithin
items_held z e r = record { items = record { slots = held e.0 ∷ r.items.slots; count = omega (arith, r.items.count); headers = (e.1, r.items.headers); within = (e.2, r.items.within) }; adds = r.adds }

-- the marking of a page's items stands at bit i, with n marks so far: `left` of them are ahead; all that are marked are free exactly where `wrong` has no class and flags, and those in use are right where `above` is less than a class
pub record ItemsInv (w : ℕ) (b m₀ : List ℕ) (first stop c : ℕ) (m : List ℕ) (n wrong above i : ℕ) : Type 0 where
  pub width : Width w
  pub left : ℕ
  pub stops : at_bit w stop ≡ at_bit w i + left * item_size (shape w) c
  pub ahead : Items w b c (at_bit w first) ((shape w).per_page c) → Items w b c (at_bit w i) left
  pub rights : AllRight w b c (at_bit w first) ((shape w).per_page c) → AllRight w b c (at_bit w i) left
  pub near : SameClass above → AllRight w b c (at_bit w i) left → AllRight w b c (at_bit w first) ((shape w).per_page c)
  pub back : class_and_flags (shape w) wrong ≡ 0 → AllRight w b c (at_bit w first) ((shape w).per_page c) → (m' : List ℕ) → ItemsMarked w b c (at_bit w i) left m m' → ItemsMarked w b c (at_bit w first) ((shape w).per_page c) m₀ m'
  pub bad : (class_and_flags (shape w) wrong ≡ 0 → ⊥) → Items w b c (at_bit w first) ((shape w).per_page c) → ⊥
  pub marking : Marking w m n (at_bit w i)
  pub map : at_bit w stop ≤ map_end w (length m)
  pub size : length m ≡ length m₀

pub items_start : {w : ℕ} {b m : List ℕ} {i stop c n : ℕ} → MarkRoom w b m i stop c n → ItemsInv w b m i stop c m n 0 0 i
items_start r =
    record {
      width = r.width;
      left = _;
      stops = r.stops;
      ahead = λ i. i;
      rights = λ a. a;
      near = λ _ a. a;
      back = λ _ _ m' i. i;
      bad = λ f. absurd (f (no_flags r.width));
      marking = r.marking;
      map = r.map;
      size = refl;
    }

-- there is a first item
pub items_first : {w : ℕ} {b m : List ℕ} {i stop c n : ℕ} → MarkRoom w b m i stop c n → i < stop
items_first {w} {i = i} {stop = stop} {c = c} r = go (dec_le stop i)
  where
    go : Dec (stop ≤ i) → i < stop
    go (yes h) = absurd (omega (arith, bits_order r.width stop i h, r.stops, mul-le-mul_right (item_size (shape w) c) (per_page_bound r.width c).0))
    go (no h) = omega (arith, h)

module _ {w : ℕ} {b m₀ : List ℕ} {first stop c : ℕ} {m : List ℕ} {n wrong above i : ℕ} (v : ItemsInv w b m₀ first stop c m n wrong above i) where
  -- a bit before another is that of an earlier item
  at_less : i < stop → at_bit w i < at_bit w stop
  at_less h = bits_less v.width i stop h

  pub items_some : i < stop → v.left ≡ 0 → ⊥
  items_some h e = omega (arith, ap (λ (x : ℕ). at_bit w i + x * item_size (shape w) c) e, v.stops, at_less h)

  pub items_fit : i < stop → at_bit w i + item_size (shape w) c ≤ at_bit w stop
  items_fit h = omega (arith, v.stops, one_less v.left (item_size (shape w) c) (items_some h))

  -- the bit of the next item, which is s words on
  pub items_next : i < stop → (s : ℕ) → s ≡ item_size (shape w) c / w → MapSize (length m₀) → (i < i + s) × (i + s ≤ stop) × (i + s < 2 ^ 32) × (at_bit w i < 2 ^ 32)
  items_next h s es k =
      let e : at_bit w (i + s) ≡ at_bit w i + item_size (shape w) c = bit_step v.width i c s es in
      let l : i + s ≤ stop = bits_within v.width (i + s) stop (omega (arith, items_fit h)) in
      let u : at_bit w stop < 2 ^ 32 = omega (arith, v.map, map_end_bound v.width (length m) (omega (arith, v.size, k.few))) in
      let more : s ≡ 0 → ⊥ = λ z. omega (arith, v.width.least, ap (λ (x : ℕ). at_bit w (i + x)) z) in
      (omega arith, l, omega (arith, bit_least v.width stop), omega (arith, items_fit h))

  module _ (h : i < stop) (x s : ℕ) (e : x ≡ word_at w b (at_bit w i)) (es : s ≡ item_size (shape w) c / w) where
    -- where the next item is
    next_at_lem : at_bit w (i + s) ≡ at_bit w i + item_size (shape w) c
    next_at_lem = bit_step v.width i c s es

    right_next : AllRight w b c (at_bit w first) ((shape w).per_page c) → AllRight w b c (at_bit w (i + s)) (v.left - 1)
    right_next k = rw next_at_lem (right_in w b c (at_bit w i) v.left (items_some h) (v.rights k)).1

    -- an item in use is passed, and y is the difference of its header and the least of its class
    pub items_turn_held : free_flags < flags_in x → c < 2 ^ 16 → (y : ℕ) → y < 2 ^ 64 → (y + least_header c) % 2 ^ 64 ≡ x → ItemsInv w b m₀ first stop c m n wrong (bit_or above y) (i + s)
    items_turn_held f few y fits ey =
        record {
          width = v.width;
          left = v.left - 1;
          stops = omega (arith, next_at_lem, v.stops, one_less v.left (item_size (shape w) c) (items_some h));
          ahead = λ k. rw next_at_lem (items_in b c (at_bit w i) v.left (items_some h) (v.ahead k)).1;
          rights = right_next;
          near = λ z r. let k = or_near above y z in v.near k.0 (right_out w b c (at_bit w i) v.left (items_some h) (subst (λ (z : ℕ). Right c z) e (λ g. near_right c x y few fits ey k.1)) (rw next_at_lem at r));
          back = λ ok a m' r. v.back ok a m' (items_held (items_some h) ((right_in w b c (at_bit w i) v.left (items_some h) (v.rights a)).0 (rw e at f)) (rw next_at_lem at r));
          bad = v.bad;
          marking = rw next_at_lem (marking_on (omega arith) v.marking);
          map = v.map;
          size = v.size;
        }

    -- any other is marked, and y is the difference of its header and a free one's
    module _ (f : flags_in x ≤ free_flags) (few : c < (shape w).classes) (y : ℕ) (fits : y < 2 ^ 64) (ey : (y + free_mark c) % 2 ^ 64 ≡ x) where
      right : class_and_flags (shape w) y ≡ 0 → class_and_flags (shape w) x ≡ free_mark c
      right z = go (ℕ_discrete (class_and_flags (shape w) x) (free_mark c))
        where
          go : Dec (class_and_flags (shape w) x ≡ free_mark c) → class_and_flags (shape w) x ≡ free_mark c
          go (yes g) = g
          go (no g) = absurd (omega (arith, far_part v.width x y c few fits ey g, z))

      is_bad : (class_and_flags (shape w) (bit_or wrong y) ≡ 0 → ⊥) → Items w b c (at_bit w first) ((shape w).per_page c) → ⊥
      is_bad g k = go (ℕ_discrete (class_and_flags (shape w) wrong) 0) (items_in b c (at_bit w i) v.left (items_some h) (v.ahead k)).0
        where
          go : Dec (class_and_flags (shape w) wrong ≡ 0) → Header w b c (at_bit w i) → ⊥
          go (no a) u = v.bad a k
          go (yes a) (of_idle u) = g ((or_low v.width wrong y).1 (a, (near_parts v.width x y c few fits ey (rw e u)).0))
          go (yes a) (of_held k u) = omega (arith, f, e ∙ u)

      pub items_turn_idle : (m₁ : List ℕ) → m₁ ≡ marked m i → ItemsInv w b m₀ first stop c m₁ (n + 1) (bit_or wrong y) above (i + s)
      items_turn_idle m₁ em =
          record {
            width = v.width;
            left = v.left - 1;
            stops = omega (arith, next_at_lem, v.stops, one_less v.left (item_size (shape w) c) (items_some h));
            ahead = λ k. rw next_at_lem (items_in b c (at_bit w i) v.left (items_some h) (v.ahead k)).1;
            rights = right_next;
            near = λ z r. v.near z (right_out w b c (at_bit w i) v.left (items_some h) (subst (λ (z : ℕ). Right c z) e not_held) (rw next_at_lem at r));
            back = λ ok a m' r. let z = (or_low v.width wrong y).0 ok in v.back z.0 a m' (items_idle v.width i (items_some h) (rw e at (right z.1)) (omega (arith, v.map, at_less h)) v.marking.clear em (rw next_at_lem at r));
            bad = is_bad;
            marking = rw next_at_lem (marking_more v.width i (item_size (shape w) c) (omega (arith, v.map, at_less h)) (omega arith) em v.marking);
            map = rw (length_marked m m₁ i em) v.map;
            size = length_marked m m₁ i em ∙ v.size;
          }
        where
          not_held : Right c x
          not_held g = absurd (omega (arith, f, g))

  -- what the tally tells
  pub items_told : stop ≤ i → ItemsTold w b m₀ first stop c (record { marks = n; wrong = wrong; above = above }) m
  items_told h = go v.left refl
    where
      go : (k : ℕ) → v.left ≡ k → ItemsTold w b m₀ first stop c (record { marks = n; wrong = wrong; above = above }) m
      go (suc k) e = absurd (omega (arith, v.width.least, v.stops, bits_order v.width stop i h, ap (λ (x : ℕ). at_bit w i + x * item_size (shape w) c) e))
      go zero e =
          let at_end : at_bit w stop ≡ at_bit w i = omega (arith, v.stops, ap (λ (x : ℕ). at_bit w i + x * item_size (shape w) c) e) in
          record {
            bad = v.bad;
            near = λ s. v.near s (right_none w b c (at_bit w i) v.left e);
            good = λ ok a. (v.back ok a m (rw e (items_none v.width b c (at_bit w i) m)), rw at_end v.marking);
          }

header_class : {w : ℕ} → Width w → (b : List ℕ) (c q : ℕ) → c < (shape w).classes → Header w b c q → c ≡ class_in (shape w) (word_at w b q)
header_class wd b c q h (of_idle e) = omega arith
header_class {w} wd b c q h (of_held n e) = sym (ap (λ (x : ℕ). class_in (shape w) x) e ∙ class_held wd c n h)

pub page_class : {w : ℕ} → Width w → (b : List ℕ) (c k p : ℕ) (ss : List Slot) → AllowedUse (shape w) (page c k ss) → Slots w b c (first_item_at (shape w) p) ss → c ≡ class_at w b p
unfolding AllowedUse
page_class {w} wd b c k p ss a h = header_class wd b c (first_item_at (shape w) p) a.0 (items_in b c (first_item_at (shape w) p) ((shape w).per_page c) (λ z. omega (arith, per_page_bound wd c)) (record { slots = ss; count = a.1; headers = h; within = a.4 })).0

-- what holds of a page
pub record PageIs (w : ℕ) (b : List ℕ) (p s c : ℕ) : Type 0 where
  pub least_size : page_need (shape w) c ≤ s
  pub most_size : s < page_need (shape w) c + least_free (shape w)
  pub items : Items w b c (first_item_at (shape w) p) ((shape w).per_page c)

page_is : {w : ℕ} (b : List ℕ) (p s c k : ℕ) (ss : List Slot) → AllowedUse (shape w) (page c k ss) → use_size (shape w) (page c k ss) ≡ s → Slots w b c (first_item_at (shape w) p) ss → PageIs w b p s c
unfolding AllowedUse use_size
page_is {w} b p s c k ss a e h =
    let z : page_need (shape w) c + k ≡ s = rw a.1 at e in
    record { least_size = omega (arith, z); most_size = omega (arith, z, a.2); items = record { slots = ss; count = a.1; headers = h; within = a.4 } }

pub page_in_lem : {w : ℕ} → Width w → (b : List ℕ) (p s : ℕ) → UseAt w b p s page_kind → PageIs w b p s (class_at w b p)
unfolding use_kind Headers
page_in_lem {w} wd b p s r = go r.use_is r.allowed r.size r.kind_is r.headers
  where
    go : (u : Use) → AllowedUse (shape w) u → use_size (shape w) u ≡ s → use_kind u ≡ page_kind → Headers w b p u → PageIs w b p s (class_at w b p)
    go (variable t) a e f h = absurd (omega arith)
    go (page c k ss) a e f h = subst (λ (x : ℕ). PageIs w b p s x) (page_class wd b c k p ss a h) (page_is b p s c k ss a e h)

pub page_out : {w : ℕ} → Width w → (b : List ℕ) (p s c : ℕ) (m m' : List ℕ) → c < (shape w).classes → s % 8 ≡ 0 → page_need (shape w) c ≤ s → s < page_need (shape w) c + least_free (shape w)
    → ItemsMarked w b c (first_item_at (shape w) p) ((shape w).per_page c) m m' → UseMarked w b p s page_kind m m'
unfolding AllowedUse use_size use_kind Headers free_in
page_out {w} wd b p s c m m' lc a l h i =
    record {
      use_at_lem = record {
        use_is = page c (s - page_need (shape w) c) i.items.slots;
        allowed = (lc, i.items.count, omega arith, omega (arith, page_eight wd c), i.items.within);
        size = rw i.items.count (omega arith);
        kind_is = refl;
        headers = i.items.headers;
      };
      adds = i.adds;
    }

-- a variable block
pub variable_in : {w : ℕ} (b : List ℕ) (p s : ℕ) → UseAt w b p s variable_kind → least_variable (shape w) ≤ s
unfolding use_kind AllowedUse use_size
variable_in {w} b p s r = go r.use_is r.allowed r.size r.kind_is
  where
    go : (u : Use) → AllowedUse (shape w) u → use_size (shape w) u ≡ s → use_kind u ≡ variable_kind → least_variable (shape w) ≤ s
    go (variable t) a e f = omega (arith, a.0)
    go (page c k ss) a e f = absurd (omega arith)

pub variable_out : {w : ℕ} → Width w → (b : List ℕ) (p s : ℕ) (m : List ℕ) → s % 8 ≡ 0 → least_variable (shape w) ≤ s → UseMarked w b p s variable_kind m m
unfolding use_kind Headers free_in AllowedUse use_size
variable_out wd b p s m a h = record { use_at_lem = record { use_is = variable s; allowed = (h, a); size = refl; kind_is = refl; headers = tt }; adds = adds_none wd m }

-- no other kind
pub other_in : {w : ℕ} (b : List ℕ) (p s kind : ℕ) → (kind ≡ variable_kind → ⊥) → (kind ≡ page_kind → ⊥) → UseAt w b p s kind → ⊥
unfolding use_kind
other_in {w} b p s kind n m r = go r.use_is r.kind_is
  where
    go : (u : Use) → use_kind u ≡ kind → ⊥
    go (variable t) e = n (sym e)
    go (page c k ss) e = m (sym e)

-- a block in use is not smaller than a free one
pub use_big : {w : ℕ} → Width w → {b : List ℕ} {p s kind : ℕ} → UseAt w b p s kind → least_free (shape w) ≤ s
unfolding Allowed size_of
use_big wd u = omega (arith, sizes wd (used u.use_is) u.allowed, u.size)

pub page_tiny : {w : ℕ} {b m : List ℕ} {p s n : ℕ} → PageRoom w b m p s n → s < least_free (shape w) → (m' : List ℕ) → PageTold w b m p s None m'
page_tiny room h m' = record { is_no = λ _ u. omega (arith, use_big room.width u); is_yes = λ n y. absurd (none-some _ y) }

-- a page whose first item is at q and has the header x, which says class c; k is what a page of that class needs
module _ {w : ℕ} {b m : List ℕ} {p s n : ℕ} (room : PageRoom w b m p s n) (q x c k : ℕ) (eq : q ≡ first_item_at (shape w) p) (ex : x ≡ word_at w b q) (ec : c ≡ class_in (shape w) x) (ek : k ≡ page_need (shape w) c) where
  is_page : UseAt w b p s page_kind → PageIs w b p s c
  is_page u = rw (ec, ex, eq) (page_in_lem room.width b p s u)

  few : c < (shape w).classes
  few = rw ec (class_few room.width x)

  -- d is what the page has to spare, or beyond every heap where it is too short
  module _ (d : ℕ) (ed : (d + k) % 2 ^ 64 ≡ s) (low : d < 2 ^ 64) where
    pub page_misfit : least_free (shape w) ≤ d → (m' : List ℕ) → PageTold w b m p s None m'
    page_misfit h m' = record { is_no = λ _ u. omega (arith, (is_page u).least_size, (is_page u).most_size, ek); is_yes = λ n y. absurd (none-some _ y) }

    pub page_fits : d < least_free (shape w) → (k ≤ s) × (s < k + least_free (shape w))
    page_fits h = omega (arith, ek, page_items_bound room.width c few)

  -- its items of size z go from bit i to bit i + items * z / w
  module _ (items z : ℕ) (ei : items ≡ (shape w).per_page c) (ez : z ≡ item_size (shape w) c) where
    pub page_taken : 2 * w + items * z ≡ k
    page_taken = (page_product room.width c items z few ei ez).1 ∙ sym ek

    module _ (l : k ≤ s) (i o : ℕ) (eo : o ≡ offset_of (shape w) q) (eb : i ≡ offset_bit w o) where
      from : at_bit w i ≡ q
      from = first_bit room.width q o i (rw eq (first_even room.width p room.eight)) (omega (arith, eq, room.low)) eo eb

      to : at_bit w (i + items * z / w) ≡ q + items * z
      to = bits_stop room.width i q items z c ez from

      pub page_stop : i + items * z / w < 2 ^ 32
      page_stop = omega (arith, bit_least room.width (i + items * z / w), to, eq, page_taken, room.map, map_end_bound room.width (length m) room.size.few)

      pub page_room : MarkRoom w b m i (i + items * z / w) c n
      page_room =
          record {
            width = room.width;
            class = few;
            stops = rw (to, from, ei, ez) refl;
            low = rw from (omega (arith, eq, room.low));
            inside = rw to (omega (arith, eq, page_taken, room.inside));
            map = rw to (omega (arith, eq, page_taken, room.map));
            size = room.size;
            marking = rw from (marking_on (omega arith) room.marking);
          }

      -- the items that the page is judged by
      class_is : c ≡ class_at w b p
      class_is = ec ∙ ap (class_in (shape w)) (ex ∙ ap (word_at w b) eq)

      at_is : at_bit w i ≡ first_item_at (shape w) p
      at_is = from ∙ eq

      to_page : AllRight w b c (at_bit w i) ((shape w).per_page c) → PageRight w b p
      to_page a = subst (λ (d : ℕ). AllRight w b d (first_item_at (shape w) p) ((shape w).per_page d)) class_is (subst (λ (x : ℕ). AllRight w b c x ((shape w).per_page c)) at_is a)

      of_page_lem : PageRight w b p → AllRight w b c (at_bit w i) ((shape w).per_page c)
      of_page_lem a = subst (λ (x : ℕ). AllRight w b c x ((shape w).per_page c)) (sym at_is) (subst (λ (d : ℕ). AllRight w b d (first_item_at (shape w) p) ((shape w).per_page d)) (sym class_is) a)

      pub page_items : PageItems w b p
      page_items = record { width = room.width; first = omega (arith, ek, l, room.inside); inside = subst (λ (d : ℕ). first_item_at (shape w) p + (shape w).per_page d * item_size (shape w) d ≤ length b) class_is (omega (arith, ek, l, room.inside)) }

      module _ (t : Tally) (m' : List ℕ) (told : ItemsTold w b m i (i + items * z / w) c t m') where
        pub page_near : SameClass t.above → PageRight w b p
        page_near a = to_page (told.near a)

        pub page_told : s < k + least_free (shape w) → (r : Option ℕ) → Judged w b p t r → PageTold w b m p s r m'
        page_told h r j =
            record {
              is_no = λ y u. not (j.is_no y) (rw (from, eq) (is_page u).items);
              is_yes = λ n y.
                  let g = j.is_yes n y in
                  let d = told.good g.0 (of_page_lem g.1) in
                  (page_out room.width b p s c m m' few room.size_eight (omega arith) (omega arith) (rw (from, eq) at d.0), rw g.2 (marking_on (omega (arith, eq, page_taken)) (rw to at d.1)));
            }
          where
            not : (class_and_flags (shape w) t.wrong ≡ 0 → ⊥) ⊎ (PageRight w b p → ⊥) → Items w b c (at_bit w i) ((shape w).per_page c) → ⊥
            not (inl x) u = told.bad x u
            not (inr x) u = x (to_page (items_right room.width b c (at_bit w i) ((shape w).per_page c) u))
