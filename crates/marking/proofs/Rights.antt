-- Headers of items in use: what the tests tell of the sizes that were asked for, one by one and or-ed.
use Rattle.std.proofs.Common.{◌≡◌, ℕ, zero, suc, ◌+◌, ◌-◌, ◌*◌, ◌/◌, ◌%◌, ◌^◌, ◌<◌, ◌≤◌, true, false, List, [], ◌∷◌, length, sym, refl, ap, ◌∙◌, subst, inl, inr, arith, bit_or}
use lib.Bits.{or_shr}
use Rattle.words.specs.Width.{Width}
use Rattle.words.specs.Word.{word_at}
use Rattle.model.specs.Shape.{shape, item_size}
use Rattle.model.specs.Parts.{held_header, class_in, first_item_at}
use Rattle.model.specs.Layout.{Slot, idle, held}
use Rattle.model.specs.Sound.{Within, AllWithin}
use Rattle.model.specs.inner.Headers.{least_header, SameClass}
use Rattle.model.proofs.Sizes.{one_less, flags_idle}
use Rattle.marking.specs.Uses.{Slots, Items, Right, AllRight, class_at, PageRight}
use Rattle.marking.specs.Told.{PageItems, RightTold}
use Rattle.words.proofs.YesNo.{yes_no}
use Rattle.marking.proofs.Places.{or_more, or_parts}

-- differences that are less than a class, or-ed
pub none_near : SameClass 0
none_near = omega arith

pub or_near : (a b : ℕ) → SameClass (bit_or a b) → SameClass a × SameClass b
or_near a b s =
    let low = (or_parts a b 7).0 s.0 in
    let high = or_more (a / 2 ^ 10) (b / 2 ^ 10) in
    let none : bit_or (a / 2 ^ 10) (b / 2 ^ 10) ≡ 0 = sym (or_shr a b 10) ∙ s.1 in
    ((low.0, omega (arith, high, none)), (low.1, omega (arith, high, none)))

no_wrap : (d l x : ℕ) → d < 2 ^ 64 → l ≤ x → (d + l) % 2 ^ 64 ≡ x → d ≡ x - l
no_wrap d l x f h e = omega (arith, e)

-- d is the difference of a header x and that for the least size of class c
module _ (c x d : ℕ) (few : c < 2 ^ 16) (fits : d < 2 ^ 64) (e : (d + least_header c) % 2 ^ 64 ≡ x) where
  pub near_right : SameClass d → (n : ℕ) × (x ≡ held_header c n) × Within c (held n)
  unfolding Within
  near_right s = (8 * c + 1 + d / 128, omega (arith, e, s.0, s.1), inr (omega (arith, s.0, s.1)))

  pub right_near : (x ≡ held_header c 0 → ⊥) → (n : ℕ) × (x ≡ held_header c n) × Within c (held n) → SameClass d
  unfolding Within
  right_near z (n, f, inl k) = absurd (z (omega (arith, f, k)))
  right_near z (zero, f, inr k) = absurd (z (omega (arith, f)))
  right_near z (suc n, f, inr k) =
      let low : 8 * c ≤ n = omega (arith, k) in
      let high : n < 8 * c + 8 = omega (arith, k) in
      let is : d ≡ x - least_header c = no_wrap d (least_header c) x fits (omega (arith, f, low)) e in
      omega (arith, is, f, low, high)

-- a header for a size that is not known is right
pub unknown_right : (c x : ℕ) → x ≡ held_header c 0 → Right c x
unfolding Within
unknown_right c x e f = (0, e, inl refl)

-- of one item more
pub right_in : (w : ℕ) (b : List ℕ) (c q n : ℕ) → (n ≡ 0 → ⊥) → AllRight w b c q n → Right c (word_at w b q) × AllRight w b c (q + item_size (shape w) c) (n - 1)
unfolding AllRight
right_in w b c q zero z r = absurd (z refl)
right_in w b c q (suc n) z r = let e : suc n - 1 ≡ n = omega arith in rw e r

pub right_out : (w : ℕ) (b : List ℕ) (c q n : ℕ) → (n ≡ 0 → ⊥) → Right c (word_at w b q) → AllRight w b c (q + item_size (shape w) c) (n - 1) → AllRight w b c q n
unfolding AllRight
right_out w b c q zero z f r = absurd (z refl)
right_out w b c q (suc n) z f r = let e : suc n - 1 ≡ n = omega arith in (f, subst (λ (k : ℕ). AllRight w b c (q + item_size (shape w) c) k) e r)

pub right_none : (w : ℕ) (b : List ℕ) (c q n : ℕ) → n ≡ 0 → AllRight w b c q n
unfolding AllRight
right_none w b c q zero z = tt
right_none w b c q (suc n) z = absurd (omega arith)

-- items that are as they must be are right
slots_right : {w : ℕ} → Width w → (b : List ℕ) (c q : ℕ) (ss : List Slot) → Slots w b c q ss → AllWithin c ss → AllRight w b c q (length ss)
unfolding Slots AllWithin AllRight
slots_right wd b c q [] h a = tt
slots_right {w} wd b c q (idle ∷ ss) h a = ((λ f. absurd (omega (arith, flags_idle wd (word_at w b q) c h.0))), slots_right wd b c (q + item_size (shape w) c) ss h.1 a.1)
slots_right {w} wd b c q (held n ∷ ss) h a = ((λ f. (n, h.0, a.0)), slots_right wd b c (q + item_size (shape w) c) ss h.1 a.1)

pub items_right : {w : ℕ} → Width w → (b : List ℕ) (c q n : ℕ) → Items w b c q n → AllRight w b c q n
items_right {w} wd b c q n i = subst (λ (k : ℕ). AllRight w b c q k) i.count (slots_right wd b c q i.slots i.headers i.within)

-- n items of class c from `first` on are looked at one by one: `left` of them are ahead, from q on
pub record RightInv (w : ℕ) (b : List ℕ) (c size first n q left : ℕ) : Type 0 where
  pub width : Width w
  pub item_size_is : size ≡ item_size (shape w) c
  pub room : q + left * item_size (shape w) c ≤ length b
  pub ahead : AllRight w b c first n → AllRight w b c q left
  pub back : AllRight w b c q left → AllRight w b c first n

module _ {w : ℕ} {b : List ℕ} {c size first n q left : ℕ} (v : RightInv w b c size first n q left) where
  pub right_again : (k : ℕ) → k + 1 ≡ left → (x : ℕ) → x ≡ word_at w b q → Right c x → RightInv w b c size first n (q + size) k
  right_again k g x e f =
      let z : left ≡ 0 → ⊥ = λ y. omega (arith, g, y) in
      let one : left - 1 ≡ k = omega (arith, g) in
      rw (v.item_size_is, ← one)
      record {
        width = v.width;
        item_size_is = refl;
        room = omega (arith, v.room, one_less left (item_size (shape w) c) z);
        ahead = λ r. (right_in w b c q left z (v.ahead r)).1;
        back = λ r. v.back (right_out w b c q left z (subst (λ (y : ℕ). Right c y) e f) r);
      }

-- the items of the page at p, as code has read its first header x and its class
module _ {w : ℕ} {b : List ℕ} {p : ℕ} (k : PageItems w b p) (q x c n : ℕ) (eq : q ≡ first_item_at (shape w) p) (ex : x ≡ word_at w b q) (ec : c ≡ class_in (shape w) x) (en : n ≡ (shape w).per_page c) where
  class_is : c ≡ class_at w b p
  class_is = ec ∙ ap (class_in (shape w)) (ex ∙ ap (word_at w b) eq)

  to_page : AllRight w b c q n → PageRight w b p
  to_page a = subst (λ (d : ℕ). AllRight w b d (first_item_at (shape w) p) ((shape w).per_page d)) class_is (rw (en, eq) at a)

  of_page_lem : PageRight w b p → AllRight w b c q n
  of_page_lem a = rw (en, eq) (subst (λ (d : ℕ). AllRight w b d (first_item_at (shape w) p) ((shape w).per_page d)) (sym class_is) a)

  module _ {size q' left : ℕ} (v : RightInv w b c size q n q' left) where
    pub right_no : (left ≡ 0 → ⊥) → (y : ℕ) → y ≡ word_at w b q' → (Right c y → ⊥) → RightTold w b p false
    right_no z y e f =
        record {
          yes_is = λ r. absurd (yes_no (sym r));
          is_yes = λ r. absurd (f (subst (λ (y : ℕ). Right c y) (sym e) (right_in w b c q' left z (v.ahead (of_page_lem r))).0));
        }

    pub right_done : left ≡ 0 → RightTold w b p true
    right_done z = record { yes_is = λ r. to_page (v.back (right_none w b c q' left z)); is_yes = λ r. refl }
