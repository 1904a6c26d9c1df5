-- Laws of the count along one item list: what a test tells of the list.
use Rattle.std.proofs.Common.{◌≡◌, ℕ, ◌+◌, ◌-◌, ◌%◌, ◌^◌, ◌<◌, ◌≤◌, cond, eqb, List, [], ◌∷◌, length, Option, Some, None, sym, refl, ap, ◌∙◌, arith, eq-eqb, ne_eqb}
use Rattle.std.proofs.Math.Decide.{ℕ_discrete}
use Rattle.std.proofs.lemmas.Option.{none-some, same_Some}
use Rattle.words.specs.Width.{Width}
use Rattle.words.specs.Word.{word_at}
use Rattle.words.specs.Bits.{bit_at}
use Rattle.words.proofs.BitLaws.{beyond_clear}
use Rattle.model.specs.Shape.{shape, item_at}
use Rattle.model.specs.Parts.{free_mark, class_and_flags, next_in}
use Rattle.model.specs.Sound.{times}
use Rattle.model.proofs.Sizes.{zero_even}
use Rattle.marking.specs.Maps.{offset_bit, offset_at_bit, at_bit}
use Rattle.following.specs.Lists.{FreeItemAt, named, Chain, ListCounted}
use Rattle.following.specs.Told.{NextBit, ListTold}
use Rattle.marking.proofs.Places.{offset_none, offset_back, offset_zero, offset_even, bit_is, next_even}

-- the count of a list's items stands at the item of bit i, or at the end, with n left; or, where an item was of another class, beyond every map
pub record ListInv (w : ℕ) (b : List ℕ) (end c o : ℕ) (m : List ℕ) (before n i : ℕ) : Type 0 where
  pub width : Width w
  pub ahead : (r : ℕ) → ListCounted w b end c o m before r → ListCounted w b end c (offset_at_bit w i) m n r
  pub back : i < 2 ^ 32 → (r : ℕ) → ListCounted w b end c (offset_at_bit w i) m n r → ListCounted w b end c o m before r

list_no : {w : ℕ} {b : List ℕ} {end c o : ℕ} {m : List ℕ} {n : ℕ} → ((r : ℕ) → ListCounted w b end c o m n r → ⊥) → ListTold w b end c o m n None
list_no f = record { is_no = λ _. f; is_yes = λ r y. absurd (none-some _ y) }

list_ends : {w : ℕ} {b : List ℕ} {end c o : ℕ} {m : List ℕ} {n r : ℕ} → ListCounted w b end c o m n r → ListTold w b end c o m n (Some r)
list_ends k = record { is_no = λ y. absurd (none-some _ (sym y)); is_yes = λ r y. rw (← same_Some _ _ y) k }

-- told of the head that was read
pub list_from : {w : ℕ} {b : List ℕ} {end c : ℕ} {m : List ℕ} {n : ℕ} {r : Option ℕ} (o p q : ℕ) → o ≡ word_at w b p → p ≡ q → ListTold w b end c o m n r → ListTold w b end c (word_at w b q) m n r
list_from {w} {b} o p q e f t = rw (← (e ∙ ap (λ (x : ℕ). word_at w b x) f)) t

-- a list with no items
pub list_none : {w : ℕ} {b : List ℕ} {end c o : ℕ} {m : List ℕ} {n : ℕ} → o ≡ 0 → ListTold w b end c o m n (Some n)
unfolding Chain times
list_none e = list_ends (record { list = []; chain = e; set = λ x q. absurd (omega arith); count = omega arith })

-- a list that begins with an item, where there is no mark
pub list_any : {w : ℕ} {b : List ℕ} {end c o n : ℕ} → (o ≡ 0 → ⊥) → ListTold w b end c o [] n None
unfolding Chain times
list_any {w} {b} {end} {c} {o} f = list_no (λ s r. go r.list r.chain r.set)
  where
    go : (l : List ℕ) → Chain w b end c o l → ((x : ℕ) → 1 ≤ times x l → bit_at [] (offset_bit w x) ≡ 1) → ⊥
    go [] h g = f h
    go (x ∷ xs) h g = omega (arith, g x (rw (eq-eqb x x refl) (omega arith)), beyond_clear [] (offset_bit w x) (omega arith))

-- a head that is no whole number of words
pub list_head : {w : ℕ} → Width w → {b : List ℕ} {end c o : ℕ} {m : List ℕ} {n : ℕ} → (o % w ≡ 0 → ⊥) → ListTold w b end c o m n None
unfolding Chain
list_head {w} wd {b} {end} {c} {o} f = list_no (λ s r. go r.list r.chain)
  where
    go : (l : List ℕ) → Chain w b end c o l → ⊥
    go [] h = f (zero_even wd o h)
    go (x ∷ xs) h = f (rw h.0 h.1.even)

-- a list with head o begins at the item of bit i
pub list_start : {w : ℕ} → Width w → {b : List ℕ} {end c o : ℕ} {m : List ℕ} {n i : ℕ} → o % w ≡ 0 → i ≡ offset_bit w o → ListInv w b end c o m n n i
list_start {w} wd {b} {end} {c} {o} e ei =
    let f : offset_at_bit w (offset_bit w o) ≡ o = offset_back wd o e in
    rw ei (record { width = wd; ahead = λ s r. rw f r; back = λ _ s r. rw f at r })

-- and one whose head o was read
pub list_begins : {w : ℕ} → Width w → {b : List ℕ} {end c : ℕ} {m : List ℕ} {n i : ℕ} (o p q : ℕ) → o ≡ word_at w b p → p ≡ q → o % w ≡ 0 → i ≡ offset_bit w o → ListInv w b end c (word_at w b q) m n n i
list_begins {w} wd {b} o p q eo ep e ei = rw (← (eo ∙ ap (λ (x : ℕ). word_at w b x) ep)) (list_start wd e ei)

module _ {w : ℕ} {b : List ℕ} {end c o : ℕ} {m : List ℕ} {before n i : ℕ} (v : ListInv w b end c o m before n i) where
  pub list_done : i ≡ 0 → ListTold w b end c o m before (Some n)
  unfolding Chain times
  list_done e = list_ends (v.back (omega arith) n (record { list = []; chain = rw e (offset_none v.width); set = λ x q. absurd (omega arith); count = omega arith }))

  -- the end of a list has no mark
  pub list_more : bit_at m 0 ≡ 0 → bit_at m i ≡ 1 → i ≡ 0 → ⊥
  list_more f s e = let t : bit_at m 0 ≡ 1 = rw e at s in omega arith

  module _ (z : i ≡ 0 → ⊥) where
    -- what a list has at its head
    record Head (r : ℕ) : Type 0 where
      here : FreeItemAt w b end c (offset_at_bit w i)
      set : bit_at m i ≡ 1
      more : 1 ≤ n
      next : ListCounted w b end c (named w b (offset_at_bit w i)) m (n - 1) r

    head_of_lem : (s : ℕ) → ListCounted w b end c (offset_at_bit w i) m n s → Head s
    unfolding Chain times
    head_of_lem s r = go r.list r.chain r.set r.count
      where
        go : (l : List ℕ) → Chain w b end c (offset_at_bit w i) l → ((x : ℕ) → 1 ≤ times x l → bit_at m (offset_bit w x) ≡ 1) → length l + s ≡ n → Head s
        go [] h g t = absurd (z (offset_zero v.width i h))
        go (x ∷ xs) h g t =
            record {
              here = rw h.0 h.1;
              set = ap (λ (j : ℕ). bit_at m j) (sym (bit_is v.width i x h.0)) ∙ g x (rw (eq-eqb x x refl) (omega arith));
              more = omega arith;
              next = record { list = xs; chain = rw h.0 h.2; set = λ y q. g y (omega arith); count = omega arith };
            }

    fail : ((s : ℕ) → Head s → ⊥) → ListTold w b end c o m before None
    fail f = list_no (λ s r. f s (head_of_lem s (v.ahead s r)))

    -- an item that is not marked, and an item too many
    pub list_clear : bit_at m i ≡ 0 → ListTold w b end c o m before None
    list_clear f = fail (λ s y. omega (arith, y.set))

    pub list_over : n ≡ 0 → ListTold w b end c o m before None
    list_over h = fail (λ s y. omega (arith, y.more))

    -- x is the item's header, and j the bit of the item that it names
    module _ (p x : ℕ) (ep : p ≡ at_bit w i) (ex : x ≡ word_at w b p) where
      read : word_at w b (item_at (shape w) (offset_at_bit w i)) ≡ x
      read = ap (λ (q : ℕ). word_at w b q) (sym ep) ∙ sym ex

      module _ (j : ℕ) (nb : NextBit w x c j) where
        list_other : (class_and_flags (shape w) x ≡ free_mark c → ⊥) → ListInv w b end c o m before (n - 1) j
        list_other f =
            record {
              width = v.width;
              ahead = λ t r. absurd (f (rw (← read) (head_of_lem t (v.ahead t r)).here.header));
              back = λ l t r. absurd (omega (arith, nb.far f));
            }

        list_next : i < 2 ^ 32 → at_bit w i + w ≤ end → (n ≡ 0 → ⊥) → bit_at m i ≡ 1 → class_and_flags (shape w) x ≡ free_mark c → ListInv w b end c o m before (n - 1) j
        unfolding Chain times
        list_next low l e s f =
            let g : named w b (offset_at_bit w i) ≡ offset_at_bit w j = rw (read, nb.near f) (sym (offset_back v.width (next_in (shape w) x) (next_even v.width x))) in
            record {
              width = v.width;
              ahead = λ t r. rw (← g) (head_of_lem t (v.ahead t r)).next;
              back = λ _ t r. v.back low t (record {
                list = offset_at_bit w i ∷ r.list;
                chain = (refl, record { nonzero = λ y. z (offset_zero v.width i y); even = offset_even v.width i; inside = l; header = rw read f }, rw g r.chain);
                set = λ y q. set r y q (ℕ_discrete y (offset_at_bit w i));
                count = omega (arith, r.count);
              });
            }
          where
            set : {t : ℕ} (r : ListCounted w b end c (offset_at_bit w j) m (n - 1) t) (y : ℕ) → 1 ≤ cond (eqb y (offset_at_bit w i)) 1 0 + times y r.list → Dec (y ≡ offset_at_bit w i) → bit_at m (offset_bit w y) ≡ 1
            set r y q (yes e) = ap (λ (k : ℕ). bit_at m k) (bit_is v.width i y (sym e)) ∙ s
            set r y q (no e) = r.set y (omega (arith, rw (ne_eqb y (offset_at_bit w i) e) at q))

        pub list_turn : i < 2 ^ 32 → at_bit w i + w ≤ end → (n ≡ 0 → ⊥) → bit_at m i ≡ 1 → ListInv w b end c o m before (n - 1) j
        list_turn low l e s = go (ℕ_discrete (class_and_flags (shape w) x) (free_mark c))
          where
            go : Dec (class_and_flags (shape w) x ≡ free_mark c) → ListInv w b end c o m before (n - 1) j
            go (yes f) = list_next low l e s f
            go (no f) = list_other f
