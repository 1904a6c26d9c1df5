-- Laws of the count along all item lists: what a test tells of the lists, and why counting is enough.
use Rattle.std.proofs.Common.{◌≡◌, ℕ, zero, suc, ◌+◌, ◌%◌, ◌≤◌, ◌<◌, true, List, [], ◌∷◌, length, eqb, bit_or, Option, Some, None, refl, sym, ap, ◌∙◌, arith, eqb-true, eq-eqb, length-append}
use Rattle.std.proofs.Math.Decide.{ℕ_discrete, dec_le}
use Rattle.words.specs.Width.{Width}
use Rattle.words.specs.Word.{word_at}
use Rattle.words.specs.Bits.{bit_at}
use Rattle.words.proofs.BitLaws.{beyond_clear}
use Rattle.model.specs.Shape.{shape}
use Rattle.model.specs.Parts.{head_at}
use Rattle.model.specs.Sound.{times}
use Rattle.model.proofs.pictures.Drawn.{times_append}
use Rattle.marking.specs.Maps.{Marked, offset_bit, offset_at_bit}
use Rattle.visiting.specs.Lists.{Chains, flat, Listed, FourEmpty}
use Rattle.following.specs.Lists.{ListCounted}
use Rattle.telling.specs.Tells.{Tells}
use Rattle.following.specs.Told.{ListTold}
use Rattle.marking.proofs.MapLaws.{bit_low, same_bit, fewer, all_met, marked_none}
use Rattle.visiting.proofs.Chained.{same_chain}
use Rattle.visiting.proofs.Flat.{flat_item, flat_once}
use Rattle.marking.proofs.Places.{or_more, offset_back, bit_is}
use Rattle.following.proofs.ListLaws.{list_none, list_any}

-- the lists from class c on go to their ends over n marked items
pub record ListsPassed (w : ℕ) (b : List ℕ) (end c : ℕ) (m : List ℕ) (n : ℕ) : Type 0 where
  pub lists : List (List ℕ)
  pub chains : Chains w b end c lists
  pub set : (x : ℕ) → 1 ≤ times x (flat lists) → bit_at m (offset_bit w x) ≡ 1
  pub count : length (flat lists) ≡ n

pub record ListsInv (w : ℕ) (b : List ℕ) (end : ℕ) (m : List ℕ) (before n c : ℕ) : Type 0 where
  pub width : Width w
  pub ahead : ListsPassed w b end 0 m before → ListsPassed w b end c m n
  pub back : ListsPassed w b end c m n → ListsPassed w b end 0 m before
  pub inside : c ≤ (shape w).classes

pub lists_start : {w : ℕ} → Width w → {b : List ℕ} {end : ℕ} {m : List ℕ} {n : ℕ} → Marked m n → ListsInv w b end m n n 0
lists_start wd k = record { width = wd; ahead = λ r. r; back = λ r. r; inside = omega arith }

module _ {w : ℕ} {b : List ℕ} {end : ℕ} {m : List ℕ} {before n c : ℕ} (i : ListsInv w b end m before n c) where
  -- after the last class: nothing is left to count
  pub lists_yes : (shape w).classes ≤ c → n ≡ 0 → ListsPassed w b end 0 m before
  unfolding Chains flat times
  lists_yes h e = i.back (record { lists = []; chains = omega (arith, i.inside); set = λ x q. absurd (omega arith); count = sym e })

  pub lists_none : (shape w).classes ≤ c → ListsPassed w b end 0 m before → n ≡ 0
  unfolding Chains flat
  lists_none h r = go (i.ahead r).lists (i.ahead r).chains (i.ahead r).count
    where
      go : (ls : List (List ℕ)) → Chains w b end c ls → length (flat ls) ≡ n → n ≡ 0
      go [] k g = sym g
      go (l ∷ ls) k g = absurd (omega (arith, k.0))

  -- the list of class c
  module _ (h : c < (shape w).classes) (o : ℕ) (eo : o ≡ word_at w b (head_at (shape w) c)) where
    -- its list, and the lists after it
    record Split : Type 0 where
      rest : List (List ℕ)
      first : ListCounted w b end c o m n (length (flat rest))
      chains : Chains w b end (c + 1) rest
      set : (x : ℕ) → 1 ≤ times x (flat rest) → bit_at m (offset_bit w x) ≡ 1

    split : ListsPassed w b end c m n → Split
    unfolding Chains flat
    split r = go r.lists r.chains r.set r.count
      where
        go : (ls : List (List ℕ)) → Chains w b end c ls → ((x : ℕ) → 1 ≤ times x (flat ls) → bit_at m (offset_bit w x) ≡ 1) → length (flat ls) ≡ n → Split
        go [] k g t = absurd (omega arith)
        go (l ∷ ls) k g t =
            record {
              rest = ls;
              first = record { list = l; chain = rw eo k.1; set = λ x q. g x (omega (arith, q, times_append x l (flat ls))); count = omega (arith, t, length-append l (flat ls)) };
              chains = k.2;
              set = λ x q. g x (omega (arith, q, times_append x l (flat ls)));
            }

    pub lists_fail : (a : Option ℕ) → ListTold w b end c o m n a → a ≡ None → ListsPassed w b end 0 m before → ⊥
    lists_fail a t e v = let s = split (i.ahead v) in t.is_no e (length (flat s.rest)) s.first

    pub lists_turn : (a : Option ℕ) (r : ℕ) → ListTold w b end c o m n a → a ≡ Some r → ListsInv w b end m before r (c + 1)
    unfolding Chains flat
    lists_turn a r t e =
        let k = t.is_yes r e in
        record {
          width = i.width;
          ahead = λ v. on k (split (i.ahead v));
          back = λ v. i.back (record {
            lists = k.list ∷ v.lists;
            chains = (h, rw (← eo) k.chain, v.chains);
            set = λ x q. set k v x (omega (arith, q, times_append x k.list (flat v.lists))) (dec_le 1 (times x k.list));
            count = omega (arith, k.count, v.count, length-append k.list (flat v.lists));
          });
          inside = omega arith;
        }
      where
        on : ListCounted w b end c o m n r → Split → ListsPassed w b end (c + 1) m r
        on k s = record { lists = s.rest; chains = s.chains; set = s.set; count = omega (arith, k.count, s.first.count, ap length (same_chain i.width b end c o s.first.list k.list s.first.chain k.chain)) }

        set : (k : ListCounted w b end c o m n r) (v : ListsPassed w b end (c + 1) m r) (x : ℕ) → 1 ≤ times x k.list + times x (flat v.lists) → Dec (1 ≤ times x k.list) → bit_at m (offset_bit w x) ≡ 1
        set k v x q (yes f) = k.set x f
        set k v x q (no f) = v.set x (omega arith)

-- four heads of which no bit is set
pub four_empty : {w : ℕ} {b : List ℕ} {c x y z u : ℕ} → c + 4 ≤ (shape w).classes → x ≡ word_at w b (head_at (shape w) c) → y ≡ word_at w b (head_at (shape w) (c + 1)) → z ≡ word_at w b (head_at (shape w) (c + 2)) → u ≡ word_at w b (head_at (shape w) (c + 3)) → bit_or (bit_or (bit_or x y) z) u ≡ 0 → FourEmpty w b c
four_empty {w} {b} {c} {x} {y} {z} {u} h ex ey ez eu e = record { few = h; heads = at }
  where
    at : (k : ℕ) → k < 4 → word_at w b (head_at (shape w) (c + k)) ≡ 0
    at zero l =
        let none : c + 0 ≡ c = omega arith in
        rw none (omega (arith, ex, e, or_more x y, or_more (bit_or x y) z, or_more (bit_or (bit_or x y) z) u))
    at (suc zero) l = omega (arith, ey, e, or_more x y, or_more (bit_or x y) z, or_more (bit_or (bit_or x y) z) u)
    at (suc (suc zero)) l = omega (arith, ez, e, or_more (bit_or x y) z, or_more (bit_or (bit_or x y) z) u)
    at (suc (suc (suc zero))) l = omega (arith, eu, e, or_more (bit_or (bit_or x y) z) u)
    at (suc (suc (suc (suc k)))) l = absurd (omega arith)

-- four empty lists
pub lists_skip : {w : ℕ} {b : List ℕ} {end : ℕ} {m : List ℕ} {before n c : ℕ} → FourEmpty w b c → ListsInv w b end m before n c → ListsInv w b end m before n (c + 4)
lists_skip {w} {b} {end} {m} {before} {n} {c} e i = go 4 (omega arith)
  where
    go : (k : ℕ) → k ≤ 4 → ListsInv w b end m before n (c + k)
    go zero h =
        let z : c + 0 ≡ c = omega arith in
        rw z i
    go (suc k) h =
        let z : c + suc k ≡ c + k + 1 = omega arith in
        rw z (lists_turn (go k (omega arith)) (omega (arith, e.few)) 0 (sym (e.heads k (omega arith))) (Some n) n (list_none refl) refl)

-- the bits of items
unfoldable bits_of : ℕ → List ℕ → List ℕ
bits_of w [] = []
bits_of w (x ∷ xs) = offset_bit w x ∷ bits_of w xs

bits_length : (w : ℕ) (l : List ℕ) → length (bits_of w l) ≡ length l
unfolding bits_of
bits_length w [] = refl
bits_length w (x ∷ xs) = ap suc (bits_length w xs)

bits_times : {w : ℕ} → Width w → (j : ℕ) (l : List ℕ) → ((x : ℕ) → 1 ≤ times x l → (x % w ≡ 0) × (x ≡ 0 → ⊥)) → times j (bits_of w l) ≡ times (offset_at_bit w j) l
unfolding bits_of times
bits_times {w} wd j [] f = refl
bits_times {w} wd j (x ∷ xs) f =
    let e = f x (rw (eq-eqb x x refl) (omega arith)) in
    omega (arith, same_bit wd (offset_bit w x) j x (sym (offset_back wd x e.0)), bits_times wd j xs (λ y q. f y (omega arith)))

bits_flat : {w : ℕ} → Width w → (b : List ℕ) (end : ℕ) (ls : List (List ℕ)) → Chains w b end 0 ls → (j : ℕ) → times j (bits_of w (flat ls)) ≡ times (offset_at_bit w j) (flat ls)
bits_flat wd b end ls h j = bits_times wd j (flat ls) (λ x q. let it = flat_item wd b x end ls h q in (it.even, it.nonzero))

-- the lists visit every marked item once and nothing else exactly where they go over as many marked items as there are marks
module _ {w : ℕ} (wd : Width w) {b : List ℕ} {end : ℕ} {m : List ℕ} {n : ℕ} (k : Marked m n) where
  pub listed_passed : Listed w b end m → ListsPassed w b end 0 m n
  listed_passed r = record { lists = r.lists; chains = r.chains; set = λ x q. set x q (flat_item wd b x end r.lists r.chains q).even; count = omega (arith, k.count, bits_length w (flat r.lists), fewer (bits_of w (flat r.lists)) k.list (λ j. omega (arith, same j)), fewer k.list (bits_of w (flat r.lists)) (λ j. omega (arith, same j))) }
    where
      same : (j : ℕ) → times j (bits_of w (flat r.lists)) ≡ times j k.list
      same j = bits_flat wd b end r.lists r.chains j ∙ sym (r.marks j) ∙ k.marks j

      set : (x : ℕ) → 1 ≤ times x (flat r.lists) → x % w ≡ 0 → bit_at m (offset_bit w x) ≡ 1
      set x q e =
          let f : offset_at_bit w (offset_bit w x) ≡ x = offset_back wd x e in
          omega (arith, bit_low m (offset_bit w x), rw f at (r.marks (offset_bit w x)))

  pub passed_listed : ListsPassed w b end 0 m n → Listed w b end m
  passed_listed r = record { lists = r.lists; chains = r.chains; marks = λ j. omega (arith, k.marks j, bits_flat wd b end r.lists r.chains j, met j, all_met (bits_of w (flat r.lists)) k.list met (omega (arith, k.count, r.count, bits_length w (flat r.lists))) j) }
    where
      go : (j : ℕ) → Dec (1 ≤ times (offset_at_bit w j) (flat r.lists)) → times (offset_at_bit w j) (flat r.lists) ≤ times j k.list
      go j (no f) = omega arith
      go j (yes f) =
          let e : offset_bit w (offset_at_bit w j) ≡ j = bit_is wd j (offset_at_bit w j) refl in
          omega (arith, flat_once wd b (offset_at_bit w j) end r.lists r.chains, k.marks j, rw e at (r.set (offset_at_bit w j) f))

      met : (j : ℕ) → times j (bits_of w (flat r.lists)) ≤ times j k.list
      met j = omega (arith, bits_flat wd b end r.lists r.chains j, go j (dec_le 1 (times (offset_at_bit w j) (flat r.lists))))

-- without a mark every list must be empty: the heads before class c, or-ed, are 0 exactly where their lists are
pub record NoneListed (w : ℕ) (b : List ℕ) (end any c : ℕ) : Type 0 where
  pub none : any ≡ 0 → ListsInv w b end [] 0 0 c
  pub some : (any ≡ 0 → ⊥) → Listed w b end [] → ⊥

no_marks : Marked [] 0
no_marks = marked_none (λ j. beyond_clear [] j (omega arith))

pub none_start : {w : ℕ} → Width w → {b : List ℕ} {end : ℕ} → NoneListed w b end 0 0
none_start wd = record { none = λ _. lists_start wd no_marks; some = λ f. absurd (f refl) }

pub none_turn : {w : ℕ} {b : List ℕ} {end any c x : ℕ} → c < (shape w).classes → x ≡ word_at w b (head_at (shape w) c) → NoneListed w b end any c → NoneListed w b end (bit_or any x) (c + 1)
none_turn {w} {b} {end} {any} {c} {x} h e v = record { none = λ z. lists_turn (v.none (omega (arith, z, or_more any x))) h x e (Some 0) 0 (list_none (omega (arith, z, or_more any x))) refl; some = λ f. go f (ℕ_discrete any 0) (ℕ_discrete x 0) }
  where
    go : (bit_or any x ≡ 0 → ⊥) → Dec (any ≡ 0) → Dec (x ≡ 0) → Listed w b end [] → ⊥
    go f (no a) d l = v.some a l
    go f (yes a) (no d) l = let i = v.none a in lists_fail i h x e None (list_any d) refl (listed_passed i.width no_marks l)
    go f (yes a) (yes d) l = f (rw (a, d) refl)

pub none_told : {w : ℕ} {b : List ℕ} {end any c : ℕ} → (shape w).classes ≤ c → NoneListed w b end any c → Tells (eqb any 0) (Listed w b end [])
none_told {w} {b} {end} {any} h v = record { yes_is = λ t. let i = v.none (eqb-true any 0 t) in passed_listed i.width no_marks (lists_yes i h refl); is_yes = λ l. go (ℕ_discrete any 0) l }
  where
    go : Dec (any ≡ 0) → Listed w b end [] → eqb any 0 ≡ true
    go (yes e) l = eq-eqb any 0 e
    go (no e) l = absurd (v.some e l)
