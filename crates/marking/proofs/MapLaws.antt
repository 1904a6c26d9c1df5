-- Laws of the map of free items.
use Rattle.std.proofs.Common.{◌≡◌, ℕ, suc, ◌+◌, ◌*◌, ◌/◌, ◌%◌, ◌<◌, ◌≤◌, cond, eqb, List, [], ◌∷◌, ◌++◌, length, refl, ap, ◌∙◌, arith, length-set, eq-eqb, ne_eqb}
use Rattle.std.proofs.Math.Decide.{ℕ_discrete, dec_le}
use Rattle.words.specs.Width.{Width}
use Rattle.words.specs.Bits.{bit_at, marked}
use Rattle.words.proofs.BitLaws.{marked_same, marked_other, beyond_clear}
use Rattle.model.specs.Sound.{times}
use Rattle.model.proofs.pictures.Drawn.{times_append}
use Rattle.marking.specs.Maps.{Adds, Marked, NoMarks, offset_at_bit, at_bit, map_end}
use Rattle.marking.specs.Told.{Marking}
use Rattle.marking.proofs.Places.{bits_same, bit_room, at_inside}

-- a list without one of x
unfoldable pub remove : ℕ → List ℕ → List ℕ
remove x [] = []
remove x (y ∷ ys) = cond (eqb x y) ys (y ∷ remove x ys)

pub remove_times : (x z : ℕ) (m : List ℕ) → 1 ≤ times x m → times z (remove x m) + cond (eqb z x) 1 0 ≡ times z m
unfolding times remove
remove_times x z [] h = absurd (omega arith)
remove_times x z (y ∷ ys) h = go (ℕ_discrete x y) (remove_times x z ys)
  where
    go : Dec (x ≡ y) → (1 ≤ times x ys → times z (remove x ys) + cond (eqb z x) 1 0 ≡ times z ys) → times z (cond (eqb x y) ys (y ∷ remove x ys)) + cond (eqb z x) 1 0 ≡ cond (eqb z y) 1 0 + times z ys
    go (yes e) r = rw (eq-eqb x y e, e) (omega arith)
    go (no e) r = let k = r (omega (arith, rw (ne_eqb x y e) at h)) in rw (ne_eqb x y e) (omega arith)

pub remove_length : (x : ℕ) (m : List ℕ) → 1 ≤ times x m → suc (length (remove x m)) ≡ length m
unfolding times remove
remove_length x [] h = absurd (omega arith)
remove_length x (y ∷ ys) h = go (ℕ_discrete x y) (remove_length x ys)
  where
    go : Dec (x ≡ y) → (1 ≤ times x ys → suc (length (remove x ys)) ≡ length ys) → suc (length (cond (eqb x y) ys (y ∷ remove x ys))) ≡ suc (length ys)
    go (yes e) r = rw (eq-eqb x y e)
    go (no e) r = let k = r (omega (arith, rw (ne_eqb x y e) at h)) in rw (ne_eqb x y e) (ap suc k)

-- what stands nowhere more often is no longer, and where it is as long stands as often
pub fewer : (l m : List ℕ) → ((x : ℕ) → times x l ≤ times x m) → length l ≤ length m
unfolding times
fewer [] m h = omega arith
fewer (x ∷ l) m h =
    let k : 1 ≤ times x m = omega (arith, rw (eq-eqb x x refl) at (h x)) in
    omega (arith, remove_length x m k, fewer l (remove x m) (λ z. omega (arith, h z, remove_times x z m k)))

pub all_met : (l m : List ℕ) → ((x : ℕ) → times x l ≤ times x m) → length l ≡ length m → (z : ℕ) → times z m ≤ times z l
unfolding times
all_met [] [] h e z = omega arith
all_met [] (y ∷ m) h e z = absurd (omega arith)
all_met (x ∷ l) m h e z =
    let k : 1 ≤ times x m = omega (arith, rw (eq-eqb x x refl) at (h x)) in
    omega (arith, remove_times x z m k, all_met l (remove x m) (λ y. omega (arith, h y, remove_times x y m k)) (omega (arith, e, remove_length x m k)) z)

-- a bit is 0 or 1
pub bit_low : (m : List ℕ) (j : ℕ) → bit_at m j ≤ 1
unfolding bit_at
bit_low m j = omega arith

pub bit_set : {r : ℕ} (m : List ℕ) (j : ℕ) → r ≡ bit_at m j → (r ≡ 0 → ⊥) → bit_at m j ≡ 1
bit_set m j e z = omega (arith, bit_low m j)

pub length_marked : (m m₁ : List ℕ) (i : ℕ) → m₁ ≡ marked m i → length m₁ ≡ length m
unfolding marked
length_marked m m₁ i e = ap length e ∙ simp length-set

-- the bits after one is set
marked_at : (m : List ℕ) (i : ℕ) → i / 64 < length m → bit_at m i ≡ 0 → (j : ℕ) → bit_at (marked m i) j ≡ bit_at m j + cond (eqb j i) 1 0
marked_at m i u e j = go (ℕ_discrete j i)
  where
    go : Dec (j ≡ i) → bit_at (marked m i) j ≡ bit_at m j + cond (eqb j i) 1 0
    go (yes q) = rw (eq-eqb j i q, q) (omega (arith, marked_same m i u e))
    go (no q) = rw (ne_eqb j i q) (omega (arith, marked_other m i u e j q))

module _ {w : ℕ} (wd : Width w) where
  -- bit i is the mark of the item at offset o
  pub same_bit : (i j o : ℕ) → o ≡ offset_at_bit w i → ◌≡◌ {A = ℕ} (cond (eqb (offset_at_bit w j) o) 1 0) (cond (eqb j i) 1 0)
  same_bit i j o e = go (ℕ_discrete j i)
    where
      go : Dec (j ≡ i) → ◌≡◌ {A = ℕ} (cond (eqb (offset_at_bit w j) o) 1 0) (cond (eqb j i) 1 0)
      go (yes q) = rw (eq-eqb j i q, eq-eqb (offset_at_bit w j) o (omega (arith, ap (λ (x : ℕ). w * x) q))) refl
      go (no q) = rw (ne_eqb j i q, ne_eqb (offset_at_bit w j) o (λ k. q (bits_same wd j i (omega arith)))) refl

  pub adds_none : (m : List ℕ) → Adds w m m []
  unfolding times
  adds_none m = record { at = λ j. omega arith }

  pub adds_append : {m m₁ m₂ : List ℕ} (l k : List ℕ) → Adds w m m₁ l → Adds w m₁ m₂ k → Adds w m m₂ (l ++ k)
  adds_append l k f g = record { at = λ j. omega (arith, f.at j, g.at j, times_append (offset_at_bit w j) l k) }

  -- a mark set first
  pub adds_mark : {m m₁ m' : List ℕ} {l : List ℕ} (i o : ℕ) → i / 64 < length m → bit_at m i ≡ 0 → m₁ ≡ marked m i → o ≡ offset_at_bit w i → Adds w m₁ m' l → Adds w m m' (o ∷ l)
  unfolding times
  adds_mark {m} {m₁} {m'} {l} i o u c e p f = record { at = λ j. go j (f.at j) }
    where
      go : (j : ℕ) → bit_at m' j ≡ bit_at m₁ j + times (offset_at_bit w j) l → bit_at m' j ≡ bit_at m j + (cond (eqb (offset_at_bit w j) o) 1 0 + times (offset_at_bit w j) l)
      go j k = rw (same_bit i j o p) (omega (arith, k, ap (λ (x : List ℕ). bit_at x j) e, marked_at m i u c j))

-- the number of marks
pub marked_none : {m : List ℕ} → ((j : ℕ) → bit_at m j ≡ 0) → Marked m 0
unfolding times
marked_none k = record { list = []; marks = λ j. k j; count = refl }

pub marked_more : {m m₁ : List ℕ} {n : ℕ} (i : ℕ) → i / 64 < length m → bit_at m i ≡ 0 → m₁ ≡ marked m i → Marked m n → Marked m₁ (n + 1)
unfolding times
marked_more {m} i u c e k = record { list = i ∷ k.list; marks = λ j. omega (arith, ap (λ (x : List ℕ). bit_at x j) e, marked_at m i u c j, k.marks j); count = omega (arith, k.count) }

-- the marks up to a position
pub marking_on : {w : ℕ} {m : List ℕ} {n p q : ℕ} → p ≤ q → Marking w m n p → Marking w m n q
marking_on l k = record { marked = k.marked; clear = record { from = λ j h. k.clear.from j (omega arith) }; few = omega (arith, k.few) }

pub marking_more : {w : ℕ} → Width w → {m m₁ : List ℕ} {n : ℕ} (i s : ℕ) → at_bit w i < map_end w (length m) → w ≤ s → m₁ ≡ marked m i → Marking w m n (at_bit w i) → Marking w m₁ (n + 1) (at_bit w i + s)
marking_more {w} wd {m} {m₁} {n} i s u l e k =
    record {
      marked = marked_more i (bit_room wd i (length m) u) (k.clear.from i (omega arith)) e k.marked;
      clear = record { from = λ j h. go j h (k.clear.from j (omega arith)) };
      few = omega (arith, k.few, wd.least);
    }
  where
    go : (j : ℕ) → at_bit w i + s ≤ at_bit w j → bit_at m j ≡ 0 → bit_at m₁ j ≡ 0
    go j h z =
        ap (λ (x : List ℕ). bit_at x j) e
        ∙ marked_at m i (bit_room wd i (length m) u) (k.clear.from i (omega arith)) j
        ∙ rw (ne_eqb j i (λ y. omega (arith, wd.least, ap (λ (x : ℕ). w * x) y))) (omega arith)

-- maps with the same bits have the same marks
pub marking_same : {w : ℕ} {m m' : List ℕ} {n p : ℕ} → ((j : ℕ) → bit_at m' j ≡ bit_at m j) → Marking w m n p → Marking w m' n p
marking_same e k = record { marked = record { list = k.marked.list; marks = λ j. e j ∙ k.marked.marks j; count = k.marked.count }; clear = record { from = λ j h. e j ∙ k.clear.from j h }; few = k.few }

pub adds_same : {w : ℕ} {m m₁ m' l : List ℕ} → ((j : ℕ) → bit_at m₁ j ≡ bit_at m j) → Adds w m₁ m' l → Adds w m m' l
adds_same e f = record { at = λ j. omega (arith, e j, f.at j) }

-- there is no mark beyond a map's words
pub no_mark : (m : List ℕ) (i : ℕ) → 64 * length m ≤ i → bit_at m i ≡ 0
no_mark m i h = beyond_clear m i (omega arith)

-- an item that is marked is whole within the heap
pub marked_inside : {w : ℕ} → Width w → {m : List ℕ} {end : ℕ} (i : ℕ) → end % 8 ≡ 0 → NoMarks w m end → bit_at m i ≡ 1 → at_bit w i + w ≤ end
marked_inside {w} wd {m} {end} i e k s = go (dec_le end (at_bit w i))
  where
    go : Dec (end ≤ at_bit w i) → at_bit w i + w ≤ end
    go (yes h) = absurd (omega (arith, k.from i h))
    go (no h) = at_inside wd i end e (omega arith)
