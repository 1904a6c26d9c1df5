-- Laws of maps of bits.
use Rattle.std.proofs.Common.{ℕ, zero, suc, ◌+◌, ◌-◌, ◌*◌, ◌/◌, ◌%◌, ◌^◌, ◌≤◌, ◌<◌, ◌≡◌, refl, sym, ap, ◌∙◌, List, [], ◌∷◌, ◌++◌, drop, arith, length, get_or, set, replicate, get_or-set_same, get_or-set_other, get_or-append-add, get_or-drop, shr-shr, shl_exact, eqb, eqb-true, Bool, true, false, one-add}
use Rattle.std.proofs.Math.Decide.{dec_lt}
use Rattle.std.proofs.Math.ListN.{get_or-append}
use borrow.Author.Tests.{eqb-false}
use Rattle.std.proofs.Math.Nat
use Rattle.words.specs.Bits.{bit_of, bit_at, marked}

-- the same bit, by steps: what the laws below go by
bits : ℕ → ℕ → ℕ
bits x zero = x % 2
bits x (suc b) = bits (x / 2) b

bits_is : (b x : ℕ) → bits x b ≡ bit_of x b
unfolding bits
bits_is zero x = omega arith
bits_is (suc b) x = bits_is b (x / 2) ∙ ap (λ (n : ℕ). n % 2) (shr-shr x 1 b ∙ ap (λ (n : ℕ). x / 2 ^ n) (one-add b))

-- adding 2 ^ b to a number whose bit b is clear sets that bit, keeps the others, and stays below the width
add_same : (b x : ℕ) → bits x b ≡ 0 → bits (x + 2 ^ b) b ≡ 1
unfolding bits
add_same zero x e = omega arith
add_same (suc b) x e =
    let d : (x + 2 ^ suc b) / 2 ≡ x / 2 + 2 ^ b = omega arith in
    rw d (add_same b (x / 2) e)

add_other : (b j x : ℕ) → bits x b ≡ 0 → (j ≡ b → ⊥) → bits (x + 2 ^ b) j ≡ bits x j
unfolding bits
add_other zero zero x e n = absurd (n refl)
add_other zero (suc j) x e n =
    let d : (x + 2 ^ 0) / 2 ≡ x / 2 = omega arith in
    rw d
add_other (suc b) zero x e n = omega arith
add_other (suc b) (suc j) x e n =
    let d : (x + 2 ^ suc b) / 2 ≡ x / 2 + 2 ^ b = omega arith in
    rw d (add_other b j (x / 2) e (λ q. n (ap suc q)))

add_fits : (b w x : ℕ) → bits x b ≡ 0 → b < w → x < 2 ^ w → x + 2 ^ b < 2 ^ w
unfolding bits
add_fits b zero x e l f = absurd (omega arith)
add_fits zero (suc w) x e l f = omega arith
add_fits (suc b) (suc w) x e l f = omega (arith, add_fits b w (x / 2) e (omega arith) (omega arith))

-- what a shift of 1 gives
pub one_shifted : (b : ℕ) → b < 64 → (1 * 2 ^ b) % 18446744073709551616 ≡ 2 ^ b
one_shifted b l = shl_exact 1 b 64 (omega arith) (omega arith) ∙ omega arith

module _ (m : List ℕ) (i : ℕ) (within : i / 64 < length m) where
  -- a store of v in the word of bit i, read at j: where v has the bits of that word but for bit i
  stored : (v : ℕ) → ((b : ℕ) → (b ≡ i % 64 → ⊥) → bits v b ≡ bits (get_or m (i / 64) 0) b) → (j : ℕ) → (j ≡ i → ⊥) → bit_at (set m (i / 64) v) j ≡ bit_at m j
  unfolding bit_at
  stored v f j n = go (eqb (j / 64) (i / 64)) refl
    where
      go : (t : Bool) → eqb (j / 64) (i / 64) ≡ t → bit_at (set m (i / 64) v) j ≡ bit_at m j
      go true t =
          let e : j / 64 ≡ i / 64 = eqb-true (j / 64) (i / 64) t in
          rw (e, get_or-set_same m (i / 64) v 0) (sym (bits_is (j % 64) v) ∙ f (j % 64) (λ q. n (omega arith)) ∙ bits_is (j % 64) (get_or m (i / 64) 0))
      go false t = ap (λ (x : ℕ). bit_of x (j % 64)) (get_or-set_other m (i / 64) (j / 64) v 0 (eqb-false (j / 64) (i / 64) t))

  pub marked_same : bit_at m i ≡ 0 → bit_at (marked m i) i ≡ 1
  unfolding bit_at marked
  marked_same e =
      rw (get_or-set_same m (i / 64) (get_or m (i / 64) 0 + 2 ^ (i % 64)) 0)
      (sym (bits_is (i % 64) _) ∙ add_same (i % 64) _ (bits_is (i % 64) _ ∙ e))

  pub marked_other : bit_at m i ≡ 0 → (j : ℕ) → (j ≡ i → ⊥) → bit_at (marked m i) j ≡ bit_at m j
  unfolding bit_at marked
  marked_other e = stored _ (λ b. add_other (i % 64) b _ (bits_is (i % 64) _ ∙ e))

-- what the code asks: the sum fits
pub mark_fits : (m : List ℕ) (i : ℕ) → bit_at m i ≡ 0 → get_or m (i / 64) 0 < 2 ^ 64 → get_or m (i / 64) 0 + 2 ^ (i % 64) < 2 ^ 64
unfolding bit_at
mark_fits m i e f = add_fits (i % 64) 64 _ (bits_is (i % 64) _ ∙ e) (omega arith) f

-- a word that is 0 has no bit
zero_clear : (m : List ℕ) (i : ℕ) → ◌≡◌ {A = ℕ} (get_or m (i / 64) 0) 0 → bit_at m i ≡ 0
unfolding bit_at
zero_clear m i e = rw (e, Nat.zero-div) refl

-- every bit of a map of zeros is clear, and every one beyond a map's words
pub zeros_clear : (n i : ℕ) → bit_at (replicate n 0) i ≡ 0
zeros_clear n i = zero_clear (replicate n 0) i (zero_at n (i / 64))
  where
    zero_at : (n k : ℕ) → ◌≡◌ {A = ℕ} (get_or (replicate n 0) k 0) 0
    zero_at zero k = refl
    zero_at (suc n) zero = refl
    zero_at (suc n) (suc k) = zero_at n k

pub beyond_clear : (m : List ℕ) (i : ℕ) → length m ≤ i / 64 → bit_at m i ≡ 0
beyond_clear m i h = zero_clear m i (none_at m (i / 64) h)
  where
    none_at : (m : List ℕ) (k : ℕ) → length m ≤ k → ◌≡◌ {A = ℕ} (get_or m k 0) 0
    none_at [] k h = refl
    none_at (x ∷ xs) zero h = absurd (omega arith)
    none_at (x ∷ xs) (suc k) h = none_at xs k (omega arith)

-- a map in place of the first words of a longer one, which is clear
pub spread_over : (from to : List ℕ) → ((j : ℕ) → bit_at to j ≡ 0) → (j : ℕ) → bit_at (from ++ drop (length from) to) j ≡ bit_at from j
unfolding bit_at
spread_over from to clear j = go (dec_lt (j / 64) (length from))
  where
    go : Dec (j / 64 < length from) → bit_at (from ++ drop (length from) to) j ≡ bit_at from j
    go (yes l) = ap (λ (x : ℕ). bit_of x (j % 64)) (get_or-append from (drop (length from) to) 0 (j / 64) l)
    go (no h) =
        let e : length from + (j / 64 - length from) ≡ j / 64 = omega arith in
        let a : get_or (from ++ drop (length from) to) (j / 64) 0 ≡ get_or to (j / 64) 0 = rw e at (get_or-append-add from (drop (length from) to) (j / 64 - length from) 0 ∙ get_or-drop (length from) to (j / 64 - length from) 0) in
        ap (λ (x : ℕ). bit_of x (j % 64)) a ∙ clear j ∙ sym (beyond_clear from j (omega arith))
