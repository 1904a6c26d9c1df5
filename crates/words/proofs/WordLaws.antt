-- Laws of words in lists of bytes, at every width.
use Rattle.std.proofs.Common.{ℕ, zero, suc, ◌+◌, ◌*◌, ◌/◌, ◌%◌, ◌^◌, ◌≤◌, ◌<◌, ◌≡◌, refl, sym, ap₂, ◌∙◌, List, [], ◌∷◌, arith, length, get_or, set, length-set, get_or-set_same, get_or-set_other, ext_get_or}
use Rattle.std.proofs.Math.Decide.{ℕ_discrete, dec_le, dec_lt}
use Rattle.words.specs.Word.{word_at, put, Bytes}

pub length_put : (w : ℕ) (b : List ℕ) (p v : ℕ) → length (put w b p v) ≡ length b
unfolding put
length_put zero b p v = refl
length_put (suc w) b p v = length_put w (set b p (v % 256)) (p + 1) (v / 256) ∙ length-set b p (v % 256)

-- a byte outside the word stays
pub put_out : (w : ℕ) (b : List ℕ) (p v i : ℕ) → (p ≤ i → i < p + w → ⊥) → get_or (put w b p v) i 0 ≡ get_or b i 0
unfolding put
put_out zero b p v i h = refl
put_out (suc w) b p v i h =
    put_out w (set b p (v % 256)) (p + 1) (v / 256) i (λ l m. h (omega arith) (omega arith))
    ∙ get_or-set_other b p i (v % 256) 0 (λ e. h (omega arith) (omega arith))

-- the word reads what was put
pub word_same : (w : ℕ) (b : List ℕ) (p v : ℕ) → p + w ≤ length b → v < 256 ^ w → word_at w (put w b p v) p ≡ v
unfolding put word_at
word_same zero b p v h f = omega arith
word_same (suc w) b p v h f =
    let x = put_out w (set b p (v % 256)) (p + 1) (v / 256) p (λ l m. omega arith) ∙ get_or-set_same b p (v % 256) 0 (omega arith) in
    let y = word_same w (set b p (v % 256)) (p + 1) (v / 256) (simp length-set (omega arith)) (omega arith) in
    omega (arith, x, y)

pub word_agree : (w : ℕ) (b c : List ℕ) (p : ℕ) → ((i : ℕ) → p ≤ i → i < p + w → get_or b i 0 ≡ get_or c i 0) → word_at w b p ≡ word_at w c p
unfolding word_at
word_agree zero b c p h = refl
word_agree (suc w) b c p h =
    ap₂ (λ (x y : ℕ). x + 256 * y) (h p (omega arith) (omega arith)) (word_agree w b c (p + 1) (λ i l m. h i (omega arith) (omega arith)))

-- a word that does not overlap stays
pub word_other : (w : ℕ) (b : List ℕ) (q v p : ℕ) → (p < q + w → q < p + w → ⊥) → word_at w (put w b q v) p ≡ word_at w b p
word_other w b q v p h = word_agree w (put w b q v) b p (λ i l m. put_out w b q v i (λ l' m'. h (omega arith) (omega arith)))

-- what was put stands there, whatever stood there before
pub put_same : (w : ℕ) (b c : List ℕ) (p v i : ℕ) → i < length b → i < length c → p ≤ i → i < p + w → get_or (put w c p v) i 0 ≡ get_or (put w b p v) i 0
unfolding put
put_same zero b c p v i h k l m = absurd (omega arith)
put_same (suc w) b c p v i h k l m = go (ℕ_discrete i p) (put_same w (set b p (v % 256)) (set c p (v % 256)) (p + 1) (v / 256) i (simp length-set h) (simp length-set k))
  where
    first : (d : List ℕ) → i ≡ p → p < length d → get_or (put w (set d p (v % 256)) (p + 1) (v / 256)) i 0 ≡ v % 256
    first d f j = put_out w (set d p (v % 256)) (p + 1) (v / 256) i (λ x y. omega arith) ∙ rw f (get_or-set_same d p (v % 256) 0 j)

    go : Dec (i ≡ p) → (p + 1 ≤ i → i < p + 1 + w → get_or (put w (set c p (v % 256)) (p + 1) (v / 256)) i 0 ≡ get_or (put w (set b p (v % 256)) (p + 1) (v / 256)) i 0)
        → get_or (put w (set c p (v % 256)) (p + 1) (v / 256)) i 0 ≡ get_or (put w (set b p (v % 256)) (p + 1) (v / 256)) i 0
    go (yes f) r = first c f (omega arith) ∙ sym (first b f (omega arith))
    go (no f) r = r (omega arith) (omega arith)

-- so the second of two words at one place stays, and words at places apart are put in either order
pub put_over : (w : ℕ) (b : List ℕ) (p x y : ℕ) → put w (put w b p x) p y ≡ put w b p y
put_over w b p x y = ext_get_or 0 (put w (put w b p x) p y) (put w b p y) (length_put w (put w b p x) p y ∙ length_put w b p x ∙ sym (length_put w b p y)) (λ i l. at i (rw (length_put, length_put) at l) (dec_le p i) (dec_lt i (p + w)))
  where
    at : (i : ℕ) → i < length b → Dec (p ≤ i) → Dec (i < p + w) → get_or (put w (put w b p x) p y) i 0 ≡ get_or (put w b p y) i 0
    at i l (yes j) (yes k) = put_same w b (put w b p x) p y i l (rw (length_put w b p x) l) j k
    at i l (yes j) (no k) = put_out w (put w b p x) p y i (λ _ m. k m) ∙ put_out w b p x i (λ _ m. k m) ∙ sym (put_out w b p y i (λ _ m. k m))
    at i l (no j) d = put_out w (put w b p x) p y i (λ m _. j m) ∙ put_out w b p x i (λ m _. j m) ∙ sym (put_out w b p y i (λ m _. j m))

pub put_swap : (w : ℕ) (b : List ℕ) (p x q y : ℕ) → p + w ≤ q → put w (put w b p x) q y ≡ put w (put w b q y) p x
put_swap w b p x q y far =
    ext_get_or 0 (put w (put w b p x) q y) (put w (put w b q y) p x) (length_put w (put w b p x) q y ∙ length_put w b p x ∙ sym (length_put w b q y) ∙ sym (length_put w (put w b q y) p x)) (λ i l. at i (rw (length_put, length_put) at l) (dec_le q i) (dec_lt i (p + w)))
  where
    at : (i : ℕ) → i < length b → Dec (q ≤ i) → Dec (i < p + w) → get_or (put w (put w b p x) q y) i 0 ≡ get_or (put w (put w b q y) p x) i 0
    at i l (yes j) d = go (dec_lt i (q + w))
      where
        go : Dec (i < q + w) → get_or (put w (put w b p x) q y) i 0 ≡ get_or (put w (put w b q y) p x) i 0
        go (yes k) = put_same w b (put w b p x) q y i l (rw (length_put w b p x) l) j k ∙ sym (put_out w (put w b q y) p x i (λ _ m. omega arith))
        go (no k) = put_out w (put w b p x) q y i (λ _ m. k m) ∙ put_out w b p x i (λ _ m. omega arith) ∙ sym (put_out w b q y i (λ _ m. k m)) ∙ sym (put_out w (put w b q y) p x i (λ _ m. omega arith))
    at i l (no j) (no k) = put_out w (put w b p x) q y i (λ m _. j m) ∙ put_out w b p x i (λ _ m. k m) ∙ sym (put_out w b q y i (λ m _. j m)) ∙ sym (put_out w (put w b q y) p x i (λ _ m. k m))
    at i l (no j) (yes k) = go (dec_le p i)
      where
        go : Dec (p ≤ i) → get_or (put w (put w b p x) q y) i 0 ≡ get_or (put w (put w b q y) p x) i 0
        go (yes n) = put_out w (put w b p x) q y i (λ m _. j m) ∙ sym (put_same w b (put w b q y) p x i l (rw (length_put w b q y) l) n k)
        go (no n) = put_out w (put w b p x) q y i (λ m _. j m) ∙ put_out w b p x i (λ m _. n m) ∙ sym (put_out w b q y i (λ m _. j m)) ∙ sym (put_out w (put w b q y) p x i (λ m _. n m))

pub bytes_put : (w : ℕ) (b : List ℕ) (p v : ℕ) → Bytes b → Bytes (put w b p v)
unfolding put
bytes_put zero b p v h = h
bytes_put (suc w) b p v h = bytes_put w (set b p (v % 256)) (p + 1) (v / 256) (bytes_set b p v h)
  where
    at_zero : (x : ℕ) (xs : List ℕ) (v : ℕ) → Bytes (x ∷ xs) → Bytes ((v % 256) ∷ xs)
    at_zero x xs v h zero = omega arith
    at_zero x xs v h (suc i) = h (suc i)

    at_suc : (x : ℕ) (xs ys : List ℕ) → Bytes (x ∷ xs) → Bytes ys → Bytes (x ∷ ys)
    at_suc x xs ys h k zero = h zero
    at_suc x xs ys h k (suc i) = k i

    bytes_set : (b : List ℕ) (p v : ℕ) → Bytes b → Bytes (set b p (v % 256))
    bytes_set [] p v h = h
    bytes_set (x ∷ xs) zero v h = at_zero x xs v h
    bytes_set (x ∷ xs) (suc p) v h = at_suc x xs (set xs p (v % 256)) h (bytes_set xs p v (λ i. h (suc i)))

pub word_fits : (w : ℕ) (b : List ℕ) (p : ℕ) → Bytes b → word_at w b p < 256 ^ w
unfolding word_at
word_fits zero b p h = omega arith
word_fits (suc w) b p h = omega (arith, h p, word_fits w b (p + 1) h)

-- to put the word that stands in c gives c's bytes there
pub put_in : (w : ℕ) (b c : List ℕ) (p i : ℕ) → Bytes c → i < length b → p ≤ i → i < p + w → get_or (put w b p (word_at w c p)) i 0 ≡ get_or c i 0
unfolding put word_at
put_in zero b c p i k h l m = absurd (omega arith)
put_in (suc w) b c p i k h l m =
    let low : (get_or c p 0 + 256 * word_at w c (p + 1)) % 256 ≡ get_or c p 0 = omega (arith, k p) in
    let high : (get_or c p 0 + 256 * word_at w c (p + 1)) / 256 ≡ word_at w c (p + 1) = omega (arith, k p) in
    rw (low, high) (go (ℕ_discrete i p) (put_in w (set b p (get_or c p 0)) c (p + 1) i k (simp length-set h)))
  where
    go : Dec (i ≡ p) → (p + 1 ≤ i → i < p + 1 + w → get_or (put w (set b p (get_or c p 0)) (p + 1) (word_at w c (p + 1))) i 0 ≡ get_or c i 0) → get_or (put w (set b p (get_or c p 0)) (p + 1) (word_at w c (p + 1))) i 0 ≡ get_or c i 0
    go (yes e) r =
        put_out w (set b p (get_or c p 0)) (p + 1) (word_at w c (p + 1)) i (λ l' m'. omega arith)
        ∙ rw e (get_or-set_same b p (get_or c p 0) 0 (omega arith))
    go (no e) r = r (omega arith) (omega arith)
