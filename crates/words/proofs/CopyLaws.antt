-- Laws of copied bytes.
use Rattle.std.proofs.Common.{ℕ, ◌+◌, ◌-◌, ◌≤◌, ◌<◌, ◌≡◌, refl, sym, ap, ◌∙◌, ◌⊎◌, ⊎_elim, List, ◌++◌, arith, length, get_or, set, take, drop, length-set, length-append, length-take, length-drop, ext_get_or, get_or-set_same, get_or-set_other, get_or-take, get_or-drop, get_or-append-add, length-take-le}
use Rattle.std.proofs.Math.Decide.{dec_lt}
use Rattle.std.proofs.Math.ListN.{get_or-append}
use Rattle.words.specs.Copy.{pasted, copied, Room}

-- parts of two lists are equal where the lists agree there
pub part_agree : (b c : List ℕ) (a n : ℕ) → length b ≡ length c → ((i : ℕ) → a ≤ i → i < a + n → get_or b i 0 ≡ get_or c i 0) → take n (drop a b) ≡ take n (drop a c)
part_agree b c a n e h =
    ext_get_or 0 (take n (drop a b)) (take n (drop a c)) (simp (length-take, length-drop) (rw e refl))
    (λ i l. at i (omega (arith, l, length-take n (drop a b))))
  where
    at : (i : ℕ) → i < n → get_or (take n (drop a b)) i 0 ≡ get_or (take n (drop a c)) i 0
    at i l =
        get_or-take n (drop a b) i 0 l ∙ get_or-drop a b i 0 ∙ h (a + i) (omega arith) (omega arith) ∙ sym (get_or-drop a c i 0) ∙ sym (get_or-take n (drop a c) i 0 l)

module _ (s b : List ℕ) (from to n : ℕ) (p : from + n ≤ length s) (t : to + n ≤ length b) where
  part_length : length (take n (drop from s)) ≡ n
  part_length = length-take-le n (drop from s) (simp length-drop (omega arith))

  low_length : length (take to b) ≡ to
  low_length = length-take-le to b (omega arith)

  length_pasted : length (pasted s from to n b) ≡ length b
  length_pasted =
      length-append (take to b) (take n (drop from s) ++ drop (to + n) b)
      ∙ omega (arith, low_length, part_length, length-append (take n (drop from s)) (drop (to + n) b), length-drop (to + n) b)

  -- a byte where the copy stands, and a byte elsewhere
  pasted_in : (i : ℕ) → i < n → get_or (pasted s from to n b) (to + i) 0 ≡ get_or s (from + i) 0
  pasted_in i l =
      let e : to + i ≡ length (take to b) + i = omega (arith, low_length) in
      ap (λ (k : ℕ). get_or (pasted s from to n b) k 0) e
      ∙ get_or-append-add (take to b) (take n (drop from s) ++ drop (to + n) b) i 0
      ∙ get_or-append (take n (drop from s)) (drop (to + n) b) 0 i (omega (arith, part_length))
      ∙ get_or-take n (drop from s) i 0 l
      ∙ get_or-drop from s i 0

  pasted_out : (i : ℕ) → (to ≤ i → i < to + n → ⊥) → get_or (pasted s from to n b) i 0 ≡ get_or b i 0
  pasted_out i h = go (dec_lt i to)
    where
      go : Dec (i < to) → get_or (pasted s from to n b) i 0 ≡ get_or b i 0
      go (yes l) = get_or-append (take to b) (take n (drop from s) ++ drop (to + n) b) 0 i (omega (arith, low_length)) ∙ get_or-take to b i 0 l
      go (no m) =
          let g : to + n ≤ i = ge (dec_lt i (to + n)) m in
          let e : i ≡ length (take to b) + (length (take n (drop from s)) + (i - (to + n))) = omega (arith, low_length, part_length) in
          ap (λ (k : ℕ). get_or (pasted s from to n b) k 0) e
          ∙ get_or-append-add (take to b) (take n (drop from s) ++ drop (to + n) b) (length (take n (drop from s)) + (i - (to + n))) 0
          ∙ get_or-append-add (take n (drop from s)) (drop (to + n) b) (i - (to + n)) 0
          ∙ get_or-drop (to + n) b (i - (to + n)) 0
          ∙ ap (λ (k : ℕ). get_or b k 0) (omega arith)
        where
          ge : Dec (i < to + n) → (i < to → ⊥) → to + n ≤ i
          ge (yes l) m = absurd (h (omega arith) l)
          ge (no l) m = omega arith

module _ (b : List ℕ) (from to n : ℕ) (s : from + n ≤ length b) (t : to + n ≤ length b) where
  pub length_copied : length (copied from to n b) ≡ length b
  length_copied = length_pasted b b from to n s t

  pub copied_in : (i : ℕ) → i < n → get_or (copied from to n b) (to + i) 0 ≡ get_or b (from + i) 0
  copied_in = pasted_in b b from to n s t

  pub copied_out : (i : ℕ) → (to ≤ i → i < to + n → ⊥) → get_or (copied from to n b) i 0 ≡ get_or b i 0
  copied_out = pasted_out b b from to n s t

-- the copy goes on: the first i bytes of s from `from` on stand at `to`, and all else is as it was
pub record Pasting (s : List ℕ) (from to n : ℕ) (b₀ b : List ℕ) (i : ℕ) : Type 0 where
  pub source : from + n ≤ length s
  pub target : to + n ≤ length b₀
  pub most : i ≤ n
  pub same : length b ≡ length b₀
  pub done : (k : ℕ) → k < i → get_or b (to + k) 0 ≡ get_or s (from + k) 0
  pub rest : (k : ℕ) → (to ≤ k → k < to + i → ⊥) → get_or b k 0 ≡ get_or b₀ k 0

pub paste_start : (s : List ℕ) (from to n : ℕ) (b : List ℕ) → from + n ≤ length s → to + n ≤ length b → Pasting s from to n b b 0
paste_start s from to n b p t = record { source = p; target = t; most = omega arith; same = refl; done = λ k l. absurd (omega arith); rest = λ k h. refl }

module _ {s : List ℕ} {from to n : ℕ} {b₀ b : List ℕ} {i : ℕ} (c : Pasting s from to n b₀ b i) where
  -- m bytes from j on: all that b' says of them
  paste_more : (j m : ℕ) → j ≤ i → i ≤ j + m → j + m ≤ n → (b' : List ℕ) → length b' ≡ length b → ((k : ℕ) → k < m → get_or b' (to + j + k) 0 ≡ get_or s (from + j + k) 0) → ((k : ℕ) → (to + j ≤ k → k < to + j + m → ⊥) → get_or b' k 0 ≡ get_or b k 0)
      → Pasting s from to n b₀ b' (j + m)
  paste_more j m low high l b' e inside outside =
      record {
        source = c.source;
        target = c.target;
        most = l;
        same = e ∙ c.same;
        done = λ k q. at k q (dec_lt k j);
        rest = λ k h. outside k (λ p q. h (omega arith) (omega arith)) ∙ c.rest k (λ p q. h p (omega arith));
      }
    where
      at : (k : ℕ) → k < j + m → Dec (k < j) → get_or b' (to + k) 0 ≡ get_or s (from + k) 0
      at k l (yes q) = outside (to + k) (λ x y. omega arith) ∙ c.done k (omega arith)
      at k l (no q) =
          let f : to + j + (k - j) ≡ to + k = omega arith in
          let g : from + j + (k - j) ≡ from + k = omega arith in
          rw (f, g) at (inside (k - j) (omega arith))

  pub paste_turn : i < n → (v : ℕ) → v ≡ get_or s (from + i) 0 → Pasting s from to n b₀ (set b (to + i) v) (i + 1)
  paste_turn l v e = paste_more i 1 (omega arith) (omega arith) (omega arith) (set b (to + i) v) (length-set b (to + i) v) one (λ k h. get_or-set_other b (to + i) k v 0 (λ q. h (omega arith) (omega arith)))
    where
      one : (k : ℕ) → k < 1 → get_or (set b (to + i) v) (to + i + k) 0 ≡ get_or s (from + i + k) 0
      one k m =
          let z : k ≡ 0 = omega arith in
          let f : to + i + k ≡ to + i = omega arith in
          let g : from + i + k ≡ from + i = omega arith in
          rw (f, g) (get_or-set_same b (to + i) v 0 (omega (arith, c.target, c.same)) ∙ e)

  pub paste_done : i ≡ n → b ≡ pasted s from to n b₀
  paste_done e =
      ext_get_or 0 b (pasted s from to n b₀) (c.same ∙ sym (length_pasted s b₀ from to n c.source c.target)) (λ k q. at k (dec_lt k to) (dec_lt k (to + n)))
    where
      at : (k : ℕ) → Dec (k < to) → Dec (k < to + n) → get_or b k 0 ≡ get_or (pasted s from to n b₀) k 0
      at k (yes p) d = c.rest k (λ x y. omega arith) ∙ sym (pasted_out s b₀ from to n c.source c.target k (λ x y. omega arith))
      at k (no p) (no q) = c.rest k (λ x y. q (omega arith)) ∙ sym (pasted_out s b₀ from to n c.source c.target k (λ x y. q y))
      at k (no p) (yes q) =
          let f : to + (k - to) ≡ k = omega arith in
          let x : get_or b (to + (k - to)) 0 ≡ get_or s (from + (k - to)) 0 = c.done (k - to) (omega arith) in
          let y : get_or (pasted s from to n b₀) (to + (k - to)) 0 ≡ get_or s (from + (k - to)) 0 = pasted_in s b₀ from to n c.source c.target (k - to) (omega arith) in
          rw f at (x ∙ sym y)

-- within one list: what is copied is not yet overwritten, as the places do not overlap
pub record Copying (b₀ : List ℕ) (from to n : ℕ) (b : List ℕ) (i : ℕ) : Type 0 where
  pub apart : (from + n ≤ to) ⊎ (to + n ≤ from)
  pub pasting : Pasting b₀ from to n b₀ b i

pub copy_start : (b : List ℕ) (from to n : ℕ) → Room (length b) from to n → Copying b from to n b 0
copy_start b from to n r = record { apart = r.apart; pasting = paste_start b from to n b r.source r.target }

module _ {b₀ : List ℕ} {from to n : ℕ} {b : List ℕ} {i : ℕ} (c : Copying b₀ from to n b i) where
  unread : (k : ℕ) → k < n → get_or b (from + k) 0 ≡ get_or b₀ (from + k) 0
  unread k l = c.pasting.rest (from + k) (λ p q. ⊎_elim (λ e. omega (arith, c.pasting.most)) (λ e. omega (arith, c.pasting.most)) c.apart)

  pub copy_turn : i < n → Copying b₀ from to n (set b (to + i) (get_or b (from + i) 0)) (i + 1)
  copy_turn l = record { apart = c.apart; pasting = paste_turn c.pasting l (get_or b (from + i) 0) (unread i l) }

  -- a chunk of m bytes from j on
  pub copy_more : (j m : ℕ) → j ≤ i → i ≤ j + m → j + m ≤ n → (b' : List ℕ) → b' ≡ copied (from + j) (to + j) m b → Copying b₀ from to n b' (j + m)
  copy_more j m low high l b' e =
      let p : from + j + m ≤ length b = omega (arith, c.pasting.source, c.pasting.same) in
      let t : to + j + m ≤ length b = omega (arith, c.pasting.target, c.pasting.same) in
      record {
        apart = c.apart;
        pasting = paste_more c.pasting j m low high l b' (ap length e ∙ length_copied b (from + j) (to + j) m p t)
            (λ k q. ap (λ (x : List ℕ). get_or x (to + j + k) 0) e ∙ copied_in b (from + j) (to + j) m p t k q ∙ of k q)
            (λ k h. ap (λ (x : List ℕ). get_or x k 0) e ∙ copied_out b (from + j) (to + j) m p t k h);
      }
    where
      of : (k : ℕ) → k < m → get_or b (from + j + k) 0 ≡ get_or b₀ (from + j + k) 0
      of k q =
          let f : from + (j + k) ≡ from + j + k = omega arith in
          rw f at (unread (j + k) (omega arith))

  pub copy_done : i ≡ n → b ≡ copied from to n b₀
  copy_done e = paste_done c.pasting e
