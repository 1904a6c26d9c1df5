-- Parts of lists.
use Rattle.std.proofs.Common.{ℕ, zero, suc, ◌+◌, ◌≤◌, ◌<◌, ◌≡◌, refl, sym, ap, ◌∙◌, List, [], ◌∷◌, arith, length, get_or, take, drop, length-drop, ext_get_or, get_or-take, get_or-drop, length-take-le}

-- the beginning of a beginning
pub take_take : (k m : ℕ) (l : List ℕ) → k ≤ m → take k (take m l) ≡ take k l
take_take zero m l h = refl
take_take (suc k) zero l h = absurd (omega arith)
take_take (suc k) (suc m) [] h = refl
take_take (suc k) (suc m) (x ∷ l) h = ap (λ (r : List ℕ). x ∷ r) (take_take k m l (omega arith))

-- bytes that stand at another place in another list
pub part_moved : (b c : List ℕ) (from to n : ℕ) → from + n ≤ length b → to + n ≤ length c → ((i : ℕ) → i < n → get_or c (to + i) 0 ≡ get_or b (from + i) 0) → take n (drop to c) ≡ take n (drop from b)
part_moved b c from to n f t h =
    ext_get_or 0 (take n (drop to c)) (take n (drop from b)) (there ∙ sym here) (λ i l. at i (omega (arith, l, there)))
  where
    there : length (take n (drop to c)) ≡ n
    there = length-take-le n (drop to c) (omega (arith, length-drop to c))

    here : length (take n (drop from b)) ≡ n
    here = length-take-le n (drop from b) (omega (arith, length-drop from b))

    at : (i : ℕ) → i < n → get_or (take n (drop to c)) i 0 ≡ get_or (take n (drop from b)) i 0
    at i l = get_or-take n (drop to c) i 0 l ∙ get_or-drop to c i 0 ∙ h i l ∙ sym (get_or-drop from b i 0) ∙ sym (get_or-take n (drop from b) i 0 l)
