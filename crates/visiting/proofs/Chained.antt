-- Laws of the item lists as they stand in the bytes.
use Rattle.std.proofs.Common.{ℕ, zero, suc, ◌+◌, ◌≤◌, ◌<◌, ◌≡◌, refl, sym, ap, ap₂, ◌∙◌, cond, List, [], ◌∷◌, arith, length, get_or, eqb, eq-eqb, ne_eqb}
use Rattle.std.proofs.Math.Decide.{ℕ_discrete, dec_le}
use Rattle.words.specs.Width.{Width}
use Rattle.words.specs.Word.{word_at}
use Rattle.model.specs.Shape.{shape, item_at}
use Rattle.model.specs.Parts.{free_header, head_at}
use Rattle.model.specs.Layout.{head_of, next_of}
use Rattle.model.specs.Sound.{times}
use Rattle.following.specs.Lists.{FreeItemAt, named, Chain}
use Rattle.visiting.specs.Lists.{Chains}
use Rattle.marking.proofs.Places.{header_is}

module _ {w : ℕ} (wd : Width w) (b : List ℕ) (end c : ℕ) where
  -- from one head there is one list
  pub same_chain : (o : ℕ) (l m : List ℕ) → Chain w b end c o l → Chain w b end c o m → l ≡ m
  unfolding Chain
  same_chain o [] [] h k = refl
  same_chain o [] (y ∷ ys) h k = absurd (k.1.nonzero (sym k.0 ∙ h))
  same_chain o (x ∷ xs) [] h k = absurd (h.1.nonzero (sym h.0 ∙ k))
  same_chain o (x ∷ xs) (y ∷ ys) h k =
      let e : y ≡ x = sym k.0 ∙ h.0 in
      ap₂ (λ (z : ℕ) (zs : List ℕ). z ∷ zs) (sym e) (same_chain (named w b x) xs ys h.2 (rw e at k.2))

  pub chain_item : (o x : ℕ) (l : List ℕ) → Chain w b end c o l → 1 ≤ times x l → FreeItemAt w b end c x
  unfolding Chain times
  chain_item o x [] h k = absurd (omega arith)
  chain_item o x (y ∷ ys) h k = go (ℕ_discrete x y) (chain_item (named w b y) x ys h.2)
    where
      go : Dec (x ≡ y) → (1 ≤ times x ys → FreeItemAt w b end c x) → FreeItemAt w b end c x
      go (yes e) r = rw e h.1
      go (no e) r = r (omega (arith, rw (ne_eqb x y e) at k))

  chain_from : (o x : ℕ) (l : List ℕ) → Chain w b end c o l → 1 ≤ times x l → (m : List ℕ) × Chain w b end c x m × (length m ≤ length l)
  unfolding Chain times
  chain_from o x [] h k = absurd (omega arith)
  chain_from o x (y ∷ ys) h k = go (ℕ_discrete x y) (chain_from (named w b y) x ys h.2)
    where
      go : Dec (x ≡ y) → (1 ≤ times x ys → (m : List ℕ) × Chain w b end c x m × (length m ≤ length ys)) → (m : List ℕ) × Chain w b end c x m × (length m ≤ suc (length ys))
      go (yes e) r = (y ∷ ys, (e, h.1, h.2), omega arith)
      go (no e) r = let z = r (omega (arith, rw (ne_eqb x y e) at k)) in (z.0, z.1, omega (arith, z.2))

  -- its first item does not come again
  chain_once : (o x : ℕ) (l : List ℕ) → Chain w b end c o (x ∷ l) → times x l ≡ 0
  unfolding Chain
  chain_once o x l h = go (dec_le 1 (times x l))
    where
      go : Dec (1 ≤ times x l) → times x l ≡ 0
      go (no n) = omega arith
      go (yes n) =
          let z = chain_from (named w b x) x l h.2 n in
          absurd (omega (arith, z.2, ap length (same_chain x (x ∷ l) z.0 (refl, h.1, h.2) z.1)))

  -- nor does any other
  pub chain_few : (o x : ℕ) (l : List ℕ) → Chain w b end c o l → times x l ≤ 1
  unfolding Chain times
  chain_few o x [] h = omega arith
  chain_few o x (y ∷ ys) h = go (ℕ_discrete x y) (chain_few (named w b y) x ys h.2)
    where
      go : Dec (x ≡ y) → times x ys ≤ 1 → cond (eqb x y) 1 0 + times x ys ≤ 1
      go (yes e) r = rw (eq-eqb x y e) (omega (arith, ap (λ (z : ℕ). times z ys) e, chain_once y y ys (refl, h.1, h.2)))
      go (no e) r = rw (ne_eqb x y e) (omega arith)

  pub chain_head : (o : ℕ) (l : List ℕ) → Chain w b end c o l → o ≡ head_of l
  unfolding Chain head_of
  chain_head o [] h = h
  chain_head o (x ∷ xs) h = h.0

  -- each header names what comes next
  pub chain_next : (o : ℕ) (l : List ℕ) → Chain w b end c o l → (x : ℕ) → 1 ≤ times x l → word_at w b (item_at (shape w) x) ≡ free_header c (next_of x l)
  unfolding Chain times next_of
  chain_next o [] h x k = absurd (omega arith)
  chain_next o (y ∷ ys) h x k = go (ℕ_discrete x y) (chain_next (named w b y) ys h.2 x)
    where
      go : Dec (x ≡ y) → (1 ≤ times x ys → word_at w b (item_at (shape w) x) ≡ free_header c (next_of x ys)) → word_at w b (item_at (shape w) x) ≡ free_header c (cond (eqb x y) (head_of ys) (next_of x ys))
      go (yes e) r = rw (eq-eqb x y e, e) (header_is wd (word_at w b (item_at (shape w) y)) c (head_of ys) h.1.header (chain_head (named w b y) ys h.2))
      go (no e) r = rw (ne_eqb x y e) (r (omega (arith, rw (ne_eqb x y e) at k)))

-- the lists of all classes, and of each
module _ {w : ℕ} (wd : Width w) (b : List ℕ) (end : ℕ) where
  length_from : (c : ℕ) (ls : List (List ℕ)) → Chains w b end c ls → c + length ls ≡ (shape w).classes
  unfolding Chains
  length_from c [] k = omega arith
  length_from c (l ∷ ls) k = omega (arith, length_from (c + 1) ls k.2)

  pub chains_length : (ls : List (List ℕ)) → Chains w b end 0 ls → length ls ≡ (shape w).classes
  chains_length ls k = omega (arith, length_from 0 ls k)

  at_from : (c d : ℕ) (ls : List (List ℕ)) → Chains w b end c ls → c + d < (shape w).classes → Chain w b end (c + d) (word_at w b (head_at (shape w) (c + d))) (get_or ls d [])
  unfolding Chains
  at_from c d [] k h = absurd (omega arith)
  at_from c zero (l ∷ ls) k h = let e : c + 0 ≡ c = omega arith in rw e k.1
  at_from c (suc d) (l ∷ ls) k h = let e : c + suc d ≡ c + 1 + d = omega arith in rw e (at_from (c + 1) d ls k.2 (omega arith))

  pub chains_at : (ls : List (List ℕ)) → Chains w b end 0 ls → (c : ℕ) → c < (shape w).classes → Chain w b end c (word_at w b (head_at (shape w) c)) (get_or ls c [])
  chains_at ls k c h = let e : 0 + c ≡ c = omega arith in rw e at (at_from 0 c ls k (omega arith))

  of_from : (c : ℕ) (ls : List (List ℕ)) → c + length ls ≡ (shape w).classes → ((d : ℕ) → c + d < (shape w).classes → Chain w b end (c + d) (word_at w b (head_at (shape w) (c + d))) (get_or ls d [])) → Chains w b end c ls
  unfolding Chains
  of_from c [] e k = omega arith
  of_from c (l ∷ ls) e k =
      let z : c + 0 ≡ c = omega arith in
      (omega arith, rw z at (k 0 (omega arith)), of_from (c + 1) ls (omega arith) (λ d h. next d (k (suc d) (omega arith))))
    where
      next : (d : ℕ) → Chain w b end (c + suc d) (word_at w b (head_at (shape w) (c + suc d))) (get_or ls d []) → Chain w b end (c + 1 + d) (word_at w b (head_at (shape w) (c + 1 + d))) (get_or ls d [])
      next d q = let y : c + suc d ≡ c + 1 + d = omega arith in rw y at q

  pub chains_of : (ls : List (List ℕ)) → length ls ≡ (shape w).classes → ((c : ℕ) → c < (shape w).classes → Chain w b end c (word_at w b (head_at (shape w) c)) (get_or ls c [])) → Chains w b end 0 ls
  chains_of ls e k = of_from 0 ls (omega arith) (λ d h. let z : 0 + d ≡ d = omega arith in rw z (k d (omega arith)))

  -- the same heads, the same lists
  pub same_chains : (c : ℕ) (ls ms : List (List ℕ)) → Chains w b end c ls → Chains w b end c ms → ls ≡ ms
  unfolding Chains
  same_chains c [] [] h k = refl
  same_chains c [] (m ∷ ms) h k = absurd (omega (arith, k.0))
  same_chains c (l ∷ ls) [] h k = absurd (omega (arith, h.0))
  same_chains c (l ∷ ls) (m ∷ ms) h k = ap₂ (λ (x : List ℕ) (xs : List (List ℕ)). x ∷ xs) (same_chain wd b end c (word_at w b (head_at (shape w) c)) l m h.1 k.1) (same_chains (c + 1) ls ms h.2 k.2)
