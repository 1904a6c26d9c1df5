-- Laws of all item lists, one after the other: what stands on them is on one list, once.
use Rattle.std.proofs.Common.{ℕ, zero, suc, ◌+◌, ◌≤◌, ◌<◌, ◌≡◌, refl, ◌∙◌, List, [], ◌∷◌, arith, get_or}
use Rattle.std.proofs.Math.Decide.{dec_le}
use Rattle.words.specs.Width.{Width}
use Rattle.words.specs.Word.{word_at}
use Rattle.model.specs.Shape.{shape, item_at}
use Rattle.model.specs.Parts.{class_in, head_at}
use Rattle.model.specs.Sound.{times}
use Rattle.model.proofs.pictures.Drawn.{times_append}
use Rattle.model.proofs.Sizes.{class_few}
use Rattle.following.specs.Lists.{FreeItemAt, Chain}
use Rattle.visiting.specs.Lists.{Chains, flat}
use Rattle.visiting.proofs.Chained.{chain_item, chain_few, chains_at}

module _ {w : ℕ} (wd : Width w) (b : List ℕ) (x : ℕ) where
  -- the class that the header at offset x says
  abbrev pub class : ℕ
  class = class_in (shape w) (word_at w b (item_at (shape w) x))

  module _ (end : ℕ) where
    none_chain : (c o : ℕ) (l : List ℕ) → Chain w b end c o l → (c ≡ class → ⊥) → times x l ≡ 0
    none_chain c o l h n = go (dec_le 1 (times x l))
      where
        go : Dec (1 ≤ times x l) → times x l ≡ 0
        go (yes i) = absurd (n (omega (arith, (chain_item wd b end c o x l h i).header)))
        go (no i) = omega arith

    -- the items at x on all lists are those on the list of that class
    flat_none : (c : ℕ) (ls : List (List ℕ)) → Chains w b end c ls → class < c → times x (flat ls) ≡ 0
    unfolding Chains flat times
    flat_none c [] k h = refl
    flat_none c (l ∷ ls) k h = times_append x l (flat ls) ∙ omega (arith, flat_none (c + 1) ls k.2 (omega arith), none_chain c (word_at w b (head_at (shape w) c)) l k.1 (λ e. omega arith))

    flat_from : (c d : ℕ) (ls : List (List ℕ)) → Chains w b end c ls → c + d ≡ class → times x (flat ls) ≡ times x (get_or ls d [])
    unfolding Chains flat
    flat_from c d [] k e = absurd (omega (arith, e, class_few wd (word_at w b (item_at (shape w) x))))
    flat_from c zero (l ∷ ls) k e = times_append x l (flat ls) ∙ omega (arith, flat_none (c + 1) ls k.2 (omega arith))
    flat_from c (suc d) (l ∷ ls) k e = times_append x l (flat ls) ∙ omega (arith, flat_from (c + 1) d ls k.2 (omega arith), none_chain c (word_at w b (head_at (shape w) c)) l k.1 (λ z. omega arith))

    pub flat_class : (ls : List (List ℕ)) → Chains w b end 0 ls → times x (flat ls) ≡ times x (get_or ls class [])
    flat_class ls k = flat_from 0 class ls k (omega arith)

    -- an item on the lists, and it is there once
    pub flat_item : (ls : List (List ℕ)) → Chains w b end 0 ls → 1 ≤ times x (flat ls) → FreeItemAt w b end class x
    flat_item ls k q = chain_item wd b end class (word_at w b (head_at (shape w) class)) x (get_or ls class []) (chains_at wd b end ls k class (class_few wd (word_at w b (item_at (shape w) x)))) (omega (arith, q, flat_class ls k))

    pub flat_once : (ls : List (List ℕ)) → Chains w b end 0 ls → times x (flat ls) ≤ 1
    flat_once ls k = omega (arith, flat_class ls k, chain_few wd b end class (word_at w b (head_at (shape w) class)) x (get_or ls class []) (chains_at wd b end ls k class (class_few wd (word_at w b (item_at (shape w) x)))))
