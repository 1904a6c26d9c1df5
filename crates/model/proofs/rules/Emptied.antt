-- Where nothing is live and no page is empty, one free block is left: the layout is a fresh heap's.
use Rattle.std.proofs.Common.{ℕ, ◌+◌, ◌-◌, ◌<◌, ◌≡◌, refl, sym, ap, ap₂, ◌∙◌, List, [], ◌∷◌, arith, get_or, replicate, ext_get_or, eq-eqb}
use mathlib.Core.List.{nil≢cons, append-eq-nil_iff}
use Rattle.std.proofs.Math.ListN.{length-replicate, get_or-replicate}
use Rattle.model.specs.Shape.{Shape, start, item_size}
use Rattle.model.specs.Parts.{first_item_at}
use Rattle.model.specs.Layout.{Slot, idle, held, Use, variable, page, Block, free, used, Layout, size_of, ends}
use Rattle.model.specs.Sound.{times, Apart, idle_in, idle_items, Valid}
use Rattle.model.specs.Rules.{fresh}
use Rattle.model.specs.Live.{slots_live, use_live, live_from, live}
use Rattle.model.specs.Reading.{total, held_in, of_block}
use Rattle.model.specs.Sweeping.{is_empty, empties}

-- a list in which nothing stands is empty
nothing_listed : (l : List ℕ) → ((o : ℕ) → times o l ≡ 0) → l ≡ []
unfolding times
nothing_listed [] z = refl
nothing_listed (x ∷ xs) z = absurd (omega (arith, rw (eq-eqb x x refl) at (z x)))

module _ (S : Shape) where
  -- a page in which nothing is live has no live item
  none_held : (c p : ℕ) (ss : List Slot) → slots_live S c p ss ≡ [] → held_in ss ≡ 0
  unfolding slots_live held_in
  none_held c p [] e = refl
  none_held c p (idle ∷ ss) e = none_held c (p + item_size S c) ss e
  none_held c p (held n ∷ ss) e = absurd (nil≢cons (sym e))

  -- so a block in use holds something live, or is an empty page
  holds_some : (p : ℕ) (u : Use) → use_live S p u ≡ [] → is_empty (used u) ≡ 0 → ⊥
  unfolding use_live of_block
  holds_some p (variable s) e z = nil≢cons (sym e)
  holds_some p (page c k ss) e z = omega (arith, rw (eq-eqb (held_in ss) 0 (none_held c (first_item_at S p) ss e)) at z)

  one_left : (p : ℕ) (bs : List Block) → live_from S p bs ≡ [] → empties bs ≡ 0 → Apart 0 bs → p < ends S p bs → bs ≡ free (ends S p bs - p) ∷ []
  unfolding live_from total of_block Apart ends size_of
  one_left p [] e z a l = absurd (omega arith)
  one_left p (free s ∷ []) e z a l = ap (λ (t : ℕ). free t ∷ []) (omega arith)
  one_left p (free s ∷ free t ∷ bs) e z a l = absurd (omega (arith, a.1.0))
  one_left p (free s ∷ used u ∷ bs) e z a l = absurd (holds_some (p + s) u (append-eq-nil_iff.0 e).0 (omega (arith, z)))
  one_left p (used u ∷ bs) e z a l = absurd (holds_some p u (append-eq-nil_iff.0 e).0 (omega (arith, z)))

  -- THE LAW
  pub emptied_fresh : (end : ℕ) (L : Layout) → Valid S end L → start S < end → live S L ≡ [] → empties L.blocks ≡ 0 → L ≡ fresh S end
  unfolding idle_items idle_in times
  emptied_fresh end L v l none z = ap₂ (λ (bs : List Block) (ls : List (List ℕ)). record { blocks = bs; lists = ls }) blocks lists
    where
      blocks : L.blocks ≡ free (end - start S) ∷ []
      blocks = one_left (start S) L.blocks none z v.apart (omega (arith, v.fills, l)) ∙ ap (λ (e : ℕ). free (e - start S) ∷ []) v.fills

      empty : (c : ℕ) → c < S.classes → get_or L.lists c [] ≡ []
      empty c k = nothing_listed (get_or L.lists c []) (λ o. v.listed c o k ∙ ap (λ (bs : List Block). times o (idle_items S c (start S) bs)) blocks)

      lists : L.lists ≡ replicate S.classes []
      lists =
          ext_get_or [] L.lists (replicate S.classes []) (v.classes ∙ sym (length-replicate S.classes []))
          (λ c k. let m = rw v.classes at k in empty c m ∙ sym (get_or-replicate S.classes c [] [] m))
