-- The lowest page with no live item: where it stands, and that there is one where any is counted.
use Rattle.std.proofs.Common.{ℕ, ◌≤◌, ◌≡◌, refl, ap, cond, List, [], ◌∷◌, ◌++◌, arith, eqb, eq-eqb, ne_eqb}
use Rattle.std.proofs.Math.Option.{Option, none, some}
use Rattle.std.proofs.Math.Decide.{ℕ_discrete}
use Rattle.model.specs.Shape.{Shape}
use Rattle.model.specs.Layout.{Slot, variable, page, Block, free, used, use_size, size_of}
use Rattle.model.specs.Rules.{Spot, after}
use Rattle.model.specs.Reading.{total, held_in, of_block}
use Rattle.model.specs.Sweeping.{is_empty, empties, empty_page}

module _ (S : Shape) where
  -- the page of the spot t has no live item, and no page before it is without one
  pub record EmptyAt (bs : List Block) (t : Spot) : Type 0 where
    pub class : ℕ
    pub spare : ℕ
    pub slots : List Slot
    pub blocks : bs ≡ t.pre ++ (used (page class spare slots) ∷ t.post)
    pub size : use_size S (page class spare slots) ≡ t.size
    pub bare : held_in slots ≡ 0
    pub lowest : empties t.pre ≡ 0

  EmptyIs : List Block → Option Spot → Type 0
  EmptyIs bs none = empties bs ≡ 0
  EmptyIs bs (some t) = EmptyAt bs t

  empty_after : (b : Block) (bs : List Block) → is_empty b ≡ 0 → (o : Option Spot) → EmptyIs bs o → EmptyIs (b ∷ bs) (after b o)
  unfolding EmptyIs total
  empty_after b bs z none h = omega (arith, z, h)
  empty_after b bs z (some t) h =
      record { class = h.class; spare = h.spare; slots = h.slots; blocks = ap (λ (l : List Block). b ∷ l) h.blocks; size = h.size; bare = h.bare; lowest = omega (arith, z, h.lowest) }

  empty_is : (bs : List Block) → EmptyIs bs (empty_page S bs)
  unfolding empty_page of_block total size_of
  empty_is [] = unfold EmptyIs in refl
  empty_is (free s ∷ bs) = empty_after (free s) bs refl (empty_page S bs) (empty_is bs)
  empty_is (used (variable s) ∷ bs) = empty_after (used (variable s)) bs refl (empty_page S bs) (empty_is bs)
  empty_is (used (page c k ss) ∷ bs) = go (ℕ_discrete (held_in ss) 0) (empty_is bs)
    where
      go : Dec (held_in ss ≡ 0) → EmptyIs bs (empty_page S bs)
          → EmptyIs (used (page c k ss) ∷ bs) (cond (eqb (is_empty (used (page c k ss))) 1) (some (record { pre = []; size = use_size S (page c k ss); post = bs })) (after (used (page c k ss)) (empty_page S bs)))
      go (yes e) r = rw (eq-eqb (held_in ss) 0 e) (unfold EmptyIs in record { class = c; spare = k; slots = ss; blocks = refl; size = refl; bare = e; lowest = refl })
      go (no e) r = rw (ne_eqb (held_in ss) 0 e) (empty_after (used (page c k ss)) bs (rw (ne_eqb (held_in ss) 0 e) refl) (empty_page S bs) r)

  -- a page with no live item, behind blocks of which none is such a page, is the one that the rule finds
  pub empty_at : (pre : List Block) (x : Block) (post : List Block) → empties pre ≡ 0 → is_empty x ≡ 1 → empty_page S (pre ++ (x ∷ post)) ≡ some (record { pre = pre; size = size_of S x; post = post })
  unfolding empty_page total
  empty_at [] x post z e = rw e refl
  empty_at (b ∷ pre) x post z e =
      let none : is_empty b ≡ 0 = omega arith in
      rw (none, empty_at pre x post (omega arith) e) refl

  -- THE LAWS: what the rule finds is the lowest; where it finds none there is none; and where there is one it finds one
  pub empty_some : {bs : List Block} {t : Spot} → empty_page S bs ≡ some t → EmptyAt bs t
  unfolding EmptyIs
  empty_some {bs} {t} e = rw e at (empty_is bs)

  pub empty_none : (bs : List Block) → empty_page S bs ≡ none → empties bs ≡ 0
  unfolding EmptyIs
  empty_none bs e = rw e at (empty_is bs)

  pub some_empty : (bs : List Block) → 1 ≤ empties bs → (t : Spot) × (empty_page S bs ≡ some t)
  some_empty bs l = go (empty_page S bs) refl
    where
      go : (o : Option Spot) → empty_page S bs ≡ o → (t : Spot) × (empty_page S bs ≡ some t)
      go none e = absurd (omega (arith, l, empty_none bs e))
      go (some t) e = (t, e)
