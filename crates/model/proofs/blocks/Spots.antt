-- The place that a rule finds: a free block among others, as code meets it.
use Rattle.std.proofs.Common.{ℕ, ◌+◌, ◌≤◌, ◌≡◌, refl, sym, ap, subst, ◌∙◌, cond, List, [], ◌∷◌, ◌++◌, arith, length, leb, le-leb}
use Rattle.std.proofs.Math.Option.{Option, none, some}
use Rattle.std.proofs.Math.Decide.{dec_le}
use Rattle.std.proofs.lemmas.Bool.{lt-leb}
use Rattle.model.specs.Shape.{Shape, start, end_of}
use Rattle.model.specs.Layout.{Block, free, used, Layout, size_of, ends, first_free}
use Rattle.model.specs.Sound.{Allowed, AllAllowed, Valid, Here}
use Rattle.model.specs.Rules.{Spot, after, fit}
use Rattle.model.proofs.blocks.Blocks.{le_ends, allowed_left, allowed_right}
use Rattle.model.specs.inner.Walks.{last_free, found_at, SpotIn, Split}
use Rattle.model.proofs.blocks.Replace.{three}
use Rattle.model.proofs.blocks.Middle.{Middle, middle_of}

-- what a spot that was found says of the blocks
FitIs : ℕ → List Block → Option Spot → Type 0
FitIs need bs none = Unit {0}
FitIs need bs (some t) = (bs ≡ t.pre ++ ((free t.size ∷ []) ++ t.post)) × (need ≤ t.size)

fit_after : (need : ℕ) (b : Block) (bs : List Block) (o : Option Spot) → FitIs need bs o → FitIs need (b ∷ bs) (after b o)
unfolding FitIs
fit_after need b bs none h = tt
fit_after need b bs (some t) h = (ap (λ (l : List Block). b ∷ l) h.0, h.1)

fit_is : (need : ℕ) (bs : List Block) → FitIs need bs (fit need bs)
unfolding fit
fit_is need [] = unfold FitIs in tt
fit_is need (free s ∷ bs) = go (dec_le need s) (fit_is need bs)
  where
    go : Dec (need ≤ s) → FitIs need bs (fit need bs) → FitIs need (free s ∷ bs) (cond (leb need s) (some (record { pre = []; size = s; post = bs })) (after (free s) (fit need bs)))
    go (yes e) r = rw (le-leb need s e) (unfold FitIs in (refl, e))
    go (no e) r = rw (lt-leb need s (omega arith)) (fit_after need (free s) bs (fit need bs) r)
fit_is need (used u ∷ bs) = fit_after need (used u) bs (fit need bs) (fit_is need bs)

-- so does a spot that the rule finds
pub fit_some : {need : ℕ} {L : Layout} {t : Spot} → fit need L.blocks ≡ some t → Split need L t
unfolding FitIs
fit_some {need} {L} {t} e = let i : FitIs need L.blocks (some t) = rw e at (fit_is need L.blocks) in record { blocks = i.0; large = i.1 }

module _ (S : Shape) where
  -- the layout with its blocks so split
  module _ {end need : ℕ} {L : Layout} {t : Spot} (v : Valid S end L) (s : Split need L t) where
    pub split_layout : Valid S end (three S L.lists t.pre (free t.size ∷ []) t.post)
    split_layout = subst (λ (bs : List Block). Valid S end (record { blocks = bs; lists = L.lists })) s.blocks v

    pub split_allowed : Allowed S (free t.size)
    unfolding AllAllowed
    split_allowed = (allowed_left S (free t.size ∷ []) t.post (allowed_right S t.pre ((free t.size ∷ []) ++ t.post) split_layout.allowed)).0

  -- a position that was found is a spot's
  pub found_spot : (b : List ℕ) (need r : ℕ) (L : Layout) → Here S b L → r ≡ found_at S (fit need L.blocks) → (r ≡ 0 → ⊥) → (t : Spot) × (fit need L.blocks ≡ some t) × SpotIn S b r need L t
  found_spot b need r L h e z = go (fit need L.blocks) refl
    where
      go : (o : Option Spot) → fit need L.blocks ≡ o → (t : Spot) × (fit need L.blocks ≡ some t) × SpotIn S b r need L t
      go none k = absurd (z (e ∙ rw k refl))
      go (some t) k =
          (t, k, record { here = h; split = fit_some k; at = sym (e ∙ rw k refl) })

  -- and where none was found there is none
  pub found_none : (need : ℕ) (L : Layout) → found_at S (fit need L.blocks) ≡ 0 → fit need L.blocks ≡ none
  found_none need L e = go (fit need L.blocks) refl
    where
      go : (o : Option Spot) → fit need L.blocks ≡ o → fit need L.blocks ≡ none
      go none k = k
      go (some t) k = absurd (omega (arith, le_ends S (start S) t.pre, rw k at e))

  module _ {b : List ℕ} {p need : ℕ} {L : Layout} {t : Spot} (x : SpotIn S b p need L t) where
    -- the free block in the middle of the heap
    pub spot_middle : Middle S b (end_of (length b)) L.lists t.pre (free t.size ∷ []) t.post p (p + t.size) (last_free S (start S) t.pre 0) (first_free S (p + t.size) t.post 0)
    unfolding ends size_of
    spot_middle = middle_of S b L t.pre (free t.size ∷ []) t.post p x.here x.split.blocks x.at
