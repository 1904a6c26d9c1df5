-- A variable block is made where it fits: the new layout is valid.
use Rattle.std.proofs.Common.{ℕ, ◌%◌, ◌≤◌, ◌≡◌, refl, List, arith, length}
use Rattle.model.specs.Shape.{Shape, least_variable, end_of}
use Rattle.model.specs.Picture.{draw}
use Rattle.model.specs.Layout.{variable, Layout, use_size, words}
use Rattle.model.specs.Sound.{AllowedUse, Allowed, idle_in, Valid, Here}
use Rattle.model.specs.Rules.{Spot, placed, as_variable}
use Rattle.model.proofs.blocks.Replace.{three}
use Rattle.model.proofs.pictures.Drawn.{drawn_here}
use Rattle.model.proofs.blocks.Spots.{split_layout, split_allowed}
use Rattle.model.specs.inner.Walks.{Split, SpotIn}
use Rattle.model.proofs.blocks.Taken.{parts, placed_parts, takes_of, takes_eight, parts_valid}
use Rattle.model.specs.inner.Links.{takes}
use Rattle.model.proofs.Good.{Good}

module _ (S : Shape) where
  -- the layout with a variable block of size need at a spot
  abbrev pub placed_in : ℕ → Layout → Spot → Layout
  placed_in need L t = record { blocks = placed S need (as_variable S) t; lists = L.lists }

  module _ {end need : ℕ} {L : Layout} {t : Spot} (v : Valid S end L) (s : Split need L t) (good : Good S) where
    pub placed_as : ◌≡◌ {A = Layout} (placed_in need L t) (three S L.lists t.pre (parts S (takes S need t.size) t.size (variable (takes S need t.size))) t.post)
    placed_as = rw (placed_parts S need variable t good s.large) refl

    pub variable_valid : least_variable S ≤ need → need % 8 ≡ 0
        → Valid S end (three S L.lists t.pre (parts S (takes S need t.size) t.size (variable (takes S need t.size))) t.post)
    unfolding AllowedUse Allowed use_size idle_in
    variable_valid large eight =
        let k = takes_of S need t.size s.large in
        let e = takes_eight S need t.size eight (split_allowed S v s).1 in
        parts_valid S end L.lists t.pre t.post t.size (takes S need t.size) (variable (takes S need t.size)) (split_layout S v s) (omega (arith, k.enough), e) refl k.within k.rest e (λ c. refl)

    pub placed_valid : least_variable S ≤ need → need % 8 ≡ 0 → Valid S end (placed_in need L t)
    placed_valid large eight = rw placed_as (variable_valid large eight)

  pub placed_here : {b : List ℕ} {p need : ℕ} {L : Layout} {t : Spot} → SpotIn S b p need L t → Good S → least_variable S ≤ need → need % 8 ≡ 0
      → length b ≤ S.most
      → Here S (draw S.word (words S (end_of (length b)) (placed_in need L t)) b) (placed_in need L t)
  placed_here {b} {p} {need} {L} {t} x good large eight short = drawn_here S good b (placed_in need L t) x.here.magic (placed_valid x.here.valid x.split good large eight) short
