-- A variable block is written in a free block that was read.
use Rattle.std.proofs.Common.{ℕ, ◌≡◌, refl, ap, ◌∙◌, List, [], arith, length}
use Rattle.words.specs.Word.{Bytes}
use Rattle.model.specs.Shape.{shape}
use Rattle.model.specs.Parts.{variable_kind}
use Rattle.model.specs.Picture.{draw}
use Rattle.model.specs.Layout.{variable, Layout, use_size, use_words}
use Rattle.model.specs.Rules.{Spot}
use Rattle.model.specs.Calls.{drawn}
use Rattle.model.specs.inner.Links.{put_if, takes, rest_at}
use Rattle.model.proofs.Good.{shape_good}
use Rattle.model.proofs.blocks.Spots.{spot_middle}
use Rattle.model.specs.inner.Walks.{SpotIn}
use Rattle.model.proofs.blocks.Taken.{takes_of, size_there}
use Rattle.model.proofs.blocks.Placed.{placed_in, placed_as, variable_valid}
use Rattle.placing.specs.declared.Gap.{Gap}
use Rattle.placing.specs.Blocks.{GapRead, Needed, low_words, high_words}
use Rattle.placing.proofs.Taking.{gap_drawn}

module _ {w : ℕ} {b : List ℕ} {p need : ℕ} {L : Layout} {t : Spot} (x : SpotIn (shape w) b p need L t) (g : Gap) (r : GapRead w b p g) (u : ℕ) (eu : u ≡ takes (shape w) need g.size) where
  u_is : u ≡ takes (shape w) need t.size
  u_is = eu ∙ ap (λ (s : ℕ). takes (shape w) need s) (r.size ∙ size_there (shape w) (spot_middle (shape w) x))

  pub variable_drawn : Needed w (length b) need → Bytes b → (h₁ h₂ : List ℕ) → h₁ ≡ draw w (low_words w g u variable_kind) b
      → h₂ ≡ put_if (shape w) (draw w (high_words w g u variable_kind) h₁) g.back.0 (rest_at (shape w) u g.size g.at.0 g.prev.0) → h₂ ≡ drawn (shape w) (placed_in (shape w) need L t) b
  unfolding use_words use_size draw
  variable_drawn n bytes h₁ h₂ e₁ e₂ =
      let z = takes_of (shape w) need t.size x.split.large in
      rw (placed_as (shape w) x.here.valid x.split (shape_good n.width), ← u_is)
      (gap_drawn n.width (spot_middle (shape w) x) g r u variable_kind (variable u) [] refl (omega (arith, u_is, z.within)) refl bytes n.short (rw u_is (variable_valid (shape w) x.here.valid x.split (shape_good n.width) n.large n.eight)) h₁ h₁ h₂ e₁ refl e₂)
