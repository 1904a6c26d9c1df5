-- Pages given back and lists linked anew are a sweep.
use Rattle.std.proofs.Common.{ℕ, ◌≤◌, sym, ◌∙◌, List, length}
use Rattle.words.specs.Width.{Width}
use Rattle.model.specs.Shape.{shape}
use Rattle.model.specs.Layout.{Layout}
use Rattle.model.specs.Sound.{Here, Sound}
use Rattle.recovering.specs.Recover.{Recovered}
use Rattle.relinking.specs.Relink.{LinkReady, Linked}
use Rattle.sweeping.specs.Sweep.{SweepDone}

module _ {w : ℕ} {b : List ℕ} {n : ℕ} {c : List ℕ} (g : (L : Layout) → Here (shape w) b L → Recovered w b L n c) where
  -- once pages are given back, lists can be linked anew
  pub link_ready : Width w → Sound (shape w) b → length b ≤ (shape w).most → LinkReady w c
  link_ready wd s short =
      let r = g s.layout s.here in
      record { width = wd; layout = r.layout; linkable = r.linkable; short = rw r.same short }

  -- and then the sweep is done
  pub swept_so : (d : List ℕ) → Linked w c d → SweepDone w b n d
  swept_so d k =
      record {
        count = λ L h. (g L h).count;
        bytes = λ L h. let r = g L h in k.is r.layout r.linkable ∙ sym r.bytes;
      }
