-- Demands 1 and 2 of what `heap::sweep` answers: those of outcomes, through what an answer means.
use Rattle.std.proofs.Common.{ℕ, refl, ap, subst, List, arith, Ok, Err}
use Rattle.words.specs.Width.{Width}
use Rattle.model.specs.Shape.{shape}
use Rattle.model.specs.Layout.{Layout}
use Rattle.model.specs.Sound.{HereIn, SoundIn}
use Rattle.model.specs.Calls.{Outcome, granted}
use Rattle.model.specs.Promises.{sweeping, Comes, Grants}
use Rattle.model.specs.Calls.{Lent}
use Rattle.serving.specs.Answers.{swept_outcome}
use Rattle.serving.proofs.Outcomes.{swept_heap}
use Rattle.promises.specs.Answered.{MaySweep, SweepPromised}
use Rattle.promises.proofs.Promised.{promised}
use Rattle.promises.proofs.OneResult.{refusal_some, swept_one}

module _ {w : ℕ} (wd : Width w) where
  grants : (b : List ℕ) (n : ℕ) (c : List ℕ) (L L' : Layout) → Lent (shape w) b → HereIn (shape w) b L → MaySweep w b (Ok n) c → HereIn (shape w) c L' → Grants (shape w) b sweeping (granted n c) L L'
  unfolding Comes
  grants b n c L L' l h x k = record { lent = l; here = h; comes = x; granted = refl; then = k }

  pub sweep_promised : SweepPromised w
  unfolding Comes
  sweep_promised =
      record {
        refused_untouched = λ b k c x. ap (λ (o : Outcome). o.heap) ((promised wd).refused_untouched b sweeping (swept_outcome (Err k) c) x (λ e. omega (arith, e, refusal_some k)));
        answers_only = λ b r c x. (promised wd).answers_only b sweeping (swept_outcome r c) x;
        stays_sound = λ b r c x s. subst (λ (d : List ℕ). SoundIn (shape w) d) (swept_heap r c) ((promised wd).stays_sound b sweeping (swept_outcome r c) x s);
        keeps = λ b n c L L' l h x k. let g = grants b n c L L' l h x k in ((promised wd).sweep_keeps b (granted n c) L L' g, (promised wd).sweep_counts b (granted n c) L L' g);
        stays = λ b n c r d x y. swept_one r (Ok 0) d c ((promised wd).swept_stays b (granted n c) (swept_outcome r d) x refl y);
      }
