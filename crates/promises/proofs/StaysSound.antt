-- No call makes a sound heap unsound.
use Rattle.std.proofs.Common.{ℕ, ◌≤◌, ◌≡◌, sym, ap, subst, List, arith, length}
use Rattle.std.proofs.Math.Decide.{ℕ_discrete, dec_le}
use Rattle.words.specs.Width.{Width}
use Rattle.model.specs.Shape.{shape, shortest, end_of}
use Rattle.model.specs.Layout.{Layout}
use Rattle.model.specs.Sound.{HereIn, SoundIn}
use Rattle.model.specs.Calls.{Outcome, refused, Lent, Checked}
use Rattle.model.specs.Promises.{Call, initialising, checking, allocating, freeing, resizing, resizing_by, sweeping, Comes, StaysSound}
use Rattle.model.proofs.rules.OnLayouts.{doing}
use Rattle.promises.proofs.Refused.{refused_untouched}
use Rattle.promises.proofs.Opened.{opened_fresh}
use Rattle.promises.proofs.Answers.{DoesIn}
use Rattle.promises.proofs.Doing.{does}

module _ {w : ℕ} (wd : Width w) where
  -- a call is granted only of a buffer of a good length
  pub lent_of : (b : List ℕ) (rule : Layout → Outcome) (r : Outcome) → Checked (shape w) b (refused b) rule r → r.refusal ≡ 0 → Lent (shape w) b
  lent_of b rule r c g = go (dec_le (shortest (shape w)) (length b)) (dec_le (length b) (shape w).most)
    where
      go : Dec (shortest (shape w) ≤ length b) → Dec (length b ≤ (shape w).most) → Lent (shape w) b
      go (yes x) (yes y) = (x, y)
      go (no m) y = absurd (omega (arith, g, ap (λ (o : Outcome). o.refusal) (c.one (λ l. m l.0))))
      go (yes x) (no m) = absurd (omega (arith, g, ap (λ (o : Outcome). o.refusal) (c.one (λ l. m l.1))))

  -- what a granted call does to a sound heap
  pub granted_does : (b : List ℕ) (q : Call) (r : Outcome) → Comes (shape w) b q r → r.refusal ≡ 0 → (L : Layout) → HereIn (shape w) b L → DoesIn wd b L r (doing (shape w) (end_of (length b)) q L)
  unfolding Comes
  granted_does b (initialising e) r c g L h = let f = opened_fresh wd b e r c g in does wd b L f.lent h (initialising e) r c
  granted_does b checking r c g L h = does wd b L (lent_of b _ r c g) h checking r c
  granted_does b (allocating n) r c g L h = does wd b L (lent_of b _ r c g) h (allocating n) r c
  granted_does b (freeing a) r c g L h = does wd b L (lent_of b _ r c g) h (freeing a) r c
  granted_does b (resizing a n) r c g L h = does wd b L (lent_of b _ r c g) h (resizing a n) r c
  granted_does b (resizing_by v a n) r c g L h = does wd b L (lent_of b _ r c g) h (resizing_by v a n) r c
  granted_does b sweeping r c g L h = does wd b L (lent_of b _ r c g) h sweeping r c

  pub stays_sound : StaysSound (shape w)
  stays_sound b q r c s = go (ℕ_discrete r.refusal 0)
    where
      go : Dec (r.refusal ≡ 0) → SoundIn (shape w) r.heap
      go (yes g) = record { layout = _; here = (granted_does b q r c g s.layout s.here).here }
      go (no g) = subst (λ (o : Outcome). SoundIn (shape w) o.heap) (sym (refused_untouched wd b q r c g)) s
