-- The check accepts exactly the sound heaps.
use Rattle.std.proofs.Common.{ℕ, ◌≤◌, ◌≡◌, ap, List, arith, length}
use Rattle.std.proofs.Math.Decide.{ℕ_discrete, dec_le}
use Rattle.words.specs.Width.{Width}
use Rattle.words.specs.Word.{word_at}
use Rattle.model.specs.Shape.{shape, shortest}
use Rattle.model.specs.Sound.{SoundIn}
use Rattle.model.specs.Calls.{Outcome, Lent, Checks}
use Rattle.model.specs.Promises.{AcceptsExactly}
use Rattle.promises.proofs.Decoded.{sure_sound}

module _ {w : ℕ} (wd : Width w) where
  module _ (b : List ℕ) (r : Outcome) (c : Checks (shape w) b r) where
    accepted : r.refusal ≡ 0 → Lent (shape w) b × SoundIn (shape w) b
    accepted g = go (dec_le (shortest (shape w)) (length b)) (dec_le (length b) (shape w).most) (ℕ_discrete (word_at 8 b 0) (shape w).magic)
      where
        go : Dec (shortest (shape w) ≤ length b) → Dec (length b ≤ (shape w).most) → Dec (word_at 8 b 0 ≡ (shape w).magic) → Lent (shape w) b × SoundIn (shape w) b
        go (no m) y z = absurd (omega (arith, g, ap (λ (o : Outcome). o.refusal) (c.one (λ l. m l.0))))
        go (yes x) (no m) z = absurd (omega (arith, g, ap (λ (o : Outcome). o.refusal) (c.one (λ l. m l.1))))
        go (yes x) (yes y) (no m) = absurd (omega (arith, g, ap (λ (o : Outcome). o.refusal) (c.two (x, y) m)))
        go (yes x) (yes y) (yes z) = ((x, y), sure_sound wd b (λ m. omega (arith, g, ap (λ (o : Outcome). o.refusal) (c.three (x, y) z m))))

    accepts : Lent (shape w) b × SoundIn (shape w) b → r.refusal ≡ 0
    accepts s = ap (λ (o : Outcome). o.refusal) (c.sound s.0 s.1.layout s.1.here)

  pub accepts_exactly : AcceptsExactly (shape w)
  accepts_exactly b r c = (accepted b r c, accepts b r c)
