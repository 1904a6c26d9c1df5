-- A size that is asked for is good or bad, and the rules know which.
use Rattle.std.proofs.Common.{ℕ, ◌≤◌, ◌≡◌, refl, true, false, ◌&&◌, arith, leb, le-leb}
use Rattle.std.proofs.Math.Decide.{dec_le}
use Rattle.std.proofs.lemmas.Bool.{lt-leb}
use Rattle.model.specs.Shape.{Shape}
use Rattle.model.specs.Calls.{GoodSize}

module _ (S : Shape) (n : ℕ) where
  pub good : GoodSize S n → (leb 1 n && leb n S.most) ≡ true
  good g = rw (le-leb 1 n g.0, le-leb n S.most g.1) refl

  pub bad : (GoodSize S n → ⊥) → (leb 1 n && leb n S.most) ≡ false
  bad b = go (dec_le 1 n) (dec_le n S.most)
    where
      go : Dec (1 ≤ n) → Dec (n ≤ S.most) → (leb 1 n && leb n S.most) ≡ false
      go (no l) d = rw (lt-leb 1 n (omega (arith, l))) refl
      go (yes l) (no m) = rw (le-leb 1 n l, lt-leb n S.most (omega (arith, m))) refl
      go (yes l) (yes m) = absurd (b (l, m))

  pub good_or_bad : Dec (GoodSize S n)
  good_or_bad = go (dec_le 1 n) (dec_le n S.most)
    where
      go : Dec (1 ≤ n) → Dec (n ≤ S.most) → Dec (GoodSize S n)
      go (no l) d = no (λ g. l g.0)
      go (yes l) (no m) = no (λ g. m g.1)
      go (yes l) (yes m) = yes (l, m)
