-- The cases of a contract: what follows in each of them cannot fail, though soundness is not decided here.
use Rattle.std.proofs.Common.{ℕ, ◌≤◌, ◌≡◌, sym, ap, ◌∙◌, List, arith, length}
use Rattle.model.specs.Shape.{Shape}
use Rattle.model.specs.Layout.{Layout}
use Rattle.model.specs.Sound.{MayEnd, HereIn, SoundIn}
use Rattle.model.specs.Refusals.{bad_size}
use Rattle.model.specs.Calls.{Outcome, refused, Lent, Opened, GoodSize, Checked, sized}
use Rattle.model.proofs.rules.Sized.{good, bad, good_or_bad}

module _ (S : Shape) (b : List ℕ) {P : Type 0} where
  -- for every call but initialise
  pub checked_cases : ((Lent S b → ⊥) → P) → (Lent S b → (Opened S b → ⊥) → P) → (Lent S b → Opened S b → (SoundIn S b → ⊥) → P) → (Lent S b → (L : Layout) → HereIn S b L → P) → (P → ⊥) → ⊥
  checked_cases one two three four n = n (one (λ l. n (two l (λ o. n (three l o (λ s. n (four l s.layout s.here)))))))

  -- for initialise
  pub opening_cases : (e : ℕ) → ((Lent S b → ⊥) → P) → (Lent S b → Opened S b → P) → (Lent S b → (Opened S b → ⊥) → (MayEnd S (length b) e → ⊥) → P)
      → (Lent S b → (Opened S b → ⊥) → MayEnd S (length b) e → P) → (P → ⊥) → ⊥
  opening_cases e one seven eight opens n = n (one (λ l. n (eight l (λ o. n (seven l o)) (λ m. n (opens l (λ o. n (seven l o)) m)))))

  -- where a call was granted, only the rule is left
  pub granted_cases : (rule : Layout → Outcome) (r : Outcome) → Checked S b (refused b) rule r → r.refusal ≡ 0 → (Lent S b → (L : Layout) → HereIn S b L → r ≡ rule L → P) → (P → ⊥) → ⊥
  granted_cases rule r c g four =
      checked_cases (λ m. absurd (omega (arith, is_zero (c.one m)))) (λ l m. absurd (omega (arith, is_zero (c.two l m)))) (λ l o m. absurd (omega (arith, is_zero (c.three l o m)))) (λ l L h. four l L h (c.sound l L h))
    where
      is_zero : {k : ℕ} → r ≡ refused b k → k ≡ 0
      is_zero e = sym (ap (λ (x : Outcome). x.refusal) e) ∙ g

-- what came of a call with a size
module _ (S : Shape) (b : List ℕ) (n : ℕ) (o r : Outcome) (e : r ≡ sized S n b o) where
  pub good_size : 1 ≤ n → n ≤ S.most → r ≡ o
  good_size one most = rw (good S n (one, most)) at e

  -- none is granted for a bad size
  pub granted_size : r.refusal ≡ 0 → (1 ≤ n) × (r ≡ o)
  granted_size g = go (good_or_bad S n)
    where
      not_bad : r ≡ refused b bad_size → ⊥
      not_bad f = omega (arith, g, ap (λ (x : Outcome). x.refusal) f)

      go : Dec (GoodSize S n) → (1 ≤ n) × (r ≡ o)
      go (yes s) = (s.0, good_size s.0 s.1)
      go (no s) = absurd (not_bad (rw (bad S n s) at e))
