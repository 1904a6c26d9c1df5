-- Answers that tell whether something holds.
use Rattle.std.proofs.Common.{◌≡◌, ℕ, Bool, true, false, cond, eqb, sym, refl, ap, ◌∙◌, arith, eq-eqb, eqb-true}
use Rattle.telling.specs.Tells.{Tells}

pub clash : (r : Bool) → r ≡ false → r ≡ true → ⊥
clash r e f = let z : ◌≡◌ {A = ℕ} 0 1 = ap (λ (x : Bool). cond x 1 0) (sym e ∙ f) in omega arith

pub tells_no : (P : Type 0) → (P → ⊥) → Tells false P
tells_no P n = record { yes_is = λ e. absurd (clash false refl e); is_yes = λ p. absurd (n p) }

-- an answer that is a test of two numbers
pub tells_eq : (a b : ℕ) (P : Type 0) → (a ≡ b → P) → (P → a ≡ b) → Tells (eqb a b) P
tells_eq a b P f g = record { yes_is = λ e. f (eqb-true a b e); is_yes = λ p. eq-eqb a b (g p) }

-- one that holds exactly where another does
pub tells_so : {r : Bool} {P Q : Type 0} → (P → Q) → (Q → P) → Tells r P → Tells r Q
tells_so f g t = record { yes_is = λ e. f (t.yes_is e); is_yes = λ q. t.is_yes (g q) }
