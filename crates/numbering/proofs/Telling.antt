-- An answer's number does not depend on the bytes, so it tells the outcome.
use Rattle.std.proofs.Common.{ℕ, ◌*◌, ◌^◌, ◌≤◌, ◌≡◌, refl, sym, ◌∙◌, List, [], arith, Result, Ok, Err}
use Rattle.model.specs.declared.Address.{Address}
use Rattle.model.specs.declared.refusals.Refusal.{Refusal}
use Rattle.model.specs.declared.refusals.Refusal.TheVariants.{BadLength, NotOpened, NotSound, BadSize, NotLive, NoRoom, AlreadyOpened, BadEnd}
use Rattle.model.specs.Refusals.{bad_end}
use Rattle.model.specs.Refused.{refusal_number}
use Rattle.model.specs.Calls.{Outcome, number}
use Rattle.serving.specs.Answers.{Answer, Swept, outcome_by, outcome, swept_outcome}
use Rattle.serving.proofs.Outcomes.{heap_by}
use Rattle.numbering.specs.Numbers.{Numbered}

module _ {A : Type 0} (f : A → ℕ) where
  number_same : (r : Result A Refusal) (b c : List ℕ) → number (outcome_by f r b) ≡ number (outcome_by f r c)
  number_same (Ok a) b c = refl
  number_same (Err k) b c = refl

  told_by : (allows : Outcome → Type 0) (r : Result A Refusal) (n : ℕ) (b : List ℕ) → allows (outcome_by f r b) → n ≡ number (outcome_by f r []) → Numbered allows n b
  told_by allows r n b a e =
      record { outcome = outcome_by f r b; allowed = a; number = e ∙ number_same r [] b; heap = sym (heap_by f r b) }

pub told : (allows : Outcome → Type 0) (r : Answer) (n : ℕ) (b : List ℕ) → allows (outcome r b) → n ≡ number (outcome r []) → Numbered allows n b
told allows r n b a e = told_by (λ a. a.0) allows r n b a e

pub told_swept : (allows : Outcome → Type 0) (r : Swept) (n : ℕ) (b : List ℕ) → allows (swept_outcome r b) → n ≡ number (swept_outcome r []) → Numbered allows n b
told_swept allows r n b a e = told_by (λ n. n) allows r n b a e

-- what the two ways through `pages` give
pub pages_given : (r : Swept) (n : ℕ) → r ≡ Ok n → n ≡ number (swept_outcome r [])
pages_given r n e = rw e (omega arith)

pub pages_refused : (r : Swept) (k : Refusal) (m : ℕ) → r ≡ Err k → m ≡ refusal_number k → m * 2 ^ 32 ≡ number (swept_outcome r [])
pages_refused r k m e f = rw e (omega (arith, f))

-- and through `number`
pub number_granted : (r : Answer) (a : Address) (n : ℕ) → r ≡ Ok a → n ≡ number (swept_outcome (Ok a.0) []) → n ≡ number (outcome r [])
number_granted r a n e f = rw e f

pub number_refused : (r : Answer) (k : Refusal) (n : ℕ) → r ≡ Err k → n ≡ number (swept_outcome (Err k) []) → n ≡ number (outcome r [])
number_refused r k n e f = rw e f

-- a refusal's number is small
pub number_most : (k : Refusal) → refusal_number k ≤ bad_end
number_most BadLength = omega arith
number_most NotOpened = omega arith
number_most NotSound = omega arith
number_most BadSize = omega arith
number_most NotLive = omega arith
number_most NoRoom = omega arith
number_most AlreadyOpened = omega arith
number_most BadEnd = omega arith
