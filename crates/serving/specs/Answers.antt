-- What an answer means: document 01's number, address and bytes.
use Rattle.std.specs.Prelude.{ℕ, List, Result, Ok, Err}
use Rattle.model.specs.Calls.{Outcome, refused, granted}
use Rattle.model.specs.declared.Address.{Address}
use Rattle.model.specs.declared.refusals.Refusal.{Refusal}
use Rattle.model.specs.Refused.{refusal_number}

-- what a call that may write answers, and a sweep: the number of pages stands where others have an address
abbrev pub Answer : Type 0
Answer = Result Address Refusal

abbrev pub Swept : Type 0
Swept = Result ℕ Refusal

-- an answer, with the number that f tells of what is granted, and the heap's bytes then, as the outcome that the contracts speak of
abbrev pub outcome_by : {A : Type 0} → (A → ℕ) → Result A Refusal → List ℕ → Outcome
outcome_by f (Ok x) b = granted (f x) b
outcome_by f (Err k) b = refused b (refusal_number k)

abbrev pub outcome : Answer → List ℕ → Outcome
outcome r b = outcome_by (λ a. a.0) r b

abbrev pub swept_outcome : Swept → List ℕ → Outcome
swept_outcome r b = outcome_by (λ n. n) r b
