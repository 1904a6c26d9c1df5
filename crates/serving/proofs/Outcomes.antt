-- What an answer's outcome is made of, and a sweep's.
use Rattle.std.proofs.Common.{ℕ, ◌≡◌, refl, List, Result, Ok, Err}
use Rattle.model.specs.declared.refusals.Refusal.{Refusal}
use Rattle.serving.specs.Answers.{Answer, Swept, outcome_by, outcome, swept_outcome}

-- its bytes are those that the call left
pub heap_by : {A : Type 0} (f : A → ℕ) (r : Result A Refusal) (c : List ℕ) → (outcome_by f r c).heap ≡ c
heap_by f (Ok a) c = refl
heap_by f (Err k) c = refl

pub heap_of_lem : (r : Answer) (c : List ℕ) → (outcome r c).heap ≡ c
heap_of_lem r c = heap_by (λ a. a.0) r c

pub swept_heap : (r : Swept) (c : List ℕ) → (swept_outcome r c).heap ≡ c
swept_heap r c = heap_by (λ n. n) r c
