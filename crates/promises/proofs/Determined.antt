-- Any two results that a contract allows are equal.
use Rattle.std.proofs.Common.{ℕ, ◌≡◌, sym, ◌∙◌, List}
use Rattle.model.specs.Shape.{Shape}
use Rattle.model.specs.Layout.{Layout}
use Rattle.model.specs.Calls.{Outcome, Checked, Initialises}
use Rattle.model.specs.Promises.{initialising, checking, allocating, freeing, resizing, resizing_by, sweeping, Comes, Determined, ReadingDetermined}
use Rattle.promises.proofs.Stable.{Stable, numbers, lists, outcomes, tolds, steps, statistics}
use Rattle.promises.proofs.Cases.{checked_cases, opening_cases}

module _ (S : Shape) (b : List ℕ) where
  pub checked_one : {A : Type 0} → Stable A → (no-with : ℕ → A) (rule : Layout → A) (r r' : A) → Checked S b no-with rule r → Checked S b no-with rule r' → r ≡ r'
  checked_one s no-with rule r r' c d =
      s r r'
      (checked_cases S b (λ m. c.one m ∙ sym (d.one m)) (λ l m. c.two l m ∙ sym (d.two l m)) (λ l o m. c.three l o m ∙ sym (d.three l o m)) (λ l L h. c.sound l L h ∙ sym (d.sound l L h)))

  opened_one : (e : ℕ) (r r' : Outcome) → Initialises S b e r → Initialises S b e r' → r ≡ r'
  opened_one e r r' c d =
      outcomes r r'
      (opening_cases S b e (λ m. c.one m ∙ sym (d.one m)) (λ l o. c.seven l o ∙ sym (d.seven l o)) (λ l m k. c.eight l m k ∙ sym (d.eight l m k)) (λ l m k. c.opens l m k ∙ sym (d.opens l m k)))

pub determined : (S : Shape) → Determined S
unfolding Comes
determined S b (initialising e) r r' c d = opened_one S b e r r' c d
determined S b checking r r' c d = checked_one S b outcomes _ _ r r' c d
determined S b (allocating n) r r' c d = checked_one S b outcomes _ _ r r' c d
determined S b (freeing a) r r' c d = checked_one S b outcomes _ _ r r' c d
determined S b (resizing a n) r r' c d = checked_one S b outcomes _ _ r r' c d
determined S b (resizing_by v a n) r r' c d = checked_one S b outcomes _ _ r r' c d
determined S b sweeping r r' c d = checked_one S b outcomes _ _ r r' c d

pub reading_determined : (S : Shape) → ReadingDetermined S
reading_determined S b = (
  (λ a r r' c d. checked_one S b (tolds (lists numbers)) _ _ r r' c d),
  (λ w r r' c d. checked_one S b (tolds steps) _ _ r r' c d),
  (λ r r' c d. checked_one S b (tolds statistics) _ _ r r' c d),
  (λ r r' c d. checked_one S b (tolds (lists (lists numbers))) _ _ r r' c d),
)
