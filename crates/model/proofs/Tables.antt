-- A table that is printed in the code: one test over the whole table, which antt computes, is the rule at each entry.
use Rattle.std.proofs.Common.{ℕ, zero, suc, ◌+◌, ◌<◌, ◌≡◌, ◌∙◌, ap, sym, refl, List, [], ◌∷◌, add-zero, zero-add, add-suc, suc-add, le_of_suc-le-suc, not-suc-le-zero, get_or}

-- the n values of a rule from the i-th on, one after the other
abbrev pub values : (ℕ → ℕ) → ℕ → ℕ → List ℕ
values rule i zero = []
values rule i (suc n) = rule i ∷ values rule (suc i) n

value_at_lem : (rule : ℕ → ℕ) (i n k : ℕ) → k < n → get_or (values rule i n) k 0 ≡ rule (i + k)
value_at_lem rule i zero k h = absurd (not-suc-le-zero h)
value_at_lem rule i (suc n) zero h = rw (add-zero i) refl
value_at_lem rule i (suc n) (suc k) h = value_at_lem rule (suc i) n k (le_of_suc-le-suc h) ∙ ap rule (suc-add i k ∙ sym (add-suc i k))

-- a table that is a rule's first n values, which is the test, has the rule's value at each of its entries
pub printed : (rule : ℕ → ℕ) (n k : ℕ) → k < n → {table : List ℕ} → table ≡ values rule 0 n → get_or table k 0 ≡ rule k
printed rule n k h test = ap (λ (t : List ℕ). get_or t k 0) test ∙ value_at_lem rule 0 n k h ∙ ap rule (zero-add k)
