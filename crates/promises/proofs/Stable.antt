-- Equality of what a call answers is stable: what cannot differ is equal. Soundness need not be decided for it.
use Rattle.std.proofs.Common.{ℕ, ◌≡◌, refl, sym, ap, ap₂, ◌∙◌, List, [], ◌∷◌, get_or}
use mathlib.Core.List.{nil≢cons, head-eq_of_cons-eq, tail-eq_of_cons-eq}
use Rattle.std.proofs.Math.Decide.{ℕ_discrete}
use Rattle.model.specs.Reading.{Kind, a_free, a_variable, a_page, the_end, Step, Statistics}
use Rattle.model.specs.Calls.{Outcome, Told}

-- what cannot differ is equal
abbrev pub Stable : Type 0 → Type 0
Stable A = (x y : A) → ((x ≡ y → ⊥) → ⊥) → x ≡ y

-- what holds of equal things holds of things that cannot differ
not_not : {A B : Type 0} → (A → B) → ((A → ⊥) → ⊥) → (B → ⊥) → ⊥
not_not f n k = n (λ a. k (f a))

pub numbers : Stable ℕ
numbers x y n = go (ℕ_discrete x y)
  where
    go : Dec (x ≡ y) → x ≡ y
    go (yes e) = e
    go (no e) = absurd (n e)

pub lists : {A : Type 0} → Stable A → Stable (List A)
lists s [] [] n = refl
lists s [] (y ∷ ys) n = absurd (n nil≢cons)
lists s (x ∷ xs) [] n = absurd (n (λ e. nil≢cons (sym e)))
lists s (x ∷ xs) (y ∷ ys) n = ap₂ (λ h t. h ∷ t) (s x y (not_not head-eq_of_cons-eq n)) (lists s xs ys (not_not tail-eq_of_cons-eq n))

-- what is told by something stable is stable
pub through : {A B : Type 0} (to : A → B) (from : B → A) → ((x : A) → from (to x) ≡ x) → Stable B → Stable A
through to from back s x y n = sym (back x) ∙ ap from (s (to x) (to y) (not_not (ap to) n)) ∙ back y

pub outcomes : Stable Outcome
outcomes x y n =
    let a = numbers x.refusal y.refusal (not_not (ap (λ (o : Outcome). o.refusal)) n) in
    let b = numbers x.address y.address (not_not (ap (λ (o : Outcome). o.address)) n) in
    let c = lists numbers x.heap y.heap (not_not (ap (λ (o : Outcome). o.heap)) n) in
    ap₂ (λ (u v : ℕ). record { refusal = u; address = v; heap = x.heap }) a b ∙ ap (λ (h : List ℕ). record { refusal = y.refusal; address = y.address; heap = h }) c

pub tolds : {A : Type 0} → Stable A → Stable (Told A)
tolds {A} s x y n =
    ap₂ (λ (u : ℕ) (v : A). record { refusal = u; answer = v }) (numbers x.refusal y.refusal (not_not (ap (λ (o : Told A). o.refusal)) n)) (s x.answer y.answer (not_not (ap (λ (o : Told A). o.answer)) n))

-- a kind as a list of numbers, and back
unfoldable kind_numbers : Kind → List ℕ
kind_numbers (a_free a b) = 0 ∷ a ∷ b ∷ []
kind_numbers a_variable = 1 ∷ []
kind_numbers (a_page c) = 2 ∷ c ∷ []
kind_numbers the_end = []

unfoldable numbers_kind : List ℕ → Kind
numbers_kind [] = the_end
numbers_kind (t ∷ []) = a_variable
numbers_kind (t ∷ c ∷ []) = a_page c
numbers_kind (t ∷ a ∷ b ∷ l) = a_free a b

pub kinds : Stable Kind
unfolding kind_numbers numbers_kind
kinds = through kind_numbers numbers_kind back (lists numbers)
  where
    back : (k : Kind) → numbers_kind (kind_numbers k) ≡ k
    back (a_free a b) = refl
    back a_variable = refl
    back (a_page c) = refl
    back the_end = refl

pub steps : Stable Step
steps x y n =
    let a = numbers x.position y.position (not_not (ap (λ (o : Step). o.position)) n) in
    let b = numbers x.size y.size (not_not (ap (λ (o : Step). o.size)) n) in
    let c = kinds x.kind y.kind (not_not (ap (λ (o : Step). o.kind)) n) in
    let d = numbers x.next y.next (not_not (ap (λ (o : Step). o.next)) n) in
    ap₂ (λ (u v : ℕ). record { position = u; size = v; kind = x.kind; next = x.next }) a b
    ∙ ap₂ (λ (u : Kind) (v : ℕ). record { position = y.position; size = y.size; kind = u; next = v }) c d

unfoldable statistics_numbers : Statistics → List ℕ
statistics_numbers s = s.free_bytes ∷ s.free_blocks ∷ s.largest_free ∷ s.variables ∷ s.pages ∷ s.items ∷ []

unfoldable numbers_statistics : List ℕ → Statistics
numbers_statistics l =
    record {
      free_bytes = get_or l 0 0;
      free_blocks = get_or l 1 0;
      largest_free = get_or l 2 0;
      variables = get_or l 3 0;
      pages = get_or l 4 0;
      items = get_or l 5 0;
    }

pub statistics : Stable Statistics
unfolding statistics_numbers numbers_statistics
statistics = through statistics_numbers numbers_statistics (λ x. refl) (lists numbers)
