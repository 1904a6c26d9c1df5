-- A call on the first bytes of a buffer: its line, and the whole buffer then. Of document 01's heap, words of 8 bytes.
use Rattle.std.proofs.Common.{ℕ, ◌-◌, ◌≤◌, ◌<◌, ◌≡◌, refl, ap, subst, Bool, true, false, cond, List, [], ◌∷◌, ◌++◌, arith, length, take, drop, lt-ltb, le-ltb, ltb-false, ltb, Result, Ok, Err}
use Rattle.words.specs.Word.{word_at}
use Rattle.model.specs.Shape.{wide, end_of}
use Rattle.model.specs.Reading.{counted, total, greatest}
use Rattle.model.specs.Calls.{Outcome, Initialises, Counts}
use Rattle.model.specs.declared.refusals.Refusal.{Refusal}
use Rattle.model.specs.declared.refusals.Refusal.TheVariants.{BadLength}
use Rattle.model.specs.Refused.{refusal_number}
use Rattle.serving.specs.Answers.{Answer, outcome}
use Rattle.serving.specs.Counting.{told_counted}
use Rattle.reading.specs.declared.counting.Statistics.{Statistics}
use Rattle.records.specs.declared.Line.{Line}
use Rattle.records.specs.declared.Played.{Played}
use Rattle.records.specs.Lines.{line_of, Called, OpensIn, AllocatesIn, ResizesIn, FreesIn, CountsIn, no_line, clip, CallPlayed, Plays}

pub called : (allows : List ℕ → Outcome → Type 0) (b : List ℕ) (n : ℕ) (r : Answer) (l : Line) (ys : List ℕ) → allows (take (n - 0) b) (outcome r ys) → l ≡ line_of r
    → Called (allows (take n b)) b n l (ys ++ drop (n - 0) b)
called allows b n r l ys a e =
    let z : n - 0 ≡ n = omega arith in
    let h : allows (take n b) (outcome r ys) = rw z at a in
    rw z (go r e h)
  where
    go : (r : Answer) → l ≡ line_of r → allows (take n b) (outcome r ys) → Called (allows (take n b)) b n l (ys ++ drop n b)
    go (Ok x) e h = record { outcome = outcome (Ok x) ys; allowed = h; refusal = ap (λ (y : Line). y.refusal) e; numbers = ap (λ (y : Line). y.numbers) e; bytes = refl }
    go (Err k) e h = record { outcome = outcome (Err k) ys; allowed = h; refusal = ap (λ (y : Line). y.refusal) e; numbers = ap (λ (y : Line). y.numbers) e; bytes = refl }

-- opening, by cases
module _ (b : List ℕ) (lent n : ℕ) where
  pub opens_beyond : length b < n → (l : Line) → l ≡ line_of (Err BadLength) → OpensIn b lent n (record { line = l; lent = lent }) b
  opens_beyond h l e =
      record {
        beyond = λ _. (ap (λ (x : Line). record { line = x; lent = lent }) e, refl);
        within = λ k. absurd (omega arith);
        granted = λ k. absurd (omega arith);
        refused = λ k. absurd (omega arith);
      }

  module _ (h : n ≤ length b) (r : Answer) (l : Line) (ys : List ℕ) (end : ℕ) (f : end ≡ end_of n) (a : Initialises wide (take (n - 0) b) end (outcome r ys)) (e : l ≡ line_of r) where
    pub opens_granted : l.refusal ≡ 0 → OpensIn b lent n (record { line = l; lent = n }) (ys ++ drop (n - 0) b)
    opens_granted z =
        record { beyond = λ k. absurd (omega arith); within = λ _. called (λ d o. Initialises wide d (end_of n) o) b n r l ys (subst (λ (x : ℕ). Initialises wide (take (n - 0) b) x (outcome r ys)) f a) e; granted = λ _ _. refl; refused = λ _ k. absurd (k z) }

    pub opens_refused : (l.refusal ≡ 0 → ⊥) → OpensIn b lent n (record { line = l; lent = lent }) (ys ++ drop (n - 0) b)
    opens_refused z =
        record { beyond = λ k. absurd (omega arith); within = λ _. called (λ d o. Initialises wide d (end_of n) o) b n r l ys (subst (λ (x : ℕ). Initialises wide (take (n - 0) b) x (outcome r ys)) f a) e; granted = λ _ k. absurd (z k); refused = λ _ _. refl }

-- the statistics, told as a line, and why there are none
module _ (b : List ℕ) (n : ℕ) where
  pub counts_line : (s : Statistics) → Counts wide (take (n - 0) b) (told_counted (Ok s))
      → CountsIn b n (record { refusal = 0; numbers = s.free_bytes ∷ s.free_blocks ∷ s.largest_free ∷ s.variables ∷ s.pages ∷ s.items ∷ [] })
  counts_line s a =
      let z : n - 0 ≡ n = omega arith in
      let h : Counts wide (take n b) (told_counted (Ok s)) = rw z at a in
      record { answer = told_counted (Ok s); counts = h; refusal = refl; numbers = refl }

  pub counts_refused : (k : Refusal) (l : Line) → Counts wide (take (n - 0) b) (told_counted (Err k)) → l ≡ line_of (Err k) → CountsIn b n l
  unfolding counted total greatest
  counts_refused k l a e =
      let z : n - 0 ≡ n = omega arith in
      let h : Counts wide (take n b) (told_counted (Err k)) = rw z at a in
      record { answer = told_counted (Err k); counts = h; refusal = ap (λ (y : Line). y.refusal) e; numbers = ap (λ (y : Line). y.numbers) e }

-- a length lent, by cases
pub clip_most : (lent most : ℕ) → most < lent → most ≡ clip lent most
clip_most lent most h = simp (lt-ltb most lent h)

pub clip_lent : (lent most : ℕ) → lent ≤ most → lent ≡ clip lent most
clip_lent lent most h = simp (le-ltb most lent h)

pub clip_within : (lent most n : ℕ) → n ≡ clip lent most → n ≤ most
clip_within lent most n e = rw e (go (ltb most lent) refl)
  where
    go : (t : Bool) → ltb most lent ≡ t → cond t most lent ≤ most
    go true _ = omega arith
    go false f = omega (arith, ltb-false)

-- a record of each kind
module _ {b : List ℕ} {n kind : ℕ} {body : List ℕ} {l : Line} {c : List ℕ} where
  pub plays_allocate : kind ≡ 1 → (x : ℕ) → x ≡ word_at 4 body 0 → AllocatesIn b n x l c → CallPlayed b n kind body l c
  plays_allocate k x e h =
      record { allocates = λ _. subst (λ y. AllocatesIn b n y l c) e h; resizes = λ z. absurd (omega arith); frees = λ z. absurd (omega arith); counts = λ z. absurd (omega arith); unknown = λ z. absurd (omega arith) }

  pub plays_resize : kind ≡ 2 → (x y : ℕ) → x ≡ word_at 4 body 0 → y ≡ word_at 4 body 4 → ResizesIn b n x y l c → CallPlayed b n kind body l c
  plays_resize k x y e f h =
      record { allocates = λ z. absurd (omega arith); resizes = λ _. subst (λ z. ResizesIn b n (word_at 4 body 0) z l c) f (subst (λ z. ResizesIn b n z y l c) e h); frees = λ z. absurd (omega arith); counts = λ z. absurd (omega arith); unknown = λ z. absurd (omega arith) }

  pub plays_free : kind ≡ 3 → (x : ℕ) → x ≡ word_at 4 body 0 → FreesIn b n x l c → CallPlayed b n kind body l c
  plays_free k x e h =
      record { allocates = λ z. absurd (omega arith); resizes = λ z. absurd (omega arith); frees = λ _. subst (λ y. FreesIn b n y l c) e h; counts = λ z. absurd (omega arith); unknown = λ z. absurd (omega arith) }

module _ {b : List ℕ} {n kind : ℕ} {body : List ℕ} {l : Line} where
  pub plays_count : kind ≡ 4 → CountsIn b n l → CallPlayed b n kind body l b
  plays_count k h =
      record { allocates = λ z. absurd (omega arith); resizes = λ z. absurd (omega arith); frees = λ z. absurd (omega arith); counts = λ _. (h, refl); unknown = λ z. absurd (omega arith) }

  pub plays_nothing : (kind ≡ 1 → ⊥) → (kind ≡ 2 → ⊥) → (kind ≡ 3 → ⊥) → (kind ≡ 4 → ⊥) → l ≡ no_line → CallPlayed b n kind body l b
  plays_nothing k1 k2 k3 k4 e =
      record { allocates = λ k. absurd (k1 k); resizes = λ k. absurd (k2 k); frees = λ k. absurd (k3 k); counts = λ k. absurd (k4 k); unknown = λ _. (e, refl) }

-- a record of kind 0, and any other
module _ {b : List ℕ} {lent kind : ℕ} {body c : List ℕ} where
  pub plays_open : kind ≡ 0 → (r : Played) (x : ℕ) → x ≡ word_at 4 body 0 → OpensIn b lent x r c → Plays b lent kind body r c
  plays_open k r x e h =
      record { opens = λ _. subst (λ y. OpensIn b lent y r c) e h; calls = λ z. absurd (omega arith); still = λ z. absurd (omega arith) }

  pub plays_call : (kind ≡ 0 → ⊥) → (n : ℕ) → n ≡ clip lent (length b) → (l : Line) → CallPlayed b n kind body l c → Plays b lent kind body (record { line = l; lent = lent }) c
  plays_call k n e l h =
      record { opens = λ z. absurd (k z); calls = λ _. subst (λ y. CallPlayed b y kind body l c) e h; still = λ _. refl }
