-- What a record of a call list answers, and the buffer then.
use Rattle.std.specs.Prelude.{ℕ, ◌≤◌, ◌<◌, ◌≡◌, cond, List, [], ◌∷◌, ◌++◌, length, take, drop, eqb, ltb, Ok, Err}
use Rattle.words.specs.Word.{word_at}
use Rattle.model.specs.Shape.{wide, end_of}
use Rattle.model.specs.Calls.{Outcome, Told, Allocates, Resizes, Frees, Initialises, Counts}
use Rattle.model.specs.Reading.{Statistics}
use Rattle.model.specs.declared.refusals.Refusal.TheVariants.{BadLength}
use Rattle.model.specs.Refused.{refusal_number}
use Rattle.serving.specs.Answers.{Answer}
use Rattle.records.specs.declared.Line.{Line}
use Rattle.records.specs.declared.Played.{Played}

-- an answer's line
abbrev pub line_of : Answer → Line
line_of (Ok a) = record { refusal = 0; numbers = a.0 ∷ 0 ∷ 0 ∷ 0 ∷ 0 ∷ 0 ∷ [] }
line_of (Err k) = record { refusal = refusal_number k; numbers = 0 ∷ 0 ∷ 0 ∷ 0 ∷ 0 ∷ 0 ∷ [] }

-- of a call on the heap that is the first n bytes of b: its line, and the buffer then
pub record Called (allows : Outcome → Type 0) (b : List ℕ) (n : ℕ) (l : Line) (c : List ℕ) : Type 0 where
  pub outcome : Outcome
  pub allowed : allows outcome
  pub refusal : l.refusal ≡ outcome.refusal
  pub numbers : l.numbers ≡ outcome.address ∷ 0 ∷ 0 ∷ 0 ∷ 0 ∷ 0 ∷ []
  pub bytes : c ≡ outcome.heap ++ drop n b

abbrev pub AllocatesIn : List ℕ → ℕ → ℕ → Line → List ℕ → Type 0
AllocatesIn b n size l c = Called (Allocates wide (take n b) size) b n l c

abbrev pub FreesIn : List ℕ → ℕ → ℕ → Line → List ℕ → Type 0
FreesIn b n a l c = Called (Frees wide (take n b) a) b n l c

abbrev pub ResizesIn : List ℕ → ℕ → ℕ → ℕ → Line → List ℕ → Type 0
ResizesIn b n a size l c = Called (Resizes wide (take n b) a size) b n l c

-- a line that tells the statistics of the heap that is the first n bytes of b
pub record CountsIn (b : List ℕ) (n : ℕ) (l : Line) : Type 0 where
  pub answer : Told Statistics
  pub counts : Counts wide (take n b) answer
  pub refusal : l.refusal ≡ answer.refusal
  pub numbers : l.numbers ≡ answer.answer.free_bytes ∷ answer.answer.free_blocks ∷ answer.answer.largest_free ∷ answer.answer.variables ∷ answer.answer.pages ∷ answer.answer.items ∷ []

-- of opening a heap in the first n bytes, up to their furthest end: a length beyond the buffer answers 1; what is granted is the heap from then on
pub record OpensIn (b : List ℕ) (lent n : ℕ) (r : Played) (c : List ℕ) : Type 0 where
  pub beyond : length b < n → (r ≡ record { line = line_of (Err BadLength); lent = lent }) × (c ≡ b)
  pub within : n ≤ length b → Called (Initialises wide (take n b) (end_of n)) b n r.line c
  pub granted : n ≤ length b → r.line.refusal ≡ 0 → r.lent ≡ n
  pub refused : n ≤ length b → (r.line.refusal ≡ 0 → ⊥) → r.lent ≡ lent

-- how long the body of a record of a kind is: 4-byte numbers, or none; longer than any body of a kind that there is not, so that such a record is never whole
abbrev pub body_length : ℕ → ℕ
body_length kind = cond (ltb kind 2) 4 (cond (eqb kind 2) 8 (cond (eqb kind 3) 4 (cond (eqb kind 4) 0 9)))

-- a length lent, and no more than the buffer has
abbrev pub clip : ℕ → ℕ → ℕ
clip lent most = cond (ltb most lent) most lent

-- the line of a record of a kind that there is not
abbrev pub no_line : Line
no_line = record { refusal = 0; numbers = 0 ∷ 0 ∷ 0 ∷ 0 ∷ 0 ∷ 0 ∷ [] }

-- of a record of kind 1 to 4, with its body, on the heap that is the first n bytes
pub record CallPlayed (b : List ℕ) (n kind : ℕ) (body : List ℕ) (l : Line) (c : List ℕ) : Type 0 where
  pub allocates : kind ≡ 1 → AllocatesIn b n (word_at 4 body 0) l c
  pub resizes : kind ≡ 2 → ResizesIn b n (word_at 4 body 0) (word_at 4 body 4) l c
  pub frees : kind ≡ 3 → FreesIn b n (word_at 4 body 0) l c
  pub counts : kind ≡ 4 → CountsIn b n l × (c ≡ b)
  pub unknown : 4 < kind → (l ≡ no_line) × (c ≡ b)

-- of any record: only kind 0 can change how much of the buffer is the heap
pub record Plays (b : List ℕ) (lent kind : ℕ) (body : List ℕ) (r : Played) (c : List ℕ) : Type 0 where
  pub opens : kind ≡ 0 → OpensIn b lent (word_at 4 body 0) r c
  pub calls : 0 < kind → CallPlayed b (clip lent (length b)) kind body r.line c
  pub still : 0 < kind → r.lent ≡ lent
