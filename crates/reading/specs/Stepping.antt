-- What a step of a walk asks and promises, and what is read of the block at which a walk stands.
use Rattle.std.specs.Prelude.{ℕ, ◌+◌, ◌^◌, ◌≤◌, ◌<◌, ◌≡◌, Bool, true, false, Some, None, List, length}
use Rattle.std.specs.declared.option.Option.{Option}
use Rattle.words.specs.Width.{Width}
use Rattle.words.specs.Word.{word_at}
use Rattle.model.specs.Parts.{free_kind, variable_kind, page_kind, size_in, kind_in}
use Rattle.model.specs.Shape.{shape, least_free, end_of, start}
use Rattle.model.specs.Layout.{Layout}
use Rattle.model.specs.Layout as layout
use Rattle.model.specs.Sound.{Here, Sound}
use Rattle.model.specs.Reading.{a_free, a_variable, a_page, Step, ended, step_from, step}
use Rattle.model.specs.Reading as reading
use Rattle.model.specs.inner.Walks.{last_free, Passed}
use Rattle.reading.specs.Counting.{PageAt, Going}
use Rattle.reading.specs.declared.stepping.Kind.{Kind}
use Rattle.reading.specs.declared.stepping.Kind.TheVariants.{Free, Variable, Page}
use Rattle.reading.specs.declared.stepping.MetBlock.{MetBlock}

-- the kind that a value stands for, and the step: the walk that stood at at then stands behind the block; where there is none, it stays
abbrev pub told_kind : Kind → reading.Kind
told_kind (Free next previous) = a_free next.0 previous.0
told_kind Variable = a_variable
told_kind (Page c) = a_page c

abbrev pub told_block : ℕ → MetBlock → Step
told_block at r = record { position = r.position.0; size = r.size; kind = told_kind r.kind; next = at + r.size }

abbrev pub told_met : ℕ → ℕ → Option MetBlock → Step
told_met w at None = ended (shape w) at
told_met w at (Some r) = told_block at r

-- how far it goes
abbrev pub size_met : Option MetBlock → ℕ
size_met None = 0
size_met (Some r) = r.size

-- a walk towards at stands at p, and has not met at
pub record Toward (w : ℕ) (L : Layout) (at p : ℕ) : Type 0 where
  pub pre : List layout.Block
  pub rest : List layout.Block
  pub passed : Passed w L p pre rest
  pub same : step (shape w) at L ≡ step_from (shape w) at p (last_free (shape w) (start (shape w)) pre 0) rest

pub record Towards (w : ℕ) (b : List ℕ) (at p : ℕ) : Type 0 where
  pub width : Width w
  pub sound : Sound (shape w) b
  pub toward : (L : Layout) → Here (shape w) b L → Toward w L at p

-- whether a block begins at at
pub record StartTold (w : ℕ) (b : List ℕ) (at : ℕ) (r : Bool) : Type 0 where
  pub met : r ≡ true → Towards w b at at × (at < end_of (length b))
  pub not_met : r ≡ false → (L : Layout) → Here (shape w) b L → step (shape w) at L ≡ ended (shape w) at

-- a walk stands at p: a block begins there, or it is the end
abbrev pub WalkAt : ℕ → List ℕ → ℕ → Type 0
WalkAt w b p = Going {A = Unit {0}} w (λ (l : List layout.Block). tt) b p tt

-- a page of class c stands at p
pub record PageOf (w : ℕ) (b : List ℕ) (p c : ℕ) : Type 0 where
  pub spare : ℕ
  pub slots : List layout.Slot
  pub at : PageAt w b p c spare slots

-- a block's kind is the one that the number k stands for, in its tag
abbrev pub KindTold : ℕ → Kind → Type 0
KindTold k (Free next previous) = k ≡ free_kind
KindTold k Variable = k ≡ variable_kind
KindTold k (Page c) = k ≡ page_kind

-- the block at which a walk stands, and the walk behind it
pub record BlockRead (w : ℕ) (b : List ℕ) (at : ℕ) (r : MetBlock) : Type 0 where
  pub answer : (L : Layout) → Here (shape w) b L → told_block at r ≡ step (shape w) at L
  pub place : r.position.0 ≡ at
  pub sized : r.size ≡ size_in (word_at w b at)
  pub kind_is : KindTold (kind_in (word_at w b at)) r.kind
  pub least : least_free (shape w) ≤ r.size
  pub inside : at + r.size ≤ end_of (length b)
  pub next : WalkAt w b (at + r.size)
  pub paged : (c : ℕ) → r.kind ≡ Page c → PageOf w b at c

-- the block that begins at at, or none
pub record Meets (w : ℕ) (b : List ℕ) (at : ℕ) (r : Option MetBlock) : Type 0 where
  pub answer : (L : Layout) → Here (shape w) b L → told_met w at r ≡ step (shape w) at L
  pub fits : at + size_met r < 2 ^ 64
