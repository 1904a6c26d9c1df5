-- What growing asks and promises.
use Rattle.std.specs.Prelude.{Option, Some, None, Result, Err, ℕ, ◌+◌, ◌%◌, ◌≤◌, ◌<◌, ◌≡◌, true, List, length, take}
use Rattle.std.proofs.Math.Option.{none}
use Rattle.std.specs.Borrow.{MutBor}
use Rattle.std.specs.Fn.{Shared, FnOnceReturnsAtMut}
use Rattle.words.specs.Width.{Width}
use Rattle.words.specs.Word.{put}
use Rattle.model.specs.Shape.{shape, start, least_free, end_of}
use Rattle.model.specs.Parts.{end_at}
use Rattle.model.specs.Layout.{Block, Layout, ends, end_in}
use Rattle.model.specs.Sound.{Here, Sound, HereIn, SoundIn, stored_end, heap_of}
use Rattle.model.specs.Rules.{allocate, longer}
use Rattle.model.specs.Refusals.{no_room}
use Rattle.model.specs.Calls.{Outcome, refused, granted, fronted, moving, Lent, drawn, growing, allocated, resized_by}
use Rattle.model.specs.inner.Links.{link_of}
use Rattle.model.specs.inner.Walks.{last_free}
use Rattle.model.specs.inner.Edges.{Edged}
use Rattle.links.specs.Links.{linked_bytes}
use Rattle.model.specs.declared.Address.{Address}
use Rattle.model.specs.declared.Position.{Position}
use Rattle.model.specs.declared.refusals.Refusal.{Refusal}
use Rattle.model.specs.declared.refusals.Refusal.TheVariants as refusal
use Rattle.engine.specs.Ready.{Ready}
use Rattle.resizing.specs.Ways.{outcome_of}

-- a sound heap that fills its bytes
pub record Whole (w : ℕ) (b : List ℕ) : Type 0 where
  pub width : Width w
  pub sound : Sound (shape w) b
  pub eight : length b % 8 ≡ 0
  pub short : length b ≤ (shape w).most

-- a free block that grows it begins there; and the free block before that stands there
pub record EdgeAt (w : ℕ) (b : List ℕ) (from : ℕ) : Type 0 where
  pub is : (L : Layout) → Here (shape w) b L → (pre old : List Block) → Edged L pre old → from ≡ ends (shape w) (start (shape w)) pre

pub record FreeBefore (w : ℕ) (b : List ℕ) (prev : ℕ) : Type 0 where
  pub is : (L : Layout) → Here (shape w) b L → (pre old : List Block) → Edged L pre old → prev ≡ last_free (shape w) (start (shape w)) pre 0

-- room in so many bytes for a free block from `from` to their end, and for the link to it in the one before
pub record ExtendRoom (w bytes from before : ℕ) : Type 0 where
  pub width : Width w
  pub past : start (shape w) ≤ bytes
  pub least : from + least_free (shape w) ≤ bytes
  pub linked : link_of (shape w) before + w ≤ bytes
  pub short : before ≤ bytes
  pub most : bytes ≤ (shape w).most

-- the bytes with their end in the heap's header, that block and that link
abbrev pub extended_bytes : ℕ → List ℕ → ℕ → ℕ → List ℕ
extended_bytes w b from before = linked_bytes w (put w b (end_at (shape w)) (length b)) from (length b) before 0

-- a buffer that holds a sound heap
pub record Holding (w : ℕ) (b : List ℕ) : Type 0 where
  pub width : Width w
  pub lent : Lent (shape w) b
  pub sound : SoundIn (shape w) b

-- a heap that ends there has room to grow in a buffer of n bytes: 8 at least
abbrev pub RoomToGrow : ℕ → ℕ → ℕ → Type 0
RoomToGrow w n end = ((shape w).grows ≡ true) × (end + 8 ≤ n)

-- the heap's new end, and the buffer with its new free block; or None, where that end would pass the buffer's
pub record Grown (w : ℕ) (b : List ℕ) (n : ℕ) (to : Option Position) (c : List ℕ) : Type 0 where
  pub grows : (L : Layout) → HereIn (shape w) b L → allocate (shape w) n L ≡ none → end_in (shape w) (longer (shape w) n L) ≤ end_of (length b)
      → (to ≡ Some (record { 0 = end_in (shape w) (longer (shape w) n L) })) × (c ≡ fronted (drawn (shape w) (longer (shape w) n L) (take (end_in (shape w) (longer (shape w) n L)) b)) b)
  pub stays : (L : Layout) → HereIn (shape w) b L → allocate (shape w) n L ≡ none → end_of (length b) < end_in (shape w) (longer (shape w) n L) → (to ≡ None) × (c ≡ b)

-- a run on a heap's own bytes: what they were, its answer, and what they are then
abbrev pub Run : Type 1
Run = List ℕ → Result Address Refusal → List ℕ → Type 0

-- that of a value which is called at the bytes
abbrev pub Runs : {F : Type 0} → Shared F (MutBor (List ℕ) × Unit {0}) (Result Address Refusal × (MutBor (List ℕ) × Unit {0})) → F → Run
Runs g f b r c = FnOnceReturnsAtMut (record { pre = g.pre; post = g.post }) f b r c

-- where it answers "no room", n bytes have none, and all is as it was
pub record Fills (w n : ℕ) (run : Run) : Type 0 where
  pub same : {b c : List ℕ} → Ready w b → run b (Err refusal.NoRoom) c → c ≡ b
  pub full : {b c : List ℕ} → Ready w b → run b (Err refusal.NoRoom) c → (L : Layout) → Here (shape w) b L → allocate (shape w) n L ≡ none

-- a run in a buffer: on the heap that it holds; or there first, and then on the heap that has grown; or there alone, where it cannot grow
pub data Ran (w : ℕ) (b : List ℕ) (n : ℕ) (run : Run) (r : Result Address Refusal) (c : List ℕ) : Type 0 where
  at_once : {d : List ℕ} → run (heap_of (shape w) b) r d → (r ≡ Err refusal.NoRoom → ⊥) → length d ≡ stored_end (shape w) b → c ≡ fronted d b → Ran w b n run r c
  later : {d e q : List ℕ} {p : Position} → run (heap_of (shape w) b) (Err refusal.NoRoom) d → Grown w b n (Some p) e → run (take p.0 e) r q → length q ≡ p.0 → c ≡ fronted q e → Ran w b n run r c
  never : {d : List ℕ} → run (heap_of (shape w) b) (Err refusal.NoRoom) d → Grown w b n None c → r ≡ Err refusal.NoRoom → Ran w b n run r c

-- what an allocation found, as an outcome
abbrev pub taken_as : Option Address → List ℕ → Outcome
taken_as (Some a) c = granted a.0 c
taken_as None c = refused c no_room

-- an allocation in a buffer, and a move
pub record Takes (w : ℕ) (b : List ℕ) (n : ℕ) (r : Option Address) (c : List ℕ) : Type 0 where
  pub is : (L : Layout) → HereIn (shape w) b L → taken_as r c ≡ growing (shape w) n b (λ h. allocated (shape w) h n) L

pub record Relocates (w : ℕ) (b : List ℕ) (a n : ℕ) (r : Result Address Refusal) (c : List ℕ) : Type 0 where
  pub is : (L : Layout) → HereIn (shape w) b L → outcome_of r c ≡ resized_by (shape w) moving b a n L
