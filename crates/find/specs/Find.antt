-- What the search for a live address asks and promises.
use Rattle.std.specs.Prelude.{Option, Some, None, ℕ, ◌+◌, ◌≤◌, ◌<◌, ◌≡◌, ◌⊎◌, Bool, false, cond, List, length, eqb}
use Rattle.words.specs.Width.{Width}
use Rattle.words.specs.Word.{word_at}
use Rattle.model.specs.Shape.{shape, offset_of, end_of, index, start}
use Rattle.model.specs.Parts.{free_kind, variable_kind, size_in, kind_in}
use Rattle.model.specs.Layout.{Block, Layout, ends, first_free}
use Rattle.model.specs.Sound.{Here, Sound}
use Rattle.model.specs.Rules.{Spot, block, thing, nothing, find}
use Rattle.model.specs.inner.Walks.{flag, last_free, ends_free, Standing, Passed}
use Rattle.find.specs.declared.UsedBlock.{UsedBlock}
use Rattle.find.specs.declared.Live.{Live}
use Rattle.find.specs.declared.Live.TheVariants.{Item, Variable}

-- x is the variable block of the spot t, found at a
pub record BlockFound (w : ℕ) (L : Layout) (a : ℕ) (t : Spot) (x : UsedBlock) : Type 0 where
  pub found : find (shape w) a L ≡ block t
  pub at : ends (shape w) (start (shape w)) t.pre ≡ x.at.0
  pub size : t.size ≡ x.size
  pub before : last_free (shape w) (start (shape w)) t.pre 0 ≡ x.prev.0
  pub touches : ends_free 0 t.pre ≡ flag x.touching

-- an answer says what is found at a
unfoldable pub Finds : ℕ → Layout → ℕ → Option Live → Type 0
Finds w L a None = find (shape w) a L ≡ nothing
Finds w L a (Some (Item q c n)) = (index (shape w) ≤ q.0) × (find (shape w) a L ≡ thing (offset_of (shape w) q.0) c n)
Finds w L a (Some (Variable x)) = (t : Spot) × BlockFound w L a t x

-- the walk stands at p, and the block there, of tag t, reaches past the address a
pub record OnBlock (w : ℕ) (b : List ℕ) (p t prev : ℕ) (touching : Bool) (a : ℕ) : Type 0 where
  pub width : Width w
  pub sound : Sound (shape w) b
  pub standing : (L : Layout) → Here (shape w) b L → Standing w L p prev (flag touching)
  pub tag : t ≡ word_at w b p
  pub from : p ≤ a
  pub reach : a < p + size_in t
  pub below : a < end_of (length b)

-- and that block is a page
pub record OnPage (w : ℕ) (b : List ℕ) (p a : ℕ) : Type 0 where
  pub tag : ℕ
  pub prev : ℕ
  pub touching : Bool
  pub block : OnBlock w b p tag prev touching a
  pub not_free : kind_in tag ≡ free_kind → ⊥
  pub not_variable : kind_in tag ≡ variable_kind → ⊥

-- where the block behind the free one at prev begins; the first of all, where prev is 0
unfoldable pub behind_at : ℕ → List ℕ → ℕ → ℕ
behind_at w b prev = cond (eqb prev 0) (start (shape w)) (prev + word_at w b prev)

-- whether the free block at prev, behind which blocks begin at `begin`, touches the block at p
unfoldable pub touches_at : ℕ → ℕ → ℕ → Bool
touches_at prev begin p = cond (eqb prev 0) false (eqb p begin)

-- the walk stands at p as in `Standing`, and the next free block from there on is at next, 0 where there is none
pub record Between (w : ℕ) (L : Layout) (p prev left next : ℕ) : Type 0 where
  pub pre : List Block
  pub rest : List Block
  pub passed : Passed w L p pre rest
  pub before : last_free (shape w) (start (shape w)) pre 0 ≡ prev
  pub touches : ends_free 0 pre ≡ left
  pub onward : first_free (shape w) p rest 0 ≡ next

-- from p on no free block begins below a
pub record Clear (w : ℕ) (L : Layout) (a p prev : ℕ) (touching : Bool) : Type 0 where
  pub next : ℕ
  pub between : Between w L p prev (flag touching) next
  pub above : (next ≡ 0) ⊎ (a ≤ next)

-- prev is the last free block below a, 0 where there is none
pub record Nearest (w : ℕ) (b : List ℕ) (L : Layout) (a prev : ℕ) : Type 0 where
  pub low : prev ≤ a
  pub room : prev + w ≤ length b
  pub clear : Clear w L a (behind_at w b prev) prev (touches_at prev (behind_at w b prev) (behind_at w b prev))
