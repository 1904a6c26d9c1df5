-- What resizing a block where it stands asks and promises.
use Rattle.std.specs.Prelude.{ℕ, ◌+◌, ◌-◌, ◌≤◌, ◌<◌, ◌≡◌, Bool, true, false, List}
use Rattle.std.proofs.Math.Option.{Option, none, some}
use Rattle.words.specs.Word.{word_at}
use Rattle.model.specs.Shape.{shape, largest_item}
use Rattle.model.specs.Layout.{Layout}
use Rattle.model.specs.Sound.{Here}
use Rattle.model.specs.Rules.{Spot, block, stays}
use Rattle.model.specs.Calls.{drawn}
use Rattle.model.specs.inner.Links.{link_of, back_of}
use Rattle.find.specs.declared.UsedBlock.{UsedBlock}
use Rattle.placing.specs.declared.Gap.{Gap}
use Rattle.find.specs.Find.{BlockFound}
use Rattle.releasing.specs.Release.{right_at, right_free}

-- the block x and a free neighbour behind it, read as one gap
pub record Reach (w : ℕ) (b : List ℕ) (x : UsedBlock) (g : Gap) : Type 0 where
  pub at : g.at.0 ≡ x.at.0
  pub size : g.size ≡ right_at w b (x.at.0 + x.size) (word_at w b (link_of (shape w) x.prev.0)) - x.at.0
  pub next : g.next.0 ≡ right_free w b (x.at.0 + x.size) (word_at w b (link_of (shape w) x.prev.0))
  pub prev : g.prev.0 ≡ x.prev.0
  pub link : g.link.0 ≡ link_of (shape w) x.prev.0
  pub back : g.back.0 ≡ back_of (shape w) b g.next.0

-- a size that has a block of its own
pub record Large (w n : ℕ) : Type 0 where
  pub above : largest_item (shape w) < n
  pub most : n ≤ (shape w).most

-- whether a record stays, and the bytes and the layout then
abbrev pub is_staying : Option Layout → Bool
is_staying none = false
is_staying (some L) = true

abbrev pub stayed_bytes : ℕ → List ℕ → Option Layout → List ℕ
stayed_bytes w b none = b
stayed_bytes w b (some L) = drawn (shape w) L b

abbrev pub stayed_layout : Layout → Option Layout → Layout
stayed_layout L none = L
stayed_layout L (some M) = M

-- of bytes b with layout L the rule gives o: whether the record stays, and bytes c that have the rule's layout
pub record Stays (w : ℕ) (b : List ℕ) (L : Layout) (o : Option Layout) (r : Bool) (c : List ℕ) : Type 0 where
  pub answer : r ≡ is_staying o
  pub bytes : c ≡ stayed_bytes w b o
  pub here : Here (shape w) c (stayed_layout L o)

-- the variable block x resized in place
pub record Reshaped (w : ℕ) (b : List ℕ) (x : UsedBlock) (n : ℕ) (r : Bool) (c : List ℕ) : Type 0 where
  pub is : (L : Layout) (a : ℕ) (t : Spot) → Here (shape w) b L → BlockFound w L a t x → Stays w b L (stays (shape w) n (block t) L) r c
