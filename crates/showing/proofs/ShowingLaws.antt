-- What the report's walks stand on.
use Rattle.std.proofs.Common.{ℕ, ◌+◌, ◌*◌, ◌^◌, ◌≤◌, ◌<◌, ◌≡◌, ap, List, arith, length, length-take-le}
use Rattle.std.proofs.Math.ListN.{get_or-eq_default}
use Rattle.words.specs.Word.{word_at, Bytes}
use Rattle.model.specs.Shape.{shape, hand, item_size, end_of, start}
use Rattle.model.specs.Parts.{magic_bytes, first_item_at}
use Rattle.model.specs.Layout.{Slot}
use Rattle.model.specs.Sound.{Sound, stored_end, heap_of, SoundIn}
use Rattle.model.specs.Calls.{Opened}
use Rattle.model.proofs.Sizes.{per_page_bound}
use Rattle.model.proofs.blocks.Blocks.{le_ends}
use Rattle.model.proofs.walks.Totals.{held_few}
use Rattle.reading.specs.Counting.{AtPage, PageAt, PageTold}
use Rattle.reading.specs.Stepping.{BlockRead}
use Rattle.reading.specs.declared.counting.Page.{Page}
use Rattle.reading.specs.declared.stepping.Kind.TheVariants as kind
use Rattle.reading.specs.declared.stepping.MetBlock.{MetBlock}
use Rattle.reading.proofs.ReadingLaws.{page_room}

-- what is lent of a buffer with a heap ends no further than a heap there can end
pub part_within : {w : ℕ} {b d : List ℕ} → SoundIn (shape w) b → d ≡ heap_of (shape w) b → end_of (length d) ≤ end_of (length b)
part_within {w} {b} s f = omega (arith, s.here.ended.1, ap length f, length-take-le (stored_end (shape w) b) b (omega (arith, s.here.ended.1)))

-- the data area begins before it ends
pub area : (w : ℕ) (b : List ℕ) → Sound (shape w) b → start (shape w) ≤ end_of (length b)
area w b s = omega (arith, s.here.valid.fills, le_ends (shape w) (start (shape w)) s.layout.blocks)

module _ {w : ℕ} {b : List ℕ} {at : ℕ} {r : MetBlock} (k : BlockRead w b at r) where
  pub on_page : (c : ℕ) → r.kind ≡ kind.Page c → AtPage w b at
  on_page c e = let q = k.paged c e in record { class = c; spare = q.spare; slots = q.slots; at = q.at }

  -- the items of a page with its first item at q stand in the heap
  pub on_items : (c : ℕ) → r.kind ≡ kind.Page c → (q : ℕ) → q ≡ first_item_at (shape w) at → (c < (shape w).classes) × (q + (shape w).per_page c * item_size (shape w) c ≤ length b)
  on_items c e q f = let a = (k.paged c e).at in (a.few, omega (arith, page_room a))

-- a page has items, and not too many to count with
pub page_filled : {w : ℕ} {b : List ℕ} {p : ℕ} (a : AtPage w b p) (r : Page) → ((c k : ℕ) (ss : List Slot) → PageAt w b p c k ss → PageTold r c ss) → (1 ≤ r.held + r.idle) × (r.held < 2 ^ 32) × (r.idle < 2 ^ 32)
page_filled a r t =
    let q = t a.class a.spare a.slots a.at in
    omega (arith, q.held, q.idle, held_few a.slots, a.at.count, per_page_bound a.at.width a.class)

-- fewer bytes than the magic number has do not make it
pub short_closed : (b : List ℕ) → Bytes b → length b < magic_bytes → Opened hand b → ⊥
unfolding word_at
short_closed b bs l o = omega (arith, o, get_or-eq_default b 0 {n = 7} (omega arith), bs 0, bs 1, bs 2, bs 3, bs 4, bs 5, bs 6)
