-- Laws of the check with one map after the other.
use Rattle.std.proofs.Common.{◌≡◌, ℕ, ◌+◌, ◌-◌, ◌*◌, ◌/◌, ◌%◌, ◌≤◌, ◌<◌, Bool, false, List, [], length, eqb, Option, Result, Ok, Err, refl, sym, ap, subst, ◌∙◌, arith, ne_eqb}
use Rattle.words.specs.Width.{Width}
use Rattle.words.specs.Bits.{bit_at}
use Rattle.words.proofs.BitLaws.{beyond_clear}
use Rattle.words.proofs.WidthLaws.{widths}
use Rattle.model.specs.Shape.{shape, start, end_of, shortest}
use Rattle.model.specs.Parts.{free_kind, kind_in, first_free_at, index_tag}
use Rattle.model.specs.Calls.{Lent}
use Rattle.model.proofs.Sizes.{start_eight, end_room}
use Rattle.marking.specs.Maps.{map_end, large_map}
use Rattle.sound.specs.Told.{Fixed, FillTold, Filled}
use Rattle.marking.specs.Told.{Sizes}
use Rattle.telling.specs.Neighbours.{touches}
use Rattle.walking.specs.Told.{Stood, StoodAt, Halted, WalkTold, end_from}
use Rattle.walking.proofs.Walks.{Parts, stood_at, link_room}
use Rattle.telling.specs.Tells.{Tells}
use Rattle.walking.specs.declared.Stand.{Stand}
use Rattle.walking.specs.declared.Reached.{Reached}
use Rattle.marking.proofs.MapLaws.{adds_same, marked_none, marking_same}

module _ {w : ℕ} (wd : Width w) where
  -- the tag of the index page's block says a page
  index_kind : kind_in (index_tag (shape w)) ≡ free_kind → ⊥
  index_kind = widths (λ w. kind_in (index_tag (shape w)) ≡ free_kind → ⊥) (omega arith) (omega arith) w wd

  -- the data area is a whole number of eights of bytes
  start_stops : (end : ℕ) → shortest (shape w) ≤ end → end % 8 ≡ 0 → start (shape w) + 8 * ((end - start (shape w)) / 8) ≡ end
  start_stops end = widths (λ w. shortest (shape w) ≤ end → end % 8 ≡ 0 → start (shape w) + 8 * ((end - start (shape w)) / 8) ≡ end) (omega arith) (omega arith) w wd

pub check_sizes : {w : ℕ} {b : List ℕ} → Width w → Lent (shape w) b → Sizes w b (end_of (length b))
check_sizes wd lent = record { width = wd; low = end_room wd _ lent.0; inside = omega arith; eight = omega arith }

-- before the first block, where the map has no mark
pub stood_start : {w : ℕ} {b : List ℕ} {end : ℕ} → Sizes w b end → Fixed w b end → Stood w b end (start (shape w)) ((end - start (shape w)) / 8) 0 (first_free_at (shape w)) 0 []
stood_start {w} {b} {end} z f =
    record {
      room = record { sizes = z; low = omega arith; stops = start_stops z.width end z.low z.eight; eight = start_eight z.width; before = omega arith; linked = refl };
      ahead = λ r. rw alone r;
      back = λ m' r. rw alone at r;
      marking = record { marked = marked_none (λ j. beyond_clear [] j (omega arith)); clear = record { from = λ j _. beyond_clear [] j (omega arith) }; few = omega arith };
    }
  where
    alone : touches w b (start (shape w)) ≡ false
    alone = ap (λ (x : ℕ). eqb (kind_in x) free_kind) f.high_tag ∙ ne_eqb (kind_in (index_tag (shape w))) free_kind (index_kind z.width)

-- with another map of the same bits
pub halted_same : {w : ℕ} {b m m' : List ℕ} {end : ℕ} {s : Stand} → ((j : ℕ) → bit_at m' j ≡ bit_at m j) → Halted w b end s m → Halted w b end s m'
halted_same e v = record { stood = record { room = v.stood.room; ahead = v.stood.ahead; back = λ m'' r. v.stood.back m'' (record { onward = r.onward; adds = adds_same e r.adds }); marking = marking_same e v.stood.marking }; paused = v.paused }

-- where a check's walk begins, and the word that names the next free block from there on
pub begins : {w : ℕ} {b : List ℕ} {end : ℕ} → Width w → Lent (shape w) b → end ≡ end_of (length b) → Fixed w b end → (s : Stand) → Parts s (start (shape w)) ((end - start (shape w)) / 8) 0 (first_free_at (shape w)) 0 → StoodAt w b (end_of (length b)) s []
begins wd lent e fixed s parts = stood_at s parts (rw e (stood_start (check_sizes wd lent) (rw e at fixed)))

pub link_inside : {w : ℕ} {b m : List ℕ} {s : Stand} → StoodAt w b (end_of (length b)) s m → s.link.0 + w ≤ length b
link_inside z = rw z.room.linked (omega (arith, z.room.stops, z.room.sizes.inside, link_room z.room.sizes.width _ _ z.room.low z.room.before))

-- the answers as far as a map goes are different, and say where the walk stands
ok_err : {x : Bool} {s : Stand} → ◌≡◌ {A = Result Bool Stand} (Ok x) (Err s) → ⊥
ok_err {x} {s} e = let z : ◌≡◌ {A = ℕ} 0 1 = cc in omega arith

same_ok : {x y : Bool} → ◌≡◌ {A = Result Bool Stand} (Ok x) (Ok y) → x ≡ y
same_ok e = cc

same_err : {s x : Stand} → ◌≡◌ {A = Result Bool Stand} (Err s) (Err x) → s ≡ x
same_err e = cc

-- what a walk tells that goes on from where it has halted
pub walk_told : {w : ℕ} {b m m' : List ℕ} {s : Stand} {P : Stand → Type 0} {r : Option Reached} → Halted w b (end_of (length b)) s m → WalkTold w b (end_from s) P r m' → WalkTold w b (end_of (length b)) P r m'
walk_told v t = rw v.stood.room.stops at t

-- answers as far as a map goes
pub fill_told : {w : ℕ} {b : List ℕ} {x : Bool} {m' : List ℕ} → Tells x (Filled w b (end_of (length b))) → FillTold w b (Ok x) m'
fill_told {w} {b} t = record { is_told = λ y e. subst (λ (z : Bool). Tells z (Filled w b (end_of (length b)))) (same_ok e) t; is_beyond = λ s e. absurd (ok_err e) }

pub fill_beyond : {w : ℕ} {b m' : List ℕ} (s : Stand) → Halted w b (end_of (length b)) s m' → map_end w (length m') < end_of (length b) → FillTold w b (Err s) m'
fill_beyond {w} {b} {m'} s v l = record { is_told = λ y e. absurd (ok_err (sym e)); is_beyond = λ x e. subst (λ (z : Stand). Halted w b (end_of (length b)) z m' × (map_end w (length m') < end_of (length b))) (same_err e) (v, l) }

-- a map of m words that reaches as far as the longest heap is enough for every heap; a large one does
pub map_enough : (w : ℕ) (b : List ℕ) (n m : ℕ) → n ≡ m → length b ≤ (shape w).most → (shape w).most ≤ map_end w m → map_end w n < end_of (length b) → ⊥
map_enough w b n m e short far = rw e (λ beyond. omega arith)

pub large_enough : {w : ℕ} → Width w → (b : List ℕ) (n : ℕ) → n ≡ large_map → length b ≤ (shape w).most → map_end w n < end_of (length b) → ⊥
large_enough {w} wd b n e short = map_enough w b n large_map e short (widths (λ w. (shape w).most ≤ map_end w large_map) (omega arith) (omega arith) w wd)
