-- What a turn of a loop over a heap's blocks knows.
use Rattle.std.proofs.Common.{ℕ, ◌+◌, ◌≤◌, ◌<◌, ◌≡◌, ◌∙◌, sym, ap, subst, arith, List, [], length}
use Rattle.model.specs.Shape.{end_of, start, shape}
use Rattle.model.specs.Layout.{Block}
use Rattle.words.specs.Width.{Width}
use Rattle.model.specs.Sound.{Sound}
use Rattle.reading.proofs.ReadingLaws.{going_start}
use Rattle.reading.specs.Counting.{AtPage, Going}
use Rattle.reading.specs.Stepping.{BlockRead, PageOf}
use Rattle.reading.specs.Blocks.{Turned, Done}
use Rattle.reading.specs.declared.stepping.Kind.TheVariants.{Page}
use Rattle.reading.specs.declared.stepping.MetBlock.{MetBlock}

-- a block's place, and the page that stands there
module _ {w : ℕ} {b : List ℕ} {p : ℕ} {r : MetBlock} (k : BlockRead w b p r) where
  pub read_below : p < end_of (length b)
  read_below = omega (arith, k.next.width, k.least, k.inside)

  pub read_page_at : (c : ℕ) → r.kind ≡ Page c → AtPage w b p
  read_page_at c e = let q : PageOf w b p c = k.paged c e in record { class = c; spare = q.spare; slots = q.slots; at = q.at }

-- the loop begins, with an iterator that stands at p in the heap h
pub begins : {A : Type 0} (f : List Block → A) {w : ℕ} {b h : List ℕ} {p : ℕ} → h ≡ b → p ≡ start (shape w) → Width w → Sound (shape w) b → (v : A) → v ≡ f []
    → (h ≡ b) × Going w f b p v
begins f o a wd s v e = (o, going_start f wd _ _ a s v e)

-- the turn went from p in h to p' in h', and gave r
module _ {w : ℕ} {b h h' : List ℕ} {p p' : ℕ} {r : MetBlock} (o : h ≡ b) (n : Turned w h p r h' p') where
  pub turn_read : BlockRead w b r.position.0 r
  turn_read = let k : BlockRead w b p r = rw o at n.read in subst (λ (x : ℕ). BlockRead w b x r) (sym k.place) k

  pub turn_on : h' ≡ b
  turn_on = n.heap ∙ o

  pub turn_at : r.position.0 + r.size ≡ p'
  turn_at = ap (λ x. x + r.size) n.read.place ∙ sym n.moved

  pub turn_going : {A : Type 0} {f : List Block → A} {v : A} → Going w f b p v → Going w f b r.position.0 v
  turn_going {f = f} {v} g = subst (λ (x : ℕ). Going w f b x v) (sym n.read.place) g

-- it went over the heap's end
pub turn_end : {b h h' : List ℕ} {p p' : ℕ} → h ≡ b → Done h p h' p' → end_of (length b) ≤ p
turn_end o n = rw o at n.end
