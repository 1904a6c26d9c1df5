-- What each way through a step of a walk shows.
use Rattle.std.proofs.Common.{ℕ, ◌+◌, ◌≤◌, ◌<◌, ◌≡◌, refl, sym, ap, ap₂, subst, ◌∙◌, List, [], ◌∷◌, ◌++◌, false, arith, eqb, eqb-true, length}
use borrow.Author.Tests.{eqb-false}
use Rattle.words.proofs.YesNo.{yes_no}
use Rattle.words.specs.Width.{Width}
use Rattle.words.specs.Word.{word_at}
use Rattle.model.specs.Shape.{shape, least_free, end_of, start}
use Rattle.model.specs.Parts.{free_kind, variable_kind, size_in, kind_in, class_in, next_at, previous_at, first_item_at}
use Rattle.model.specs.Picture.{Shows}
use Rattle.model.specs.Layout.{variable, page, Block, free, used, Layout, if_free, use_size, size_of, own}
use Rattle.model.specs.Sound.{Here, Sound}
use Rattle.model.specs.Reading.{Kind, a_free, a_variable, a_page, kind_of, ended, step_from, step}
use Rattle.model.proofs.blocks.Blocks.{last_append}
use Rattle.model.specs.inner.Walks.{last_free, Passed}
use Rattle.model.proofs.walks.Standing.{sized, size_is, there, met, is_variable_lem, is_free}
use Rattle.model.proofs.items.Aligned.{laid}
use Rattle.model.proofs.walks.Passing.{pass_start, stands, pass}
use Rattle.model.proofs.walks.Steps.{step_here, step_over, step_below, walk_ends}
use Rattle.reading.specs.Stepping.{Toward, Towards, WalkAt, StartTold}
use Rattle.reading.proofs.ReadingLaws.{page_class, page_there, there_at}

pub toward_start : {w : ℕ} → Width w → (b : List ℕ) (at p : ℕ) → p ≡ start (shape w) → Sound (shape w) b → Towards w b at p
unfolding last_free
toward_start {w} wd b at p e s = record { width = wd; sound = s; toward = λ L h. rw e (first L) }
  where
    first : (L : Layout) → Toward w L at (start (shape w))
    first L = record { pre = []; rest = L.blocks; passed = pass_start w L; same = refl }

-- nothing begins at the end or behind it
pub met_none : {w : ℕ} → Width w → (b : List ℕ) (at : ℕ) → end_of (length b) ≤ at → (L : Layout) → Here (shape w) b L → step (shape w) at L ≡ ended (shape w) at
met_none wd b at l L h = walk_ends wd (end_of (length b)) L at h.valid l

pub start_none : {w : ℕ} → Width w → (b : List ℕ) (at : ℕ) → end_of (length b) ≤ at → StartTold w b at false
start_none wd b at l = record { met = λ e. absurd (yes_no (sym e)); not_met = λ e. met_none wd b at l }

module _ {w : ℕ} {b : List ℕ} {at p : ℕ} (g : Towards w b at p) where
  -- a walk that has gone past at without meeting it does not meet it
  pub toward_past : at < p → (L : Layout) → Here (shape w) b L → step (shape w) at L ≡ ended (shape w) at
  toward_past l L h = let k = g.toward L h in k.same ∙ step_below g.width at p (last_free (shape w) (start (shape w)) k.pre 0) k.rest l

  pub start_told : at ≤ p → at < end_of (length b) → StartTold w b at (eqb p at)
  start_told l m =
      record {
        met = λ e. (subst (λ (x : ℕ). Towards w b at x) (eqb-true p at e) g, m);
        not_met = λ e. toward_past (omega (arith, l, eqb-false p at e));
      }

  module _ (t : ℕ) (e : t ≡ word_at w b p) (l : p < end_of (length b)) where
    pub toward_inside : (least_free (shape w) ≤ size_in t) × (p + size_in t ≤ end_of (length b))
    toward_inside =
        let k = g.toward g.sound.layout g.sound.here in
        let z = sized g.width (laid g.width g.sound.here) (stands k.passed) t e l in
        (z.least, z.inside)

    pub toward_on : p < at → (s : ℕ) → s ≡ size_in t → Towards w b at (p + s)
    unfolding last_free
    toward_on m s es = rw es record { width = g.width; sound = g.sound; toward = on }
      where
        on : (L : Layout) → Here (shape w) b L → Toward w L at (p + size_in t)
        on L h =
            let k = g.toward L h in
            let s = stands k.passed in
            let x = there g.width (laid g.width h) s l in
            let size : size_of (shape w) x.block ≡ size_in t = size_is g.width (laid g.width h) s t e l x.block x.after x.met in
            let prev : last_free (shape w) (start (shape w)) (k.pre ++ (x.block ∷ [])) 0 ≡ if_free x.block p (last_free (shape w) (start (shape w)) k.pre 0) =
            last_append (shape w) (start (shape w)) k.pre (x.block ∷ []) 0 ∙ ap (λ (y : ℕ). if_free x.block y (last_free (shape w) (start (shape w)) k.pre 0)) k.passed.begins in
            record {
              pre = k.pre ++ (x.block ∷ []);
              rest = x.after;
              passed = subst (λ (y : ℕ). Passed w L (p + y) (k.pre ++ (x.block ∷ [])) x.after) size (pass k.passed x.block x.after x.rest);
              same = k.same ∙ ap (λ (r : List Block). step_from (shape w) at p (last_free (shape w) (start (shape w)) k.pre 0) r) x.rest
                  ∙ step_over g.width at p (last_free (shape w) (start (shape w)) k.pre 0) x.block x.after (λ z. omega arith)
                  ∙ ap₂ (λ (y z : ℕ). step_from (shape w) at (p + y) z x.after) size (sym prev);
            }

-- a walk that has come to at stands there
pub walk_come : {w : ℕ} {b : List ℕ} {at : ℕ} → Towards w b at at → WalkAt w b at
walk_come g = record { width = g.width; sound = g.sound; gone = λ L h. record { pre = (g.toward L h).pre; rest = (g.toward L h).rest; passed = (g.toward L h).passed; so_far = refl } }

-- the walk has come to at, where a block begins
module _ {w : ℕ} {b : List ℕ} {at : ℕ} (g : Towards w b at at) (t : ℕ) (e : t ≡ word_at w b at) (l : at < end_of (length b)) where
  -- s is the size that its tag says
  module _ (s : ℕ) (es : s ≡ size_in t) (L : Layout) (h : Here (shape w) b L) where
    met_is : (x : Block) (after : List Block) → (g.toward L h).rest ≡ x ∷ after → (k : Kind) → k ≡ kind_of (shape w) at (last_free (shape w) (start (shape w)) (g.toward L h).pre 0) x after → size_of (shape w) x ≡ size_in t
        → record { position = at; size = s; kind = k; next = at + s } ≡ step (shape w) at L
    met_is x after r k ek ez =
        let q = g.toward L h in
        sym
        (q.same ∙ ap (λ (l : List Block). step_from (shape w) at at (last_free (shape w) (start (shape w)) q.pre 0) l) r ∙ step_here g.width at (last_free (shape w) (start (shape w)) q.pre 0) x after
        ∙ ap₂ (λ (y : ℕ) (z : Kind). record { position = at; size = y; kind = z; next = at + y }) (ez ∙ sym es) (sym ek))

    pub met_free : kind_in t ≡ free_kind → (n m : ℕ) → n ≡ word_at w b (next_at (shape w) at) → m ≡ word_at w b (previous_at (shape w) at s) → record { position = at; size = s; kind = a_free n m; next = at + s } ≡ step (shape w) at L
    unfolding size_of kind_of own Shows
    met_free z n m en em =
        let k = stands (g.toward L h).passed in
        let r = is_free g.width (laid g.width h) k t e l z in
        let shown = (met g.width (laid g.width h) k (free (size_in t)) r.0 r.1).shown in
        let m-is : m ≡ word_at w b (previous_at (shape w) at (size_in t)) = em ∙ ap (λ (y : ℕ). word_at w b (previous_at (shape w) at y)) es in
        met_is (free (size_in t)) r.0 r.1 (a_free n m) (ap₂ (λ (x y : ℕ). a_free x y) (en ∙ shown.1.0) (m-is ∙ shown.1.1.0)) refl

    pub met_variable : kind_in t ≡ variable_kind → record { position = at; size = s; kind = a_variable; next = at + s } ≡ step (shape w) at L
    unfolding size_of use_size kind_of
    met_variable z =
        let r = is_variable_lem g.width (laid g.width h) (stands (g.toward L h).passed) t e l z in
        met_is (used (variable (size_in t))) r.0 r.1 a_variable refl refl

    pub met_page : (kind_in t ≡ free_kind → ⊥) → (kind_in t ≡ variable_kind → ⊥) → (f d : ℕ) → f ≡ word_at w b (first_item_at (shape w) at) → d ≡ class_in (shape w) f
        → record { position = at; size = s; kind = a_page d; next = at + s } ≡ step (shape w) at L
    unfolding size_of kind_of walk_come
    met_page z y f d ef ed =
        let q = page_there (λ (l : List Block). tt) (walk_come g) t e l z y L h in
        met_is (used (page q.class q.spare q.slots)) q.after q.rest (a_page d)
        (ap a_page (page_class (there_at (λ (l : List Block). tt) (walk_come g) t e l z y L h) f d ef ed)) q.size
