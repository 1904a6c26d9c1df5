-- What is read of the block at which a walk stands, and that the walk goes on behind it.
use Rattle.std.proofs.Common.{ℕ, ◌+◌, ◌≤◌, ◌<◌, ◌≡◌, refl, ap, subst, ◌∙◌, List, arith, length}
use Rattle.words.specs.Word.{word_at}
use Rattle.model.specs.Shape.{shape, least_free, end_of, start}
use Rattle.model.specs.Parts.{free_kind, variable_kind, size_in, kind_in, class_in, next_at, previous_at, first_item_at}
use Rattle.model.specs.Layout.{Block, Layout}
use Rattle.model.specs.Sound.{Here}
use Rattle.model.specs.Reading.{step_from}
use Rattle.model.specs.inner.Walks.{last_free, Gone}
use Rattle.model.proofs.walks.Standing.{size_is, there}
use Rattle.model.proofs.items.Aligned.{laid}
use Rattle.model.proofs.walks.Passing.{stands, passed_allowed, gone_on}
use Rattle.model.proofs.walks.Steps.{step_past}
use Rattle.reading.specs.Stepping.{Toward, Towards, WalkAt, PageOf, BlockRead}
use Rattle.reading.specs.declared.stepping.Kind.TheVariants.{Free, Variable, Page}
use Rattle.reading.proofs.ReadingLaws.{going_inside, page_class, page_flag, page_there, there_at}
use Rattle.reading.proofs.SteppingLaws.{met_free, met_variable, met_page}

module _ {w : ℕ} {b : List ℕ} {at : ℕ} (g : WalkAt w b at) where
  -- no block before the one at which the walk stands begins there
  walk_here : Towards w b at at
  walk_here = record { width = g.width; sound = g.sound; toward = here }
    where
      here : (L : Layout) → Here (shape w) b L → Toward w L at at
      here L h =
          let k = g.gone L h in
          record {
            pre = k.pre;
            rest = k.rest;
            passed = k.passed;
            same = ap (λ (l : List Block). step_from (shape w) at (start (shape w)) 0 l) k.passed.blocks
                ∙ step_past g.width at (start (shape w)) 0 k.pre k.rest (passed_allowed k.passed g.width (laid g.width h)) (omega (arith, k.passed.begins))
                ∙ ap (λ (y : ℕ). step_from (shape w) at y (last_free (shape w) (start (shape w)) k.pre 0) k.rest) k.passed.begins;
          }

  -- t is the block's tag, and s the size that it says
  module _ (t : ℕ) (e : t ≡ word_at w b at) (l : at < end_of (length b)) (s : ℕ) (es : s ≡ size_in t) where
    pub walk_inside : (least_free (shape w) ≤ s) × (at + s ≤ end_of (length b))
    walk_inside = rw es (going_inside (λ (l : List Block). tt) g t e l)

    pub walk_on : WalkAt w b (at + s)
    walk_on = rw es record { width = g.width; sound = g.sound; gone = on }
      where
        on : (L : Layout) → Here (shape w) b L → Gone {A = Unit {0}} w (λ (l : List Block). tt) L (at + size_in t) tt
        on L h =
            let k = g.gone L h in
            let x = there g.width (laid g.width h) (stands k.passed) l in
            gone_on (λ (l : List Block). tt) g.width (laid g.width h) k x.block x.after x.rest (size_in t) (size_is g.width (laid g.width h) (stands k.passed) t e l x.block x.after x.met) tt refl

    pub read_free : kind_in t ≡ free_kind → (n m : ℕ) → n ≡ word_at w b (next_at (shape w) at) → m ≡ word_at w b (previous_at (shape w) at s)
        → BlockRead w b at (record { position = record { 0 = at }; size = s; kind = Free (record { 0 = n }) (record { 0 = m }) })
    read_free z n m en em =
        record {
          answer = λ L h. met_free walk_here t e l s es L h z n m en em;
          place = refl;
          sized = rw e at es;
          kind_is = rw e at z;
          least = walk_inside.0;
          inside = walk_inside.1;
          next = walk_on;
          paged = λ c k. let z : ◌≡◌ {A = ℕ} 0 1 = cc in absurd (omega arith);
        }

    pub read_variable : kind_in t ≡ variable_kind → BlockRead w b at (record { position = record { 0 = at }; size = s; kind = Variable })
    read_variable z =
        record {
          answer = λ L h. met_variable walk_here t e l s es L h z;
          place = refl;
          sized = rw e at es;
          kind_is = rw e at z;
          least = walk_inside.0;
          inside = walk_inside.1;
          next = walk_on;
          paged = λ c k. let z : ◌≡◌ {A = ℕ} 0 1 = cc in absurd (omega arith);
        }

    -- f is the first item's header, and d the class that it says
    module _ (z : kind_in t ≡ free_kind → ⊥) (y : kind_in t ≡ variable_kind → ⊥) (f d : ℕ) (ef : f ≡ word_at w b (first_item_at (shape w) at)) (ed : d ≡ class_in (shape w) f) where
      page_of_lem : PageOf w b at d
      page_of_lem =
          let L = g.sound.layout in
          let h = g.sound.here in
          let q = page_there (λ (l : List Block). tt) g t e l z y L h in
          let a = there_at (λ (l : List Block). tt) g t e l z y L h in
          record { spare = q.spare; slots = q.slots; at = rw (page_class a f d ef ed) a }

      pub read_page : BlockRead w b at (record { position = record { 0 = at }; size = s; kind = Page d })
      read_page =
          record {
            answer = λ L h. met_page walk_here t e l s es L h z y f d ef ed;
            place = refl;
            sized = rw e at es;
            kind_is = rw e at (page_flag (λ (l : List Block). tt) g t e l z y);
            least = walk_inside.0;
            inside = walk_inside.1;
            next = walk_on;
            paged = λ c k. let i : d ≡ c = cc in subst (λ (x : ℕ). PageOf w b at x) i page_of_lem;
          }
