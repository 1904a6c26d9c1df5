-- What each way through a measure of what is live shows.
use Rattle.std.proofs.Common.{ℕ, ◌+◌, ◌≤◌, ◌<◌, ◌≡◌, refl, sym, ap, ◌∙◌, List, arith, Option, Some, None, length}
use Rattle.std.proofs.Math.Decide.{ℕ_discrete}
use Rattle.std.proofs.lemmas.Option.{none-some, same_Some}
use Rattle.words.specs.Width.{Width}
use Rattle.model.specs.Shape.{shape, offset_of, end_of, least_variable, start}
use Rattle.model.specs.Layout.{Layout, ends}
use Rattle.model.specs.Sound.{Here, Sound}
use Rattle.model.specs.Rules.{Spot, Found, block, thing, nothing, find, capacity, shown_of}
use Rattle.model.proofs.items.Asked.{shown_some}
use Rattle.model.proofs.lives.Holding.{EndsBy, find_by, shown_most}
use Rattle.model.specs.declared.Position.{Position}
use Rattle.find.specs.declared.UsedBlock.{UsedBlock}
use Rattle.find.specs.declared.Live.TheVariants.{Item, Variable}
use Rattle.find.specs.Find.{Finds}
use Rattle.holding.specs.Holding.{measured, Holds}

-- of what stands within a heap a measure is 0 only for nothing, and never above the capacity
pub record Measures (w : ℕ) (measure : Found → ℕ) : Type 0 where
  pub none : (a hi : ℕ) (g : Found) → EndsBy w a hi g → measure g ≡ 0 → g ≡ nothing
  pub most : (a hi : ℕ) (g : Found) → EndsBy w a hi g → measure g ≤ capacity (shape w) g

-- what a measure's answer says of what is found
pub measured_none : (measure : Found → ℕ) (g : Found) → measured measure g ≡ None → g ≡ nothing
measured_none measure nothing e = refl
measured_none measure (block t) e = absurd (none-some _ (sym e))
measured_none measure (thing o c n) e = absurd (none-some _ (sym e))

pub measured_some : (measure : Found → ℕ) (g : Found) (n : ℕ) → measured measure g ≡ Some n → (measure g ≡ n) × (g ≡ nothing → ⊥)
measured_some measure nothing n e = absurd (none-some n e)
measured_some measure (block t) n e = (same_Some _ n e, λ z. none-some _ (sym (ap (measured measure) z)))
measured_some measure (thing o c m) n e = (same_Some _ n e, λ z. none-some _ (sym (ap (measured measure) z)))

module _ {w : ℕ} (wd : Width w) where
  shown_none : (a hi : ℕ) (g : Found) → EndsBy w a hi g → shown_of (shape w) g ≡ 0 → g ≡ nothing
  unfolding EndsBy
  shown_none a hi nothing e z = refl
  shown_none a hi (block t) e z = absurd (omega (arith, wd, e.0))
  shown_none a hi (thing o c n) e z = absurd (omega (arith, shown_some (shape w) c n))

  pub by_shown : Measures w (shown_of (shape w))
  by_shown = record { none = shown_none; most = shown_most wd }

  -- where it has none, none are shown
  pub by_capacity : Measures w (capacity (shape w))
  by_capacity = record { none = λ a hi g e z. shown_none a hi g e (omega (arith, shown_most wd a hi g e)); most = λ a hi g e. omega arith }

  -- all that it holds ends by the end
  capacity_by : (a hi : ℕ) (g : Found) → EndsBy w a hi g → 1 ≤ capacity (shape w) g → a + capacity (shape w) g ≤ hi
  unfolding EndsBy
  capacity_by a hi nothing e z = absurd (omega arith)
  capacity_by a hi (block t) e z = e.1
  capacity_by a hi (thing o c n) e z = e.1

  module _ (b : List ℕ) (a : ℕ) where
    -- what is found ends by the end
    ends_by : (L : Layout) → Here (shape w) b L → (g : Found) → find (shape w) a L ≡ g → EndsBy w a (end_of (length b)) g
    ends_by L h g e =
        let z : EndsBy w a (ends (shape w) (start (shape w)) L.blocks) (find (shape w) a L) = find_by wd a (start (shape w)) L.blocks h.valid.allowed in
        rw (e, h.valid.fills) at z

    -- an answer that is the measure of what is found is as promised
    holds : {measure : Found → ℕ} → Measures w measure → Sound (shape w) b → (r : Option ℕ) → ((L : Layout) → Here (shape w) b L → r ≡ measured measure (find (shape w) a L)) → Holds w measure b a r
    holds {measure} ms k r is =
        record {
          answer = is;
          none = λ e L h. measured_none measure (find (shape w) a L) (sym (is L h) ∙ e);
          some = λ n e. some_byte n e (ℕ_discrete n 0);
          within = λ n e.
              let g = find (shape w) a k.layout in
              let m : (measure g ≡ n) × (measure g ≤ capacity (shape w) g) = (of_found n e, ms.most a (end_of (length b)) g ends) in
              omega (arith, some_byte n e (ℕ_discrete n 0), m, capacity_by a (end_of (length b)) g ends (omega (arith, some_byte n e (ℕ_discrete n 0), m)));
        }
      where
        ends : EndsBy w a (end_of (length b)) (find (shape w) a k.layout)
        ends = ends_by k.layout k.here (find (shape w) a k.layout) refl

        of_found : (n : ℕ) → r ≡ Some n → measure (find (shape w) a k.layout) ≡ n
        of_found n e = (measured_some measure (find (shape w) a k.layout) n (sym (is k.layout k.here) ∙ e)).0

        some_byte : (n : ℕ) → r ≡ Some n → Dec (n ≡ 0) → 1 ≤ n
        some_byte n e (no z) = omega (arith, z)
        some_byte n e (yes z) = absurd ((measured_some measure (find (shape w) a k.layout) n (sym (is k.layout k.here) ∙ e)).1 (ms.none a (end_of (length b)) (find (shape w) a k.layout) ends (of_found n e ∙ z)))

module _ {w : ℕ} (wd : Width w) (b : List ℕ) (a : ℕ) (k : Sound (shape w) b) where
  module _ (q : Position) (c n : ℕ) (f : (L : Layout) → Here (shape w) b L → Finds w L a (Some (Item q c n))) where
    pub class_few : c < (shape w).classes
    unfolding Finds EndsBy
    class_few = (ends_by wd b a k.layout k.here (thing (offset_of (shape w) q.0) c n) (f k.layout k.here).1).0

  module _ (y : UsedBlock) (f : (L : Layout) → Here (shape w) b L → Finds w L a (Some (Variable y))) where
    pub block_least : least_variable (shape w) ≤ y.size
    unfolding Finds EndsBy
    block_least =
        let g = f k.layout k.here in
        let z = ends_by wd b a k.layout k.here (block g.0) g.1.found in
        omega (arith, z.0, g.1.size)

  module _ {measure : Found → ℕ} (ms : Measures w measure) where
    pub holds_none : ((L : Layout) → Here (shape w) b L → Finds w L a None) → Holds w measure b a None
    unfolding Finds
    holds_none f = holds wd b a ms k None (λ L h. ap (measured measure) (sym (f L h)))

    pub holds_item : (q : Position) (c n : ℕ) → ((L : Layout) → Here (shape w) b L → Finds w L a (Some (Item q c n))) → (r : ℕ) → r ≡ measure (thing (offset_of (shape w) q.0) c n) → Holds w measure b a (Some r)
    unfolding Finds
    holds_item q c n f r er = holds wd b a ms k (Some r) (λ L h. ap Some er ∙ ap (measured measure) (sym (f L h).1))

    pub holds_block : (y : UsedBlock) → ((L : Layout) → Here (shape w) b L → Finds w L a (Some (Variable y))) → (r : ℕ) → ((t : Spot) → t.size ≡ y.size → r ≡ measure (block t)) → Holds w measure b a (Some r)
    unfolding Finds
    holds_block y f r er =
        holds wd b a ms k (Some r) (λ L h. let g = f L h in ap Some (er g.0 g.1.size) ∙ ap (measured measure) (sym g.1.found))
