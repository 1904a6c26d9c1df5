-- Resize: what each way through the call shows.
use Rattle.std.proofs.lemmas.Result.{err_from_is_err_and}
use Rattle.std.proofs.Common.{ok_or, IsErrAnd, is_err, true≢false, ℕ, ◌-◌, ◌*◌, ◌≤◌, ◌<◌, min, ◌≡◌, refl, sym, ap, ◌∙◌, Bool, true, false, cond, List, Option, Some, None, Result, Ok, Err, arith, le-leb, length, leb}
use Rattle.std.proofs.Math.Option.{Option as Given, none, some}
use Rattle.std.proofs.lemmas.Bool.{lt-leb}
use Rattle.words.proofs.YesNo.{yes_no}
use Rattle.words.specs.Copy.{copied}
use Rattle.model.specs.declared.Address.{Address}
use Rattle.model.specs.declared.Position.{Position}
use Rattle.model.specs.Shape.{shape, end_of, class_of, item_shown, item_at, offset_of, start, least_variable, largest_item}
use Rattle.model.specs.Layout.{Layout}
use Rattle.model.specs.Sound.{Here}
use Rattle.model.specs.Rules.{Spot, Made, Found, block, thing, nothing, find, allocate, capacity, shown_of, renewed, stays, freed}
use Rattle.model.specs.Refusals.{no_room}
use Rattle.model.specs.Calls.{Way, staying, moving, keeping, refused, granted, drawn, made, without, placed, moved_bytes}
use Rattle.model.specs.inner.Ways.{heap_way, heap_resized}
use Rattle.model.proofs.Good.{shape_good}
use Rattle.model.proofs.rules.ResizeWays.{heap_nowhere, heap_there}
use Rattle.model.proofs.walks.Finding.{item_found}
use Rattle.model.proofs.lives.LiveFound.{there_is}
use Rattle.model.proofs.items.ItemPlaces.{allocate_still}
use Rattle.model.proofs.lives.Moving.{taken_large, item_again}
use Rattle.model.proofs.blocks.Resizing.{item_stays, item_moves, small_moves}
use Rattle.find.specs.declared.UsedBlock.{UsedBlock}
use Rattle.find.specs.declared.Live.TheVariants.{Item, Variable}
use Rattle.model.specs.declared.refusals.Refusal.{Refusal}
use Rattle.model.specs.declared.refusals.Refusal.TheVariants as refusal
use Rattle.holding.proofs.HoldingLaws.{measured_some}
use Rattle.engine.specs.Ready.{Ready}
use Rattle.find.specs.Find.{Finds}
use Rattle.engine.specs.Allocate.{Asked}
use Rattle.holding.specs.Holding.{Holds}
use Rattle.items.specs.Items.{ItemLive, ItemIn, GaveItem, RenewedItem}
use Rattle.items.proofs.GiveLaws.{live_in, gave_draws}
use Rattle.releasing.specs.Release.{BlockLive}
use Rattle.reshaping.specs.Reshape.{Stays, Reshaped}
use Rattle.moving.specs.Move.{Holding, Carried}
use Rattle.moving.specs.Mend.{BlockLiveAt}
use Rattle.resizing.specs.Ways.{ItemLiveAt, ByWay}
use Rattle.moving.proofs.MoveLaws.{taken_none, taken_some, old_live}

not_nothing_item : (o c k : ℕ) → thing o c k ≡ nothing → ⊥
not_nothing_item o c k e = let z : ◌≡◌ {A = ℕ} 0 1 = cc in omega arith

not_nothing_block : (t : Spot) → block t ≡ nothing → ⊥
not_nothing_block t e = let z : ◌≡◌ {A = ℕ} 0 1 = cc in omega arith

-- of what is live, a way gives its own outcome
by_live : (w : ℕ) (b : List ℕ) (a n : ℕ) (L : Layout) → (find (shape w) a L ≡ nothing → ⊥) → (v : Way) → heap_resized (shape w) v b a n L ≡ heap_way (shape w) v b a n L
by_live w b a n L live v = heap_there (shape w) b a n L v (there_is (find (shape w) a L) live)

reason : {A : Type 0} → Result A Refusal → Refusal
reason (Ok x) = refusal.NoRoom
reason (Err k) = k

-- what a `?` on an `ok_or` returns where there is nothing
pub exits : {A B : Type 0} {o : Option A} {r : Result B Refusal} {k e : Refusal} → Err k ≡ ok_or o e → IsErrAnd r (λ j. j ≡ k) → (o ≡ None) × (r ≡ Err e)
unfolding reason
exits {o = None} {r} {k} {e} v x = let p = err_from_is_err_and r x in (refl, p.1 ∙ ap Err (p.2 ∙ ap reason v))
exits {o = Some y} v x = absurd (ok-err v)
  where
    ok-err : {A : Type 0} {y : A} {k : Refusal} → ◌≡◌ {A = Result A Refusal} (Err k) (Ok y) → ⊥
    ok-err f = true≢false (ap is_err f)

-- a move that found no room, and one that did
module _ {w : ℕ} {b : List ℕ} {a k n : ℕ} {t : Option Address} {c : List ℕ} (g : Carried w b a k n t c) where
  pub moved_nowhere : Holding w b a k → t ≡ None → ByWay w moving b a n (Err refusal.NoRoom) c
  moved_nowhere q e =
      record {
        is = λ L h.
            let v = g.is L h in
            let o : allocate (shape w) n L ≡ none = taken_none (allocate (shape w) n L) (sym e ∙ v.answer) in
            let ec : c ≡ b = rw o at v.bytes in
            rw (by_live w b a n L (q.live L h) moving, o, ec) refl;
      }

  module _ (q : Holding w b a k) (s : Asked w n) (x : Address) (e : t ≡ Some x) where
    pub chosen : (L : Layout) → Here (shape w) b L → (m : Made) × (allocate (shape w) n L ≡ some m) × (x.0 ≡ m.at)
    chosen L h = taken_some (allocate (shape w) n L) x (sym e ∙ (g.is L h).answer)

    pub carried_in : (L : Layout) (h : Here (shape w) b L) → Here (shape w) c (chosen L h).0.layout
    carried_in L h = rw (chosen L h).1 at (g.is L h).here

    -- the old place given back in the copied heap is the rule's last step
    pub moved_to : (d : List ℕ) → ((L : Layout) (h : Here (shape w) b L) → d ≡ drawn (shape w) (without (shape w) a (chosen L h).0.layout) c) → ByWay w moving b a n (Ok x) d
    moved_to d f =
        record {
          is = λ L h.
              let m = chosen L h in
              let ec : c ≡ copied a m.0.at (min k n) (drawn (shape w) m.0.layout b) = rw m.1 at (g.is L h).bytes in
              let ek : c ≡ copied a m.0.at (min (shown_of (shape w) (find (shape w) a L)) n) (drawn (shape w) m.0.layout b) = ec ∙ ap (λ (y : ℕ). copied a m.0.at (min y n) (drawn (shape w) m.0.layout b)) (q.shown L h) in
              let all : d ≡ moved_bytes (shape w) b a n L m.0 = f L h ∙ ap (λ (y : List ℕ). drawn (shape w) (without (shape w) a m.0.layout) y) ek in
              ap (λ (y : ℕ). granted y d) m.2 ∙ ap (λ (y : List ℕ). granted m.0.at y) all ∙ ap (λ (o : Given Made). made (shape w) b o (moved_bytes (shape w) b a n L)) (sym m.1) ∙ sym (by_live w b a n L (q.live L h) moving);
        }

-- in place, and not
module _ (w : ℕ) (b : List ℕ) (a n : ℕ) (L : Layout) (live : find (shape w) a L ≡ nothing → ⊥) where
  as_placed : (o : Given Layout) → stays (shape w) n (find (shape w) a L) L ≡ o → placed (shape w) b a o ≡ heap_resized (shape w) staying b a n L
  as_placed o s = rw (sym s) (sym (by_live w b a n L live staying))

  remains : (c : List ℕ) (M : Layout) → stays (shape w) n (find (shape w) a L) L ≡ some M → c ≡ drawn (shape w) M b → granted a c ≡ heap_resized (shape w) staying b a n L
  remains c M s e = ap (λ (y : List ℕ). granted a y) e ∙ as_placed (some M) s

-- an item
module _ {w : ℕ} {b : List ℕ} {a q c k : ℕ} (i : ItemLiveAt w b a q c k) where
  is_live : (L : Layout) → Here (shape w) b L → find (shape w) a L ≡ nothing → ⊥
  is_live L h e = not_nothing_item (offset_of (shape w) q) c k (sym (i.is L h) ∙ e)

  pub few : c < 4 * w
  few =
      let L = i.ready.sound.layout in
      let h = i.ready.sound.here in
      (item_found (shape w) (shape_good i.ready.width) a (offset_of (shape w) q) c k (start (shape w)) L.blocks (omega arith) h.valid.allowed (i.is L h)).class

  pub item_holds : Holding w b a (item_shown (shape w) c k)
  item_holds = record { ready = i.ready; live = is_live; shown = λ L h. ap (shown_of (shape w)) (sym (i.is L h)) }

  pub item_there : ItemLive w b q c
  item_there =
      let L = i.ready.sound.layout in
      let h = i.ready.sound.here in
      record { width = i.ready.width; layout = L; here = h; short = i.ready.short; low = i.low; address = a; asked = k; found = i.is L h }

  pub same_class : {n : ℕ} → class_of n ≡ c → (d : List ℕ) → RenewedItem w b q c n d → ByWay w staying b a n (Ok (record { 0 = a })) d
  same_class {n} e d r =
      record {
        is = λ L h.
            let s : stays (shape w) n (find (shape w) a L) L ≡ some (renewed (shape w) n (offset_of (shape w) q) L) =
            ap (λ (y : Found). stays (shape w) n y L) (i.is L h) ∙ item_stays (shape w) n (offset_of (shape w) q) c k L e in
            remains w b a n L (is_live L h) d (renewed (shape w) n (offset_of (shape w) q) L) s (r.draws L a k h (i.is L h));
      }

  pub other_class : {n : ℕ} (j : ℕ) → j ≡ class_of n → (j ≡ c → ⊥) → ByWay w staying b a n (Err refusal.NoRoom) b
  other_class {n} j e f =
      record {
        is = λ L h.
            as_placed w b a n L (is_live L h) none (ap (λ (y : Found). stays (shape w) n y L) (i.is L h) ∙ item_moves (shape w) n (offset_of (shape w) q) c k L (λ z. f (e ∙ z)));
      }

  module _ {n : ℕ} {t : Option Address} {d : List ℕ} (g : Carried w b a (item_shown (shape w) c k) n t d) (s : Asked w n) (x : Address) (e : t ≡ Some x) where
    again : (L : Layout) (h : Here (shape w) b L) → (m : ℕ) × (find (shape w) a (chosen g item_holds s x e L h).0.layout ≡ thing (offset_of (shape w) q) c m)
    again L h =
        let m = chosen g item_holds s x e L h in
        let f = item_found (shape w) (shape_good i.ready.width) a (offset_of (shape w) q) c k (start (shape w)) L.blocks (omega arith) h.valid.allowed (i.is L h) in
        let hc = carried_in g item_holds s x e L h in
        item_again (shape w) (shape_good i.ready.width) (end_of (length d)) m.0.layout hc.valid a (offset_of (shape w) q) c k
        (allocate_still (shape w) c (item_at (shape w) (offset_of (shape w) q)) (shape_good i.ready.width) h.valid n f.there m.0 m.1) f.at
        (rw (i.is L h) at (old_live b a (item_shown (shape w) c k) n item_holds s L h m.0 m.1))

    pub item_still : length d ≡ length b → ItemIn w d q c
    item_still l =
        let L = i.ready.sound.layout in
        let h = i.ready.sound.here in
        live_in (record { width = i.ready.width; layout = (chosen g item_holds s x e L h).0.layout; here = carried_in g item_holds s x e L h; short = rw l i.ready.short; low = i.low; address = a; asked = (again L h).0; found = (again L h).1 })

    pub item_gone : (d' : List ℕ) → GaveItem w d q c d' → ByWay w moving b a n (Ok x) d'
    item_gone d' v =
        moved_to g item_holds s x e d' (λ L h.
        gave_draws i.ready.width i.low v (chosen g item_holds s x e L h).0.layout a (again L h).0 (carried_in g item_holds s x e L h) (again L h).1
        ∙ ap (λ (y : Found). drawn (shape w) (freed (shape w) y (chosen g item_holds s x e L h).0.layout) d) (sym (again L h).1))

-- a variable block
module _ {w : ℕ} {b : List ℕ} {a : ℕ} {x : UsedBlock} (i : BlockLiveAt w b a x) where
  block_is_live : (L : Layout) → Here (shape w) b L → find (shape w) a L ≡ nothing → ⊥
  block_is_live L h e = not_nothing_block (i.is L h).0 (sym (i.is L h).1.found ∙ e)

  pub block_large : least_variable (shape w) ≤ x.size
  block_large =
      let L = i.ready.sound.layout in
      let h = i.ready.sound.here in
      omega (arith, taken_large (shape w) (shape_good i.ready.width) (end_of (length b)) L h.valid a (i.is L h).0 (i.is L h).1.found, (i.is L h).1.size)

  pub block_holds : Holding w b a (x.size - 2 * w)
  block_holds =
      record {
        ready = i.ready;
        live = block_is_live;
        shown = λ L h. let v = i.is L h in ap (λ (y : ℕ). y - 2 * w) (sym v.1.size) ∙ ap (shown_of (shape w)) (sym v.1.found);
      }

  pub block_there : BlockLive w b x
  block_there =
      let L = i.ready.sound.layout in
      let h = i.ready.sound.here in
      record { width = i.ready.width; layout = L; here = h; short = i.ready.short; address = a; spot = (i.is L h).0; found = (i.is L h).1 }

  pub too_small : {n : ℕ} → n ≤ largest_item (shape w) → ByWay w staying b a n (Err refusal.NoRoom) b
  too_small {n} l =
      record {
        is = λ L h. as_placed w b a n L (block_is_live L h) none (ap (λ (y : Found). stays (shape w) n y L) (i.is L h).1.found ∙ small_moves (shape w) n (i.is L h).0 L l);
      }

  module _ {n : ℕ} {r : Bool} {c : List ℕ} (g : Reshaped w b x n r c) where
    told : (L : Layout) (h : Here (shape w) b L) → Stays w b L (stays (shape w) n (find (shape w) a L) L) r c
    told L h = let v = i.is L h in rw v.1.found (g.is L a v.0 h v.1)

    pub reshaped_there : r ≡ true → ByWay w staying b a n (Ok (record { 0 = a })) c
    reshaped_there e = record { is = λ L h. go L h (stays (shape w) n (find (shape w) a L) L) refl (told L h) }
      where
        go : (L : Layout) (h : Here (shape w) b L) (o : Given Layout) → stays (shape w) n (find (shape w) a L) L ≡ o → Stays w b L o r c → granted a c ≡ heap_resized (shape w) staying b a n L
        go L h none s v = absurd (yes_no (sym e ∙ v.answer))
        go L h (some M) s v = remains w b a n L (block_is_live L h) c M s v.bytes

    pub not_reshaped : r ≡ false → ByWay w staying b a n (Err refusal.NoRoom) c
    not_reshaped e = record { is = λ L h. go L h (stays (shape w) n (find (shape w) a L) L) refl (told L h) }
      where
        go : (L : Layout) (h : Here (shape w) b L) (o : Given Layout) → stays (shape w) n (find (shape w) a L) L ≡ o → Stays w b L o r c → refused c no_room ≡ heap_resized (shape w) staying b a n L
        go L h none s v = ap (λ (y : List ℕ). refused y no_room) v.bytes ∙ as_placed w b a n L (block_is_live L h) none s
        go L h (some M) s v = absurd (yes_no (sym v.answer ∙ e))

-- what is found
module _ {w : ℕ} {b : List ℕ} (a : ℕ) (k : Ready w b) where
  pub nothing_live : (v : Way) (n : ℕ) → ((L : Layout) → Here (shape w) b L → Finds w L a None) → ByWay w v b a n (Err refusal.NotLive) b
  unfolding Finds
  nothing_live v n f = record { is = λ L h. sym (heap_nowhere (shape w) b a n L v (f L h)) }

  pub item_at_is : (q : Position) (c n : ℕ) → ((L : Layout) → Here (shape w) b L → Finds w L a (Some (Item q c n))) → ItemLiveAt w b a q.0 c n
  unfolding Finds
  item_at_is q c n f = record { ready = k; low = (f k.sound.layout k.sound.here).0; is = λ L h. (f L h).1 }

  pub block_at : (y : UsedBlock) → ((L : Layout) → Here (shape w) b L → Finds w L a (Some (Variable y))) → BlockLiveAt w b a y
  unfolding Finds
  block_at y f = record { ready = k; is = f }

-- as it is
module _ {w : ℕ} (b : List ℕ) (a n : ℕ) where
  pub keeps_none : Holds w (capacity (shape w)) b a None → ByWay w keeping b a n (Err refusal.NotLive) b
  keeps_none k = record { is = λ L h. sym (heap_nowhere (shape w) b a n L keeping (k.none refl L h)) }

  module _ (has : ℕ) (k : Holds w (capacity (shape w)) b a (Some has)) where
    kept_as : (L : Layout) → Here (shape w) b L → heap_resized (shape w) keeping b a n L ≡ cond (leb n has) (granted a b) (refused b no_room)
    kept_as L h = let m = measured_some (capacity (shape w)) (find (shape w) a L) has (sym (k.answer L h)) in rw (by_live w b a n L m.1 keeping, m.0) refl

    pub keeps : n ≤ has → ByWay w keeping b a n (Ok (record { 0 = a })) b
    keeps l = record { is = λ L h. rw (kept_as L h, le-leb n has l) refl }

    pub keeps_not : has < n → ByWay w keeping b a n (Err refusal.NoRoom) b
    keeps_not l = record { is = λ L h. rw (kept_as L h, lt-leb n has l) refl }
