-- A variable block moves: it is found again after the allocation, and given back.
use Rattle.std.proofs.Common.{ℕ, ◌-◌, ◌*◌, ◌≡◌, sym, ap, ◌∙◌, List, arith, length, Option, Some, Ok}
use Rattle.words.specs.Word.{word_at}
use Rattle.model.specs.declared.Address.{Address}
use Rattle.model.specs.Shape.{shape, end_of, start}
use Rattle.model.specs.Layout.{Layout}
use Rattle.model.specs.Sound.{Here}
use Rattle.model.specs.Rules.{Spot, Found, freed}
use Rattle.model.specs.Calls.{moving, drawn}
use Rattle.model.specs.inner.Links.{back_of}
use Rattle.model.proofs.Good.{shape_good}
use Rattle.model.proofs.walks.Finding.{block_found}
use Rattle.model.proofs.blocks.Mending.{allocate_mends}
use Rattle.model.specs.inner.Walks.{flag, Stands, Mend}
use Rattle.find.specs.declared.UsedBlock.{UsedBlock}
use Rattle.engine.specs.Allocate.{Asked}
use Rattle.find.specs.Find.{BlockFound}
use Rattle.releasing.specs.Release.{BlockIn, GivenBack}
use Rattle.releasing.proofs.ReleaseLaws.{live_used, freed_draws}
use Rattle.moving.specs.Move.{Carried}
use Rattle.resizing.specs.Ways.{ByWay}
use Rattle.moving.specs.Mend.{BlockLiveAt, Mendable, Mended}
use Rattle.resizing.proofs.ResizeLaws.{chosen, carried_in, moved_to, block_holds}
use Rattle.moving.proofs.MendLaws.{found_stands, stands_found, read_before}

module _ {w : ℕ} {b : List ℕ} {a n : ℕ} {x : UsedBlock} (i : BlockLiveAt w b a x) {t : Option Address} {c : List ℕ} (g : Carried w b a (x.size - 2 * w) n t c) (s : Asked w n) (new : Address) (e : t ≡ Some new) (r before : ℕ) (er : r ≡ back_of (shape w) b x.prev.0) (eb : before ≡ word_at w b r) where
  after : (L : Layout) → Here (shape w) b L → Layout
  after L h = (chosen g (block_holds i) s new e L h).0.layout

  here_after : (L : Layout) (h : Here (shape w) b L) → Here (shape w) c (after L h)
  unfolding after
  here_after L h = carried_in g (block_holds i) s new e L h

  mends : (L : Layout) (h : Here (shape w) b L) → Mend (shape w) (after L h) x.at.0 x.size x.prev.0 (flag x.touching) before
  unfolding after
  mends L h =
      let m = chosen g (block_holds i) s new e L h in
      allocate_mends (shape w) (shape_good i.ready.width) (end_of (length b)) n L h.valid x.at.0 x.size x.prev.0 (flag x.touching) before (found_stands i.ready.width b L a (i.is L h).0 x h (i.is L h).1) (read_before i r before er eb L h) m.0 m.1

  pub mendable : Mendable w c x before
  mendable = let L = i.ready.sound.layout in let h = i.ready.sound.here in record { width = i.ready.width; layout = after L h; here = here_after L h; mend = mends L h }

  module _ {y : UsedBlock} (y' : Mended w c x before y) where
    again : (L : Layout) (h : Here (shape w) b L) → (t : Spot) × BlockFound w (after L h) a t y
    again L h =
        let f = i.is L h in
        let k = block_found (shape w) (shape_good i.ready.width) a (start (shape w)) L.blocks f.0 f.1.found in
        let st : Stands (shape w) (after L h) x.at.0 x.size y.prev.0 (flag y.touching) = y'.stands (after L h) (here_after L h) (mends L h) in
        stands_found i.ready.width c (after L h) a y (here_after L h) (omega (arith, k.at, f.1.at, y'.at)) (rw (y'.at, y'.size) st)

    pub found_again : length c ≡ length b → BlockIn w c y
    found_again l =
        let L = i.ready.sound.layout in
        let h = i.ready.sound.here in
        live_used (record { width = i.ready.width; layout = after L h; here = here_after L h; short = rw l i.ready.short; address = a; spot = (again L h).0; found = (again L h).1 })

    pub given_back : (d : List ℕ) → GivenBack w c y d → ByWay w moving b a n (Ok new) d
    unfolding after
    given_back d z =
        moved_to g (block_holds i) s new e d (λ L h.
        freed_draws i.ready.width z (after L h) a (again L h).0 (here_after L h) (again L h).1
        ∙ ap (λ (f : Found). drawn (shape w) (freed (shape w) f (after L h)) c) (sym (again L h).1.found))
