-- What an examination that refuses nothing gives to the calls behind it: the heap in the buffer, and a size, that they may work on.
use Rattle.std.proofs.Common.{ℕ, ◌-◌, ◌≤◌, ◌≡◌, sym, ap, subst, List, arith, length, take, length-take-le, Result, Ok}
use Rattle.words.specs.Width.{Width}
use Rattle.model.specs.Shape.{shape, start}
use Rattle.model.specs.Layout.{Layout}
use Rattle.model.specs.Sound.{Here, stored_end, heap_of, HereIn}
use Rattle.model.proofs.pictures.Fronts.{own_start}
use Rattle.model.proofs.rules.Ready.{own_lent}
use Rattle.engine.specs.Allocate.{Asked}
use Rattle.engine.specs.Ready.{Ready}
use Rattle.growing.specs.Growing.{Holding}
use Rattle.model.specs.declared.refusals.Refusal.{Refusal}
use Rattle.examining.specs.Examined.{Examined, ExaminedFor}
use Rattle.examining.proofs.Examining.{fine_heap, fine_for}

module _ {w : ℕ} (wd : Width w) (b : List ℕ) where
  pub holding : (v : Result (List ℕ) Refusal) {o : List ℕ} → Examined w b v → v ≡ Ok o → Holding w b
  holding v x e = let y = fine_heap w b v x e in record { width = wd; lent = y.0; sound = y.1 }

  pub holding_for : (n : ℕ) (v : Result (List ℕ) Refusal) {o : List ℕ} → ExaminedFor w b n v → v ≡ Ok o → Holding w b × Asked w n
  holding_for n v x e =
      let y = fine_for w b n v x e in
      (record { width = wd; lent = y.0.0.0; sound = y.0.0.1 }, record { some_byte = y.1.0; most = y.1.1 })

  -- its end, and its own bytes
  module _ (x : Holding w b) where
    pub may_read_end : start (shape w) ≤ length b
    may_read_end = omega (arith, own_start (shape w) b x.sound.layout x.sound.here, x.sound.here.ended.1)

    pub end_within : (end : ℕ) → end ≡ stored_end (shape w) b → end ≤ length b
    end_within end k = omega (arith, k, x.sound.here.ended.1)

    own_ready : Ready w (heap_of (shape w) b)
    own_ready = record { width = wd; sound = record { layout = x.sound.layout; here = x.sound.here.here }; short = (own_lent wd b x.sound.layout x.lent x.sound.here).1 }

    -- as the code names them: a list that equals them
    pub ready_as : (h : List ℕ) → h ≡ heap_of (shape w) b → Ready w h
    ready_as h e = subst (λ (d : List ℕ). Ready w d) (sym e) own_ready

    pub part_is : (end : ℕ) → end ≡ stored_end (shape w) b → take (end - 0) b ≡ heap_of (shape w) b
    part_is end k = let z : end - 0 ≡ stored_end (shape w) b = omega (arith, k) in ap (λ (y : ℕ). take y b) z

    pub long_part : (end : ℕ) → end ≡ stored_end (shape w) b → length (take (end - 0) b) ≡ end - 0
    long_part end k = length-take-le (end - 0) b (omega (arith, k, x.sound.here.ended.1))

    pub part_ready : (end : ℕ) → end ≡ stored_end (shape w) b → Ready w (take (end - 0) b)
    part_ready end k = ready_as (take (end - 0) b) (part_is end k)

-- a layout that is there is one of the heap's own bytes
pub here_as : {w : ℕ} (b h : List ℕ) → h ≡ heap_of (shape w) b → (L : Layout) → HereIn (shape w) b L → Here (shape w) h L
here_as {w} b h e L i = subst (λ (d : List ℕ). Here (shape w) d L) (sym e) i.here
