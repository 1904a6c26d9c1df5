use Rattle.std.proofs.Common.{ℕ, ◌-◌, ◌≡◌, ap, ◌∙◌, arith, take}
use Rattle.ending.proofs.heap_of.Goals as goal

pub returns : goal.returns
returns g c = let e : c.stored_end-end.result.0 - 0 ≡ c.stored_end-end.result.0 = omega arith in
    ap (λ (x : ℕ). take x c.args.h.now) (e ∙ c.stored_end-end.ensures)
