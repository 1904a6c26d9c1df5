-- Whether a heap may end somewhere, told by comparisons.
use Rattle.std.proofs.Common.{ℕ, ◌%◌, ◌≤◌, ◌≡◌, true, false, arith, eqb}
use Rattle.model.specs.Shape.{shape, shortest, end_of}
use Rattle.model.specs.Sound.{MayEnd}
use Rattle.telling.specs.Tells.{Tells}
use Rattle.telling.proofs.Tellings.{tells_no, tells_eq}

module _ (w n e : ℕ) where
  -- a heap that ends with its buffer
  pub tells_ends : (shape w).grows ≡ false → Tells (eqb e (end_of n)) (MayEnd (shape w) n e)
  tells_ends g = tells_eq e (end_of n) (MayEnd (shape w) n e) (λ z. rw g (omega (arith, z))) (λ m. let k : (end_of n ≤ e) × (e ≤ end_of n) × (e % 8 ≡ 0) = rw g at m in omega (arith, k))

  -- one that grows: too near; too far; or a multiple of 8 or not
  module _ (g : (shape w).grows ≡ true) where
    as_it_grows : MayEnd (shape w) n e → (shortest (shape w) ≤ e) × (e ≤ end_of n) × (e % 8 ≡ 0)
    as_it_grows m = rw g at m

    pub tells_near : (shortest (shape w) ≤ e → ⊥) → Tells false (MayEnd (shape w) n e)
    tells_near l = tells_no (MayEnd (shape w) n e) (λ m. l (as_it_grows m).0)

    pub tells_far : (e ≤ n → ⊥) → Tells false (MayEnd (shape w) n e)
    tells_far l = tells_no (MayEnd (shape w) n e) (λ m. l (omega (arith, as_it_grows m)))

    pub tells_eight : shortest (shape w) ≤ e → e ≤ n → Tells (eqb (e % 8) 0) (MayEnd (shape w) n e)
    tells_eight l k = tells_eq (e % 8) 0 (MayEnd (shape w) n e) (λ z. rw g (l, omega (arith, k, z), z)) (λ m. (as_it_grows m).2)
