-- What each step of the search for room shows.
use Rattle.std.specs.Prelude.{Option, Some, None}
use Rattle.std.proofs.Common.{ℕ, ◌+◌, ◌*◌, ◌≤◌, ◌<◌, ◌≡◌, refl, sym, ap, List, length, arith}
use Rattle.std.proofs.Math.Option.{Option as Found, none, some}
use Rattle.std.proofs.lemmas.Option.{none-some, same_Some}
use Rattle.words.specs.Width.{Width}
use Rattle.words.specs.Word.{word_at}
use Rattle.model.specs.Shape.{shape, start}
use Rattle.model.specs.Parts.{first_free_at}
use Rattle.model.specs.Layout.{Layout, ends}
use Rattle.model.specs.Sound.{Here, Sound}
use Rattle.model.specs.Rules.{Spot, fit}
use Rattle.model.specs.declared.Position.{Position}
use Rattle.model.proofs.blocks.FreeWalk.{At, Seeking, left, begin, first_read, falls, standing, ended, size_read, next_read, room, large, hit, miss, lower}
use Rattle.model.proofs.blocks.Spots.{fit_some, found_spot, found_none}
use Rattle.model.specs.inner.Walks.{SpotIn}
use Rattle.fitting.specs.Fitting.{position_of}

-- the search stands at p, and nothing lower fits
abbrev pub Looking : ℕ → List ℕ → ℕ → ℕ → Type 0
Looking w b need p = (L : Layout) → Here (shape w) b L → Seeking (shape w) b need L (start (shape w)) p

-- the answer, for every layout that the bytes have
abbrev pub Answers : ℕ → List ℕ → ℕ → Option Position → Type 0
Answers w b need r = (L : Layout) → Here (shape w) b L → r ≡ position_of w (fit need L.blocks)

module _ {w : ℕ} {b : List ℕ} {need : ℕ} where
  pub looks : (p : ℕ) → p ≡ word_at w b (first_free_at (shape w)) → Looking w b need p
  looks p e L h = rw (e, first_read (shape w) b L h) (begin (shape w) b need L h)

  pub none_fits : (p : ℕ) → Looking w b need p → p ≡ 0 → Answers w b need None
  none_fits p k z L h = rw (found_none (shape w) need L (ended (shape w) b need L p z (k L h))) refl

  module _ (p : Position) (k : Looking w b need p.0) (z : p.0 ≡ 0 → ⊥) where
    stands : (L : Layout) → Here (shape w) b L → At (shape w) b need L (start (shape w)) p.0
    stands L h = standing (shape w) b need L (start (shape w)) p.0 z (k L h)

    pub room_there : Sound (shape w) b → p.0 + 4 * w ≤ length b
    room_there s = room (shape w) b need s.layout (start (shape w)) p.0 (stands s.layout s.here)

    pub fits : need ≤ word_at w b p.0 → Answers w b need (Some p)
    fits l L h =
        let a = stands L h in
        let s = found_spot (shape w) b need p.0 L h (sym (hit (shape w) b need L (start (shape w)) p.0 a (omega (arith, l, size_read (shape w) b need L (start (shape w)) p.0 a)))) z in
        rw s.1 (ap (λ (x : ℕ). Some (record { 0 = x })) (sym s.2.at))

    module _ (less : word_at w b p.0 < need) (q : ℕ) (e : q ≡ word_at w b (p.0 + w)) where
      goes : (L : Layout) (h : Here (shape w) b L) → Seeking (shape w) b need L (p.0 + (stands L h).size) q
      goes L h =
          let a = stands L h in
          rw (e, next_read (shape w) b need L (start (shape w)) p.0 a) (miss (shape w) b need L (start (shape w)) p.0 a (omega (arith, less, size_read (shape w) b need L (start (shape w)) p.0 a)))

      pub goes_on : Looking w b need q
      goes_on L h = let a = stands L h in lower (shape w) b need L (p.0 + a.size) (start (shape w)) q (omega (arith, a.low)) (goes L h)

      pub less_left : Width w → Sound (shape w) b → left (length b) q < left (length b) p.0
      less_left wd s =
          let a = stands s.layout s.here in
          falls (shape w) b need s.layout (p.0 + a.size) p.0 q z (omega (arith, wd, large (shape w) b need s.layout (start (shape w)) p.0 a)) (omega (arith, wd, room_there s)) (goes s.layout s.here)

-- what an answer says to callers: the spot that was found, or that there is none
module _ (w need : ℕ) (L : Layout) where
  pub found_fit : {b : List ℕ} (p : Position) → Here (shape w) b L → Some p ≡ position_of w (fit need L.blocks) → (t : Spot) × (fit need L.blocks ≡ some t) × SpotIn (shape w) b p.0 need L t
  found_fit {b} p h e = go (fit need L.blocks) refl
    where
      go : (o : Found Spot) → fit need L.blocks ≡ o → (t : Spot) × (fit need L.blocks ≡ some t) × SpotIn (shape w) b p.0 need L t
      go none k = absurd (none-some p (sym (rw k at e)))
      go (some t) k = (t, k, record { here = h; split = fit_some k; at = ap (λ (q : Position). q.0) (sym (same_Some p (record { 0 = ends (shape w) (start (shape w)) t.pre }) (rw k at e))) })

  pub no_fit : None ≡ position_of w (fit need L.blocks) → fit need L.blocks ≡ none
  no_fit e = go (fit need L.blocks) refl
    where
      go : (o : Found Spot) → fit need L.blocks ≡ o → fit need L.blocks ≡ none
      go none k = k
      go (some t) k = absurd (none-some (record { 0 = ends (shape w) (start (shape w)) t.pre }) (rw k at e))
