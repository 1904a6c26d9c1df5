-- What is found at an address is what is live there, and a look-up gives what is shown of its content.
use Rattle.std.proofs.Common.{ℕ, ◌≡◌, refl, sym, ap, subst, ◌∙◌, arith, take, drop}
use Rattle.words.specs.Width.{Width}
use Rattle.model.specs.Shape.{shape, start}
use Rattle.model.specs.Layout.{Layout, ends}
use Rattle.model.specs.Sound.{Valid}
use Rattle.model.specs.Rules.{Found, nothing, find, capacity, shown_of}
use Rattle.model.specs.Live.{◌∈◌, Payload, live}
use Rattle.model.specs.Promises.{FoundIsLive, LookUpShows, ShownWithin}
use Rattle.model.proofs.Good.{shape_good}
use Rattle.model.proofs.lives.LiveFound.{is_there}
use Rattle.model.proofs.lives.Holding.{find_by, shown_most}
use Rattle.model.proofs.lives.Moving.{payload_of, Shown, found_live, live_found}
use Rattle.promises.proofs.Parts.{take_take}

pub is_there_lem : (f : Found) → is_there f ≡ 1 → f ≡ nothing → ⊥
is_there_lem f e n = omega (arith, e, ap is_there n)

module _ {w : ℕ} (wd : Width w) where
  -- what is live at an address has the capacity of what is found there, and as much of it is shown
  found_as : (end : ℕ) (L : Layout) (a : ℕ) → Valid (shape w) end L → (x : Payload) → x ∈ live (shape w) L → x.address ≡ a → Shown (shape w) x (find (shape w) a L)
  found_as end L a v x h e = subst (λ (z : ℕ). Shown (shape w) x (find (shape w) z L)) e (live_found (shape w) x (start (shape w)) L.blocks (shape_good wd) v.allowed h)

  pub found_size : (end : ℕ) (L : Layout) (a : ℕ) → Valid (shape w) end L → (x : Payload) → x ∈ live (shape w) L → x.address ≡ a → x.size ≡ capacity (shape w) (find (shape w) a L)
  found_size end L a v x h e = sym (found_as end L a v x h e).large

  pub found_shown : (end : ℕ) (L : Layout) (a : ℕ) → Valid (shape w) end L → (x : Payload) → x ∈ live (shape w) L → x.address ≡ a → x.shown ≡ shown_of (shape w) (find (shape w) a L)
  found_shown end L a v x h e = sym (found_as end L a v x h e).shown

  pub shown_within : ShownWithin (shape w)
  shown_within end L v x h =
      let f = found_as end L x.address v x h refl in
      omega (arith, f.large, f.shown, shown_most wd x.address (ends (shape w) (start (shape w)) L.blocks) (find (shape w) x.address L) (find_by wd x.address (start (shape w)) L.blocks v.allowed))

  pub found_is_live : FoundIsLive (shape w)
  found_is_live end L a v = (
    (λ n. (payload_of (shape w) a (find (shape w) a L), found_live (shape w) a (start (shape w)) L.blocks n, refl)),
    (λ x. (found_as end L a v x.0 x.1 x.2).there),
  )

  pub look_up_shows : LookUpShows (shape w)
  look_up_shows end b L v x h =
      ap (λ (n : ℕ). take n (drop x.address b)) (found_as end L x.address v x h refl).shown
      ∙ sym (take_take x.shown x.size (drop x.address b) (shown_within end L v x h))
