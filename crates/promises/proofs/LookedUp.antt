-- An item that was granted for n bytes is looked up as n bytes: of what the calls answer.
use Rattle.std.proofs.Common.{ℕ, ◌≡◌, refl, ap, subst, ◌∙◌, List, arith, length, drop, length-drop, length-take-le}
use Rattle.words.specs.Width.{Width}
use Rattle.model.specs.Shape.{shape, end_of}
use Rattle.model.specs.Layout.{Layout}
use Rattle.model.specs.Sound.{heap_of, HereIn}
use Rattle.model.specs.Live.{◌∈◌, Payload, content, live}
use Rattle.model.specs.Reading.{looked_up}
use Rattle.model.specs.Calls.{staying, moving, keeping, granted, Lent}
use Rattle.model.specs.Promises.{Call, initialising, checking, allocating, freeing, resizing, resizing_by, sweeping, Comes, ForItem, GrantShows}
use Rattle.model.specs.declared.Address.{Address}
use Rattle.model.proofs.pictures.Fronts.{own_length}
use Rattle.model.proofs.lives.Payloads.{in_area}
use Rattle.model.proofs.rules.OnLayouts.{doing}
use Rattle.serving.specs.Lookup.{PartTold}
use Rattle.promises.specs.Answered.{AsksFor}
use Rattle.promises.proofs.Doing.{does}
use Rattle.promises.proofs.FoundLive.{shown_within, look_up_shows}
use Rattle.promises.proofs.AskedShown.{asked_shown}

module _ {w : ℕ} (wd : Width w) where
  -- which call it was
  shows : (n : ℕ) (q : Call) → AsksFor n q → GrantShows (shape w) q n
  shows n (initialising e) k = absurd k
  shows n checking k = absurd k
  shows n (allocating m) k = subst (λ (j : ℕ). GrantShows (shape w) (allocating m) j) k (asked_shown wd 0 m).0
  shows n (freeing a) k = absurd k
  shows n (resizing a m) k = absurd k
  shows n (resizing_by staying a m) k = subst (λ (j : ℕ). GrantShows (shape w) (resizing_by staying a m) j) k (asked_shown wd a m).1
  shows n (resizing_by moving a m) k = subst (λ (j : ℕ). GrantShows (shape w) (resizing_by moving a m) j) k (asked_shown wd a m).2
  shows n (resizing_by keeping a m) k = absurd k
  shows n sweeping k = absurd k

  -- what is shown of a live payload is as long as it says
  shown_length : (c : List ℕ) (M : Layout) → HereIn (shape w) c M → (x : Payload) → x ∈ live (shape w) M → length (looked_up (shape w) c x.address M) ≡ x.shown
  shown_length c M h x i =
      let area = in_area (shape w) (end_of (length (heap_of (shape w) c))) M h.here.valid x i in
      let whole : length (content c x) ≡ x.size = length-take-le x.size (drop x.address c) (omega (arith, area.1, length-drop x.address c, own_length (shape w) c M h, h.ended.1)) in
      ap length (look_up_shows wd (end_of (length (heap_of (shape w) c))) c M h.here.valid x i)
      ∙ length-take-le x.shown (content c x) (omega (arith, whole, shown_within wd (end_of (length (heap_of (shape w) c))) M h.here.valid x i))

  pub looked_up_lem : (n : ℕ) (q : Call) → AsksFor n q → (b : List ℕ) (a : Address) (c : List ℕ) (L : Layout) → Lent (shape w) b → HereIn (shape w) b L → Comes (shape w) b q (granted a.0 c) → ForItem (shape w) q n L → (r : List ℕ) → PartTold w c a.0 r → length r ≡ n
  looked_up_lem n q k b a c L l h x f r t =
      let M = (doing (shape w) (end_of (length b)) q L).layout in
      let d = does wd b L l h q (granted a.0 c) x in
      let v = shows n q k b (granted a.0 c) L M (record { lent = l; here = h; comes = x; granted = refl; then = d.here }) f in
      ap length (t.sound (omega (arith, d.same, l.0), omega (arith, d.same, l.1)) M d.here)
      ∙ subst (λ (y : ℕ). length (looked_up (shape w) c y M) ≡ v.0.shown) v.2 (shown_length c M d.here v.0 v.1)
      ∙ v.3
