-- "No room" exactly when there is no item and no block that fits; from one way of resize, when that way is not open to the record, and from resize, when none is.
use Rattle.std.proofs.Common.{ℕ, ◌≤◌, ◌<◌, ◌≡◌, refl, sym, ap, ◌∙◌, List, arith, length}
use mathlib.Core.Logic.Iff
use Rattle.std.proofs.Math.Logic.{◌↔◌}
use Rattle.std.proofs.Math.Option.{none}
use Rattle.words.specs.Width.{Width}
use Rattle.model.specs.Shape.{shape, end_of}
use Rattle.model.specs.Layout.{Layout, end_in}
use Rattle.model.specs.Sound.{heap_of, HereIn}
use Rattle.model.specs.Rules.{allocate, longer, find, capacity}
use Rattle.model.specs.Live.{◌∈◌, Payload, live}
use Rattle.model.specs.Refusals.{no_room}
use Rattle.model.specs.Calls.{Way, staying, moving, keeping, Outcome, refused, Checked, sized, drawn, growing, allocated, resized, resized_by}
use Rattle.model.specs.Promises.{NoRoom, NotOpen, NoRoomFor, NoRoomExactly, SmallerKept}
use Rattle.model.proofs.Sizes.{per_page_bound}
use Rattle.model.proofs.lives.Payloads.{in_area}
use Rattle.model.proofs.lives.LiveFound.{is_there, live_is_there}
use Rattle.model.proofs.Good.{shape_good}
use Rattle.model.proofs.rules.OnLayouts.{Done}
use Rattle.model.proofs.rules.ResizeWays.{Went, nowhere, in_place, elsewhere, as_it_is, no_way, went, growing_none, Shut, by_shut, all_shut, shut_kept}
use Rattle.model.proofs.rules.Room.{no_room_lem}
use Rattle.model.proofs.rules.Ready.{own_lent}
use Rattle.promises.proofs.Answers.{finds}
use Rattle.promises.proofs.FoundLive.{is_there_lem, found_size}
use Rattle.promises.proofs.Cases.{good_size}

module _ {w : ℕ} (wd : Width w) where
  module _ (b : List ℕ) (n : ℕ) (L : Layout) (h : HereIn (shape w) b L) (one : 1 ≤ n) where
    abbrev E : ℕ
    E = end_of (length b)

    -- there is no room exactly when the rule finds none, and the heap cannot grow
    room : ((allocate (shape w) n L ≡ none) × (E < end_in (shape w) (longer (shape w) n L))) ↔ NoRoom (shape w) E n L
    room =
        let k = no_room_lem (shape w) (shape_good wd).offered (end_of (length (heap_of (shape w) b))) n L h.here.valid one (λ c. (per_page_bound wd c).0) in
        ((λ x. (k.0 x.0, x.1)), (λ x. (k.1 x.0, x.1)))

    grows_then : allocate (shape w) n (longer (shape w) n L) ≡ none → ⊥
    grows_then = finds wd b L h n one

    module _ (x : Payload) (i : x ∈ live (shape w) L) where
      there : is_there (find (shape w) x.address L) ≡ 1
      there = live_is_there (shape w) (shape_good wd) h.here.valid x.address x i refl

      size_is : x.size ≡ capacity (shape w) (find (shape w) x.address L)
      size_is = found_size wd (end_of (length (heap_of (shape w) b))) L x.address h.here.valid x i refl

      -- a way of a live record is shut exactly when it is not open to it
      shut_is : (v : Way) → Shut (shape w) b x.address n L v ↔ NotOpen (shape w) v E x n L
      shut_is staying = Iff.rfl
      shut_is moving = room
      shut_is keeping = ((λ k. omega (arith, k, size_is)), (λ k. omega (arith, k, size_is)))

      all_is : ((resized (shape w) b x.address n L).refusal ≡ no_room) ↔ NoRoomFor (shape w) E x n L
      all_is =
          Iff.trans (all_shut (shape w) b x.address n L grows_then there)
          ((λ y. ((shut_is staying).0 y.0, (shut_is moving).0 y.1, (shut_is keeping).0 y.2)), (λ y. ((shut_is staying).1 y.0, (shut_is moving).1 y.1, (shut_is keeping).1 y.2)))

      -- where a live record has room, a resize is granted
      with_room : {o : Outcome} {d : Done} → Went (shape w) b x.address n L o d → (o.refusal ≡ no_room → ⊥) → o.refusal ≡ 0
      with_room (nowhere e) k = absurd (is_there_lem (find (shape w) x.address L) there e)
      with_room (in_place j M s) k = refl
      with_room (elsewhere j c G r m s) k = refl
      with_room (as_it_is j c) k = refl
      with_room (no_way j) k = absurd (k refl)

  pub smaller_kept : SmallerKept (shape w)
  smaller_kept b n r L l h x i one le c =
      let area = in_area (shape w) (end_of (length (heap_of (shape w) b))) L h.here.valid x i in
      let e = good_size (shape w) b n (resized (shape w) b x.address n L) r (c.sound l L h) one (omega (arith, area.1, le, (own_lent wd b L l h).1)) in
      let not_six : (resized (shape w) b x.address n L).refusal ≡ no_room → ⊥ = λ f. omega (arith, ((all_is b n L h one x i).0 f).2, le) in (
        ap (λ (o : Outcome). o.refusal) e ∙ with_room b n L h one x i (went (shape w) b x.address n L (grows_then b n L h one)) not_six,
        (λ s m. e ∙ shut_kept (shape w) b x.address n L (grows_then b n L h one) (there b n L h one x i) s ((room b n L h one).1 m) (omega (arith, le, size_is b n L h one x i))),
      )

  pub no_room_exactly : NoRoomExactly (shape w)
  no_room_exactly b n r L l h one most = (
    (λ c. says (growing (shape w) n b (λ d. allocated (shape w) d n)) c (Iff.trans (growing_none (shape w) b 0 n L (grows_then b n L h one) (λ d M m. drawn (shape w) m.layout d)) (room b n L h one))),
    (λ x i c. says (resized (shape w) b x.address n) c (all_is b n L h one x i)),
    (λ v x i c. says (resized_by (shape w) v b x.address n) c (Iff.trans (by_shut (shape w) b x.address n L (grows_then b n L h one) (there b n L h one x i) v) (shut_is b n L h one x i v))),
  )
    where
      -- a call of a good size says what its rule says
      says : {P : Type 0} (rule : Layout → Outcome) → Checked (shape w) b (refused b) (λ M. sized (shape w) n b (rule M)) r → ((rule L).refusal ≡ no_room) ↔ P → (r.refusal ≡ no_room) ↔ P
      says rule c k =
          let e = ap (λ (o : Outcome). o.refusal) (good_size (shape w) b n (rule L) r (c.sound l L h) one most) in
          ((λ f. k.0 (sym e ∙ f)), (λ f. e ∙ k.1 f))
