-- How much room an allocation needs on a fresh heap: document 01's two figures and the hand unit's, for every length.
use Rattle.std.proofs.Common.{ℕ, zero, suc, ◌+◌, ◌-◌, ◌%◌, ◌≤◌, ◌<◌, ◌≡◌, refl, sym, ap, subst, ◌∙◌, List, [], inl, ⊎_elim, arith, length, get_or, replicate}
use Rattle.std.proofs.Math.Logic.{◌↔◌}
use Rattle.std.proofs.Math.Option.{none, none-ne-some}
use Rattle.words.specs.Width.{Width}
use Rattle.model.specs.Shape.{shape, start, largest_item, class_of, need_of, page_need, end_of}
use Rattle.model.specs.Layout.{free, Layout}
use Rattle.model.specs.Sound.{Valid}
use Rattle.model.specs.Rules.{allocate, fresh}
use Rattle.model.specs.Live.{◌∈◌}
use Rattle.model.specs.Refusals.{no_room}
use Rattle.model.specs.Calls.{Outcome, drawn, growing, allocated}
use Rattle.model.specs.Promises.{NothingFits}
use Rattle.model.proofs.Sizes.{eight, four, per_page_bound}
use Rattle.model.proofs.Good.{shape_good}
use Rattle.model.proofs.pictures.Fronts.{own_ends}
use Rattle.model.proofs.rules.Room.{no_room_lem}
use Rattle.model.proofs.rules.Growth.{longer_further}
use Rattle.model.proofs.rules.OnLayouts.{Done}
use Rattle.model.proofs.rules.Ready.{own, grew, Runs, none_fits, ran_on, runs}
use Rattle.promises.specs.Figures.{Needs}
use Rattle.promises.proofs.Cases.{good_size}
use Rattle.promises.proofs.Answers.{finds}
use Rattle.promises.proofs.Opened.{Fresh, opened_fresh}

-- every list of a fresh heap is empty
empty_at : (k c : ℕ) → get_or {A = List ℕ} (replicate k []) c [] ≡ []
empty_at zero c = refl
empty_at (suc k) zero = refl
empty_at (suc k) (suc c) = empty_at k c

module _ {w : ℕ} (wd : Width w) where
  -- the one free block of a fresh heap
  one_block : (end t : ℕ) → free t ∈ (fresh (shape w) end).blocks → t ≡ end - start (shape w)
  unfolding ◌∈◌
  one_block end t h = ⊎_elim (λ e. cc) (λ z. absurd z) h

  -- the room that n needs on a fresh heap: a page of its class, where that is handed out; else a block
  module _ (n : ℕ) where
    page_room : n ≤ largest_item (shape w) → (end : ℕ) → NothingFits (shape w) n (fresh (shape w) end) ↔ (end - start (shape w) < page_need (shape w) (class_of n))
    page_room item end = (
      (λ r. (r.0 item).1 (end - start (shape w)) (unfold ◌∈◌ in inl refl)),
      (λ l. ((λ i. (empty_at (shape w).classes (class_of n), λ t h. omega (arith, l, one_block end t h))), (λ big. absurd (omega (arith, item, big))))),
    )

    block_room : largest_item (shape w) < n → (end : ℕ) → NothingFits (shape w) n (fresh (shape w) end) ↔ (end - start (shape w) < need_of (shape w) n)
    block_room big end = (
      (λ r. r.1 big (end - start (shape w)) (unfold ◌∈◌ in inl refl)),
      (λ l. ((λ item. absurd (omega (arith, item, big))), (λ i t h. omega (arith, l, one_block end t h)))),
    )

  module _ (n need : ℕ) (one : 1 ≤ n) (within : n ≤ (shape w).most) (fresh-none : (end : ℕ) → NothingFits (shape w) n (fresh (shape w) end) ↔ (end - start (shape w) < need)) where
    pub needs : (N : ℕ) → N ≡ start (shape w) + need → 0 < need → N % 8 ≡ 0 → Needs w n N
    needs N e some-need even b r o c g a = go (runs (shape w) r.heap n L (finds wd r.heap L f.here n one) (λ d M m. drawn (shape w) m.layout d) (λ m. m.layout)) so
      where
        f : Fresh wd b (end_of (length b)) r
        f = opened_fresh wd b (end_of (length b)) r c g

        L : Layout
        L = fresh (shape w) (end_of (length b))

        valid : Valid (shape w) (end_of (length b)) L
        valid = subst (λ (x : ℕ). Valid (shape w) x L) (own_ends (shape w) r.heap L f.here ∙ f.end) f.here.here.valid

        room : (allocate (shape w) n L ≡ none) ↔ NothingFits (shape w) n L
        room = no_room_lem (shape w) (shape_good wd).offered (end_of (length b)) n L valid one (λ c. (per_page_bound wd c).0)

        so : o ≡ growing (shape w) n r.heap (λ d. allocated (shape w) d n) L
        so = good_size (shape w) r.heap n _ o (a.sound (omega (arith, f.same, f.lent.0), omega (arith, f.same, f.lent.1)) L f.here) one within

        go : {p : Outcome} {d : Done} → Runs (shape w) r.heap n L (λ d M m. drawn (shape w) m.layout d) (λ m. m.layout) p d → o ≡ p → (length b < N → o.refusal ≡ no_room) × (N ≤ length b → o.refusal ≡ 0)
        go (none_fits k z) i = ((λ l. ap (λ (x : Outcome). x.refusal) i), (λ l. absurd (omega (arith, l, e, (fresh-none (end_of (length b))).0 (room.0 k)))))
        go (ran_on d M own m k) i = ((λ l. absurd (none-ne-some m (sym (room.1 ((fresh-none (end_of (length b))).1 (omega (arith, l, e, even, some-need)))) ∙ k))), (λ l. ap (λ (x : Outcome). x.refusal) i))
        go (ran_on d M (grew k z) m q) i = absurd (omega (arith, z, f.same, longer_further wd n one (end_of (length b)) L valid k))

-- allocate 256 needs N of 584, and allocate 1 needs 4,440; of the hand unit allocate 1 needs 128, and 128 needs 368
pub needs_256 : Needs 8 256 584
needs_256 = needs eight 256 272 (omega arith) (omega arith) (block_room eight 256 (omega arith)) 584 refl (omega arith) refl

pub needs_1 : Needs 8 1 4440
needs_1 = needs eight 1 4128 (omega arith) (omega arith) (page_room eight 1 (omega arith)) 4440 refl (omega arith) refl

pub hand_needs_1 : Needs 4 1 128
hand_needs_1 = needs four 1 32 (omega arith) (omega arith) (page_room four 1 (omega arith)) 128 refl (omega arith) refl

pub hand_needs_128 : Needs 4 128 368
hand_needs_128 = needs four 128 272 (omega arith) (omega arith) (page_room four 128 (omega arith)) 368 refl (omega arith) refl
