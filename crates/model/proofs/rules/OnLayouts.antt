-- What a call on a sound heap answers, and the layout that it leaves: the rules of Calls on layouts alone, to compute with.
use Rattle.std.proofs.Common.{ℕ, zero, suc, cond, ◌&&◌, eqb, leb}
use Rattle.std.proofs.Math.Option.{Option, none, some}
use Rattle.model.specs.Shape.{Shape}
use Rattle.model.specs.Layout.{Layout}
use Rattle.model.specs.Rules.{Made, allocate, growth, find, capacity, stays}
use Rattle.model.specs.Sweeping.{empties, empty_page, page_freed, linked_anew}
use Rattle.model.specs.Refusals.{bad_size, not_live, no_room, already_opened}
use Rattle.model.specs.Calls.{Way, staying, moving, keeping, found, without}
use Rattle.model.specs.Promises.{Call, initialising, checking, allocating, freeing, resizing, resizing_by, sweeping}

pub record Done : Type 0 where
  pub refusal : ℕ
  pub address : ℕ
  pub layout : Layout

abbrev pub refuse : ℕ → Layout → Done
refuse k L = record { refusal = k; address = 0; layout = L }

abbrev pub grant : ℕ → Layout → Done
grant a L = record { refusal = 0; address = a; layout = L }

abbrev pub or_next_on : Done → Done → Done
or_next_on r next = cond (eqb r.refusal no_room) next r

module _ (S : Shape) where
  abbrev pub sized_on : ℕ → Layout → Done → Done
  sized_on n L next = cond (leb 1 n && leb n S.most) next (refuse bad_size L)

  -- the layout on which an allocation of n bytes runs, in a buffer whose furthest end is E
  abbrev pub grown_or : Layout → Option Layout → Layout
  grown_or L none = L
  grown_or L (some G) = G

  abbrev pub readied : ℕ → ℕ → Layout → Layout
  readied E n L = grown_or L (growth S E n L)

  abbrev pub made_on : Layout → Option Made → (Made → Layout) → Done
  made_on L none then = refuse no_room L
  made_on L (some m) then = grant m.at (then m)

  abbrev placed : ℕ → Layout → Option Layout → Done
  placed a L none = refuse no_room L
  placed a L (some M) = grant a M

  abbrev kept : ℕ → ℕ → Layout → Done
  kept a n L = cond (leb n (capacity S (find S a L))) (grant a L) (refuse no_room L)

  abbrev pub one_way_on : Way → ℕ → ℕ → ℕ → Layout → Done
  one_way_on staying E a n L = placed a L (stays S n (find S a L) L)
  one_way_on moving E a n L = made_on L (allocate S n (readied E n L)) (λ m. without S a m.layout)
  one_way_on keeping E a n L = kept a n L

  unfoldable pub resized_by_on : Way → ℕ → ℕ → ℕ → Layout → Done
  resized_by_on v E a n L = found S (find S a L) (refuse not_live L) (one_way_on v E a n L)

  unfoldable pub resized_on : ℕ → ℕ → ℕ → Layout → Done
  resized_on E a n L = found S (find S a L) (refuse not_live L) (or_next_on (one_way_on staying E a n L) (or_next_on (one_way_on moving E a n L) (one_way_on keeping E a n L)))

  -- k pages with no live item given back
  unfoldable pub recovered : ℕ → Layout → Layout
  recovered zero L = L
  recovered (suc k) L = recovered k (page_freed S (empty_page S L.blocks) L)

  -- the layout that a sweep leaves
  abbrev pub swept_layout : Layout → Layout
  swept_layout L = linked_anew S (recovered (empties L.blocks) L)

  -- in a buffer whose furthest end is E
  unfoldable pub doing : ℕ → Call → Layout → Done
  doing E (initialising e) L = refuse already_opened L
  doing E checking L = grant 0 L
  doing E (allocating n) L = sized_on n L (made_on L (allocate S n (readied E n L)) (λ m. m.layout))
  doing E (freeing a) L = found S (find S a L) (refuse not_live L) (grant 0 (without S a L))
  doing E (resizing a n) L = sized_on n L (resized_on E a n L)
  doing E (resizing_by v a n) L = sized_on n L (resized_by_on v E a n L)
  doing E sweeping L = grant (empties L.blocks) (swept_layout L)
