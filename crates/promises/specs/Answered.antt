-- The demands of what the public calls themselves answer, of document 01's heap (w = 8) and of the hand unit's (w = 4): the Result that they answer, through the definition of what it means; the C numbers; the reading calls.
use Rattle.std.specs.Prelude.{ℕ, ◌≤◌, ◌≡◌, ◌↔◌, List, length, get_or, Result, Ok, Err, ⊤}
use Rattle.std.proofs.Math.Option.{none}
use Rattle.std.specs.Borrow.{Bor, MutBor}
use Rattle.model.specs.Shape.{shape, end_of, address_of, item_at}
use Rattle.model.specs.Layout.{Layout}
use Rattle.model.specs.Sound.{stored_end, HereIn, SoundIn}
use Rattle.model.specs.Rules.{find, stays}
use Rattle.model.specs.Live.{◌∈◌, Payload, live}
use Rattle.model.specs.Walking.{column}
use Rattle.model.specs.Calls.{Way, staying, moving, keeping, Lent, granted, Sweeps, Steps, Counts}
use Rattle.model.specs.Promises.{Call, initialising, checking, allocating, freeing, resizing, resizing_by, sweeping, MayGrow, numbers_of, Comes, Waits, ForItem, AllocateKept, FreeKept, ResizeKept, SweepKept, SweepCounted, NoRoom, NotOpen, NoRoomFor}
use Rattle.model.specs.declared.Address.{Address}
use Rattle.model.specs.declared.refusals.Refusal.{Refusal}
use Rattle.model.specs.declared.refusals.Refusal.TheVariants as why
use Rattle.reading.specs.declared.counting.Statistics.{Statistics}
use Rattle.serving.specs.declared.counting.Counted.{Counted}
use Rattle.serving.specs.declared.walks.Step.{Step}
use Rattle.serving.specs.declared.walks.Stepped.{Stepped}
use Rattle.examining.specs.Examined.{Examined, Judged}
use Rattle.serving.specs.Answers.{Answer, Swept, outcome, swept_outcome}
use Rattle.serving.specs.Counting.{told_counted, printed_count, told_table, TableTold, TriedTable}
use Rattle.serving.specs.Walking.{told_step, printed_step}
use Rattle.serving.specs.Lookup.{Part, PartMut, TriedPart, TriedPartMut, PartTold, RefusalTold}
use Rattle.numbering.specs.Numbers.{Numbered}

-- two answers are the same: both grant, and what they grant is the same, or both are one refusal
abbrev pub Same : {A : Type 0} → (A → A → Type 0) → Result A Refusal → Result A Refusal → Type 0
Same P (Ok x) (Ok y) = P x y
Same P (Ok x) (Err k) = ⊥
Same P (Err k) (Ok x) = ⊥
Same P (Err k) (Err j) = k ≡ j

-- the calls that grant a record for n bytes: allocate, a resize in place, a move
abbrev pub AsksFor : ℕ → Call → Type 0
AsksFor n (initialising e) = ⊥
AsksFor n checking = ⊥
AsksFor n (allocating k) = k ≡ n
AsksFor n (freeing a) = ⊥
AsksFor n (resizing a k) = ⊥
AsksFor n (resizing_by staying a k) = k ≡ n
AsksFor n (resizing_by moving a k) = k ≡ n
AsksFor n (resizing_by keeping a k) = ⊥
AsksFor n sweeping = ⊥

module _ (w : ℕ) where
  -- the contract of a call, as it stands in the source: on bytes b it may answer r and leave c
  abbrev pub MayAnswer : List ℕ → Call → Answer → List ℕ → Type 0
  MayAnswer b q r c = Comes (shape w) b q (outcome r c)

  -- and of a sweep
  abbrev pub MaySweep : List ℕ → Swept → List ℕ → Type 0
  MaySweep b r c = Sweeps (shape w) b (swept_outcome r c)

  -- Any two results that a public contract allows are equal
  pub record OneResult : Type 0 where
    pub answers : (b : List ℕ) (q : Call) (r r' : Answer) (c c' : List ℕ) → MayAnswer b q r c → MayAnswer b q r' c' → (r ≡ r') × (c ≡ c')
    pub sweeps : (b : List ℕ) (r r' : Swept) (c c' : List ℕ) → MaySweep b r c → MaySweep b r' c' → (r ≡ r') × (c ≡ c')
    pub verdicts : (b : List ℕ) (v v' : Result (List ℕ) Refusal) → Examined w b v → Examined w b v' → v ≡ v'
    pub judgements : (b : List ℕ) (v v' : Result ⊤ Refusal) → Judged w b v → Judged w b v' → v ≡ v'
    pub numbers : (b : List ℕ) (q : Call) (n n' : ℕ) (c c' : List ℕ) → Numbered (Comes (shape w) b q) n c → Numbered (Comes (shape w) b q) n' c' → (n ≡ n') × (c ≡ c')
    pub look_ups : (h : Bor (List ℕ)) (a : ℕ) (r r' : Bor (List ℕ)) → Part w h a r → Part w h a r' → (r.now ≡ r'.now) × (r.ref_ptr ≡ r'.ref_ptr)
    pub look_ups_mut : (h : MutBor (List ℕ)) (a : ℕ) (r r' : MutBor (List ℕ)) → PartMut w h a r → PartMut w h a r' → (r.now ≡ r'.now) × (r.ref_ptr ≡ r'.ref_ptr)
    pub tried_look_ups : (h : Bor (List ℕ)) (a : ℕ) (r r' : Result (Bor (List ℕ)) Refusal) → TriedPart w h a r → TriedPart w h a r' → Same (λ x y. (x.now ≡ y.now) × (x.ref_ptr ≡ y.ref_ptr)) r r'
    pub tried_look_ups_mut : (h : MutBor (List ℕ)) (a : ℕ) (r r' : Result (MutBor (List ℕ)) Refusal) → TriedPartMut w h a r → TriedPartMut w h a r' → Same (λ x y. (x.now ≡ y.now) × (x.ref_ptr ≡ y.ref_ptr)) r r'
    pub look_up_refusals : (b : List ℕ) (a k k' : ℕ) → RefusalTold w b a k → RefusalTold w b a k' → k ≡ k'
    pub statistics : (b : List ℕ) (r r' : Result Statistics Refusal) → Counts (shape w) b (told_counted r) → Counts (shape w) b (told_counted r') → r ≡ r'
    pub printed_counts : (b : List ℕ) (r r' : Counted) → Counts (shape w) b (printed_count r) → Counts (shape w) b (printed_count r') → r ≡ r'
    pub tables : (b : List ℕ) (t t' : List (List ℕ)) → TableTold w b t → TableTold w b t' → t ≡ t'
    pub tried_tables : (b : List ℕ) (r r' : Result (List (List ℕ)) Refusal) → TriedTable w b r → TriedTable w b r' → r ≡ r'
    pub steps : (b : List ℕ) (at : ℕ) (r r' : Result Step Refusal) → Steps (shape w) b at (told_step w at r) → Steps (shape w) b at (told_step w at r') → r ≡ r'
    pub printed_steps : (b : List ℕ) (at : ℕ) (r r' : Stepped) → Steps (shape w) b at (printed_step r) → Steps (shape w) b at (printed_step r') → r ≡ r'

  -- Demands 1 and 2 of what the calls answer
  pub record AnswersPromised : Type 0 where
    -- a refusal leaves every byte as it was, and a call gives none but its numbers
    pub refused_untouched : (b : List ℕ) (q : Call) (k : Refusal) (c : List ℕ) → MayAnswer b q (Err k) c → c ≡ b
    pub answers_only : (b : List ℕ) (q : Call) (r : Answer) (c : List ℕ) → MayAnswer b q r c → (outcome r c).refusal ∈ numbers_of q
    -- the check accepts exactly the sound heaps; no call makes a sound heap unsound; an opened heap is sound
    pub accepts_exactly : (b : List ℕ) (r : Answer) (c : List ℕ) → MayAnswer b checking r c → ((a : Address) × (r ≡ Ok a)) ↔ (Lent (shape w) b × SoundIn (shape w) b)
    pub stays_sound : (b : List ℕ) (q : Call) (r : Answer) (c : List ℕ) → MayAnswer b q r c → SoundIn (shape w) b → SoundIn (shape w) c
    pub opens_sound : (b : List ℕ) (e : ℕ) (a : Address) (c : List ℕ) → MayAnswer b (initialising e) (Ok a) c → SoundIn (shape w) c × (stored_end (shape w) c ≡ e)
    -- the end never falls; only a call that may grow the heap moves it; and no byte behind the end then is touched
    pub end_rises : (b : List ℕ) (q : Call) (r : Answer) (c : List ℕ) → MayAnswer b q r c → SoundIn (shape w) b → stored_end (shape w) b ≤ stored_end (shape w) c
    pub end_stays : (b : List ℕ) (q : Call) (r : Answer) (c : List ℕ) → MayAnswer b q r c → SoundIn (shape w) b → (MayGrow q → ⊥) → stored_end (shape w) c ≡ stored_end (shape w) b
    pub behind_untouched : (b : List ℕ) (q : Call) (r : Answer) (c : List ℕ) → MayAnswer b q r c → (i : ℕ) → stored_end (shape w) c ≤ i → get_or c i 0 ≡ get_or b i 0
    -- what a granted call keeps
    pub allocate_keeps : (b : List ℕ) (n : ℕ) (a : Address) (c : List ℕ) (L L' : Layout) → Lent (shape w) b → HereIn (shape w) b L → MayAnswer b (allocating n) (Ok a) c → HereIn (shape w) c L'
        → AllocateKept (shape w) b n L (granted a.0 c) L'
    pub free_keeps : (b : List ℕ) (a : ℕ) (x : Address) (c : List ℕ) (L L' : Layout) → Lent (shape w) b → HereIn (shape w) b L → MayAnswer b (freeing a) (Ok x) c → HereIn (shape w) c L'
        → FreeKept (shape w) b a L (granted x.0 c) L'
    pub resize_keeps : (b : List ℕ) (a n : ℕ) (x : Address) (c : List ℕ) (L L' : Layout) → Lent (shape w) b → HereIn (shape w) b L → MayAnswer b (resizing a n) (Ok x) c → HereIn (shape w) c L'
        → ResizeKept (shape w) b a n L (granted x.0 c) L'
    pub each_way_keeps : (v : Way) (b : List ℕ) (a n : ℕ) (x : Address) (c : List ℕ) (L L' : Layout) → Lent (shape w) b → HereIn (shape w) b L → MayAnswer b (resizing_by v a n) (Ok x) c → HereIn (shape w) c L'
        → ResizeKept (shape w) b a n L (granted x.0 c) L'
    -- an item that was granted for n bytes is looked up as n bytes
    pub looked_up_lem : (n : ℕ) (q : Call) → AsksFor n q → (b : List ℕ) (a : Address) (c : List ℕ) (L : Layout) → Lent (shape w) b → HereIn (shape w) b L → MayAnswer b q (Ok a) c → ForItem (shape w) q n L
        → (r : List ℕ) → PartTold w c a.0 r → length r ≡ n
    -- a free item of a closed class is never handed out: every granted call but a sweep leaves it on its list, and none answers its address
    pub closed_wait : (b : List ℕ) (q : Call) (a : Address) (c : List ℕ) (L L' : Layout) → Lent (shape w) b → HereIn (shape w) b L → MayAnswer b q (Ok a) c → HereIn (shape w) c L' → (q ≡ sweeping → ⊥)
        → (k o : ℕ) → (shape w).offered ≤ k → Waits k o L → Waits k o L' × (a.0 ≡ address_of (shape w) (item_at (shape w) o) → ⊥)
    -- in place gives the record's own address, a move never does
    pub in_place_stays : (b : List ℕ) (a n : ℕ) (x : Address) (c : List ℕ) → MayAnswer b (resizing_by staying a n) (Ok x) c → x.0 ≡ a
    pub move_moves : (b : List ℕ) (a n : ℕ) (x : Address) (c : List ℕ) → MayAnswer b (resizing_by moving a n) (Ok x) c → x.0 ≡ a → ⊥
    -- 6 exactly where the rule finds nothing, from one way of resize where that way is not open; and 5 exactly where nothing is live
    pub no_room_exactly : (b : List ℕ) (n : ℕ) (r : Answer) (c : List ℕ) (L : Layout) → Lent (shape w) b → HereIn (shape w) b L → 1 ≤ n → n ≤ (shape w).most
        → (MayAnswer b (allocating n) r c → (r ≡ Err why.NoRoom) ↔ NoRoom (shape w) (end_of (length b)) n L)
        × ((x : Payload) → x ∈ live (shape w) L → MayAnswer b (resizing x.address n) r c → (r ≡ Err why.NoRoom) ↔ NoRoomFor (shape w) (end_of (length b)) x n L)
        × ((v : Way) (x : Payload) → x ∈ live (shape w) L → MayAnswer b (resizing_by v x.address n) r c → (r ≡ Err why.NoRoom) ↔ NotOpen (shape w) v (end_of (length b)) x n L)
    pub not_live_exactly : (b : List ℕ) (a : ℕ) (r : Answer) (c : List ℕ) (L : Layout) → Lent (shape w) b → HereIn (shape w) b L
        → MayAnswer b (freeing a) r c → (r ≡ Err why.NotLive) ↔ ((x : Payload) → x ∈ live (shape w) L → x.address ≡ a → ⊥)
    -- a size that the record x holds already is never refused: where x can neither stay nor move, its address is answered and no byte changes
    pub smaller_kept : (b : List ℕ) (n : ℕ) (r : Answer) (c : List ℕ) (L : Layout) → Lent (shape w) b → HereIn (shape w) b L → (x : Payload) → x ∈ live (shape w) L → 1 ≤ n → n ≤ x.size
        → MayAnswer b (resizing x.address n) r c
        → ((a : Address) × (r ≡ Ok a)) × (stays (shape w) n (find (shape w) x.address L) L ≡ none → NoRoom (shape w) (end_of (length b)) n L → (r ≡ Ok (record { 0 = x.address })) × (c ≡ b))
    -- the table's columns add up to the statistics of the same heap
    pub columns_add : (b : List ℕ) (r : Result Statistics Refusal) (t : List (List ℕ)) → Counts (shape w) b (told_counted r) → TableTold w b t
        → (column 0 t ≡ (told_counted r).answer.pages) × (column 1 t ≡ (told_counted r).answer.items)
    pub tried_columns_add : (b : List ℕ) (r : Result Statistics Refusal) (t : Result (List (List ℕ)) Refusal) → Counts (shape w) b (told_counted r) → TriedTable w b t
        → (column 0 (told_table w t).answer ≡ (told_counted r).answer.pages) × (column 1 (told_table w t).answer ≡ (told_counted r).answer.items)

  -- Demands 1 and 2 of what a sweep answers
  pub record SweepPromised : Type 0 where
    -- a refusal leaves every byte as it was, and there are no others than 1, 2 and 3; a sound heap stays sound
    pub refused_untouched : (b : List ℕ) (k : Refusal) (c : List ℕ) → MaySweep b (Err k) c → c ≡ b
    pub answers_only : (b : List ℕ) (r : Swept) (c : List ℕ) → MaySweep b r c → (swept_outcome r c).refusal ∈ numbers_of sweeping
    pub stays_sound : (b : List ℕ) (r : Swept) (c : List ℕ) → MaySweep b r c → SoundIn (shape w) b → SoundIn (shape w) c
    -- what it keeps, and what it counts
    pub keeps : (b : List ℕ) (n : ℕ) (c : List ℕ) (L L' : Layout) → Lent (shape w) b → HereIn (shape w) b L → MaySweep b (Ok n) c → HereIn (shape w) c L'
        → SweepKept (shape w) b L (granted n c) L' × SweepCounted (shape w) L (granted n c) L'
    -- a second one straight after answers 0 and changes no byte
    pub stays : (b : List ℕ) (n : ℕ) (c : List ℕ) (r : Swept) (d : List ℕ) → MaySweep b (Ok n) c → MaySweep c r d → (r ≡ Ok 0) × (d ≡ c)

  -- THE PROMISES of what the calls answer
  pub record CallsPromised : Type 0 where
    pub one_result : OneResult
    pub answers : AnswersPromised
    pub sweeps : SweepPromised
