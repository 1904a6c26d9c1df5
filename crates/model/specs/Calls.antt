-- What each call answers and leaves, for all bytes of a buffer: the refusals in their order, then the rule.
use Rattle.std.specs.Prelude.{ℕ, ◌+◌, ◌*◌, ◌^◌, ◌≤◌, min, ◌≡◌, cond, ◌&&◌, List, [], ◌∷◌, ◌++◌, length, take, drop, eqb, leb}
use Rattle.std.proofs.Math.Option.{Option, none, some}
use Rattle.words.specs.Word.{word_at, put}
use Rattle.words.specs.Copy.{copied}
use Rattle.model.specs.Picture.{draw}
use Rattle.model.specs.Shape.{Shape, shortest, end_of}
use Rattle.model.specs.Parts.{magic_bytes}
use Rattle.model.specs.Layout.{Layout, end_in, words}
use Rattle.model.specs.Sound.{MayEnd, heap_of, HereIn, SoundIn}
use Rattle.model.specs.Rules.{Made, Found, block, thing, nothing, allocate, growth, find, freed, capacity, shown_of, stays, fresh}
use Rattle.model.specs.Reading.{Step, ended, step, Statistics, counted, table, looked_up}
use Rattle.model.specs.Sweeping.{empties, swept}
use Rattle.model.specs.Refusals.{bad_length, not_opened, not_sound, bad_size, not_live, no_room, already_opened, bad_end}

-- of a call that may change the heap: its refusal (0: granted), its address (of a sweep: the number of pages given back), and the buffer's bytes then
pub record Outcome : Type 0 where
  pub refusal : ℕ
  pub address : ℕ
  pub heap : List ℕ

abbrev pub refused : List ℕ → ℕ → Outcome
refused b k = record { refusal = k; address = 0; heap = b }

abbrev pub granted : ℕ → List ℕ → Outcome
granted a b = record { refusal = 0; address = a; heap = b }

-- the one number that the C host gets
abbrev pub number : Outcome → ℕ
number o = o.refusal * 2 ^ 32 + o.address

-- the bytes h in the place of the first of b
abbrev pub fronted : List ℕ → List ℕ → List ℕ
fronted h b = h ++ drop (length h) b

-- what came of a rule on a heap's own bytes, in the buffer b: the rest of it stays as it was
abbrev pub in_buffer : List ℕ → Outcome → Outcome
in_buffer b r = record { refusal = r.refusal; address = r.address; heap = fronted r.heap b }

-- an outcome, or the next one where it says "no room"
abbrev pub or_next : Outcome → Outcome → Outcome
or_next r next = cond (eqb r.refusal no_room) next r

-- the ways of resize: in place, elsewhere, as it is
pub data Way : Type 0 where
  staying : Way
  moving : Way
  keeping : Way

-- of a call that only reads: its refusal, and what it answers
pub record Told (A : Type 0) : Type 0 where
  pub refusal : ℕ
  pub answer : A

module _ (S : Shape) where
  -- N is as it must be; the first 8 bytes are there
  abbrev pub Lent : List ℕ → Type 0
  Lent b = (shortest S ≤ length b) × (length b ≤ S.most)

  abbrev pub Opened : List ℕ → Type 0
  Opened b = word_at magic_bytes b 0 ≡ S.magic

  -- n bytes can be asked for
  abbrev pub GoodSize : ℕ → Type 0
  GoodSize n = (1 ≤ n) × (n ≤ S.most)

  -- a heap's own bytes with a layout's picture drawn over them
  abbrev pub drawn : Layout → List ℕ → List ℕ
  drawn L b = draw S.word (words S (end_of (length b)) L) b

  -- the pictures of several layouts, drawn one after the other
  unfoldable pub drawn_in_turn : List Layout → List ℕ → List ℕ
  drawn_in_turn [] b = b
  drawn_in_turn (L ∷ Ls) b = drawn_in_turn Ls (drawn L b)

  -- every call but initialise: r is the refusal 1, 2 or 3 where it applies, and else what the rule gives for the heap's layout
  pub record Checked {A : Type 0} (b : List ℕ) (no : ℕ → A) (rule : Layout → A) (r : A) : Type 0 where
    pub one : (Lent b → ⊥) → r ≡ no bad_length
    pub two : Lent b → (Opened b → ⊥) → r ≡ no not_opened
    pub three : Lent b → Opened b → (SoundIn S b → ⊥) → r ≡ no not_sound
    pub sound : Lent b → (L : Layout) → HereIn S b L → r ≡ rule L

  -- a rule run on the heap's own bytes
  abbrev pub ordinary : List ℕ → (List ℕ → Layout → Outcome) → Layout → Outcome
  ordinary b rule L = in_buffer b (rule (heap_of S b) L)

  -- a rule that allocates n bytes: where the heap has to grow for them and can, its new free block is written, and then the ordinary rule runs
  abbrev pub grown_to : List ℕ → (List ℕ → Layout → Outcome) → Layout → Option Layout → Outcome
  grown_to b rule L none = ordinary b rule L
  grown_to b rule L (some G) = in_buffer b (rule (drawn G (take (end_in S G) b)) G)

  abbrev pub growing : ℕ → List ℕ → (List ℕ → Layout → Outcome) → Layout → Outcome
  growing n b rule L = grown_to b rule L (growth S (end_of (length b)) n L)

  -- 4 where the size is bad; 5 where nothing is live at the address; 6 where the allocation finds nothing; and else what comes next
  abbrev pub sized : ℕ → List ℕ → Outcome → Outcome
  sized n b next = cond (leb 1 n && leb n S.most) next (refused b bad_size)

  abbrev pub found : {A : Type 0} → Found → A → A → A
  found nothing else next = else
  found (block t) else next = next
  found (thing o c n) else next = next

  abbrev pub made : List ℕ → Option Made → (Made → List ℕ) → Outcome
  made b none heap = refused b no_room
  made b (some m) heap = granted m.at (heap m)

  -- Initialise, with a starting end e
  pub record Initialises (b : List ℕ) (e : ℕ) (r : Outcome) : Type 0 where
    pub one : (Lent b → ⊥) → r ≡ refused b bad_length
    pub seven : Lent b → Opened b → r ≡ refused b already_opened
    pub eight : Lent b → (Opened b → ⊥) → (MayEnd S (length b) e → ⊥) → r ≡ refused b bad_end
    pub opens : Lent b → (Opened b → ⊥) → MayEnd S (length b) e → r ≡ in_buffer b (granted 0 (drawn (fresh S e) (put magic_bytes (take e b) 0 S.magic)))

  -- Check
  abbrev pub Checks : List ℕ → Outcome → Type 0
  Checks b r = Checked b (refused b) (λ L. granted 0 b) r

  -- Allocate
  abbrev pub allocated : List ℕ → ℕ → Layout → Outcome
  allocated b n L = made b (allocate S n L) (λ m. drawn m.layout b)

  abbrev pub Allocates : List ℕ → ℕ → Outcome → Type 0
  Allocates b n r = Checked b (refused b) (λ L. sized n b (growing n b (λ h. allocated h n) L)) r

  -- Free
  abbrev pub without : ℕ → Layout → Layout
  without a L = freed S (find S a L) L

  abbrev pub freed_at : ℕ → List ℕ → Layout → Outcome
  freed_at a b L = granted 0 (drawn (without a L) b)

  abbrev pub Frees : List ℕ → ℕ → Outcome → Type 0
  Frees b a r = Checked b (refused b) (λ L. found (find S a L) (refused b not_live) (ordinary b (freed_at a) L)) r

  -- Resize has three ways, and each says 6 where it is not open. In place, where the heap never grows:
  abbrev pub placed : List ℕ → ℕ → Option Layout → Outcome
  placed b a none = refused b no_room
  placed b a (some M) = granted a (drawn M b)

  abbrev pub stayed : List ℕ → ℕ → ℕ → Layout → Outcome
  stayed b a n L = placed b a (stays S n (find S a L) L)

  -- elsewhere: allocate, copy the smaller of what the old one shows and n, free the old
  abbrev pub moved_bytes : List ℕ → ℕ → ℕ → Layout → Made → List ℕ
  moved_bytes b a n L m = drawn (without a m.layout) (copied a m.at (min (shown_of S (find S a L)) n) (drawn m.layout b))

  abbrev pub moved : List ℕ → ℕ → ℕ → Layout → Outcome
  moved b a n L = made b (allocate S n L) (moved_bytes b a n L)

  -- as it is, where that holds n bytes
  abbrev pub kept : List ℕ → ℕ → ℕ → Layout → Outcome
  kept b a n L = cond (leb n (capacity S (find S a L))) (granted a b) (refused b no_room)

  -- in a buffer
  abbrev pub one_way : Way → List ℕ → ℕ → ℕ → Layout → Outcome
  one_way staying b a n L = ordinary b (λ h. stayed h a n) L
  one_way moving b a n L = growing n b (λ h. moved h a n) L
  one_way keeping b a n L = kept b a n L

  -- THE RULE OF RESIZE, cited by its name: the first of the three that is open
  unfoldable pub resized : List ℕ → ℕ → ℕ → Layout → Outcome
  resized b a n L = found (find S a L) (refused b not_live) (or_next (one_way staying b a n L) (or_next (one_way moving b a n L) (one_way keeping b a n L)))

  abbrev pub Resizes : List ℕ → ℕ → ℕ → Outcome → Type 0
  Resizes b a n r = Checked b (refused b) (λ L. sized n b (resized b a n L)) r

  -- Each way is a call by itself, too: 4 where the size is bad, 5 where nothing is live at the address, and else what the way gives
  unfoldable pub resized_by : Way → List ℕ → ℕ → ℕ → Layout → Outcome
  resized_by v b a n L = found (find S a L) (refused b not_live) (one_way v b a n L)

  abbrev pub ResizesBy : Way → List ℕ → ℕ → ℕ → Outcome → Type 0
  ResizesBy v b a n r = Checked b (refused b) (λ L. sized n b (resized_by v b a n L)) r

  -- Resize in place, or 6
  abbrev pub ResizesInPlace : List ℕ → ℕ → ℕ → Outcome → Type 0
  ResizesInPlace b a n r = ResizesBy staying b a n r

  -- Move, to the same class too, or 6
  abbrev pub Moves : List ℕ → ℕ → ℕ → Outcome → Type 0
  Moves b a n r = ResizesBy moving b a n r

  -- Keep, which a caller tries last, or 6
  abbrev pub Keeps : List ℕ → ℕ → ℕ → Outcome → Type 0
  Keeps b a n r = ResizesBy keeping b a n r

  -- Sweep: it answers the number of pages given back
  abbrev pub swept_all : List ℕ → Layout → Outcome
  swept_all b L = granted (empties L.blocks) (drawn_in_turn (swept S L) b)

  abbrev pub Sweeps : List ℕ → Outcome → Type 0
  Sweeps b r = Checked b (refused b) (ordinary b swept_all) r

  -- Look-up
  abbrev pub LooksUp : List ℕ → ℕ → Told (List ℕ) → Type 0
  LooksUp b a r =
      Checked b (λ k. record { refusal = k; answer = [] })
      (λ L. found (find S a L) (record { refusal = not_live; answer = [] }) (record { refusal = 0; answer = looked_up S b a L }))
      r

  -- Walk
  abbrev pub Steps : List ℕ → ℕ → Told Step → Type 0
  Steps b w r = Checked b (λ k. record { refusal = k; answer = ended S w }) (λ L. record { refusal = 0; answer = step S w L }) r

  -- Statistics, and the table of classes
  abbrev pub Counts : List ℕ → Told Statistics → Type 0
  Counts b r = Checked b (λ k. record { refusal = k; answer = counted [] }) (λ L. record { refusal = 0; answer = counted L.blocks }) r

  abbrev pub Tabulates : List ℕ → Told (List (List ℕ)) → Type 0
  Tabulates b r = Checked b (λ k. record { refusal = k; answer = table S [] }) (λ L. record { refusal = 0; answer = table S L.blocks }) r
