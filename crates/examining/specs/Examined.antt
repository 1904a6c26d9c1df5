-- What a call finds first, of a heap with words of w bytes.
use Rattle.std.specs.Prelude.{ℕ, ◌≡◌, ◌⊎◌, List, Result, Ok, Err, ⊤}
use Rattle.model.specs.Shape.{shape}
use Rattle.model.specs.Sound.{SoundIn, heap_of}
use Rattle.model.specs.Calls.{Lent, Opened, GoodSize}
use Rattle.model.specs.declared.refusals.Refusal.{Refusal}
use Rattle.model.specs.declared.refusals.Refusal.TheVariants.{BadLength, NotOpened, NotSound, BadSize, NotLive, NoRoom, AlreadyOpened, BadEnd}

module _ (w : ℕ) where
  -- why every call but initialise says no: the first of 1, 2 and 3 that applies
  unfoldable pub UnfitFor : List ℕ → Refusal → Type 0
  UnfitFor b BadLength = Lent (shape w) b → ⊥
  UnfitFor b NotOpened = Lent (shape w) b × (Opened (shape w) b → ⊥)
  UnfitFor b NotSound = Lent (shape w) b × Opened (shape w) b × (SoundIn (shape w) b → ⊥)
  UnfitFor b BadSize = ⊥
  UnfitFor b NotLive = ⊥
  UnfitFor b NoRoom = ⊥
  UnfitFor b AlreadyOpened = ⊥
  UnfitFor b BadEnd = ⊥

  -- a heap that is fit to be read
  unfoldable pub Judged : List ℕ → Result ⊤ Refusal → Type 0
  Judged b (Ok u) = Lent (shape w) b × SoundIn (shape w) b
  Judged b (Err k) = UnfitFor b k

  -- the same, and it is lent: the buffer up to its end
  unfoldable pub Examined : List ℕ → Result (List ℕ) Refusal → Type 0
  Examined b (Ok h) = (Lent (shape w) b × SoundIn (shape w) b) × (h ≡ heap_of (shape w) b)
  Examined b (Err k) = UnfitFor b k

  -- of a call that has a size: the same, and then 4 where the size is bad
  unfoldable pub ExaminedFor : List ℕ → ℕ → Result (List ℕ) Refusal → Type 0
  ExaminedFor b n (Ok h) = Examined b (Ok h) × GoodSize (shape w) n
  ExaminedFor b n (Err k) = Examined b (Err k) ⊎ ((k ≡ BadSize) × (Lent (shape w) b × SoundIn (shape w) b) × (GoodSize (shape w) n → ⊥))
