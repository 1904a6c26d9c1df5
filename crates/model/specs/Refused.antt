-- Why a call says no, and the number that it says.
use Rattle.std.specs.Prelude.{ℕ}
use Rattle.model.specs.Refusals.{bad_length, not_opened, not_sound, bad_size, not_live, no_room, already_opened, bad_end}
use Rattle.model.specs.declared.refusals.Refusal.{Refusal}
use Rattle.model.specs.declared.refusals.Refusal.TheVariants.{BadLength, NotOpened, NotSound, BadSize, NotLive, NoRoom, AlreadyOpened, BadEnd}

-- the number of a refusal
abbrev pub refusal_number : Refusal → ℕ
refusal_number BadLength = bad_length
refusal_number NotOpened = not_opened
refusal_number NotSound = not_sound
refusal_number BadSize = bad_size
refusal_number NotLive = not_live
refusal_number NoRoom = no_room
refusal_number AlreadyOpened = already_opened
refusal_number BadEnd = bad_end
