-- What a call may say no with, by the numbers of documents 01 and 02; 0 means granted.
use Rattle.std.specs.Prelude.{ℕ}

-- N below the least or above the greatest length
abbrev pub bad_length : ℕ
bad_length = 1

-- the first 8 bytes differ
abbrev pub not_opened : ℕ
not_opened = 2

abbrev pub not_sound : ℕ
not_sound = 3

-- size 0, or above the largest
abbrev pub bad_size : ℕ
bad_size = 4

-- the address is no live payload's
abbrev pub not_live : ℕ
not_live = 5

-- the rule's allocation finds no item and no block
abbrev pub no_room : ℕ
no_room = 6

-- initialise, and the first 8 bytes are already there
abbrev pub already_opened : ℕ
already_opened = 7

-- initialise, and a heap may not end there
abbrev pub bad_end : ℕ
bad_end = 8
