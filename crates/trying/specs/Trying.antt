-- When the next way of resize is tried.
use Rattle.std.specs.Prelude.{Bool, false, eqb, Ok, Err}
use Rattle.model.specs.Refusals.{no_room}
use Rattle.model.specs.Refused.{refusal_number}
use Rattle.serving.specs.Answers.{Answer}

-- an answer is 6
abbrev pub is_no_room : Answer → Bool
is_no_room (Ok a) = false
is_no_room (Err k) = eqb (refusal_number k) no_room
