-- What the answer of a walk's step means.
use Rattle.std.specs.Prelude.{ℕ, Option, Some, None, Result, Ok, Err}
use Rattle.model.specs.Shape.{shape}
use Rattle.model.specs.Reading as reading
use Rattle.model.specs.Reading.{the_end, ended}
use Rattle.model.specs.Calls.{Told}
use Rattle.model.specs.Refused.{refusal_number}
use Rattle.model.specs.declared.refusals.Refusal.{Refusal}
use Rattle.reading.specs.Stepping.{told_kind}
use Rattle.reading.specs.declared.stepping.Kind.{Kind}
use Rattle.reading.specs.declared.stepping.MetBlock.{MetBlock}
use Rattle.serving.specs.declared.walks.Step.{Step}
use Rattle.serving.specs.declared.walks.Stepped.{Stepped}

-- what was met, and where the walk then stands
abbrev pub told_next : ℕ → Option MetBlock → ℕ → reading.Step
told_next w None n = ended (shape w) n
told_next w (Some b) n = record { position = b.position.0; size = b.size; kind = told_kind b.kind; next = n }

-- the answer of a step of a walk that stood at at, with the refusal 0; or a refusal, with the end, and the walk stays
abbrev pub told_step : ℕ → ℕ → Result Step Refusal → Told reading.Step
told_step w at (Ok s) = record { refusal = 0; answer = told_next w s.block s.walk.at.0 }
told_step w at (Err k) = record { refusal = refusal_number k; answer = ended (shape w) at }

-- what a program prints of a step: the same, side by side
abbrev pub printed_kind : Option Kind → reading.Kind
printed_kind None = the_end
printed_kind (Some k) = told_kind k

abbrev pub printed_step : Stepped → Told reading.Step
printed_step s = record { refusal = s.refusal; answer = record { position = s.position.0; size = s.size; kind = printed_kind s.kind; next = s.next.0 } }
