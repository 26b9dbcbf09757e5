-- Which act comes next: one whose condition fails is passed over.
use Rattle.std.specs.Prelude.{ℕ, ◌==◌, Bool, true, false, List, drop, Option, Some, None}
use Rattle.std.specs.List.{find}
use Rattle.std.specs.Option.{option_map, option_map_or}
use Rattle.irp_script_reader.specs.declared.condition.Condition.{Condition}
use Rattle.irp_script_reader.specs.declared.condition.ExpectedAnswer.{ExpectedAnswer}
use Rattle.irp_steps.specs.Conditions.{expects_reply, expects_word, is_flag}
use Rattle.irp_plain.specs.Seats.{SeatValue}
use Rattle.irp_plain.specs.declared.answered.Answered.{Answered}
use Rattle.irp_plain.specs.declared.answered.Answered.TheVariants.{Reply, Word}
use Rattle.irp_plain.specs.declared.answered.Told.{Told}
use Rattle.irp_machine.specs.declared.parts.Planned.{Planned}

-- what was answered is the answer that is expected
abbrev pub expects : ExpectedAnswer → Answered → Bool
expects wanted (Reply given) = expects_reply wanted given
expects wanted (Word given) = expects_word wanted given

-- what the step of this place was answered, by what a seat heard: none where that wasn't made
abbrev pub heard_at : List Told → ℕ → Option Answered
heard_at heard step = option_map (λ (one : Told). one.answer) (find (λ (one : Told). one.step == step) heard)

-- the step that the condition names was made, and its answer is the one that is expected, or isn't, as is wanted
abbrev pub passes : List Told → Condition → Bool
passes heard condition =
    option_map_or (λ given. is_flag (expects condition.answer given) condition.wanted)
    (heard_at heard condition.step) false

-- an act with this condition is made by a seat that heard this
abbrev pub holds : List Told → Option Condition → Bool
holds heard None = true
holds heard (Some condition) = passes heard condition

-- the seat makes the act
abbrev pub is_due : List Told → Planned → Bool
is_due heard act = holds heard act.condition

-- the act that a seat is in, or its next one: of those that it isn't behind, the first that it makes
abbrev pub act_now : List Planned → SeatValue → Option Planned
act_now acts seat = find (is_due seat.heard) (drop seat.made acts)
