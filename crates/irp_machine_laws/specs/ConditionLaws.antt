-- A step's condition holds for a seat of the machine where it holds for a worker that runs the script.
use Rattle.std.specs.Prelude.{⊤, ℕ, ◌≡◌, ◌<◌, List, [], ◌∷◌, ◌++◌, length, Option, Some, None}
use Rattle.std.specs.Option.{option_map}
use Rattle.irp_script_reader.specs.declared.act.Step.{Step}
use Rattle.irp_script_reader.specs.declared.condition.Condition.{Condition}
use Rattle.irp_steps.specs.Conditions as worker
use Rattle.irp_steps.specs.Conditions.{Heard, none_heard, with_answer}
use Rattle.irp_steps.specs.declared.answered.Answered.{Answered as Kept}
use Rattle.irp_steps.specs.declared.answered.Answered.TheVariants as kept
use Rattle.irp_plain.specs.declared.answered.Answered.{Answered}
use Rattle.irp_plain.specs.declared.answered.Answered.TheVariants.{Reply, Word}
use Rattle.irp_plain.specs.declared.answered.Told.{Told}
use Rattle.irp_machine.specs.Conditions as machine

-- an answer, as a worker keeps it
abbrev pub as_kept : Answered → Kept
as_kept (Reply given) = kept.Reply given
as_kept (Word given) = kept.Word given

-- of the step of this place the worker has heard what the seat has
abbrev pub HearAlike : List Told → Heard → ℕ → Type 0
HearAlike told heard step = worker.heard_at heard step ≡ option_map as_kept (machine.heard_at told step)

-- the same of the step that a condition names, if there is one
abbrev pub HearAlikeFor : List Told → Heard → Option Condition → Type 0
HearAlikeFor told heard None = ⊤
HearAlikeFor told heard (Some condition) = HearAlike told heard condition.step

-- a condition holds for both or for neither, where both have heard the same of the step that it names
abbrev pub ConditionLaw : Type 0
ConditionLaw =
    (told : List Told) (heard : Heard) (condition : Option Condition) → HearAlikeFor told heard condition
    → machine.holds told condition ≡ worker.holds heard condition

-- as the steps begin, both have heard nothing of any
abbrev pub NothingHeardLaw : Type 0
NothingHeardLaw = (steps : List Step) (step : ℕ) → HearAlike [] (none_heard steps) step

-- and when a step is answered of which the seat has heard nothing, both go on to have heard the same of each
abbrev pub HearingLaw : Type 0
HearingLaw =
    (told : List Told) (heard : Heard) (answered step : ℕ) (given : Answered) → HearAlike told heard step
    → machine.heard_at told answered ≡ None → answered < length heard
    → HearAlike (told ++ record { step = answered; answer = given } ∷ [])
    (with_answer heard answered (as_kept given)) step
