-- Hands that name seats.
use Rattle.std.specs.Prelude.{◌≡◌, ℕ, ◌<◌, All, List, [], slice_get, slice_index_or, Some}
use Rattle.irp_types.specs.declared.seat_act.Hand.{Hand}
use Rattle.irp_script_reader.specs.declared.act.Step.{Step}
use Rattle.irp_script_reader.specs.declared.act.StepAct.{StepAct}
use Rattle.irp_script_reader.specs.declared.act.StepAct.TheVariants as does
use Rattle.irp_machine.specs.declared.parts.Planned.{Planned}

-- an act that is a hand gives to one of so many seats
abbrev pub NamesSeat : ℕ → StepAct → Type 0
NamesSeat seats act = (hand : Hand) → act ≡ does.Hand hand → hand.to < seats

-- each hand of these acts gives to one of so many seats
abbrev pub HandsLand : List (List Planned) → ℕ → Type 0
HandsLand acts seats =
    (seat place : ℕ) (planned : Planned) → slice_get (slice_index_or acts seat []) place ≡ Some planned
    → NamesSeat seats planned.act

-- the same of steps; in a `Script` it is so
abbrev pub AreHandsWithin : ℕ → List Step → Type 0
AreHandsWithin seats steps = All (λ (step : Step). NamesSeat seats step.act) steps
