-- What a gate is told of the steps that workers make.
use Rattle.std.specs.Prelude.{ℕ, ◌≡◌, true, List, Some, slice_get, take}
use Rattle.irp_script_reader.specs.declared.act.Step.{Step}
use Rattle.irp_steps.specs.Conditions.{Heard, holds, named_answer}
use Rattle.irp_script.specs.Outcomes.{is_own_step, own_placed}
use Rattle.irp_script.specs.Working.{MakesEach, Working, applies}
use Rattle.irp_script.specs.declared.due.Due.{Due}

-- what is told of the step of this place, where this was heard: its seat, its place, what it hangs on, and what the step
-- that its condition names was answered
abbrev pub due_at : ℕ → Step → Heard → Due
due_at place step heard =
    record { seat = step.seat; step = place; condition = step.condition; answer = named_answer heard step.condition }

-- each of these steps is admitted whose condition holds, whatever was heard
abbrev pub AdmitsSteps : (Due → Type 0) → List Step → Type 0
AdmitsSteps admits steps =
    (place : ℕ) (step : Step) (heard : Heard) → slice_get steps place ≡ Some step
    → holds heard step.condition ≡ true → admits (due_at place step heard)

-- the step of this place is admitted if it is one of a worker's own and its condition holds, by what the worker's steps
-- before it were answered: with that answer, and no other
abbrev pub AdmitsTurn : (Due → Type 0) → ℕ → ℕ → ℕ → Step → Working → Type 0
AdmitsTurn admits number workers place step before =
    is_own_step number workers step ≡ true → applies step before ≡ true → admits (due_at place step before.heard)

-- each step is admitted that one of so many workers, with so many locks, comes to and makes: from where it begins, by its
-- own steps before that one
abbrev pub AdmitsOwn : (Due → Type 0) → ℕ → ℕ → ℕ → List Step → Working → Type 0
AdmitsOwn admits count number workers steps before =
    (place : ℕ) (step : Step) (work : Working) → slice_get steps place ≡ Some step
    → MakesEach count (own_placed number workers (take place steps)) before work
    → AdmitsTurn admits number workers place step work
