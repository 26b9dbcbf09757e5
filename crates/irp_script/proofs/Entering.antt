-- What a gate admits of the steps that workers make.
use Rattle.std.proofs.Common.{◌≡◌, ◌<◌, ℕ, List, length, get_or, take, sym, subst}
use Rattle.std.proofs.lemmas.Option.{slice_get-get_or}
use Rattle.irp_script_reader.specs.declared.act.Step.{Step}
use Rattle.irp_steps.specs.Conditions.{IsDue}
use Rattle.irp_script.specs.Gates.{AdmitsOwn, AdmitsSteps, AdmitsTurn}
use Rattle.irp_script.specs.Outcomes.{own_placed}
use Rattle.irp_script.specs.Working.{MakesEach, Working}
use Rattle.irp_script.specs.declared.due.Due.{Due}

-- a gate admits each step whose condition holds
pub due_steps : (steps : List Step) → AdmitsSteps (λ due. IsDue due.condition due.answer) steps
due_steps steps place step heard is applies = applies

pub due_own : (count number workers : ℕ) (steps : List Step) (before : Working) → AdmitsOwn (λ due. IsDue due.condition due.answer) count number workers steps before
due_own count number workers steps before place step work is made own applies = applies

-- the next step, of a worker that is known to be this one
pub admits_next : (admits : Due → Type 0) (count number workers : ℕ) (steps : List Step) (before work : Working) (i : ℕ) (d : Step) (n w : ℕ) → i < length steps
    → AdmitsOwn admits count number workers steps before → MakesEach count (own_placed number workers (take i steps)) before work → n ≡ number → w ≡ workers
    → AdmitsTurn admits n w i (get_or steps i d) work
admits_next admits count number workers steps before work i d n w lt all made same_number same_workers =
    subst (λ k. AdmitsTurn admits k w i (get_or steps i d) work) (sym same_number)
    (subst (λ k. AdmitsTurn admits number k i (get_or steps i d) work) (sym same_workers)
    (all i (get_or steps i d) work (slice_get-get_or steps i d lt) made))
