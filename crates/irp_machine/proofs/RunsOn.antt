-- A script that is run step by step.
use Rattle.std.proofs.Common.{◌≡◌, ℕ, List, Option, Some, refl, sym, ap, subst}
use Rattle.irp_types.specs.declared.entry.Entry.{Entry}
use Rattle.irp_plain.specs.declared.parts.After.{After}
use Rattle.irp_machine.specs.Machine.{act_of}
use Rattle.irp_machine.specs.Replays.{PlaysSo}
use Rattle.irp_machine.specs.Runs.{RunValue, RunsOn, act_in}
use Rattle.irp_machine.specs.Standings.{StandingValue}
use Rattle.irp_machine.specs.declared.parts.Planned.{Planned}

-- a run is this one, so a step that is made of this one is made of the run
pub runs_on : (own old : RunValue) → own ≡ old → (seat step : ℕ) (planned : Planned) (behind : After) (standing : StandingValue) (entries : List Entry)
    → act_in step (act_of old.rules old.standing seat) ≡ Some planned → PlaysSo own.rules own.standing own.entries seat planned standing entries behind
    → RunsOn old seat (act_in step (act_of old.rules old.standing seat)) (Some behind) (record own { standing = standing; entries = entries })
runs_on own old is seat step planned behind standing entries act plays =
    let new : RunValue = record own { standing = standing; entries = entries } in
    let of_old = subst (λ (run : RunValue). PlaysSo run.rules run.standing run.entries seat planned standing entries behind) is plays in
    subst (λ (act : Option Planned). RunsOn old seat act (Some behind) new) (sym act)
    (behind, refl, of_old, ap (λ (run : RunValue). record run { standing = standing; entries = entries }) is)
