-- What is true of every script, list by list.
use Rattle.std.specs.Prelude.{◌≡◌, ◌≢◌, ℕ, ◌+◌, ◌<◌, ◌≤◌, List, [], ◌∷◌, length, slice_get, take, true, None, Some}
use Rattle.std.specs.List.{All, AllPairs}
use Rattle.irp_types.specs.Limits.{most_dispatches, most_drivers, most_locks, most_seats, most_slots}
use Rattle.irp_types.specs.Rules.{IsWithin}
use Rattle.irp_types.specs.State.{most_known, no_routines}
use Rattle.irp_types.specs.declared.{answer.Plan.Plan, routine.Known.Known, routine.Rule.Rule}
use Rattle.irp_types.specs.declared.routine.Rule.TheVariants.{Watch, Change, Keeper, KeepOnError, Free}
use Rattle.irp_script_reader.specs.Forms.{may_do, may_hang, may_plan, slots_of, suits_setup}
use Rattle.irp_script_reader.specs.Labels.{most_labels}
use Rattle.irp_script_reader.specs.Plans.{is_driver, is_plan_sound, names_known}
use Rattle.irp_script_reader.specs.Routines.{obeys_its_rule}
use Rattle.irp_script_reader.specs.declared.{act.Step.Step, script.CompletionRoutine.CompletionRoutine}
use Rattle.irp_script_reader.specs.declared.{script.ScriptForm.ScriptForm, script.ScriptParts.ScriptParts}

-- the counts with one more completion routine of a rule
abbrev pub with_one : Known → Rule → Known
with_one counts Watch = record counts { watch = counts.watch + 1 }
with_one counts Change = record counts { change = counts.change + 1 }
with_one counts Keeper = record counts { keeper = counts.keeper + 1 }
with_one counts KeepOnError = record counts { keep_on_error = counts.keep_on_error + 1 }
with_one counts Free = record counts { free = counts.free + 1 }

-- the counts with these completion routines
abbrev pub with_all : Known → List CompletionRoutine → Known
with_all counts [] = counts
with_all counts (first ∷ others) = with_all (with_one counts first.rule) others

-- the routines that a script has
abbrev pub known_of : ScriptParts → Known
known_of script = record (with_all no_routines script.completions) { cancel = length script.cancels }

-- what a script's dispatch may plan: what the form has, sound, and with routines that the script has
abbrev pub IsPlan : ScriptForm → Known → Plan → Type 0
IsPlan form known plan = (may_plan form plan ≡ true) × (is_plan_sound plan ≡ true) × (names_known known plan ≡ true)

-- what a step of a script does: its seat is there, and may do it
abbrev pub IsStep : ScriptForm → ℕ → Step → Type 0
IsStep form seats step = (step.seat < seats) × (may_do form seats step.seat step.act ≡ true)

-- A script is within the limits: it has a seat and a remove lock at least, and no more of anything than there may be.
-- Behaviours are those of their rules; plans are those that the form has, sound, and name only routines that the script
-- has; drivers name only dispatches that it has; no two labels are the same; each step's seat is there and may do it, and
-- hangs it on nothing, or in form 4 on the answer of an earlier one of its own; and `setup` has no step on a remove lock
-- or on a cancel slot, and none with a condition.
pub record IsSound (script : ScriptParts) : Type 0 where
  pub some_seats : 1 ≤ script.seats
  pub few_seats : script.seats ≤ most_seats
  pub some_locks : 1 ≤ script.locks
  pub few_locks : script.locks ≤ most_locks
  pub few_slots : slots_of script.form ≤ most_slots
  pub few_routines : IsWithin (known_of script) most_known
  pub few_dispatches : length script.dispatches ≤ most_dispatches
  pub few_drivers : length script.drivers ≤ most_drivers
  pub few_labels : length script.labels ≤ most_labels
  pub other_labels : AllPairs (λ label later. label ≢ later) script.labels
  pub completions : All (λ routine. obeys_its_rule routine ≡ true) script.completions
  pub dispatches : All (IsPlan script.form (known_of script)) script.dispatches
  pub drivers : All (λ handlers. is_driver (length script.dispatches) handlers ≡ true) script.drivers
  pub setup : All (λ step. IsStep script.form script.seats step × (suits_setup step.act ≡ true)) script.setup
  pub unconditioned : All (λ step. step.condition ≡ None) script.setup
  pub steps : All (IsStep script.form script.seats) script.steps
  pub conditions : (k : ℕ) (step : Step) → slice_get script.steps k ≡ Some step
      → may_hang script.form (take k script.steps) step.seat step.condition ≡ true
