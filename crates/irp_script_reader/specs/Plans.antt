-- What the plans and the drivers of a script may name.
use Rattle.std.specs.Prelude.{ℕ, ◌==◌, ◌&&◌, List, [], ◌∷◌, Bool, true, not, nat_le, nat_lt}
use Rattle.std.specs.List.{list_any}
use Rattle.std.specs.Option.{option_map_or}
use Rattle.irp_types.specs.Limits.{last_major}
use Rattle.irp_types.specs.Rules.{is_known, is_watch}
use Rattle.irp_types.specs.Status.{is_completable}
use Rattle.irp_types.specs.declared.{answer.Plan.Plan, names.CancelId.CancelId, names.DispatchId.DispatchId}
use Rattle.irp_types.specs.declared.{routine.Known.Known, routine.Setting.Setting}
use Rattle.irp_types.specs.declared.answer.Plan.TheVariants.{Finish, Hold, HoldSlot, Skip, Forward, ForwardPend}

-- a plan finishes with a status that is completable; one that forwards and isn't pending sets a routine of rule watch
abbrev pub is_plan_sound : Plan → Bool
is_plan_sound (Finish status information) = is_completable status
is_plan_sound (Hold cancel) = true
is_plan_sound HoldSlot = true
is_plan_sound Skip = true
is_plan_sound (Forward set) = option_map_or (λ (setting : Setting). is_watch setting.routine.rule) set true
is_plan_sound (ForwardPend set) = true

-- the routine that a plan names is there
abbrev pub names_known : Known → Plan → Bool
names_known known (Finish status information) = true
names_known known (Hold cancel) = option_map_or (λ (routine : CancelId). nat_lt routine.0 known.cancel) cancel true
names_known known HoldSlot = true
names_known known Skip = true
names_known known (Forward set) = option_map_or (is_known known) set true
names_known known (ForwardPend set) = option_map_or (is_known known) set true

-- a major function code, and a dispatch that is there
abbrev pub is_handler : ℕ → ℕ × DispatchId → Bool
is_handler dispatches handler = nat_le handler.0 last_major && nat_lt handler.1.0 dispatches

-- one of these has the major function code
abbrev pub has_major : ℕ → List (ℕ × DispatchId) → Bool
has_major major handlers = list_any (λ handler. handler.0 == major) handlers

-- a driver of a script with so many dispatches: no dispatch that isn't there, no major function code twice
abbrev pub is_driver : ℕ → List (ℕ × DispatchId) → Bool
is_driver dispatches [] = true
is_driver dispatches (first ∷ others) =
    is_handler dispatches first && (not (has_major first.0 others) && is_driver dispatches others)
