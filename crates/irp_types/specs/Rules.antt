-- What a closure may answer to what it is shown. Each is a test, so that a value can hold the fact that it passes.
use mathlib.Core.Bool.{beq}
use Rattle.std.specs.Prelude.{ℕ, ◌<◌, ◌≤◌, ◌^◌, Bool, true, false, not, ◌&&◌, is_some, is_none, nat_lt, IfSome}
use Rattle.std.specs.Option.{option_map_or}
use Rattle.irp_types.specs.Status.{is_success, is_completable}
use Rattle.irp_types.specs.declared.names.CancelId.{CancelId}
use Rattle.irp_types.specs.declared.routine.Rule.{Rule}
use Rattle.irp_types.specs.declared.routine.Rule.TheVariants.{Watch, Change, Keeper, KeepOnError, Free}
use Rattle.irp_types.specs.declared.routine.CancelRule.{CancelRule}
use Rattle.irp_types.specs.declared.routine.CancelRule.TheVariants.{MustFinish, MustLeave, Either}
use Rattle.irp_types.specs.declared.routine.Setting.{Setting}
use Rattle.irp_types.specs.declared.routine.Known.{Known}
use Rattle.irp_types.specs.declared.shown.Shown.{Shown}
use Rattle.irp_types.specs.declared.answer.Answer.{Answer}
use Rattle.irp_types.specs.declared.answer.Replacement.{Replacement}
use Rattle.irp_types.specs.declared.answer.CancelAnswer.{CancelAnswer}
use Rattle.irp_types.specs.declared.answer.CancelAnswer.TheVariants.{Finish as CancelFinish, Leave}
use Rattle.irp_types.specs.declared.answer.Plan.{Plan}
use Rattle.irp_types.specs.declared.answer.Plan.TheVariants.{Finish, Hold, HoldSlot, Skip, Forward, ForwardPend}

-- whether a rule lets a completion routine keep or continue, and replace, as this answer does
abbrev pub obeys : Rule → Shown → Answer → Bool
obeys Watch shown answer = not answer.keep && is_none answer.replacement
obeys Change shown answer = not answer.keep
obeys Keeper shown answer = answer.keep && is_none answer.replacement
obeys KeepOnError shown answer = beq answer.keep (not (is_success shown.status)) && is_none answer.replacement
obeys Free shown answer = true

-- the one mark that any answer may have: made where it continues, PendingReturned is shown and a device is shown
abbrev pub right_mark : Shown → Bool → Bool
right_mark shown keep = not keep && (shown.pending_returned && is_some shown.device)

-- what a completion routine of a rule may answer
abbrev pub is_allowed : Rule → Shown → Answer → Bool
is_allowed rule shown answer =
    beq answer.mark (right_mark shown answer.keep)
    && (option_map_or (λ (replacement : Replacement). is_completable replacement.status) answer.replacement true
    && obeys rule shown answer)

-- what a cancel routine of a rule may answer
abbrev pub is_cancel_allowed : CancelRule → CancelAnswer → Bool
is_cancel_allowed MustFinish (CancelFinish information) = true
is_cancel_allowed MustFinish Leave = false
is_cancel_allowed MustLeave (CancelFinish information) = false
is_cancel_allowed MustLeave Leave = true
is_cancel_allowed Either answer = true

-- how many completion routines of a rule are known
abbrev pub count_of_rule : Known → Rule → ℕ
count_of_rule known Watch = known.watch
count_of_rule known Change = known.change
count_of_rule known Keeper = known.keeper
count_of_rule known KeepOnError = known.keep_on_error
count_of_rule known Free = known.free

-- whether the routine of a setting is there: its number is below the count of its rule
abbrev pub is_known : Known → Setting → Bool
is_known known setting = nat_lt setting.routine.no (count_of_rule known setting.routine.rule)

-- the rule of routines that only look on
abbrev pub is_watch : Rule → Bool
is_watch Watch = true
is_watch Change = false
is_watch Keeper = false
is_watch KeepOnError = false
is_watch Free = false

-- what a dispatch that may name these routines may plan
abbrev pub is_plan_allowed : Known → Shown → Plan → Bool
is_plan_allowed known shown (Finish status information) = is_completable status
is_plan_allowed known shown (Hold cancel) =
    option_map_or (λ (routine : CancelId). not shown.cancel && nat_lt routine.0 known.cancel) cancel true
is_plan_allowed known shown HoldSlot = true
is_plan_allowed known shown Skip = shown.has_lower
is_plan_allowed known shown (Forward set) =
    shown.has_lower
    && option_map_or (λ (setting : Setting). is_watch setting.routine.rule && is_known known setting) set true
is_plan_allowed known shown (ForwardPend set) = shown.has_lower && option_map_or (is_known known) set true

-- each number is within the range of its field's type
pub record CanShow (shown : Shown) : Type 0 where
  pub device : IfSome shown.device (λ given. given.0 < 2 ^ 32)
  pub slot : shown.irp.slot < 2 ^ 64
  pub use_no : shown.irp.use_no < 2 ^ 64
  pub major : shown.major < 2 ^ 8
  pub location : shown.location < 2 ^ 32
  pub word : shown.word < 2 ^ 64
  pub status : shown.status.0 < 2 ^ 32
  pub information : shown.information < 2 ^ 64
  pub context : shown.context < 2 ^ 64

-- the routines that a dispatch may name are among those that there are
pub record IsWithin (known counts : Known) : Type 0 where
  pub watch : known.watch ≤ counts.watch
  pub change : known.change ≤ counts.change
  pub keeper : known.keeper ≤ counts.keeper
  pub keep_on_error : known.keep_on_error ≤ counts.keep_on_error
  pub free : known.free ≤ counts.free
  pub cancel : known.cancel ≤ counts.cancel
