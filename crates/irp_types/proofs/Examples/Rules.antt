-- What rules and plans allow.
use Rattle.std.proofs.Common.{◌≡◌, ℕ, Bool, true, false, Option, Some, None, refl}
use Rattle.irp_types.specs.Status.{success, pending, more_processing_required, invalid_device_request, is_success, is_completable}
use Rattle.irp_types.specs.Rules.{is_allowed, is_cancel_allowed, is_plan_allowed}
use Rattle.irp_types.specs.declared.status.Status.{Status}
use Rattle.irp_types.specs.declared.routine.Rule.{Rule}
use Rattle.irp_types.specs.declared.routine.Rule.TheVariants.{Watch, Keeper, KeepOnError, Free}
use Rattle.irp_types.specs.declared.routine.CancelRule.TheVariants.{MustFinish}
use Rattle.irp_types.specs.declared.routine.Setting.{Setting}
use Rattle.irp_types.specs.declared.routine.Known.{Known}
use Rattle.irp_types.specs.declared.shown.Shown.{Shown}
use Rattle.irp_types.specs.declared.answer.Answer.{Answer}
use Rattle.irp_types.specs.declared.answer.CancelAnswer.TheVariants.{Leave}
use Rattle.irp_types.specs.declared.answer.Plan.TheVariants.{Finish, Hold, Skip, Forward, ForwardPend}
use Rattle.irp_types.specs.declared.names.DeviceId.{DeviceId}

abbrev informational : Status
informational = record { 0 = 0x104 }

an_informational_status_is_a_success : is_success informational ≡ true
an_informational_status_is_a_success = refl

an_error_is_no_success : is_success invalid_device_request ≡ false
an_error_is_no_success = refl

pending_completes_nothing : is_completable pending ≡ false
pending_completes_nothing = refl

abbrev one_of_each : Known
one_of_each = record { watch = 1; change = 1; keeper = 1; keep_on_error = 1; free = 1; cancel = 1 }

abbrev shown : Option DeviceId → Status → Bool → Bool → Bool → Shown
shown device status pending_returned cancel has_lower = record {
  device = device;
  irp = record { slot = 0; use_no = 1 };
  major = 3;
  location = 2;
  word = 7;
  status = status;
  information = 0;
  pending_returned = pending_returned;
  cancel = cancel;
  context = 0;
  has_lower = has_lower;
}

abbrev some_device : Option DeviceId
some_device = Some (record { 0 = 1 })

-- shown to a dispatch that has a device below, and to one that has not
abbrev above_another : Shown
above_another = shown some_device success false false true

abbrev at_bottom : Shown
at_bottom = shown some_device success false false false

abbrev setting_of : Rule → ℕ → Option Setting
setting_of rule number = Some (record { routine = record { rule = rule; no = number }; context = 0; on_success = true; on_error = true; on_cancel = true })

a_pending_forward_may_set_a_keeper : is_plan_allowed one_of_each above_another (ForwardPend (setting_of Keeper 0)) ≡ true
a_pending_forward_may_set_a_keeper = refl

a_forward_may_not_set_a_keeper : is_plan_allowed one_of_each above_another (Forward (setting_of Keeper 0)) ≡ false
a_forward_may_not_set_a_keeper = refl

a_forward_may_set_a_watch : is_plan_allowed one_of_each above_another (Forward (setting_of Watch 0)) ≡ true
a_forward_may_set_a_watch = refl

a_forward_may_not_set_an_unknown_watch : is_plan_allowed one_of_each above_another (Forward (setting_of Watch 1)) ≡ false
a_forward_may_not_set_an_unknown_watch = refl

nothing_is_passed_down_from_the_bottom : is_plan_allowed one_of_each at_bottom Skip ≡ false
nothing_is_passed_down_from_the_bottom = refl

a_cancelled_packet_gets_no_cancel_routine : is_plan_allowed one_of_each (shown some_device success false true true) (Hold (Some (record { 0 = 0 }))) ≡ false
a_cancelled_packet_gets_no_cancel_routine = refl

nothing_is_finished_with_pending : is_plan_allowed one_of_each at_bottom (Finish pending 0) ≡ false
nothing_is_finished_with_pending = refl

abbrev continues : Bool → Answer
continues mark = record { keep = false; mark = mark; replacement = None }

abbrev keeps : Answer
keeps = record { keep = true; mark = false; replacement = None }

a_pending_packet_is_marked_again : is_allowed Watch (shown some_device success true false false) (continues true) ≡ true
a_pending_packet_is_marked_again = refl

a_mark_may_not_be_forgotten : is_allowed Watch (shown some_device success true false false) (continues false) ≡ false
a_mark_may_not_be_forgotten = refl

nobody_marks_at_the_top : is_allowed Watch (shown None success true false false) (continues false) ≡ true
nobody_marks_at_the_top = refl

who_keeps_does_not_mark : is_allowed Keeper (shown some_device success true false false) keeps ≡ true
who_keeps_does_not_mark = refl

keep_on_error_lets_an_informational_success_go : is_allowed KeepOnError (shown some_device informational false false false) keeps ≡ false
keep_on_error_lets_an_informational_success_go = refl

keep_on_error_keeps_an_error : is_allowed KeepOnError (shown some_device invalid_device_request false false false) keeps ≡ true
keep_on_error_keeps_an_error = refl

no_routine_replaces_by_more_processing :
    is_allowed Free (shown None success false false false) (record { keep = false; mark = false; replacement = Some (record { status = more_processing_required; information = 0 }) }) ≡ false
no_routine_replaces_by_more_processing = refl

a_routine_that_must_finish_does_not_leave : is_cancel_allowed MustFinish Leave ≡ false
a_routine_that_must_finish_does_not_leave = refl
