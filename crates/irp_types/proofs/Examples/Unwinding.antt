-- A packet of three locations is unwound from the lowest, with an error. Location 1 is marked and has no routine,
-- location 2 has a routine that mends the error, and location 3 has one more.
use Rattle.std.proofs.Common.{◌≡◌, ℕ, Bool, true, false, List, [], ◌∷◌, map, filter, Option, Some, None, refl}
use Rattle.irp_types.specs.Status.{success}
use Rattle.irp_types.specs.Packet.{PacketValue, new_packet, with_status, cleared}
use Rattle.irp_types.specs.Unwinding.{Asking, place_of, is_met_at, from_to, stop_of, shown_at, unwound_packet}
use Rattle.irp_types.specs.declared.names.IrpRef.{IrpRef}
use Rattle.irp_types.specs.declared.names.DeviceId.{DeviceId}
use Rattle.irp_types.specs.declared.status.Status.{Status}
use Rattle.irp_types.specs.declared.location.Owner.TheVariants.{Originator, Device, Ended}
use Rattle.irp_types.specs.declared.routine.Rule.{Rule}
use Rattle.irp_types.specs.declared.routine.Rule.TheVariants.{Watch, Change, KeepOnError, Keeper}
use Rattle.irp_types.specs.declared.routine.Setting.{Setting}
use Rattle.irp_types.specs.declared.shown.Shown.{Shown}
use Rattle.irp_types.proofs.Examples.Packets.{used_by}

abbrev unsuccessful : Status
unsuccessful = record { 0 = 0xC0000001 }

abbrev setting_of : Rule → Bool → Bool → Setting
setting_of rule on_success on_error = record { routine = record { rule = rule; no = 0 }; context = 9; on_success = on_success; on_error = on_error; on_cancel = false }

-- the packet, with this setting at the top
abbrev failed_with : Setting → PacketValue
failed_with top = record (with_status (new_packet 3) unsuccessful 0) {
  locations = used_by 0 None true ∷ used_by 1 (Some (setting_of Change false true)) false ∷ used_by 2 (Some top) false ∷ [];
  current = 1;
  owner = Device (record { 0 = 0 });
}

abbrev irp : IrpRef
irp = record { slot = 0; use_no = 1 }

abbrev shown_in : Option DeviceId → ℕ → Status → ℕ → Shown
shown_in device location status information = record {
  device = device;
  irp = irp;
  major = 3;
  location = location;
  word = 7;
  status = status;
  information = information;
  pending_returned = true;
  cancel = false;
  context = 9;
  has_lower = false;
}

-- the routine of location 2 replaces the error by success with information 4
abbrev mending : Asking
mending = record {
  id = record { rule = Change; no = 0 };
  shown = shown_in (Some (record { 0 = 2 })) 2 unsuccessful 0;
  answer = record { keep = false; mark = true; replacement = Some (record { status = success; information = 4 }) };
}

-- a routine at the top is shown no device, and the mended status
abbrev at_top : Rule → Bool → Asking
at_top rule keep = record {
  id = record { rule = rule; no = 0 };
  shown = shown_in None 3 success 4;
  answer = record { keep = keep; mark = false; replacement = None };
}

-- whether the places of these are just those where the flags are met, up to the stop
abbrev AreTheMet : PacketValue → List Asking → Type 0
AreTheMet packet asked = map place_of asked ≡ filter (is_met_at packet asked) (from_to 1 (stop_of packet asked))

abbrev ended : PacketValue
ended = record (with_status (new_packet 3) success 4) { pending_returned = true; owner = Ended }

abbrev watched_on_error : PacketValue
watched_on_error = failed_with (setting_of Watch false true)

a_mended_error_asks_no_routine_on_error : AreTheMet watched_on_error (mending ∷ [])
a_mended_error_asks_no_routine_on_error = refl

a_mark_is_passed_on_where_nobody_is_asked : shown_at irp watched_on_error (mending ∷ []) 2 (setting_of Change false true) ≡ mending.shown
a_mark_is_passed_on_where_nobody_is_asked = refl

an_unwound_packet_has_ended : unwound_packet watched_on_error (mending ∷ []) ≡ ended
an_unwound_packet_has_ended = refl

abbrev kept_on_success : PacketValue
kept_on_success = failed_with (setting_of Keeper true false)

abbrev keeper_asked : List Asking
keeper_asked = mending ∷ at_top Keeper true ∷ []

a_mended_error_asks_a_routine_on_success : AreTheMet kept_on_success keeper_asked
a_mended_error_asks_a_routine_on_success = refl

the_top_routine_is_shown_no_device : shown_at irp kept_on_success keeper_asked 3 (setting_of Keeper true false) ≡ (at_top Keeper true).shown
the_top_routine_is_shown_no_device = refl

kept_at_the_top_it_is_the_originators : unwound_packet kept_on_success keeper_asked ≡ record ended { owner = Originator }
kept_at_the_top_it_is_the_originators = refl

abbrev kept_on_error : PacketValue
kept_on_error = failed_with (setting_of KeepOnError true false)

keep_on_error_lets_a_mended_packet_go : unwound_packet kept_on_error (mending ∷ at_top KeepOnError false ∷ []) ≡ ended
keep_on_error_lets_a_mended_packet_go = refl

-- a routine of location 2 that keeps
abbrev keeper_below : List Asking
keeper_below = (record { id = record { rule = Keeper; no = 0 }; shown = mending.shown; answer = record { keep = true; mark = false; replacement = None } }) ∷ []

nobody_is_asked_above_a_keeper : AreTheMet (record watched_on_error { locations = used_by 0 None true ∷ used_by 1 (Some (setting_of Keeper false true)) false ∷ used_by 2 (Some (setting_of Watch false true)) false ∷ [] }) keeper_below
nobody_is_asked_above_a_keeper = refl

who_keeps_owns_the_packet : unwound_packet watched_on_error keeper_below ≡ record watched_on_error {
  locations = cleared ∷ cleared ∷ used_by 2 (Some (setting_of Watch false true)) false ∷ [];
  current = 3;
  pending_returned = true;
  owner = Device (record { 0 = 2 });
}
who_keeps_owns_the_packet = refl
