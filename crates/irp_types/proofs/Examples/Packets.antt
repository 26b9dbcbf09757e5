-- A packet before and after its own calls.
use Rattle.std.proofs.Common.{◌≡◌, ℕ, Bool, true, [], ◌∷◌, Option, Some, None, refl}
use Rattle.irp_types.specs.Packet.{PacketValue, new_packet, location_with, cleared, with_status, after_set_next, after_copy, after_skip, after_enter, after_reset, copy_to_next_refusal}
use Rattle.irp_types.specs.declared.location.Location.{Location}
use Rattle.irp_types.specs.declared.location.Owner.TheVariants.{Device}
use Rattle.irp_types.specs.declared.location.Preparation.TheVariants.{Skipped}
use Rattle.irp_types.specs.declared.routine.Rule.TheVariants.{Watch}
use Rattle.irp_types.specs.declared.routine.Setting.{Setting}
use Rattle.irp_types.specs.declared.refusal.Refusal.TheVariants.{NoLocation}

abbrev pub watched : Setting
watched = record { routine = record { rule = Watch; no = 0 }; context = 9; on_success = true; on_error = true; on_cancel = true }

-- a location of this device with major 3 and word 7
abbrev pub used_by : ℕ → Option Setting → Bool → Location
used_by device setting pending = record { device = Some (record { 0 = device }); major = 3; word = 7; setting = setting; pending = pending }

-- two locations; device 1 owns the packet in the upper one
abbrev pub held : PacketValue
held = record (new_packet 2) {
  locations = cleared ∷ used_by 1 (Some watched) true ∷ [];
  current = 2;
  owner = Device (record { 0 = 1 });
}

a_filled_location_has_nothing_else : (after_set_next (record held { locations = used_by 0 (Some watched) true ∷ used_by 1 None true ∷ [] }) 4 8).locations ≡ location_with 4 8 ∷ used_by 1 None true ∷ []
a_filled_location_has_nothing_else = refl

a_copy_takes_major_and_word : (after_copy held None).locations ≡ location_with 3 7 ∷ used_by 1 (Some watched) true ∷ []
a_copy_takes_major_and_word = refl

the_originator_has_nothing_to_copy : copy_to_next_refusal (new_packet 2) ≡ Some NoLocation
the_originator_has_nothing_to_copy = refl

a_skip_clears_what_was_filled : after_skip (after_copy held None) ≡ record held { current = 3; preparation = Skipped }
a_skip_clears_what_was_filled = refl

who_enters_after_a_skip_has_the_same_location : after_enter (after_skip held) (record { 0 = 0 }) ≡ record held { locations = cleared ∷ used_by 0 (Some watched) true ∷ [] }
who_enters_after_a_skip_has_the_same_location = refl

a_reset_leaves_nothing_behind : after_reset (record held { cancel = true; pending_returned = true; information = 5 }) (record { 0 = 0xC0000001 }) ≡ with_status (new_packet 2) (record { 0 = 0xC0000001 }) 0
a_reset_leaves_nothing_behind = refl
