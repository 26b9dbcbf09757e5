-- A packet goes down three devices: the top one skips, the middle one forwards with a routine, the bottom finishes.
use Rattle.std.proofs.Common.{◌≡◌, ℕ, false, List, [], ◌∷◌, Option, Some, None, refl}
use Rattle.irp_types.specs.Status.{success, pending, invalid_device_request}
use Rattle.irp_types.specs.Packet.{PacketValue, new_packet, location_with}
use Rattle.irp_types.specs.Descent.{Frame, used_location, shown_to, replied_status}
use Rattle.irp_types.specs.declared.location.Preparation.TheVariants.{Filled}
use Rattle.irp_types.specs.declared.answer.Plan.{Plan}
use Rattle.irp_types.specs.declared.answer.Plan.TheVariants.{Finish, Skip, Forward, ForwardPend}
use Rattle.irp_types.proofs.Examples.Stacks.{tower}
use Rattle.irp_types.proofs.Examples.Packets.{watched, used_by}

abbrev frame : ℕ → ℕ → Option Plan → Frame
frame device location plan = record { device = device; location = location; plan = plan }

-- the packet as the originator sends it
abbrev sent : PacketValue
sent = record (new_packet 3) {
  locations = location_with 0 0 ∷ location_with 0 0 ∷ location_with 3 7 ∷ [];
  preparation = Filled;
}

abbrev frames : List Frame
frames = frame 2 3 (Some Skip) ∷ frame 1 3 (Some (Forward (Some watched))) ∷ frame 0 2 (Some (Finish success 5)) ∷ []

a_skipped_location_is_the_lower_devices : used_location sent frames 3 ≡ used_by 1 None false
a_skipped_location_is_the_lower_devices = refl

a_forward_sets_its_routine_below : used_location sent frames 2 ≡ used_by 0 (Some watched) false
a_forward_sets_its_routine_below = refl

the_reply_is_the_finish : replied_status frames ≡ success
the_reply_is_the_finish = refl

the_bottom_is_shown_no_lower_device :
    shown_to (record { slot = 0; use_no = 1 }) sent tower (frame 0 2 None) ≡ record {
      device = Some (record { 0 = 0 });
      irp = record { slot = 0; use_no = 1 };
      major = 3;
      location = 2;
      word = 7;
      status = success;
      information = 0;
      pending_returned = false;
      cancel = false;
      context = 0;
      has_lower = false;
    }
the_bottom_is_shown_no_lower_device = refl

a_pending_forward_answers_pending : replied_status (frame 1 2 (Some (ForwardPend None)) ∷ frame 0 1 (Some (Finish success 0)) ∷ []) ≡ pending
a_pending_forward_answers_pending = refl

an_unhandled_major_is_an_invalid_request : replied_status (frame 0 1 None ∷ []) ≡ invalid_device_request
an_unhandled_major_is_an_invalid_request = refl
