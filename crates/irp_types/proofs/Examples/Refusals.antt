-- Where two checks fail, the first in order is told.
use Rattle.std.proofs.Common.{◌≡◌, ℕ, false, [], ◌∷◌, Some, refl}
use Rattle.irp_types.specs.Status.{pending}
use Rattle.irp_types.specs.Packet.{new_packet, after_skip, set_next_refusal}
use Rattle.irp_types.specs.State.{Fixed, opening_state}
use Rattle.irp_types.specs.Refusals.{first_refusal, send_refusal, complete_refusal}
use Rattle.irp_types.specs.declared.limit.Limit.TheVariants.{Sixteen}
use Rattle.irp_types.specs.declared.names.DeviceId.{DeviceId}
use Rattle.irp_types.specs.declared.call.Party.TheVariants.{Originator, Device}
use Rattle.irp_types.specs.declared.call.Call.TheVariants.{CreateDevice, Allocate}
use Rattle.irp_types.specs.declared.refusal.Refusal.TheVariants.{NoDevice, NotPrepared, AfterSkip, TooShort, WrongTarget, BadStatus, BadSize, NoDriver, NoLock}
use Rattle.irp_types.proofs.Examples.Stacks.{tower}
use Rattle.irp_types.proofs.Examples.Packets.{held}

abbrev one_driver_one_lock : Fixed
one_driver_one_lock = record {
  locks = 1;
  tables = record {
    counts = record { watch = 0; change = 0; keeper = 0; keep_on_error = 0; free = 0; cancel = 0 };
    drivers = [] ∷ [];
    dispatches = [];
    cancel_rules = [];
  };
  limit = Sixteen;
}

abbrev device : ℕ → DeviceId
device number = record { 0 = number }

no_driver_before_no_lock : first_refusal one_driver_one_lock opening_state false (CreateDevice (record { 0 = 1 }) (record { 0 = 1 })) ≡ Some NoDriver
no_driver_before_no_lock = refl

no_such_lock : first_refusal one_driver_one_lock opening_state false (CreateDevice (record { 0 = 0 }) (record { 0 = 1 })) ≡ Some NoLock
no_such_lock = refl

no_packet_without_locations : first_refusal one_driver_one_lock opening_state false (Allocate 0) ≡ Some BadSize
no_packet_without_locations = refl

no_packet_with_seventeen_locations : first_refusal one_driver_one_lock opening_state false (Allocate 17) ≡ Some BadSize
no_packet_with_seventeen_locations = refl

no_device_before_not_prepared : send_refusal tower Originator (new_packet 2) 9 ≡ Some NoDevice
no_device_before_not_prepared = refl

wrong_target_before_not_prepared : send_refusal tower (Device (device 1)) held 1 ≡ Some WrongTarget
wrong_target_before_not_prepared = refl

not_prepared_before_too_short : send_refusal tower Originator (new_packet 2) 2 ≡ Some NotPrepared
not_prepared_before_too_short = refl

after_skip_before_bad_status : complete_refusal (after_skip held) pending ≡ Some AfterSkip
after_skip_before_bad_status = refl

bad_status_alone : complete_refusal held pending ≡ Some BadStatus
bad_status_alone = refl

too_short_before_bad_major : set_next_refusal (record held { current = 1 }) 28 ≡ Some TooShort
too_short_before_bad_major = refl
