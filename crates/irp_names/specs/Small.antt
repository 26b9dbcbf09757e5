-- Devices, packets, parties, routines and numbers in words.
use Rattle.std.specs.Prelude.{ℕ, ◌==◌, ◌-◌, ◌^◌, Bool, true, false, List, [], ◌++◌, codes, Option, Some, None, if◌then◌else◌}
use Rattle.std.specs.Fmt.{decimal, digits, format_spec, padded_integral}
use Rattle.irp_forms.specs.Names.{rule_name}
use Rattle.irp_types.specs.declared.names.CancelId.{CancelId}
use Rattle.irp_types.specs.declared.names.DeviceId.{DeviceId}
use Rattle.irp_types.specs.declared.names.IrpRef.{IrpRef}
use Rattle.irp_types.specs.declared.call.Party.{Party}
use Rattle.irp_types.specs.declared.call.Party.TheVariants as party
use Rattle.irp_types.specs.declared.location.Owner.{Owner}
use Rattle.irp_types.specs.declared.location.Owner.TheVariants as owner
use Rattle.irp_types.specs.declared.routine.RoutineId.{RoutineId}

-- hexadecimal: small letters; capital ones, with zeros up to so many places
abbrev pub hex_text : ℕ → List ℕ
hex_text number = codes "0x" ++ digits 16 false number

abbrev pub wide_hex : ℕ → Bool → ℕ → List ℕ
wide_hex places capital number =
    codes "0x" ++ padded_integral (format_spec 32 0 4 places (2 ^ 64 - 1)) false [] (digits 16 capital number)

-- the words where the flag is set
abbrev pub told_if : Bool → List ℕ → List ℕ
told_if true words = words
told_if false words = []

-- a device, or the originator
abbrev pub device_text : Option DeviceId → List ℕ
device_text None = codes "the originator"
device_text (Some device) = codes "D" ++ decimal device.0

-- a use of a packet; a label that isn't bound has the last slot of all
abbrev pub packet_text : IrpRef → List ℕ
packet_text irp =
    if irp.slot == 4294967295 then codes "IRP of a label that isn't bound"
    else codes "IRP " ++ (decimal irp.slot ++ (codes "." ++ decimal irp.use_no))

-- who makes a call
abbrev pub party_text : Party → List ℕ
party_text party.Originator = codes "originator"
party_text (party.Device device) = codes "D" ++ decimal device.0

-- who owns a packet
abbrev pub owner_text : Owner → List ℕ
owner_text owner.Originator = codes "the originator owns it"
owner_text (owner.Device device) = codes "D" ++ (decimal device.0 ++ codes " owns it")
owner_text owner.Ended = codes "completed"

-- a completion routine: its rule, and its number within it
abbrev pub routine_text : RoutineId → List ℕ
routine_text id = rule_name id.rule ++ (codes " " ++ decimal id.no)

-- a cancel routine or none
abbrev pub cancel_text : Option CancelId → List ℕ
cancel_text None = codes "NULL"
cancel_text (Some id) = codes "cancel routine " ++ decimal id.0
