-- Which devices stand above which, and which packets a right driver doesn't complete, as the entries so far tell.
use Rattle.std.specs.Prelude.{ℕ, zero, suc, ◌≡◌, ◌+◌, ◌==◌, ◌&&◌, Bool, true, false, nat_lt, length}
use Rattle.std.specs.Prelude.{List, [], ◌∷◌, get_or, slice_set, Option, None, Some, if◌then◌else◌}
use Rattle.std.specs.Bool.{then_some}
use Rattle.std.specs.Option.{option_flatten, option_map_or, option_or}
use Rattle.irp_types.specs.Calls.{Call}
use Rattle.irp_types.specs.declared.call.Call.TheVariants as call
use Rattle.irp_types.specs.declared.call.Party.TheVariants as party
use Rattle.irp_types.specs.declared.entry.Entry.{Entry}
use Rattle.irp_types.specs.declared.names.DeviceId.{DeviceId}
use Rattle.irp_types.specs.declared.names.IrpRef.{IrpRef}
use Rattle.irp_types.specs.declared.refusal.Refusal.TheVariants as refusal
use Rattle.irp_types.specs.declared.reply.Reply.{Reply}
use Rattle.irp_types.specs.declared.reply.Reply.TheVariants as reply
use Rattle.irp_listing.specs.declared.stacks.Stacks.{Stacks}

-- ---- what the entries so far tell of a device

-- what the last of these entries tells that tells something
abbrev pub last_of : {T : Type 0} → (Entry → Option T) → List Entry → Option T
last_of tells [] = None
last_of tells (entry ∷ later) = option_or (last_of tells later) (tells entry)

-- what is told of this device
abbrev pub told_of : {T : Type 0} → DeviceId → Option (DeviceId × T) → Option T
told_of device None = None
told_of device (Some told) = if told.0.0 == device.0 then Some told.1 else None

-- what was told last of this device, of which there are 64 at most
abbrev pub last_told : {T : Type 0} → (Entry → Option (DeviceId × Option T)) → List Entry → DeviceId → Option T
last_told tells so_far device =
    if nat_lt device.0 64 then option_flatten (last_of (λ entry. told_of device (tells entry)) so_far) else None

-- ---- which device stands just above

-- a done attach or detach tells of a device what stands just above it from then on
abbrev pub above_set : Call → Reply → Option (DeviceId × Option DeviceId)
above_set (call.Attach device to) (reply.Device top) = Some (top, Some device)
above_set (call.Detach lower) (reply.Device above) = Some (lower, None)
above_set other answered = None

abbrev pub tells_above : Entry → Option (DeviceId × Option DeviceId)
tells_above entry = above_set entry.call entry.reply

-- the device just above this one, where one is known
abbrev pub just_above : List Entry → DeviceId → Option DeviceId
just_above so_far device = last_told tells_above so_far device

-- how many stand above this one, as far as so many
unfoldable pub count_above : (DeviceId → Option DeviceId) → ℕ → DeviceId → ℕ
count_above above zero device = 0
count_above above (suc most) device =
    option_map_or (λ (next : DeviceId). count_above above most next + 1) (above device) 0

-- how many steps the lines of a question are indented: none where the originator is asked, and else one more than devices
-- stand above
abbrev pub depth_of : (DeviceId → Option DeviceId) → Option DeviceId → ℕ
depth_of above device = option_map_or (λ (device : DeviceId). count_above above 64 device + 1) device 0

-- ---- which completions a right driver leaves out

-- the cancel routine that a device took out was gone: there was none, or the packet had ended
abbrev pub was_gone : Reply → Bool
was_gone (reply.Previous None) = true
was_gone (reply.Refused refusal.Ended) = true
was_gone other = false

-- a device that takes a packet's cancel routine out, and the packet where the routine was gone
abbrev pub taken_out : Call → Reply → Option (DeviceId × Option IrpRef)
taken_out (call.SetCancelRoutine (party.Device device) irp None) answered =
    Some (device, then_some (was_gone answered) irp)
taken_out other answered = None

abbrev pub tells_lost : Entry → Option (DeviceId × Option IrpRef)
tells_lost entry = taken_out entry.call entry.reply

-- the packet whose cancel routine this device found gone, when it last took one out
abbrev pub lost_by : List Entry → DeviceId → Option IrpRef
lost_by so_far device = last_told tells_lost so_far device

-- a device that completes a packet, which is refused because that has ended, and the packet
abbrev pub late_completion : Call → Reply → Option (DeviceId × IrpRef)
late_completion (call.Complete (party.Device device) irp status information) (reply.Refused refusal.Ended) =
    Some (device, irp)
late_completion other answered = None

-- the same packet, in the same use
abbrev pub is_use : IrpRef → Option IrpRef → Bool
is_use irp None = false
is_use irp (Some other) = irp.slot == other.slot && irp.use_no == other.use_no

-- an entry is such a completion of the packet that its device lost: a right driver makes no such call
abbrev pub is_left_out : (DeviceId → Option IrpRef) → Entry → Bool
is_left_out lost entry =
    option_map_or (λ (late : DeviceId × IrpRef). is_use late.1 (lost late.0))
    (late_completion entry.call entry.reply) false

-- ---- what is kept of them

-- what is kept of a device
abbrev pub held : {T : Type 0} → List (Option T) → DeviceId → Option T
held list device = get_or list device.0 None

-- the same, with what was told of one of them
abbrev pub with_told : {T : Type 0} → List (Option T) → Option (DeviceId × Option T) → List (Option T)
with_told list None = list
with_told list (Some told) = slice_set list told.0.0 told.1

-- all that is kept is what the entries so far tell
pub record IsAfter (so_far : List Entry) (stacks : Stacks) : Type 0 where
  pub above : (device : DeviceId) → held stacks.above device ≡ just_above so_far device
  pub lost : (device : DeviceId) → held stacks.lost device ≡ lost_by so_far device
  pub devices : (length stacks.above ≡ 64) × (length stacks.lost ≡ 64)
