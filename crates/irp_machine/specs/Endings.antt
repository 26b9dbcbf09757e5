-- How a script has ended.
use Rattle.std.specs.Prelude.{ℕ, zero, suc, ◌+◌, ◌==◌, nat_lt, if◌then◌else◌, slice_get, List, [], ◌∷◌, ◌++◌, map, length, slice_index_or, Bool, Option}
use Rattle.std.specs.List.{fold, insert, position}
use Rattle.std.specs.Option.{option_map, unwrap_or}
use Rattle.irp_types.specs.Packet.{PacketValue, found_location, size_of}
use Rattle.irp_types.specs.Stacks.{DeviceFacts, DevicesValue, lower_of}
use Rattle.irp_types.specs.Refusals.{has_ended}
use Rattle.irp_types.specs.Standing.{lowest_location}
use Rattle.irp_types.specs.State.{StateValue, LivePacket, live_at}
use Rattle.irp_types.specs.declared.location.Location.{Location}
use Rattle.irp_stack.specs.Records.{id}
use Rattle.irp_machine.specs.declared.live_end.DeviceEnd.{DeviceEnd}
use Rattle.irp_machine.specs.declared.live_end.LiveEnd.{LiveEnd}
use Rattle.irp_machine.specs.declared.outcome.End.{End}
use Rattle.irp_machine.specs.declared.outcome.Holder.{Holder}
use Rattle.irp_machine.specs.declared.outcome.LockEnd.{LockEnd}
use Rattle.irp_machine.specs.declared.outcome.Replies.{Replies}
use Rattle.irp_machine.specs.declared.outcome.SlotEnd.{SlotEnd}
use Rattle.irp_plain.specs.declared.parts.Held.{Held}
use Rattle.irp_plain.specs.declared.parts.Slot.{Slot}
use Rattle.irp_plain.specs.Lists.{with_more}
use Rattle.irp_machine.specs.Marks.{with_number, label_mark, told_mark}
use Rattle.irp_plain.specs.Seats.{SeatValue, new_seat}
use Rattle.irp_machine.specs.Standings.{StandingValue}

-- ---- packets

-- the contents of so many locations of a packet, from this number up, as far as there are any
abbrev pub locations_from : PacketValue → ℕ → ℕ → List Location
locations_from packet number zero = []
locations_from packet number (suc count) =
    with_more (found_location packet (number + count)) (locations_from packet number count)

-- the locations that a send, a completion or a look could come to: those from the lowest up that counts; none of a
-- packet that was completed
abbrev pub locations_told : PacketValue → List Location
locations_told packet =
    locations_from packet (lowest_location packet) (if has_ended packet.owner then 0 else size_of packet)

-- a live packet in its slot
abbrev pub packet_end : ℕ → LivePacket → LiveEnd
packet_end slot live = record {
  slot = slot;
  use_no = live.use_no;
  owner = live.packet.owner;
  current = live.packet.current;
  status = live.packet.status;
  information = live.packet.information;
  pending_returned = live.packet.pending_returned;
  cancel = live.packet.cancel;
  cancel_routine = live.packet.cancel_routine;
  preparation = live.packet.preparation;
  slot_held = live.packet.slot_held;
  locations = locations_told live.packet;
}

-- the live packet of a slot, if there is one
abbrev pub live_end : StateValue → ℕ → Option LiveEnd
live_end state slot = option_map (λ (live : LivePacket). packet_end slot live) (live_at state slot)

-- the live packets of the slots below this one
abbrev pub packets_below : StateValue → ℕ → List LiveEnd
packets_below state zero = []
packets_below state (suc slot) = with_more (live_end state slot) (packets_below state slot)

-- ---- devices

-- a device by its number, if it was created
abbrev pub device_end : DevicesValue → ℕ → Option DeviceEnd
device_end devices device =
    option_map (λ (facts : DeviceFacts). record {
      driver = facts.driver;
      lock = facts.lock;
      live = facts.live;
      lower = option_map id (lower_of devices device);
    }) (slice_get devices.facts device)

-- the devices below this number
abbrev pub devices_below : DevicesValue → ℕ → List DeviceEnd
devices_below devices zero = []
devices_below devices (suc device) = with_more (device_end devices device) (devices_below devices device)

-- ---- remove locks and cancel slots

-- a holder has a higher tag than this
abbrev pub is_above : ℕ → Holder → Bool
is_above tag holder = nat_lt tag holder.tag

-- the first place at which a holder of a higher tag stands, or else the end
abbrev pub place_of : ℕ → List Holder → ℕ
place_of tag own = unwrap_or (position (is_above tag) own) (length own)

-- with one more reference, if it is to this lock, in front of those of higher tags
abbrev pub with_hold : ℕ → ℕ → List Holder → Held → List Holder
with_hold seat lock own held =
    if held.lock == lock then insert own (place_of held.tag own) (record { seat = seat; tag = held.tag }) else own

-- a seat's references to a lock, by rising tag: in which order it came by them isn't told
abbrev pub holds_of : ℕ → ℕ → List Held → List Holder
holds_of seat lock held = fold (with_hold seat lock) [] held

-- the references of the seats below this one to a lock, by rising seat and then by rising tag
abbrev pub holders_below : List SeatValue → ℕ → ℕ → List Holder
holders_below seats lock zero = []
holders_below seats lock (suc seat) =
    holders_below seats lock seat ++ holds_of seat lock (slice_index_or seats seat new_seat).held

-- the remove locks below this one
abbrev pub locks_below : List ℕ → List SeatValue → ℕ → List LockEnd
locks_below words seats zero = []
locks_below words seats (suc lock) =
    locks_below words seats lock
    ++ record { word = slice_index_or words lock 0; holders = holders_below seats lock (length seats) } ∷ []

abbrev pub slot_end : Slot → SlotEnd
slot_end slot = record { flag = slot.flag; content = slot.content }

abbrev pub replies_of : SeatValue → Replies
replies_of seat = record { told = seat.told }

-- ---- the end

-- what is told of the end of a script that stands so: of the packets, those whose slot is below the number of the next
-- use. No theorem says that each live packet's is: a new packet gets a slot that was freed or the first that never had
-- one, and tests have met no other. Which slots were freed in which order isn't told, nor the number of the next use
abbrev pub end_of : StandingValue → End
end_of standing = record {
  replies = map replies_of standing.seats;
  packets = packets_below standing.manager.state standing.manager.state.next_use;
  devices = devices_below standing.manager.state.devices (length standing.manager.state.devices.facts);
  labels = standing.labels;
  locks = locks_below standing.words standing.seats (length standing.words);
  slots = map slot_end standing.slots;
}

-- an end without what the seats were told
abbrev pub without_replies : End → End
without_replies end = record end { replies = map (λ (one : Replies). record one { told = [] }) end.replies }

-- ---- marks

abbrev pub replies_mark : ℕ → Replies → ℕ
replies_mark mark replies = fold told_mark mark replies.told

abbrev pub packet_mark : ℕ → LiveEnd → ℕ
packet_mark mark live = with_number (with_number (with_number mark live.use_no) live.current) live.status.0

abbrev pub lock_mark : ℕ → LockEnd → ℕ
lock_mark mark lock = with_number mark lock.word

abbrev pub slot_end_mark : ℕ → SlotEnd → ℕ
slot_end_mark mark slot = with_number mark slot.content

-- the mark of an end: behind its replies, packets, labels, locks and slots, one after another
abbrev pub end_mark : End → ℕ
end_mark end =
    let replies : ℕ = fold replies_mark 0 end.replies in
    let packets : ℕ = fold packet_mark replies end.packets in
    let labels : ℕ = fold label_mark packets end.labels in
    fold slot_end_mark (fold lock_mark labels end.locks) end.slots
