-- The lines of what orders leave: packets, labels, devices, remove locks and cancel slots.
use Rattle.std.specs.Prelude.{ℕ, ◌==◌, ◌+◌, ◌-◌, ◌%◌, ◌&&◌, ◌<◌, min, Bool, true, false, List, [], ◌++◌, codes, Option, Some, None, if◌then◌else◌, slice_get, String, string_bytes}
use Rattle.std.specs.Fmt.{decimal}
use Rattle.std.specs.List.{enumerate_from, flat_map}
use Rattle.std.specs.Option.{option_map_or}
use Rattle.irp_types.specs.declared.location.Location.{Location}
use Rattle.irp_types.specs.declared.location.Preparation.{Preparation}
use Rattle.irp_types.specs.declared.location.Preparation.TheVariants as preparation
use Rattle.irp_types.specs.declared.names.CancelId.{CancelId}
use Rattle.irp_types.specs.declared.names.DeviceId.{DeviceId}
use Rattle.irp_types.specs.declared.names.IrpRef.{IrpRef}
use Rattle.irp_types.specs.declared.routine.Setting.{Setting}
use Rattle.irp_names.specs.Calls.{setting_text}
use Rattle.irp_names.specs.Majors.{major_text}
use Rattle.irp_names.specs.Small.{hex_text, owner_text, packet_text, told_if}
use Rattle.irp_names.specs.Statuses.{status_text}
use Rattle.irp_machine.specs.declared.live_end.DeviceEnd.{DeviceEnd}
use Rattle.irp_machine.specs.declared.live_end.LiveEnd.{LiveEnd}
use Rattle.irp_machine.specs.declared.outcome.Holder.{Holder}
use Rattle.irp_machine.specs.declared.outcome.LockEnd.{LockEnd}
use Rattle.irp_machine.specs.declared.outcome.SlotEnd.{SlotEnd}
use Rattle.irp_orders.specs.Facts.{names}
use Rattle.irp_orders.specs.Lines.{line}
use Rattle.irp_orders.specs.declared.differing.PacketFacts.{PacketFacts}

-- ---- packets

abbrev pub reference_of : LiveEnd → IrpRef
reference_of live = record { slot = live.slot; use_no = live.use_no }

-- a label, where the reference that it stands for names a live packet
abbrev pub name_text : {Z : Type 0} → LiveEnd → List IrpRef → ℕ × String Z → List ℕ
name_text live named row =
    option_map_or (λ (irp : IrpRef). told_if (names irp live) (string_bytes row.1 ++ codes " = ")) (slice_get named row.0) []

-- the labels that name a live packet, where they stand for these references
abbrev pub names_text : {Z : Type 0} → LiveEnd → List (String Z) → List IrpRef → List ℕ
names_text live labels named = flat_map (name_text live named) (enumerate_from 0 labels)

abbrev pub preparation_text : Preparation → List ℕ
preparation_text preparation.Nothing = []
preparation_text preparation.Filled = codes ", next location filled"
preparation_text preparation.Skipped = codes ", skipped"

abbrev pub routine_set_text : Option CancelId → List ℕ
routine_set_text None = []
routine_set_text (Some id) = codes ", cancel routine " ++ (decimal id.0 ++ codes " set")

-- the facts of a live packet that are told
abbrev pub facts_text : PacketFacts → LiveEnd → List ℕ
facts_text facts live =
    told_if facts.information (codes ", information " ++ hex_text live.information)
    ++ (told_if (facts.cancel && live.cancel) (codes ", cancelled")
    ++ (told_if facts.cancel_routine (routine_set_text live.cancel_routine)
    ++ (told_if (facts.pending_returned && live.pending_returned) (codes ", PendingReturned")
    ++ (told_if (facts.slot_held && live.slot_held) (codes ", in a cancel slot")
    ++ told_if facts.preparation (preparation_text live.preparation)))))

-- the line of a live packet: the labels that name it, its use, owner, current location and status, and the facts that are
-- told
abbrev pub live_line : {Z : Type 0} → PacketFacts → List (String Z) → List IrpRef → LiveEnd → List ℕ
live_line facts labels named live =
    line (codes "    " ++ (names_text live labels named ++ (packet_text (reference_of live)
    ++ (codes ": " ++ (owner_text live.owner ++ (codes ", current location " ++ (decimal live.current
    ++ (codes ", " ++ (status_text live.status ++ facts_text facts live)))))))))

abbrev pub location_device_text : Option DeviceId → List ℕ
location_device_text None = []
location_device_text (Some device) = codes ", D" ++ decimal device.0

abbrev pub location_setting_text : Option Setting → List ℕ
location_setting_text None = []
location_setting_text (Some setting) = codes ", " ++ setting_text setting

-- the line of a location, by its number
abbrev pub location_line : ℕ → Location → List ℕ
location_line number location =
    line (codes "        location " ++ (decimal number ++ (codes ": " ++ (major_text location.major
    ++ (codes ", word " ++ (hex_text location.word ++ (location_device_text location.device
    ++ (location_setting_text location.setting ++ told_if location.pending (codes ", marked pending")))))))))

-- the number of the lowest location that counts: the prepared one, or else the current one
abbrev pub lowest_of : Preparation → ℕ → ℕ
lowest_of preparation.Nothing current = current
lowest_of preparation.Filled current = current - 1
lowest_of preparation.Skipped current = current - 1

-- a location at a place above the lowest one; no number is above the largest
abbrev pub location_above : ℕ → ℕ × Location → List ℕ
location_above lowest row = location_line (min (lowest + row.0) 18446744073709551615) row.1

-- the lines of the locations that count, from the lowest up
abbrev pub locations_lines : LiveEnd → List ℕ
locations_lines live =
    flat_map (location_above (lowest_of live.preparation live.current)) (enumerate_from 0 live.locations)

abbrev pub packet_lines : {Z : Type 0} → PacketFacts → List (String Z) → List IrpRef → LiveEnd → List ℕ
packet_lines facts labels named live =
    live_line facts labels named live ++ told_if facts.locations (locations_lines live)

-- ---- labels that name no live packet

abbrev pub dead_text : IrpRef → List ℕ
dead_text irp =
    if irp.use_no == 0 then codes ": not bound" else codes " = " ++ (packet_text irp ++ codes ": not live")

abbrev pub dead_label_line : List ℕ → IrpRef → List ℕ
dead_label_line label irp = line (codes "    " ++ (label ++ dead_text irp))

-- ---- devices

abbrev pub lower_text : Option DeviceId → List ℕ
lower_text None = []
lower_text (Some lower) = codes ", attached to D" ++ decimal lower.0

abbrev pub live_text : Bool → List ℕ
live_text true = codes ": live"
live_text false = codes ": deleted"

abbrev pub driver_text : DeviceEnd → List ℕ
driver_text device =
    codes ", driver " ++ (decimal device.driver.0 ++ (codes ", remove lock " ++ decimal device.lock.0))

-- the line of a device, by its number
abbrev pub device_line : Bool → ℕ → DeviceEnd → List ℕ
device_line tells_driver number device =
    line (codes "    D" ++ (decimal number ++ (live_text device.live ++ (lower_text device.lower
    ++ told_if tells_driver (driver_text device)))))

-- ---- remove locks

abbrev pub holder_text : List ℕ → Holder → List ℕ
holder_text words holder = words ++ (decimal holder.seat ++ (codes " as tag " ++ decimal holder.tag))

-- who holds a remove lock, each behind these words
abbrev pub holders_text : List ℕ → LockEnd → List ℕ
holders_text words lock = flat_map (holder_text words) lock.holders

-- the removed bit of a remove lock's word
abbrev pub removal_text : ℕ → List ℕ
removal_text word =
    if word % 2 == 1 then codes ", removal has begun" else codes ", removal hasn't begun"

-- the line of a remove lock: its number, its word, and who holds it
abbrev pub lock_line : ℕ → LockEnd → List ℕ
lock_line number lock =
    line (codes "    remove lock " ++ (decimal number ++ (codes ": word " ++ (hex_text lock.word
    ++ (removal_text lock.word ++ holders_text (codes ", held by seat ") lock)))))

-- ---- cancel slots

abbrev pub content_text : ℕ → List ℕ
content_text content =
    if content == 0 then codes ": empty" else codes ": use " ++ (decimal content ++ codes " stands in it")

abbrev pub asked_text : Bool → List ℕ
asked_text true = codes ", asked for"
asked_text false = codes ", not asked for"

-- the line of a cancel slot: its number, what stands in it, and whether somebody asked for it
abbrev pub slot_line : ℕ → SlotEnd → List ℕ
slot_line number slot =
    line (codes "    cancel slot " ++ (decimal number ++ (content_text slot.content ++ asked_text slot.flag)))
