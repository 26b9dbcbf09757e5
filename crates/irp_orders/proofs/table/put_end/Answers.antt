use Rattle.std.proofs.Common.{List, ◌++◌, subst}
use Rattle.std.specs.List.{enumerate_from, flat_map}
use Rattle.irp_types.specs.declared.names.IrpRef.{IrpRef}
use Rattle.irp_machine.specs.declared.live_end.DeviceEnd.{DeviceEnd}
use Rattle.irp_machine.specs.declared.live_end.LiveEnd.{LiveEnd}
use Rattle.irp_machine.specs.declared.outcome.LockEnd.{LockEnd}
use Rattle.irp_machine.specs.declared.outcome.SlotEnd.{SlotEnd}
use Rattle.irp_names.specs.Sinks.{Says}
use Rattle.irp_names.proofs.Saying.{says_both}
use Rattle.irp_orders.specs.Ends.{packet_lines}
use Rattle.irp_orders.specs.Table.{label_line, told_device_line, told_lock_line, told_slot_line}
use Rattle.irp_orders.proofs.table.put_end.Goals as goal

pub returns : goal.returns
returns c =
    let columns = c.args.columns.now in
    let end = c.args.end.now in
    let labels = columns.labels.now in
    let packets = flat_map (packet_lines columns.facts labels end.labels) end.packets in
    let dead = flat_map (label_line columns end) (enumerate_from 0 labels) in
    let devices = flat_map (told_device_line columns) (enumerate_from 0 end.devices) in
    let locks = flat_map (told_lock_line columns) (enumerate_from 0 end.locks) in
    let slots = flat_map (told_slot_line columns) (enumerate_from 0 end.slots) in
    says_both packets (dead ++ (devices ++ (locks ++ slots))) c.args.out.now c.put_packets.new.out c.put_slots.new.out
    (subst (λ (named : List IrpRef). Says (flat_map (packet_lines columns.facts labels named) end.packets) c.args.out.now c.put_packets.new.out)
    c.as_slice-named.ensures
    (subst (λ (lives : List LiveEnd). Says (flat_map (packet_lines columns.facts labels c.as_slice-named.result.now) lives) c.args.out.now c.put_packets.new.out)
    c.as_slice.ensures c.put_packets.ensures))
    (says_both dead (devices ++ (locks ++ slots)) c.put_packets.new.out c.put_labels.new.out c.put_slots.new.out c.put_labels.ensures
    (says_both devices (locks ++ slots) c.put_labels.new.out c.put_devices.new.out c.put_slots.new.out
    (subst (λ (some : List DeviceEnd). Says (flat_map (told_device_line columns) (enumerate_from 0 some)) c.put_labels.new.out c.put_devices.new.out)
    c.as_slice-2.ensures c.put_devices.ensures)
    (says_both locks slots c.put_devices.new.out c.put_locks.new.out c.put_slots.new.out
    (subst (λ (some : List LockEnd). Says (flat_map (told_lock_line columns) (enumerate_from 0 some)) c.put_devices.new.out c.put_locks.new.out)
    c.as_slice-3.ensures c.put_locks.ensures)
    (subst (λ (some : List SlotEnd). Says (flat_map (told_slot_line columns) (enumerate_from 0 some)) c.put_locks.new.out c.put_slots.new.out)
    c.as_slice-4.ensures c.put_slots.ensures))))
