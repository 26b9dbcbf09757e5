use Rattle.std.proofs.Common.{◌≡◌, ◌+◌, ◌-◌, ◌<◌, ◌≤◌, cond, length, vec_len, vec_capacity, List}
use Rattle.irp_types.specs.Packet.{PacketValue, size_of}
use Rattle.irp_types.specs.Status.{pending}
use Rattle.irp_types.specs.Stacks.{stack_size_of, depth_of}
use Rattle.irp_types.specs.declared.asked.Asked.{Asked}
use Rattle.irp_routines.specs.Answers.{IsAnswered}
use Rattle.irp_unwind.specs.declared.ending.Sent.{Sent}
use Rattle.irp_unwind.specs.Conditions.{HasDevices, HasRoutines}
use Rattle.irp_unwind.specs.Descents.{Descends, can_ask_down}
use Rattle.irp_unwind.proofs.descent.descend_from.Given as goal

-- what `descend_from` asks for holds at each device, and a descent from here is the rest of one from the target, whose
-- sender gets PENDING where a device above marked its location
abbrev pub invariant-loop-packet : goal.invariant-loop-packet
invariant-loop-packet g l = record {
  created : l.device.0 < length l.stacks.devices.facts;
  deep : stack_size_of l.stacks.devices l.device.0 < l.packet.current;
  within : l.packet.current ≤ size_of l.packet + 1;
  placed : HasDevices l.packet l.packet.current;
  routines : HasRoutines (g.A.Ask.tables l.ask).counts l.packet (l.packet.current - 1);
  room : vec_len l.asked + can_ask_down l.stacks.devices l.packet l.device.0 ≤ vec_capacity l.asked;
  capacity : vec_capacity l.asked ≡ vec_capacity l.initial.asked;
  goes_on :
      (new : PacketValue) (after : List Asked) (sent : Sent)
      → Descends (IsAnswered (g.A.Ask.may_plan l.ask) (g.A.Ask.may_answer l.ask) (g.A.Ask.may_cancel l.ask)) (g.A.Ask.tables l.ask) l.irp l.stacks.devices l.packet l.device.0 new l.asked.items after sent
      → Descends (IsAnswered (g.A.Ask.may_plan l.ask) (g.A.Ask.may_answer l.ask) (g.A.Ask.may_cancel l.ask)) (g.A.Ask.tables l.ask) l.irp l.stacks.devices l.initial.packet l.fn.target.0 new l.initial.asked.items after
      (record sent { status = cond l.is_marked pending sent.status });
}

abbrev pub decreases-loop-packet : goal.decreases-loop-packet
decreases-loop-packet g l = depth_of l.stacks.devices l.device.0
