use Rattle.std.proofs.Common.{◌≡◌, ◌+◌, ◌≤◌, vec_len, vec_capacity, List}
use Rattle.irp_types.specs.Packet.{PacketValue, size_of}
use Rattle.irp_types.specs.declared.asked.Asked.{Asked}
use Rattle.irp_unwind.specs.declared.ending.Ending.{Ending}
use Rattle.irp_unwind.specs.Conditions.{HasDevices, HasRoutines}
use Rattle.irp_unwind.specs.Turns.{IsBare}
use Rattle.irp_unwind.specs.Endings.{can_ask_up, Unwinds}
use Rattle.irp_unwind.proofs.unwinding.unwind_from.Given as goal

-- what `unwind_from` asks for holds at each location, and an unwinding from here is the rest of one from the start
abbrev pub invariant-loop-irp : goal.invariant-loop-irp
invariant-loop-irp g l = record {
  bare : IsBare l.packet;
  placed : l.packet.current ≤ size_of l.packet;
  devices : HasDevices l.packet (l.packet.current + 1);
  routines : HasRoutines (g.A.Ask.tables l.ask).counts l.packet l.packet.current;
  room : vec_len l.asked + can_ask_up l.packet ≤ vec_capacity l.asked;
  capacity : vec_capacity l.asked ≡ vec_capacity l.initial.asked;
  goes_on :
      (new : PacketValue) (after : List Asked) (ending : Ending)
      → Unwinds (g.A.Ask.may_answer l.ask) l.irp l.packet new l.asked.items after ending
      → Unwinds (g.A.Ask.may_answer l.ask) l.irp l.initial.packet new l.initial.asked.items after ending;
}

abbrev pub decreases-loop-irp : goal.decreases-loop-irp
decreases-loop-irp g l = can_ask_up l.packet
