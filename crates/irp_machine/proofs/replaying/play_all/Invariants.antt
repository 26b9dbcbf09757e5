use Rattle.std.proofs.Common.{List, drop}
use Rattle.irp_types.specs.Histories.{LeadsTo}
use Rattle.irp_types.specs.declared.entry.Entry.{Entry}
use Rattle.irp_machine.specs.Replays.{Plays}
use Rattle.irp_machine.specs.Standings.{StandingValue}
use Rattle.irp_machine.proofs.Stuck.{Stops}
use Rattle.irp_machine.proofs.replaying.play_all.Given as goal

-- what the rest of the steps leads to, all of them lead to; and where the rest is stuck, all of them are
abbrev pub invariant-loop-seat : goal.invariant-loop-seat
invariant-loop-seat l = record {
  rest :
      (last : StandingValue) (all : List Entry)
      → Plays l.machine l.standing l.entries.items (drop l.seat-index l.path) last all
      → Plays l.machine l.fn.standing l.fn.entries.items l.path last all;
  stuck : Stops l.machine l.standing (drop l.seat-index l.path) → Stops l.machine l.fn.standing l.path;
  leads : LeadsTo l.machine.fixed l.entries.items l.standing.manager.state;
}
