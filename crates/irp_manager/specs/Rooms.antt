-- How many questions a call can ask, by the packet and the target that it finds.
use Rattle.std.specs.Prelude.{ℕ, ◌+◌}
use Rattle.std.specs.Option.{option_map_or}
use Rattle.irp_types.specs.State.{StateValue, packet_of}
use Rattle.irp_types.specs.Calls.{Call, packet_completed}
use Rattle.irp_types.specs.declared.call.Call.TheVariants.{CallDriver, Cancel}
use Rattle.irp_types.specs.declared.names.IrpRef.{IrpRef}
use Rattle.irp_unwind.specs.Endings.{can_ask_up}
use Rattle.irp_unwind.specs.Descents.{can_ask_down}

-- how many questions a call can ask: those of a descent or of an unwinding, and one to the cancel routine
abbrev pub can_ask : StateValue → Call → ℕ
can_ask state (CallDriver party irp target) = can_ask_down state.devices (packet_of state irp) target.0
can_ask state (Cancel irp) = 1 + can_ask_up (packet_of state irp)
can_ask state call = option_map_or (λ (irp : IrpRef). can_ask_up (packet_of state irp)) (packet_completed call) 0
