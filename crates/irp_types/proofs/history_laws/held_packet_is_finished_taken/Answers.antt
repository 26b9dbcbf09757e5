use Rattle.irp_types.proofs.HeldPackets.{held_is_finished_taken}
use Rattle.irp_types.proofs.history_laws.held_packet_is_finished_taken.Goals as goal

pub returns : goal.returns
returns c = held_is_finished_taken
