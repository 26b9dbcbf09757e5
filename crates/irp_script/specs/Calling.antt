-- The calls of the manager that steps make.
use Rattle.std.specs.Prelude.{ℕ, ◌≡◌, Bool, Some}
use Rattle.irp_types.specs.declared.names.LockNo.{LockNo}
use Rattle.irp_types.specs.Calls.{Call}
use Rattle.irp_types.specs.declared.reply.Reply.{Reply}
use Rattle.irp_manager.specs.Booked.{Receipted}
use Rattle.irp_manager.specs.Seats.{Seated}
use Rattle.irp_remove.specs.Core.{flag}
use Rattle.irp_remove.specs.Seats.{Holder}
use Rattle.irp_script_reader.specs.declared.act.StepAct.{StepAct}
use Rattle.irp_shared.specs.Sharing.{Called}
use Rattle.irp_script.specs.Labels.{IsNamed, Known, known_behind, known_reading}
use Rattle.irp_script.specs.declared.binding.NamedPacket.{NamedPacket}
use Rattle.irp_steps.specs.StepKinds.{call_of}

-- which locks a remove seat found drained
abbrev pub found_drained : Holder → LockNo → Bool
found_drained remove lock = flag remove.watch.drained lock.0

-- a call is the one that an act makes, of the packet that the act names by what is known of the labels
pub record Makes (known : Known) (act : StepAct) (call : Call) : Type 0 where
  pub packet : NamedPacket
  pub named : IsNamed known act packet
  pub made : call_of act packet.irp ≡ Some call

-- for the step of a place a seat made the call of an act, that one alone, with what a remove seat knows, keeps its entry,
-- and was answered so. A label that the act binds stands for the packet that it was answered by. The packet that it named
-- is written down where it was taken from a step of another worker
pub record CallsFor (place : ℕ) (act : StepAct) (remove : Holder) (before after : Seated) (known learnt : Known)
    (reply : Reply) : Type 0 where
  pub call : Call
  pub receipt : Receipted
  pub of_act : Makes known act call
  pub recorded : Called before call (found_drained remove) receipt after
  pub told : reply ≡ receipt.reply
  pub bound : learnt ≡ known_behind place (known_reading place known act of_act.packet) act receipt.reply
