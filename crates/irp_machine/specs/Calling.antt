-- Calls of the manager of a script.
use Rattle.std.specs.Prelude.{ℕ, ◌≡◌, Bool, false, List, is_some}
use Rattle.std.specs.FinMap as fin
use Rattle.irp_types.specs.Calls.{Call}
use Rattle.irp_types.specs.declared.call.Call.TheVariants.{Allocate}
use Rattle.irp_types.specs.declared.names.IrpRef.{IrpRef}
use Rattle.irp_types.specs.declared.names.LockNo.{LockNo}
use Rattle.irp_types.specs.declared.asked.Asked.{Asked}
use Rattle.irp_types.specs.declared.reply.Reply.{Reply}
use Rattle.irp_types.specs.declared.reply.Reply.TheVariants.{Irp}
use Rattle.irp_types.specs.State.{StateValue, Fixed, live_at}
use Rattle.irp_types.specs.Steps.{Step}
use Rattle.irp_types.specs.Histories.{lock_of}
use Rattle.irp_types.specs.Standing.{StandingFacts}
use Rattle.irp_manager.specs.Notes.{known_by}
use Rattle.irp_manager.specs.declared.manager_state.Applied.{Applied}
use Rattle.irp_script_reader.specs.declared.script.ScriptParts.{ScriptParts}
use Rattle.irp_plain.specs.Keeps.{freed_if, next_slot}
use Rattle.irp_machine.specs.Asking.{AreTold}
use Rattle.irp_machine.specs.Standings.{ManagerValue}

-- the slot that the next packet gets
abbrev pub slot_next : ManagerValue → ℕ
slot_next manager = next_slot manager.freed (fin.len manager.state.live)

-- a call is to get a slot that has a packet. No theorem says that no script comes to that: tests have met none that does
abbrev pub is_taken : StateValue → ℕ → Call → Bool
is_taken state slot (Allocate size) = is_some (live_at state slot)
is_taken state slot call = false

-- a call was answered by its step, with what its caller knows of locks; the closures answered as the script tells; and
-- a new packet got the slot that a session gives it. Freed slots are kept where packets are allocated
pub record IsCalled (fixed : Fixed) (script : ScriptParts) (allocates : Bool) (knows : LockNo → Bool) (old : ManagerValue)
    (call : Call) (drained : Bool) (reply : Reply) (new : ManagerValue) : Type 0 where
  pub asked : List Asked
  pub stands : StandingFacts fixed.tables.counts old.state
  pub noted : drained ≡ known_by knows (lock_of old.state call)
  pub step : Step fixed old.state drained call asked reply new.state
  pub told : AreTold fixed.tables script asked
  pub slot : (size : ℕ) (irp : IrpRef) → call ≡ Allocate size → reply ≡ Irp irp → irp.slot ≡ slot_next old
  pub freed : new.freed ≡ freed_if allocates call reply old.freed

-- a call was made and answered so: what was asked is told, and the lock of the device that it deletes, if it names one
pub record IsApplied (fixed : Fixed) (script : ScriptParts) (allocates : Bool) (knows : LockNo → Bool) (old : ManagerValue) (call : Call)
    (applied : Applied) (new : ManagerValue) : Type 0 where
  pub called : IsCalled fixed script allocates knows old call applied.drained applied.reply new
  pub asked : applied.asked.items ≡ called.asked
  pub lock : applied.lock ≡ lock_of old.state call
