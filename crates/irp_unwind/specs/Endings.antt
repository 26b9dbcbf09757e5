-- How an unwinding ends, and all that it does.
use Rattle.std.specs.Prelude.{ℕ, ◌≡◌, ◌+◌, ◌-◌, ◌++◌, is_some, if◌then◌else◌, List, map}
use Rattle.std.specs.List.{AllByRecursion}
use Rattle.irp_types.specs.Packet.{PacketValue, size_of}
use Rattle.irp_types.specs.Unwinding.{Asking, as_asked, keeper_of, owner_after, Unwound}
use Rattle.irp_types.specs.declared.names.IrpRef.{IrpRef}
use Rattle.irp_types.specs.declared.routine.RoutineId.{RoutineId}
use Rattle.irp_types.specs.declared.shown.Shown.{Shown}
use Rattle.irp_types.specs.declared.answer.Answer.{Answer}
use Rattle.irp_types.specs.declared.asked.Asked.{Asked}
use Rattle.irp_unwind.specs.declared.ending.Ending.{Ending}
use Rattle.irp_unwind.specs.declared.ending.Ending.TheVariants.{Kept, Ended}

-- how many questions an unwinding can ask: one to each location from the current one up
abbrev pub can_ask_up : PacketValue → ℕ
can_ask_up packet = (size_of packet + 1) - packet.current

-- kept by the packet's new owner where a routine kept it, else ended
abbrev pub ending_of : PacketValue → List Asking → Ending
ending_of packet asked = if is_some (keeper_of asked) then Kept (owner_after packet asked) else Ended

-- a routine answered as it may
abbrev pub IsGiven : (RoutineId → Shown → Answer → Type 0) → Asking → Type 0
IsGiven may_answer asking = may_answer asking.id asking.shown asking.answer

-- an unwinding: the routines that it asked stand behind the others in the list of what was asked, each answered as it
-- may, and they settle the packet that is left and how it ended
pub record Unwinds (may_answer : RoutineId → Shown → Answer → Type 0) (irp : IrpRef) (old new : PacketValue)
    (before after : List Asked) (ending : Ending) : Type 0 where
  pub asked : List Asking
  pub unwound : Unwound irp old asked new
  pub listed : after ≡ before ++ map as_asked asked
  pub given : AllByRecursion (IsGiven may_answer) asked
  pub ended : ending ≡ ending_of old asked
