-- Who completes a packet that stands in a cancel slot.
use Rattle.std.specs.Prelude.{ℕ, ◌≡◌, Bool, true, List, Some}
use Rattle.irp_types.specs.State.{StateValue, LivePacket, Fixed, live_at}
use Rattle.irp_types.specs.Refusals.{has_ended}
use Rattle.irp_types.specs.Steps.{Step}
use Rattle.irp_types.specs.Standing.{StandingFacts}
use Rattle.irp_types.specs.declared.asked.Asked.{Asked}
use Rattle.irp_types.specs.declared.routine.Known.{Known}
use Rattle.irp_types.specs.declared.reply.Reply.{Reply}
use Rattle.irp_types.specs.Calls.{Call}
use Rattle.irp_types.specs.declared.call.Call.TheVariants.{FinishTaken}

-- a call finishes the use at a slot, and its token is the number of that use
abbrev pub IsFinishOf : ℕ → ℕ → Call → Type 0
IsFinishOf slot use_no (FinishTaken irp token status information) =
    (irp.slot ≡ slot) × (irp.use_no ≡ use_no) × (token ≡ use_no)
IsFinishOf slot use_no _ = ⊥

-- over a step from a state that has the standing facts, a packet that stands in a cancel slot is completed by
-- FinishTaken alone, with its own use number as the token
abbrev pub HeldIsFinishedTaken : Type 0
HeldIsFinishedTaken =
    (counts : Known) (fixed : Fixed) (old : StateValue) (drained : Bool) (call : Call) (asked : List Asked)
    (reply : Reply) (new : StateValue) (slot : ℕ) (before after : LivePacket)
    → StandingFacts counts old → Step fixed old drained call asked reply new
    → live_at old slot ≡ Some before → before.packet.slot_held ≡ true
    → live_at new slot ≡ Some after → has_ended after.packet.owner ≡ true
    → IsFinishOf slot before.use_no call
