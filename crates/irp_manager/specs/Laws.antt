-- Where each closure has one answer to what it is shown, a state, a call and what is known of the lock settle the step.
use Rattle.std.specs.Prelude.{ℕ, ◌≡◌, Bool, List}
use Rattle.std.specs.List.{AllByRecursion}
use Rattle.irp_types.specs.State.{StateValue, Fixed}
use Rattle.irp_types.specs.Standing.{StandingFacts}
use Rattle.irp_types.specs.Steps.{Step}
use Rattle.irp_types.specs.declared.names.IrpRef.{IrpRef}
use Rattle.irp_types.specs.declared.names.DispatchId.{DispatchId}
use Rattle.irp_types.specs.declared.names.CancelId.{CancelId}
use Rattle.irp_types.specs.declared.routine.RoutineId.{RoutineId}
use Rattle.irp_types.specs.declared.shown.Shown.{Shown}
use Rattle.irp_types.specs.declared.answer.Answer.{Answer}
use Rattle.irp_types.specs.declared.answer.CancelAnswer.{CancelAnswer}
use Rattle.irp_types.specs.declared.answer.Plan.{Plan}
use Rattle.irp_types.specs.declared.asked.Asked.{Asked}
use Rattle.irp_types.specs.Calls.{Call}
use Rattle.irp_types.specs.declared.call.Call.TheVariants.{Allocate}
use Rattle.irp_types.specs.declared.reply.Reply.{Reply}
use Rattle.irp_types.specs.declared.reply.Reply.TheVariants.{Irp}
use Rattle.irp_unwind.specs.Laws.{IsReplyOf}

-- where the call allocates a packet, both replies name one slot
abbrev pub IsSameSlot : Call → Reply → Reply → Type 0
IsSameSlot call reply other =
    (size : ℕ) (irp another : IrpRef) → call ≡ Allocate size → reply ≡ Irp irp → other ≡ Irp another
    → irp.slot ≡ another.slot

-- where each closure has one answer to what it is shown, a state, a call, whether the lock is known to be drained, and
-- the slot of a new packet settle what is asked, the reply and the next state
abbrev pub StepIsSettled : Type 0
StepIsSettled =
    (plan_of : DispatchId → Shown → Plan) (reply_of : RoutineId → Shown → Answer)
    (cancel_reply_of : CancelId → Shown → CancelAnswer)
    (fixed : Fixed) (old : StateValue) (drained : Bool) (call : Call)
    (asked others : List Asked) (reply other : Reply) (new another : StateValue)
    → StandingFacts fixed.tables.counts old
    → Step fixed old drained call asked reply new
    → Step fixed old drained call others other another
    → IsSameSlot call reply other
    → AllByRecursion (IsReplyOf plan_of reply_of cancel_reply_of) asked
    → AllByRecursion (IsReplyOf plan_of reply_of cancel_reply_of) others
    → (asked ≡ others) × (reply ≡ other) × (new ≡ another)
