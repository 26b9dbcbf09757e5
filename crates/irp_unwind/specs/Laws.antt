-- Laws of unwinding and of descent.
use Rattle.std.specs.Prelude.{ℕ, ◌≡◌, ◌+◌, ◌≤◌, List}
use Rattle.std.specs.List.{AllByRecursion}
use Rattle.irp_types.specs.Packet.{PacketValue, size_of}
use Rattle.irp_types.specs.Unwinding.{Asking, Unwound}
use Rattle.irp_types.specs.Stacks.{DevicesValue}
use Rattle.irp_types.specs.State.{Tables}
use Rattle.irp_types.specs.Descent.{Descended}
use Rattle.irp_types.specs.declared.names.IrpRef.{IrpRef}
use Rattle.irp_types.specs.declared.names.DispatchId.{DispatchId}
use Rattle.irp_types.specs.declared.names.CancelId.{CancelId}
use Rattle.irp_types.specs.declared.status.Status.{Status}
use Rattle.irp_types.specs.declared.routine.RoutineId.{RoutineId}
use Rattle.irp_types.specs.declared.shown.Shown.{Shown}
use Rattle.irp_types.specs.declared.answer.Answer.{Answer}
use Rattle.irp_types.specs.declared.answer.CancelAnswer.{CancelAnswer}
use Rattle.irp_types.specs.declared.answer.Plan.{Plan}
use Rattle.irp_types.specs.declared.asked.Asked.{Asked}
use Rattle.irp_routines.specs.Answers.{IsAnswered}

-- each routine answered to what it was shown as this function says
abbrev pub AreRepliesOf : (RoutineId → Shown → Answer) → List Asking → Type 0
AreRepliesOf reply asked = AllByRecursion (λ asking. asking.answer ≡ reply asking.id asking.shown) asked

-- where each routine has one answer to what it is shown, a packet that stands in a location settles which routines are
-- asked and what is left of it
abbrev pub UnwindingIsSettled : Type 0
UnwindingIsSettled =
    (reply : RoutineId → Shown → Answer) (irp : IrpRef) (packet first second : PacketValue) (asked others : List Asking)
    → 1 ≤ packet.current
    → packet.current ≤ size_of packet
    → Unwound irp packet asked first
    → Unwound irp packet others second
    → AreRepliesOf reply asked
    → AreRepliesOf reply others
    → (asked ≡ others) × (first ≡ second)

-- a question was answered as the function for its kind of closure says
abbrev pub IsReplyOf :
    (DispatchId → Shown → Plan) → (RoutineId → Shown → Answer) → (CancelId → Shown → CancelAnswer) → Asked → Type 0
IsReplyOf plan_of reply cancel_reply asked =
    IsAnswered (λ id shown plan. plan ≡ plan_of id shown) (λ id shown answer. answer ≡ reply id shown)
    (λ id shown answer. answer ≡ cancel_reply id shown) asked

-- where each closure has one answer to what it is shown, a packet, the target and its stack settle the frames, what is
-- asked, what is left of the packet, and the status of the reply
abbrev pub DescentIsSettled : Type 0
DescentIsSettled =
    (plan_of : DispatchId → Shown → Plan) (reply : RoutineId → Shown → Answer)
    (cancel_reply : CancelId → Shown → CancelAnswer)
    (tables : Tables) (irp : IrpRef) (devices : DevicesValue) (packet : PacketValue) (target : ℕ)
    (first second : PacketValue) (asked others : List Asked) (status other : Status)
    → packet.current ≤ size_of packet + 1
    → (one : Descended tables irp devices packet target asked first status)
    → (two : Descended tables irp devices packet target others second other)
    → AllByRecursion (IsReplyOf plan_of reply cancel_reply) asked
    → AllByRecursion (IsReplyOf plan_of reply cancel_reply) others
    → (one.frames ≡ two.frames) × (asked ≡ others) × (first ≡ second) × (status ≡ other)
