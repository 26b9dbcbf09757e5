-- An entry settles its next state.
use Rattle.std.proofs.Common.{◌≡◌, List, ◌∷◌, sym, subst, ◌∙◌, ap, Option, Some, None, MatchOption}
use Rattle.irp_types.specs.Status.{cancelled}
use Rattle.irp_types.specs.Packet.{PacketValue, new_packet, with_status, after_take}
use Rattle.irp_types.specs.State.{StateValue, Fixed, Tables, packet_of, with_packet}
use Rattle.irp_types.specs.Refusals.{first_refusal}
use Rattle.irp_types.specs.Steps.{Unasked, Completes, shown_to_cancel, after_cancel, Follows, Cancels, with_new_packet, Effect}
use Rattle.irp_types.specs.Histories.{EntrySettlesNextState}
use Rattle.irp_types.specs.declared.names.IrpRef.{IrpRef}
use Rattle.irp_types.specs.declared.refusal.Refusal.{Refusal}
use Rattle.irp_types.specs.declared.names.CancelId.{CancelId}
use Rattle.irp_types.specs.declared.answer.CancelAnswer.{CancelAnswer}
use Rattle.irp_types.specs.declared.answer.CancelAnswer.TheVariants.{Finish, Leave}
use Rattle.irp_types.specs.declared.asked.Asked.{Asked}
use Rattle.irp_types.specs.declared.asked.Asked.TheVariants.{Cancel as CancelAsked}
use Rattle.irp_types.specs.Calls.{Call}
use Rattle.irp_types.specs.declared.call.Call.TheVariants.{CreateDevice, Attach, Detach, Delete, Allocate, Free, Reuse, SetNext, CopyToNext, Skip, SetRoutine, MarkPending, CallDriver, Complete, FinishTaken, SetCancelRoutine, Cancel, Look}
use Rattle.irp_types.specs.declared.reply.Reply.{Reply}
use Rattle.irp_types.specs.declared.reply.Reply.TheVariants.{Irp, Refused}
use Rattle.irp_types.proofs.SettledUnwinding.{same_askings, same_unwound}
use Rattle.irp_types.proofs.SettledDescent.{same_descent}

same_completion : (irp : IrpRef) (packet : PacketValue) (asked : List Asked) (one two : PacketValue) → Completes irp packet asked one → Completes irp packet asked two → one ≡ two
same_completion irp packet asked one two first second =
    let asking : first.0 ≡ second.0 = same_askings first.0 second.0 (sym first.2 ∙ second.2) in
    same_unwound irp packet one two first.0 second.0 asking first.1 second.1

same_following : (irp : IrpRef) (packet : PacketValue) (answer : CancelAnswer) (asked : List Asked) (one two : PacketValue)
    → Follows irp packet answer asked one → Follows irp packet answer asked two → one ≡ two
same_following irp packet (Finish information) asked one two first second = same_completion irp (with_status packet cancelled information) asked one two first second
same_following irp packet Leave asked one two first second = first.1 ∙ sym second.1

same_cancellation : (tables : Tables) (irp : IrpRef) (packet : PacketValue) (routine : Option CancelId) (asked : List Asked) (reply : Reply) (one two : PacketValue)
    → Cancels tables irp packet routine asked reply one → Cancels tables irp packet routine asked reply two → one ≡ two
same_cancellation tables irp packet None asked reply one two first second = first.2 ∙ sym second.2
same_cancellation tables irp packet (Some routine) asked reply one two first second =
    let shown = shown_to_cancel irp packet in
    let lists : CancelAsked routine shown first.0 ∷ first.1 ≡ CancelAsked routine shown second.0 ∷ second.1 = sym first.3 ∙ second.3 in
    let answer : first.0 ≡ second.0 = cc in
    let later : first.1 ≡ second.1 = cc in
    same_following irp (after_cancel packet) second.0 second.1 one two
    (subst (λ (given : CancelAnswer × List Asked). Follows irp (after_cancel packet) given.0 given.1 one) (λ i. (answer i, later i)) first.4) second.4

same_effect : (fixed : Fixed) (old : StateValue) (call : Call) (asked : List Asked) (reply : Reply) (new other : StateValue)
    → Effect fixed old call asked reply new → Effect fixed old call asked reply other → new ≡ other
same_effect fixed old (CreateDevice driver lock) asked reply new other first second = first.2 ∙ sym second.2
same_effect fixed old (Attach device to) asked reply new other first second = first.2 ∙ sym second.2
same_effect fixed old (Detach lower) asked reply new other first second = first.2 ∙ sym second.2
same_effect fixed old (Delete device) asked reply new other first second = first.2 ∙ sym second.2
same_effect fixed old (Allocate size) asked reply new other first second =
    let one : IrpRef = record { slot = first.0; use_no = old.next_use } in
    let two : IrpRef = record { slot = second.0; use_no = old.next_use } in
    let replies : Irp one ≡ Irp two = sym first.2.1 ∙ second.2.1 in
    let references : one ≡ two = cc in
    let slot : first.0 ≡ second.0 = ap (λ (irp : IrpRef). irp.slot) references in
    first.2.2 ∙ ap (λ at. with_new_packet old at (new_packet size)) slot ∙ sym second.2.2
same_effect fixed old (Free irp) asked reply new other first second = first.2 ∙ sym second.2
same_effect fixed old (Reuse irp status) asked reply new other first second = first.2 ∙ sym second.2
same_effect fixed old (SetNext party irp major word) asked reply new other first second = first.2 ∙ sym second.2
same_effect fixed old (CopyToNext party irp) asked reply new other first second = first.2 ∙ sym second.2
same_effect fixed old (Skip party irp) asked reply new other first second = first.2 ∙ sym second.2
same_effect fixed old (SetRoutine party irp setting) asked reply new other first second = first.2 ∙ sym second.2
same_effect fixed old (MarkPending party irp) asked reply new other first second = first.2 ∙ sym second.2
same_effect fixed old (CallDriver party irp target) asked reply new other first second =
    let packet = same_descent fixed.tables irp old.devices (packet_of old irp) target.0 asked first.0 second.0 first.1 second.1 first.2 second.2 in
    first.4 ∙ ap (with_packet old irp.slot) packet ∙ sym second.4
same_effect fixed old (Complete party irp status information) asked reply new other first second =
    let packet = same_completion irp (with_status (packet_of old irp) status information) asked first.0 second.0 first.1 second.1 in
    first.3 ∙ ap (with_packet old irp.slot) packet ∙ sym second.3
same_effect fixed old (FinishTaken irp token status information) asked reply new other first second =
    let packet = same_completion irp (with_status (after_take (packet_of old irp)) status information) asked first.0 second.0 first.1 second.1 in
    first.3 ∙ ap (with_packet old irp.slot) packet ∙ sym second.3
same_effect fixed old (SetCancelRoutine party irp cancel) asked reply new other first second = first.2 ∙ sym second.2
same_effect fixed old (Cancel irp) asked reply new other first second =
    let packet = same_cancellation fixed.tables irp (packet_of old irp) (packet_of old irp).cancel_routine asked reply first.0 second.0 first.1 second.1 in
    first.2 ∙ ap (with_packet old irp.slot) packet ∙ sym second.2
same_effect fixed old (Look irp) asked reply new other first second = first.2 ∙ sym second.2

same_step : (fixed : Fixed) (old : StateValue) (call : Call) (asked : List Asked) (reply : Reply) (new other : StateValue) (refusal : Option Refusal)
    → MatchOption refusal (Effect fixed old call asked reply new) (λ given. Unasked asked reply new (Refused given) old)
    → MatchOption refusal (Effect fixed old call asked reply other) (λ given. Unasked asked reply other (Refused given) old)
    → new ≡ other
same_step fixed old call asked reply new other None first second = same_effect fixed old call asked reply new other first second
same_step fixed old call asked reply new other (Some refusal) first second = first.2 ∙ sym second.2

pub entry_settles_next_state : EntrySettlesNextState
entry_settles_next_state fixed number old entry new other first second =
    same_step fixed old entry.call entry.asked entry.reply new other (first_refusal fixed old entry.drained entry.call) first.step second.step
