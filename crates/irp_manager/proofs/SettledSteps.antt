-- Where each closure has one answer, a state and a call settle the step.
use Rattle.std.proofs.Common.{◌≡◌, ℕ, ◌≤◌, Bool, not, is_some, List, [], ◌∷◌, map, Option, Some, None, MatchOption, refl, sym, ◌∙◌, ap, subst}
use Rattle.std.specs.Prelude.{◌==◌}
use Rattle.std.specs.List.{AllByRecursion}
use Rattle.irp_types.specs.Status.{cancelled, is_completable}
use Rattle.irp_types.specs.Checks.{Check, or_else}
use Rattle.irp_types.specs.Packet.{PacketValue, size_of, new_packet, with_status, after_take}
use Rattle.irp_types.specs.Unwinding.{Asking, as_asked}
use Rattle.irp_types.specs.State.{StateValue, Fixed, Tables, packet_of, with_packet}
use Rattle.irp_types.specs.Refusals.{has_ended, packet_refusal, party_refusal, ended_check, complete_refusal, take_refusal, first_refusal}
use Rattle.irp_types.specs.Standing.{IsSound, StandingFacts}
use Rattle.irp_types.specs.Steps.{Unasked, Completes, shown_to_cancel, after_cancel, Follows, Cancels, with_new_packet, Effect}
use Rattle.irp_types.specs.declared.status.Status.{Status}
use Rattle.irp_types.specs.declared.names.IrpRef.{IrpRef}
use Rattle.irp_types.specs.declared.names.DispatchId.{DispatchId}
use Rattle.irp_types.specs.declared.names.CancelId.{CancelId}
use Rattle.irp_types.specs.declared.routine.RoutineId.{RoutineId}
use Rattle.irp_types.specs.declared.routine.Known.{Known}
use Rattle.irp_types.specs.declared.call.Party.{Party}
use Rattle.irp_types.specs.declared.shown.Shown.{Shown}
use Rattle.irp_types.specs.declared.answer.Answer.{Answer}
use Rattle.irp_types.specs.declared.answer.CancelAnswer.{CancelAnswer}
use Rattle.irp_types.specs.declared.answer.CancelAnswer.TheVariants.{Finish, Leave}
use Rattle.irp_types.specs.declared.answer.Plan.{Plan}
use Rattle.irp_types.specs.declared.asked.Asked.{Asked}
use Rattle.irp_types.specs.declared.asked.Asked.TheVariants.{Cancel as CancelAsked}
use Rattle.irp_types.specs.Calls.{Call}
use Rattle.irp_types.specs.declared.call.Call.TheVariants.{CreateDevice, Attach, Detach, Delete, Allocate, Free, Reuse, SetNext, CopyToNext, Skip, SetRoutine, MarkPending, CallDriver, Complete, FinishTaken, SetCancelRoutine, Cancel, Look}
use Rattle.irp_types.specs.declared.refusal.Refusal.{Refusal}
use Rattle.irp_types.specs.declared.refusal.Refusal.TheVariants.{Stale, Ended as HasEnded, BadStatus, CancelRoutineSet, NotSlotHeld}
use Rattle.irp_types.specs.declared.reply.Reply.{Reply}
use Rattle.irp_types.specs.declared.reply.Reply.TheVariants.{Irp, Status as StatusIs, Refused}
use Rattle.irp_unwind.specs.Laws.{AreRepliesOf, IsReplyOf, UnwindingIsSettled, DescentIsSettled}
use Rattle.irp_manager.specs.Laws.{IsSameSlot}
use Rattle.irp_manager.proofs.Sound.{is_so, passed, own_passed, both_passed, cancellable_here, held_here}
use Rattle.irp_manager.proofs.Named.{sound_named}

-- what is asked, the reply and the next state are the same
abbrev pub AreSame : List Asked → List Asked → Reply → Reply → StateValue → StateValue → Type 0
AreSame asked others reply other new another = (asked ≡ others) × (reply ≡ other) × (new ≡ another)

module _ (plan_of : DispatchId → Shown → Plan) (reply_of : RoutineId → Shown → Answer) (cancel_reply_of : CancelId → Shown → CancelAnswer) where
  abbrev pub answered : List Asked → Type 0
  answered asked = AllByRecursion (IsReplyOf plan_of reply_of cancel_reply_of) asked

  replies : (asked : List Asking) → answered (map as_asked asked) → AreRepliesOf reply_of asked
  replies [] given = tt
  replies (asking ∷ others) given = (given.0, replies others given.1)

  same_completion : UnwindingIsSettled → (irp : IrpRef) (packet : PacketValue) (asked others : List Asked) (one two : PacketValue) → 1 ≤ packet.current → packet.current ≤ size_of packet
      → Completes irp packet asked one → Completes irp packet others two → answered asked → answered others → (asked ≡ others) × (one ≡ two)
  same_completion up irp packet asked others one two some within first second given answers =
      let same = up reply_of irp packet one two first.0 second.0 some within first.1 second.1 (replies first.0 (subst answered first.2 given)) (replies second.0 (subst answered second.2 answers)) in
      (first.2 ∙ ap (map as_asked) same.0 ∙ sym second.2, same.1)

  same_following : UnwindingIsSettled → (irp : IrpRef) (packet : PacketValue) (answer : CancelAnswer) (asked others : List Asked) (one two : PacketValue) → 1 ≤ packet.current → packet.current ≤ size_of packet
      → Follows irp packet answer asked one → Follows irp packet answer others two → answered asked → answered others → (asked ≡ others) × (one ≡ two)
  same_following up irp packet (Finish information) asked others one two some within first second given answers =
      same_completion up irp (with_status packet cancelled information) asked others one two some within first second given answers
  same_following up irp packet Leave asked others one two some within first second given answers = (first.0 ∙ sym second.0, first.1 ∙ sym second.1)

  same_cancellation : UnwindingIsSettled → (tables : Tables) (irp : IrpRef) (packet : PacketValue) (routine : Option CancelId) (asked others : List Asked) (reply other : Reply) (one two : PacketValue)
      → packet.cancel_routine ≡ routine → IsSound tables.counts packet
      → Cancels tables irp packet routine asked reply one → Cancels tables irp packet routine others other two → answered asked → answered others → (asked ≡ others) × (reply ≡ other) × (one ≡ two)
  same_cancellation up tables irp packet None asked others reply other one two is sound first second given answers = (first.0 ∙ sym second.0, first.1 ∙ sym second.1, first.2 ∙ sym second.2)
  same_cancellation up tables irp packet (Some routine) asked others reply other one two is sound first second given answers =
      let shown = shown_to_cancel irp packet in
      let given_one : answered (CancelAsked routine shown first.0 ∷ first.1) = subst answered first.3 given in
      let given_two : answered (CancelAsked routine shown second.0 ∷ second.1) = subst answered second.3 answers in
      let answer : first.0 ≡ second.0 = given_one.0 ∙ sym given_two.0 in
      let within = cancellable_here tables.counts packet routine sound is in
      let same = same_following up irp (after_cancel packet) second.0 first.1 second.1 one two sound.placed within
      (subst (λ (said : CancelAnswer). Follows irp (after_cancel packet) said first.1 one) answer first.4) second.4 given_one.1 given_two.1 in
      (first.3 ∙ (λ i. CancelAsked routine shown (answer i) ∷ same.0 i) ∙ sym second.3, first.5 ∙ sym second.5, same.1)

  -- a packet that may be completed stands in a location
  completable_here : (old : StateValue) (party : Party) (irp : IrpRef) (status : Status) → or_else (party_refusal old party irp) (complete_refusal (packet_of old irp) status) ≡ None
      → (packet_of old irp).current ≤ size_of (packet_of old irp)
  completable_here old party irp status none =
      let packet = packet_of old irp in
      let own = (both_passed (party_refusal old party irp) (complete_refusal packet status) none).1 in
      (own_passed packet ((not (is_completable status), BadStatus) ∷ (is_some packet.cancel_routine, CancelRoutineSet) ∷ []) own).1

  -- a packet that who took it may complete stands in a location
  taken_here : (counts : Known) (old : StateValue) (irp : IrpRef) (token : ℕ) (status : Status) → IsSound counts (packet_of old irp)
      → or_else (packet_refusal old irp) (take_refusal (packet_of old irp) irp.use_no token status) ≡ None → (packet_of old irp).current ≤ size_of (packet_of old irp)
  taken_here counts old irp token status sound none =
      let packet = packet_of old irp in
      let completable : List Check = (not (is_completable status), BadStatus) ∷ [] in
      let held : List Check = (not packet.slot_held, NotSlotHeld) ∷ completable in
      let own = (both_passed (packet_refusal old irp) (take_refusal packet irp.use_no token status) none).1 in
      let current = passed (not (token == irp.use_no)) Stale (ended_check packet ∷ held) own in
      let unended = passed (has_ended packet.owner) HasEnded held current.1 in
      held_here counts packet sound (is_so packet.slot_held (passed (not packet.slot_held) NotSlotHeld completable unended.1).0)

  same_effect : UnwindingIsSettled → DescentIsSettled → (fixed : Fixed) (old : StateValue) (drained : Bool) (call : Call) (asked others : List Asked) (reply other : Reply) (new another : StateValue)
      → StandingFacts fixed.tables.counts old → first_refusal fixed old drained call ≡ None
      → Effect fixed old call asked reply new → Effect fixed old call others other another → IsSameSlot call reply other → answered asked → answered others
      → AreSame asked others reply other new another
  same_effect up down fixed old drained (CreateDevice driver lock) asked others reply other new another stands none first second slots given answers = (first.0 ∙ sym second.0, first.1 ∙ sym second.1, first.2 ∙ sym second.2)
  same_effect up down fixed old drained (Attach device to) asked others reply other new another stands none first second slots given answers = (first.0 ∙ sym second.0, first.1 ∙ sym second.1, first.2 ∙ sym second.2)
  same_effect up down fixed old drained (Detach lower) asked others reply other new another stands none first second slots given answers = (first.0 ∙ sym second.0, first.1 ∙ sym second.1, first.2 ∙ sym second.2)
  same_effect up down fixed old drained (Delete device) asked others reply other new another stands none first second slots given answers = (first.0 ∙ sym second.0, first.1 ∙ sym second.1, first.2 ∙ sym second.2)
  same_effect up down fixed old drained (Allocate size) asked others reply other new another stands none first second slots given answers =
      let one : IrpRef = record { slot = first.0; use_no = old.next_use } in
      let two : IrpRef = record { slot = second.0; use_no = old.next_use } in
      let slot : first.0 ≡ second.0 = slots size one two refl first.2.1 second.2.1 in
      (first.2.0 ∙ sym second.2.0, first.2.1 ∙ (λ i. Irp (record { slot = slot i; use_no = old.next_use })) ∙ sym second.2.1, first.2.2 ∙ ap (λ at. with_new_packet old at (new_packet size)) slot ∙ sym second.2.2)
  same_effect up down fixed old drained (Free irp) asked others reply other new another stands none first second slots given answers = (first.0 ∙ sym second.0, first.1 ∙ sym second.1, first.2 ∙ sym second.2)
  same_effect up down fixed old drained (Reuse irp status) asked others reply other new another stands none first second slots given answers = (first.0 ∙ sym second.0, first.1 ∙ sym second.1, first.2 ∙ sym second.2)
  same_effect up down fixed old drained (SetNext party irp major word) asked others reply other new another stands none first second slots given answers = (first.0 ∙ sym second.0, first.1 ∙ sym second.1, first.2 ∙ sym second.2)
  same_effect up down fixed old drained (CopyToNext party irp) asked others reply other new another stands none first second slots given answers = (first.0 ∙ sym second.0, first.1 ∙ sym second.1, first.2 ∙ sym second.2)
  same_effect up down fixed old drained (Skip party irp) asked others reply other new another stands none first second slots given answers = (first.0 ∙ sym second.0, first.1 ∙ sym second.1, first.2 ∙ sym second.2)
  same_effect up down fixed old drained (SetRoutine party irp setting) asked others reply other new another stands none first second slots given answers = (first.0 ∙ sym second.0, first.1 ∙ sym second.1, first.2 ∙ sym second.2)
  same_effect up down fixed old drained (MarkPending party irp) asked others reply other new another stands none first second slots given answers = (first.0 ∙ sym second.0, first.1 ∙ sym second.1, first.2 ∙ sym second.2)
  same_effect up down fixed old drained (CallDriver party irp target) asked others reply other new another stands none first second slots given answers =
      let sound = sound_named fixed.tables.counts old irp stands in
      let same = down plan_of reply_of cancel_reply_of fixed.tables irp old.devices (packet_of old irp) target.0 first.0 second.0 asked others first.1 second.1 sound.within first.2 second.2 given answers in
      (same.1, first.3 ∙ ap StatusIs same.3 ∙ sym second.3, first.4 ∙ ap (with_packet old irp.slot) same.2 ∙ sym second.4)
  same_effect up down fixed old drained (Complete party irp status information) asked others reply other new another stands none first second slots given answers =
      let sound = sound_named fixed.tables.counts old irp stands in
      let same = same_completion up irp (with_status (packet_of old irp) status information) asked others first.0 second.0 sound.placed (completable_here old party irp status none) first.1 second.1 given answers in
      (same.0, first.2 ∙ sym second.2, first.3 ∙ ap (with_packet old irp.slot) same.1 ∙ sym second.3)
  same_effect up down fixed old drained (FinishTaken irp token status information) asked others reply other new another stands none first second slots given answers =
      let sound = sound_named fixed.tables.counts old irp stands in
      let taken = with_status (after_take (packet_of old irp)) status information in
      let same = same_completion up irp taken asked others first.0 second.0 sound.placed (taken_here fixed.tables.counts old irp token status sound none) first.1 second.1 given answers in
      (same.0, first.2 ∙ sym second.2, first.3 ∙ ap (with_packet old irp.slot) same.1 ∙ sym second.3)
  same_effect up down fixed old drained (SetCancelRoutine party irp cancel) asked others reply other new another stands none first second slots given answers = (first.0 ∙ sym second.0, first.1 ∙ sym second.1, first.2 ∙ sym second.2)
  same_effect up down fixed old drained (Cancel irp) asked others reply other new another stands none first second slots given answers =
      let sound = sound_named fixed.tables.counts old irp stands in
      let packet = packet_of old irp in
      let same = same_cancellation up fixed.tables irp packet packet.cancel_routine asked others reply other first.0 second.0 refl sound first.1 second.1 given answers in
      (same.0, same.1, first.2 ∙ ap (with_packet old irp.slot) same.2 ∙ sym second.2)
  same_effect up down fixed old drained (Look irp) asked others reply other new another stands none first second slots given answers = (first.0 ∙ sym second.0, first.1 ∙ sym second.1, first.2 ∙ sym second.2)

  pub same_step : UnwindingIsSettled → DescentIsSettled → (fixed : Fixed) (old : StateValue) (drained : Bool) (call : Call) (asked others : List Asked) (reply other : Reply) (new another : StateValue) (refusal : Option Refusal)
      → StandingFacts fixed.tables.counts old → first_refusal fixed old drained call ≡ refusal
      → MatchOption refusal (Effect fixed old call asked reply new) (λ refused. Unasked asked reply new (Refused refused) old)
      → MatchOption refusal (Effect fixed old call others other another) (λ refused. Unasked others other another (Refused refused) old)
      → IsSameSlot call reply other → answered asked → answered others → AreSame asked others reply other new another
  same_step up down fixed old drained call asked others reply other new another None stands is first second slots given answers =
      same_effect up down fixed old drained call asked others reply other new another stands is first second slots given answers
  same_step up down fixed old drained call asked others reply other new another (Some refused) stands is first second slots given answers =
      (first.0 ∙ sym second.0, first.1 ∙ sym second.1, first.2 ∙ sym second.2)
