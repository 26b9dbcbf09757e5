-- A packet that stands in a cancel slot is completed by FinishTaken alone.
use Rattle.std.proofs.Common.{◌≡◌, ℕ, Bool, true, false, not, List, [], ◌∷◌, Option, Some, None, is_some, MatchOption, unwrap_or, ◌==◌, refl, sym, ◌∙◌, ap, subst, inl, inr}
use Rattle.std.proofs.lemmas.Bool.{cases_eq, eqb-true, false≢true}
use Rattle.std.proofs.lemmas.Option.{none-some, same_Some}
use Rattle.std.specs.FinMap as fin
use Rattle.irp_types.specs.Status.{is_completable}
use Rattle.irp_types.specs.Checks.{Check, or_else}
use Rattle.irp_types.specs.Packet.{PacketValue, new_packet}
use Rattle.irp_types.specs.State.{StateValue, LivePacket, Fixed, live_at, packet_at, packet_of}
use Rattle.irp_types.specs.Refusals.{has_ended, is_owned_by_device, is_owner, party_refusal, packet_refusal, slot_check, ended_check, take_refusal, first_refusal}
use Rattle.irp_types.specs.Steps.{Unasked, Cancels, Effect, Step}
use Rattle.irp_types.specs.Standing.{IsInSlot}
use Rattle.irp_types.specs.Taking.{IsFinishOf, HeldIsFinishedTaken}
use Rattle.irp_types.specs.declared.status.Status.{Status}
use Rattle.irp_types.specs.declared.names.IrpRef.{IrpRef}
use Rattle.irp_types.specs.declared.names.CancelId.{CancelId}
use Rattle.irp_types.specs.declared.location.Owner.{Owner}
use Rattle.irp_types.specs.declared.location.Owner.TheVariants.{Originator, Device, Ended}
use Rattle.irp_types.specs.declared.asked.Asked.{Asked}
use Rattle.irp_types.specs.declared.refusal.Refusal.{Refusal}
use Rattle.irp_types.specs.declared.refusal.Refusal.TheVariants.{NoIrp, Stale, NotOwner, SlotHeld, Ended as HasEnded, BadStatus, NotSlotHeld}
use Rattle.irp_types.specs.declared.call.Party.{Party}
use Rattle.irp_types.specs.Calls.{Call}
use Rattle.irp_types.specs.declared.call.Call.TheVariants.{CreateDevice, Attach, Detach, Delete, Allocate, Free, Reuse, SetNext, CopyToNext, Skip, SetRoutine, MarkPending, CallDriver, Complete, FinishTaken, SetCancelRoutine, Cancel, Look}
use Rattle.irp_types.specs.declared.reply.Reply.{Reply}
use Rattle.irp_types.specs.declared.reply.Reply.TheVariants.{Refused}
use Rattle.irp_types.proofs.LiveMaps.{get_inserted, get_kept, get_removed, get_left}
use Rattle.irp_types.proofs.UsesOverSteps.{passed, both_passed, is_so}

owned_unended : (owner : Owner) → is_owned_by_device owner ≡ true → has_ended owner ≡ true → ⊥
owned_unended Originator owned ended = false≢true owned
owned_unended (Device device) owned ended = false≢true ended
owned_unended Ended owned ended = false≢true owned

-- a party that may call on a packet finds it in no cancel slot
unheld : (state : StateValue) (irp : IrpRef) (party : Party) (others : Option Refusal) → or_else (party_refusal state party irp) others ≡ None → (packet_of state irp).slot_held ≡ false
unheld state irp party others none =
    let packet = packet_of state irp in
    let held : List Check = slot_check packet ∷ [] in
    let later : List Check = (not (is_owner party packet.owner), NotOwner) ∷ held in
    let all = (both_passed (party_refusal state party irp) others none).0 in
    let there = passed (not (is_some (live_at state irp.slot))) NoIrp ((not ((packet_at state irp.slot).use_no == irp.use_no), Stale) ∷ (has_ended packet.owner, HasEnded) ∷ later) all in
    let fresh = passed (not ((packet_at state irp.slot).use_no == irp.use_no)) Stale ((has_ended packet.owner, HasEnded) ∷ later) there.1 in
    let unended = passed (has_ended packet.owner) HasEnded later fresh.1 in
    let owns = passed (not (is_owner party packet.owner)) NotOwner held unended.1 in
    (passed packet.slot_held SlotHeld [] owns.1).0

-- a token that may finish is the number of the use that the reference names, which stands at its slot
fits : (state : StateValue) (irp : IrpRef) (token : ℕ) (status : Status) → or_else (packet_refusal state irp) (take_refusal (packet_of state irp) irp.use_no token status) ≡ None
    → ((packet_at state irp.slot).use_no ≡ irp.use_no) × (token ≡ irp.use_no)
fits state irp token status none =
    let packet = packet_of state irp in
    let groups = both_passed (packet_refusal state irp) (take_refusal packet irp.use_no token status) none in
    let there = passed (not (is_some (live_at state irp.slot))) NoIrp ((not ((packet_at state irp.slot).use_no == irp.use_no), Stale) ∷ []) groups.0 in
    let fresh = passed (not ((packet_at state irp.slot).use_no == irp.use_no)) Stale [] there.1 in
    let same = passed (not (token == irp.use_no)) Stale (ended_check packet ∷ (not packet.slot_held, NotSlotHeld) ∷ (not (is_completable status), BadStatus) ∷ []) groups.1 in (
      eqb-true (packet_at state irp.slot).use_no irp.use_no (is_so ((packet_at state irp.slot).use_no == irp.use_no) fresh.0),
      eqb-true token irp.use_no (is_so (token == irp.use_no) same.0),
    )

module _ (fixed : Fixed) (old : StateValue) (slot : ℕ) (before : LivePacket) (there : live_at old slot ≡ Some before) (held : before.packet.slot_held ≡ true) (in_slot : IsInSlot before.packet) where
  -- what stands at the slot then has not ended
  abbrev Unended : StateValue → Type 0
  Unended new = (after : LivePacket) → live_at new slot ≡ Some after → has_ended after.packet.owner ≡ true → ⊥

  same_place : (new : StateValue) → live_at new slot ≡ live_at old slot → Unended new
  same_place new is after at ended =
      owned_unended before.packet.owner in_slot.held
      (subst (λ (live : LivePacket). has_ended live.packet.owner ≡ true) (same_Some after before (sym at ∙ is ∙ there)) ended)

  unmoved : (same new : StateValue) → same.live ≡ old.live → new ≡ same → Unended new
  unmoved same new same_live is = subst Unended (sym is) (same_place same (ap (λ given. fin.get given slot) same_live))

  put : (same new : StateValue) (at : ℕ) (item : LivePacket) → same.live ≡ fin.insert old.live at item → (slot ≡ at → has_ended item.packet.owner ≡ true → ⊥) → new ≡ same → Unended new
  put same new at item live_is here is = subst Unended (sym is) (λ after there_then ended.
      elim (cases_eq slot at) as (λ _. ⊥) [
        | inl same_slot ↦ here same_slot
            (subst (λ (live : LivePacket). has_ended live.packet.owner ≡ true)
            (same_Some after item (sym there_then ∙ ap (λ given. fin.get given slot) live_is ∙ ap (fin.get (fin.insert old.live at item)) same_slot ∙ get_inserted old.live at item)) ended)
        | inr apart ↦ same_place same (ap (λ given. fin.get given slot) live_is ∙ get_kept old.live at item slot apart) after there_then ended
      ])

  taken_away : (new : StateValue) (at : ℕ) → new ≡ record old { live = fin.remove old.live at } → Unended new
  taken_away new at is = subst Unended (sym is) (λ after there_then ended.
      elim (cases_eq slot at) as (λ _. ⊥) [
        | inl same_slot ↦ none-some after (sym (get_removed old.live at) ∙ ap (fin.get (fin.remove old.live at)) (sym same_slot) ∙ there_then)
        | inr apart ↦ same_place (record old { live = fin.remove old.live at }) (get_left old.live at slot apart) after there_then ended
      ])

  stands_here : (irp : IrpRef) → slot ≡ irp.slot → packet_at old irp.slot ≡ before
  stands_here irp same = ap (λ found. unwrap_or found (record { packet = new_packet 1; use_no = 0 })) (ap (live_at old) (sym same) ∙ there)

  -- a party may not call on it
  not_party : (irp : IrpRef) (party : Party) (others : Option Refusal) → or_else (party_refusal old party irp) others ≡ None → slot ≡ irp.slot → ⊥
  not_party irp party others none same =
      false≢true (sym (unheld old irp party others none) ∙ ap (λ (live : LivePacket). live.packet.slot_held) (stands_here irp same) ∙ held)

  -- a cancellation finds no cancel routine
  uncancelled : (irp : IrpRef) (routine : Option CancelId) (packet new : PacketValue) (asked : List Asked) (reply : Reply) → routine ≡ None → is_owned_by_device packet.owner ≡ true
      → Cancels fixed.tables irp packet routine asked reply new → has_ended new.owner ≡ true → ⊥
  uncancelled irp None packet new asked reply none owned cancels ended =
      owned_unended packet.owner owned (subst (λ (given : PacketValue). has_ended given.owner ≡ true) cancels.2 ended)
  uncancelled irp (Some routine) packet new asked reply none owned cancels ended = none-some routine (sym none)

  only_taken : (drained : Bool) (call : Call) (asked : List Asked) (reply : Reply) (new : StateValue) → first_refusal fixed old drained call ≡ None → Effect fixed old call asked reply new
      → (after : LivePacket) → live_at new slot ≡ Some after → has_ended after.packet.owner ≡ true → IsFinishOf slot before.use_no call
  only_taken drained (CreateDevice driver lock) asked reply new none effect = unmoved _ new refl effect.2
  only_taken drained (Attach device to) asked reply new none effect = unmoved _ new refl effect.2
  only_taken drained (Detach lower) asked reply new none effect = unmoved _ new refl effect.2
  only_taken drained (Delete device) asked reply new none effect = unmoved _ new refl effect.2
  only_taken drained (Allocate size) asked reply new none effect = put _ new effect.0 _ refl (λ same ended. false≢true ended) effect.2.2
  only_taken drained (Free irp) asked reply new none effect = taken_away new irp.slot effect.2
  only_taken drained (Reuse irp status) asked reply new none effect = put _ new irp.slot _ refl (λ same ended. false≢true ended) effect.2
  only_taken drained (SetNext party irp major word) asked reply new none effect =
      put _ new irp.slot _ refl (λ same ended. not_party irp party _ none same) effect.2
  only_taken drained (CopyToNext party irp) asked reply new none effect =
      put _ new irp.slot _ refl (λ same ended. not_party irp party _ none same) effect.2
  only_taken drained (Skip party irp) asked reply new none effect =
      put _ new irp.slot _ refl (λ same ended. not_party irp party _ none same) effect.2
  only_taken drained (SetRoutine party irp setting) asked reply new none effect =
      put _ new irp.slot _ refl (λ same ended. not_party irp party _ none same) effect.2
  only_taken drained (MarkPending party irp) asked reply new none effect =
      put _ new irp.slot _ refl (λ same ended. not_party irp party _ none same) effect.2
  only_taken drained (CallDriver party irp target) asked reply new none effect =
      put _ new irp.slot _ refl (λ same ended. not_party irp party _ none same) effect.4
  only_taken drained (Complete party irp status information) asked reply new none effect =
      put _ new irp.slot _ refl (λ same ended. not_party irp party _ none same) effect.3
  only_taken drained (FinishTaken irp token status information) asked reply new none effect = λ after there_then ended.
      elim (cases_eq slot irp.slot) as (λ _. IsFinishOf slot before.use_no (FinishTaken irp token status information)) [
        | inl same ↦
            let numbers = fits old irp token status none in
            let number : irp.use_no ≡ before.use_no = sym numbers.0 ∙ ap (λ (live : LivePacket). live.use_no) (stands_here irp same) in
            (sym same, number, numbers.1 ∙ number)
        | inr apart ↦ absurd (put _ new irp.slot _ refl (λ same now. apart same) effect.3 after there_then ended)
      ]
  only_taken drained (SetCancelRoutine party irp cancel) asked reply new none effect =
      put _ new irp.slot _ refl (λ same ended. not_party irp party _ none same) effect.2
  only_taken drained (Cancel irp) asked reply new none effect =
      put _ new irp.slot _ refl
      (λ same ended.
      let is = stands_here irp same in
      uncancelled irp (packet_of old irp).cancel_routine (packet_of old irp) effect.0 asked reply
      (ap (λ (live : LivePacket). live.packet.cancel_routine) is ∙ in_slot.no_routine)
      (ap (λ (live : LivePacket). is_owned_by_device live.packet.owner) is ∙ in_slot.held) effect.1 ended) effect.2
  only_taken drained (Look irp) asked reply new none effect = unmoved old new refl effect.2

  over_step : (drained : Bool) (call : Call) (asked : List Asked) (reply : Reply) (new : StateValue) → Step fixed old drained call asked reply new
      → (after : LivePacket) → live_at new slot ≡ Some after → has_ended after.packet.owner ≡ true → IsFinishOf slot before.use_no call
  over_step drained call asked reply new step after there_then ended = by (first_refusal fixed old drained call) refl step
    where
      by : (refusal : Option Refusal) → first_refusal fixed old drained call ≡ refusal
          → MatchOption refusal (Effect fixed old call asked reply new) (λ given. Unasked asked reply new (Refused given) old) → IsFinishOf slot before.use_no call
      by None is effect = only_taken drained call asked reply new is effect after there_then ended
      by (Some refusal) is refused = absurd (unmoved old new refl refused.2 after there_then ended)

pub held_is_finished_taken : HeldIsFinishedTaken
held_is_finished_taken counts fixed old drained call asked reply new slot before after facts step there held there_then ended =
    over_step fixed old slot before there held ((facts.packets slot before there).slots held) drained call asked reply new step after there_then ended
