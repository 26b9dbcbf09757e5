-- The uses of packets, over one step: the numbers of new ones are drawn, and a packet that has ended has ended after it.
use Rattle.std.proofs.Common.{◌≡◌, ℕ, ◌<◌, ◌≤◌, Bool, true, false, not, List, [], ◌∷◌, Option, Some, None, is_some, MatchOption, unwrap_or, ◌==◌, refl, sym, ◌∙◌, ap, subst, arith, ◌⊎◌, inl, inr}
use Rattle.std.proofs.lemmas.Bool.{cases_eq, false≢true}
use Rattle.std.proofs.lemmas.Option.{none-some, same_Some}
use Rattle.std.specs.FinMap as fin
use Rattle.irp_types.specs.Status.{is_completable}
use Rattle.irp_types.specs.Checks.{Check, first_failing, or_else}
use Rattle.irp_types.specs.Packet.{PacketValue, new_packet, after_reset}
use Rattle.irp_types.specs.State.{StateValue, LivePacket, Fixed, live_at, packet_at, packet_of, with_packet}
use Rattle.irp_types.specs.Refusals.{has_ended, is_owner, packet_refusal, party_refusal, slot_check, ended_check, take_refusal, first_refusal}
use Rattle.irp_types.specs.Steps.{Unasked, with_new_packet, Effect, Step}
use Rattle.irp_types.specs.declared.status.Status.{Status}
use Rattle.irp_types.specs.declared.names.IrpRef.{IrpRef}
use Rattle.irp_types.specs.declared.asked.Asked.{Asked}
use Rattle.irp_types.specs.declared.refusal.Refusal.{Refusal}
use Rattle.irp_types.specs.declared.refusal.Refusal.TheVariants.{NoIrp, Stale, NotOwner, Ended as HasEnded, BadStatus, NotSlotHeld}
use Rattle.irp_types.specs.declared.call.Party.{Party}
use Rattle.irp_types.specs.Calls.{Call}
use Rattle.irp_types.specs.declared.call.Call.TheVariants.{CreateDevice, Attach, Detach, Delete, Allocate, Free, Reuse, SetNext, CopyToNext, Skip, SetRoutine, MarkPending, CallDriver, Complete, FinishTaken, SetCancelRoutine, Cancel, Look}
use Rattle.irp_types.specs.declared.reply.Reply.{Reply}
use Rattle.irp_types.specs.declared.reply.Reply.TheVariants.{Refused}
use Rattle.irp_types.proofs.LiveMaps.{get_inserted, get_kept, get_removed, get_left}

-- the numbers of live uses were drawn, and differ
pub record AreUses (state : StateValue) : Type 0 where
  pub drawn : (slot : ℕ) (live : LivePacket) → live_at state slot ≡ Some live → live.use_no < state.next_use
  pub apart : (slot other : ℕ) (live another : LivePacket) → live_at state slot ≡ Some live → live_at state other ≡ Some another → live.use_no ≡ another.use_no → slot ≡ other

-- a use was drawn, and isn't open any more
pub record IsOver (use_no : ℕ) (state : StateValue) : Type 0 where
  pub drawn : use_no < state.next_use
  pub ended : (slot : ℕ) (live : LivePacket) → live_at state slot ≡ Some live → live.use_no ≡ use_no → has_ended live.packet.owner ≡ true

-- the use stood at this slot before, and if it had ended it has
abbrev pub Stayed : StateValue → ℕ → LivePacket → Type 0
Stayed old slot live =
    (before : LivePacket) × (live_at old slot ≡ Some before) × (before.use_no ≡ live.use_no)
    × (has_ended before.packet.owner ≡ true → has_ended live.packet.owner ≡ true)

-- the use is the one whose number was drawn
abbrev pub WasDrawn : StateValue → StateValue → ℕ → LivePacket → Type 0
WasDrawn old new at live = (live.use_no ≡ old.next_use) × (old.next_use < new.next_use)

-- over a step each live use stayed, but for one at most, whose number was drawn
pub record UsesGoOn (old new : StateValue) : Type 0 where
  pub at : ℕ
  pub counter : old.next_use ≤ new.next_use
  pub from : (slot : ℕ) (live : LivePacket) → live_at new slot ≡ Some live → Stayed old slot live ⊎ ((slot ≡ at) × WasDrawn old new at live)

-- the packets and the counter are as they were
unmoved : (old new : StateValue) → new.live ≡ old.live → new.next_use ≡ old.next_use → UsesGoOn old new
unmoved old new same_live same_next = record {
  at = 0;
  counter = omega (arith, same_next);
  from = λ slot live there. inl (live, ap (λ given. fin.get given slot) (sym same_live) ∙ there, refl, λ ended. ended);
}

unmoved_from : (old same new : StateValue) → same.live ≡ old.live → same.next_use ≡ old.next_use → new ≡ same → UsesGoOn old new
unmoved_from old same new same_live same_next is =
    unmoved old new (ap (λ (state : StateValue). state.live) is ∙ same_live) (ap (λ (state : StateValue). state.next_use) is ∙ same_next)

-- a packet that has not ended becomes another, of the same use
repacked : (old : StateValue) (slot : ℕ) (packet : PacketValue) → is_some (live_at old slot) ≡ true → has_ended (packet_at old slot).packet.owner ≡ false → UsesGoOn old (with_packet old slot packet)
repacked old slot packet some unended = record {
  at = 0;
  counter = omega arith;
  from = λ other live there. elim (cases_eq other slot) as (λ _. Stayed old other live ⊎ ((other ≡ 0) × WasDrawn old (with_packet old slot packet) 0 live)) [
    | inl is ↦ inl (here other live is there)
    | inr apart ↦ inl (live, sym (get_kept old.live slot changed other apart) ∙ there, refl, λ ended. ended)
  ];
}
  where
    changed : LivePacket
    changed = record { packet = packet; use_no = (packet_at old slot).use_no }

    stands : live_at old slot ≡ Some (packet_at old slot)
    stands = by (live_at old slot) some
      where
        by : (found : Option LivePacket) → is_some found ≡ true → found ≡ Some (unwrap_or found (record { packet = new_packet 1; use_no = 0 }))
        by None fails = absurd (false≢true fails)
        by (Some live) is = refl

    here : (other : ℕ) (live : LivePacket) → other ≡ slot → live_at (with_packet old slot packet) other ≡ Some live → Stayed old other live
    here other live is there =
        let same : changed ≡ live = same_Some changed live (sym (get_inserted old.live slot changed) ∙ ap (fin.get (fin.insert old.live slot changed)) (sym is) ∙ there) in (
          packet_at old slot,
          ap (live_at old) is ∙ stands,
          ap (λ (given : LivePacket). given.use_no) same,
          λ ended. absurd (false≢true (sym unended ∙ ended)),
        )

repacked_from : (old new : StateValue) (slot : ℕ) (packet : PacketValue) → (is_some (live_at old slot) ≡ true) × (has_ended (packet_at old slot).packet.owner ≡ false) → new ≡ with_packet old slot packet → UsesGoOn old new
repacked_from old new slot packet unended is = subst (UsesGoOn old) (sym is) (repacked old slot packet unended.0 unended.1)

-- a new packet draws the next number
renewed : (old : StateValue) (slot : ℕ) (packet : PacketValue) → UsesGoOn old (with_new_packet old slot packet)
renewed old slot packet = record {
  at = slot;
  counter = omega arith;
  from = λ other live there. elim (cases_eq other slot) as (λ _. Stayed old other live ⊎ ((other ≡ slot) × WasDrawn old (with_new_packet old slot packet) slot live)) [
    | inl is ↦
        let same : drawn ≡ live = same_Some drawn live (sym (get_inserted old.live slot drawn) ∙ ap (fin.get (fin.insert old.live slot drawn)) (sym is) ∙ there) in
        inr (is, (ap (λ (given : LivePacket). given.use_no) (sym same), omega arith))
    | inr apart ↦ inl (live, sym (get_kept old.live slot drawn other apart) ∙ there, refl, λ ended. ended)
  ];
}
  where
    drawn : LivePacket
    drawn = record { packet = packet; use_no = old.next_use }

renewed_from : (old new : StateValue) (slot : ℕ) (packet : PacketValue) → new ≡ with_new_packet old slot packet → UsesGoOn old new
renewed_from old new slot packet is = subst (UsesGoOn old) (sym is) (renewed old slot packet)

-- a packet is given back
given_back : (old : StateValue) (slot : ℕ) → UsesGoOn old (record old { live = fin.remove old.live slot })
given_back old slot = record {
  at = 0;
  counter = omega arith;
  from = λ other live there. elim (cases_eq other slot) as (λ _. Stayed old other live ⊎ ((other ≡ 0) × WasDrawn old (record old { live = fin.remove old.live slot }) 0 live)) [
    | inl is ↦ absurd (none-some live (sym (get_removed old.live slot) ∙ ap (fin.get (fin.remove old.live slot)) (sym is) ∙ there))
    | inr apart ↦ inl (live, sym (get_left old.live slot other apart) ∙ there, refl, λ ended. ended)
  ];
}

-- a check that did not fail, and the others
pub passed : (fails : Bool) (refusal : Refusal) (others : List Check) → first_failing ((fails, refusal) ∷ others) ≡ None → (fails ≡ false) × (first_failing others ≡ None)
passed true refusal others none = absurd (none-some refusal (sym none))
passed false refusal others none = (refl, none)

-- the checks of two groups passed
pub both_passed : (one two : Option Refusal) → or_else one two ≡ None → (one ≡ None) × (two ≡ None)
both_passed None two none = (refl, none)
both_passed (Some refusal) two none = absurd (none-some refusal (sym none))

pub is_so : (fact : Bool) → not fact ≡ false → fact ≡ true
is_so true is = refl
is_so false is = absurd (false≢true (sym is))

-- the packet that a reference names is live, and has not ended
abbrev IsOpenAt : StateValue → IrpRef → Type 0
IsOpenAt state irp = (is_some (live_at state irp.slot) ≡ true) × (has_ended (packet_of state irp).owner ≡ false)

module _ (state : StateValue) (irp : IrpRef) where
  open_by_party : (party : Party) (others : Option Refusal) → or_else (party_refusal state party irp) others ≡ None → IsOpenAt state irp
  open_by_party party others none =
      let owner = (packet_of state irp).owner in
      let later : List Check = (not (is_owner party owner), NotOwner) ∷ slot_check (packet_of state irp) ∷ [] in
      let all = (both_passed (party_refusal state party irp) others none).0 in
      let there = passed (not (is_some (live_at state irp.slot))) NoIrp ((not ((packet_at state irp.slot).use_no == irp.use_no), Stale) ∷ (has_ended owner, HasEnded) ∷ later) all in
      let fresh = passed (not ((packet_at state irp.slot).use_no == irp.use_no)) Stale ((has_ended owner, HasEnded) ∷ later) there.1 in
      (is_so (is_some (live_at state irp.slot)) there.0, (passed (has_ended owner) HasEnded later fresh.1).0)

  open_by_check : or_else (packet_refusal state irp) (first_failing (ended_check (packet_of state irp) ∷ [])) ≡ None → IsOpenAt state irp
  open_by_check none =
      let groups = both_passed (packet_refusal state irp) (first_failing (ended_check (packet_of state irp) ∷ [])) none in
      let there = passed (not (is_some (live_at state irp.slot))) NoIrp ((not ((packet_at state irp.slot).use_no == irp.use_no), Stale) ∷ []) groups.0 in
      (is_so (is_some (live_at state irp.slot)) there.0, (passed (has_ended (packet_of state irp).owner) HasEnded [] groups.1).0)

  open_by_token : (token : ℕ) (status : Status) → or_else (packet_refusal state irp) (take_refusal (packet_of state irp) irp.use_no token status) ≡ None → IsOpenAt state irp
  open_by_token token status none =
      let packet = packet_of state irp in
      let held : List Check = (not packet.slot_held, NotSlotHeld) ∷ (not (is_completable status), BadStatus) ∷ [] in
      let groups = both_passed (packet_refusal state irp) (take_refusal packet irp.use_no token status) none in
      let there = passed (not (is_some (live_at state irp.slot))) NoIrp ((not ((packet_at state irp.slot).use_no == irp.use_no), Stale) ∷ []) groups.0 in
      let fresh = passed (not (token == irp.use_no)) Stale (ended_check packet ∷ held) groups.1 in
      (is_so (is_some (live_at state irp.slot)) there.0, (passed (has_ended packet.owner) HasEnded held fresh.1).0)

over_effect : (fixed : Fixed) (drained : Bool) (old : StateValue) (call : Call) (asked : List Asked) (reply : Reply) (new : StateValue)
    → first_refusal fixed old drained call ≡ None → Effect fixed old call asked reply new → UsesGoOn old new
over_effect fixed drained old (CreateDevice driver lock) asked reply new none effect = unmoved_from old _ new refl refl effect.2
over_effect fixed drained old (Attach device to) asked reply new none effect = unmoved_from old _ new refl refl effect.2
over_effect fixed drained old (Detach lower) asked reply new none effect = unmoved_from old _ new refl refl effect.2
over_effect fixed drained old (Delete device) asked reply new none effect = unmoved_from old _ new refl refl effect.2
over_effect fixed drained old (Allocate size) asked reply new none effect = renewed_from old new effect.0 (new_packet size) effect.2.2
over_effect fixed drained old (Free irp) asked reply new none effect = subst (UsesGoOn old) (sym effect.2) (given_back old irp.slot)
over_effect fixed drained old (Reuse irp status) asked reply new none effect = renewed_from old new irp.slot (after_reset (packet_of old irp) status) effect.2
over_effect fixed drained old (SetNext party irp major word) asked reply new none effect =
    repacked_from old new irp.slot _ (open_by_party old irp party _ none) effect.2
over_effect fixed drained old (CopyToNext party irp) asked reply new none effect =
    repacked_from old new irp.slot _ (open_by_party old irp party _ none) effect.2
over_effect fixed drained old (Skip party irp) asked reply new none effect =
    repacked_from old new irp.slot _ (open_by_party old irp party _ none) effect.2
over_effect fixed drained old (SetRoutine party irp setting) asked reply new none effect =
    repacked_from old new irp.slot _ (open_by_party old irp party _ none) effect.2
over_effect fixed drained old (MarkPending party irp) asked reply new none effect =
    repacked_from old new irp.slot _ (open_by_party old irp party _ none) effect.2
over_effect fixed drained old (CallDriver party irp target) asked reply new none effect =
    repacked_from old new irp.slot effect.0 (open_by_party old irp party _ none) effect.4
over_effect fixed drained old (Complete party irp status information) asked reply new none effect =
    repacked_from old new irp.slot effect.0 (open_by_party old irp party _ none) effect.3
over_effect fixed drained old (FinishTaken irp token status information) asked reply new none effect =
    repacked_from old new irp.slot effect.0 (open_by_token old irp token status none) effect.3
over_effect fixed drained old (SetCancelRoutine party irp cancel) asked reply new none effect =
    repacked_from old new irp.slot _ (open_by_party old irp party _ none) effect.2
over_effect fixed drained old (Cancel irp) asked reply new none effect = repacked_from old new irp.slot effect.0 (open_by_check old irp none) effect.2
over_effect fixed drained old (Look irp) asked reply new none effect = unmoved_from old old new refl refl effect.2

pub over_step : (fixed : Fixed) (old : StateValue) (drained : Bool) (call : Call) (asked : List Asked) (reply : Reply) (new : StateValue)
    → Step fixed old drained call asked reply new → UsesGoOn old new
over_step fixed old drained call asked reply new step = by (first_refusal fixed old drained call) refl step
  where
    by : (refusal : Option Refusal) → first_refusal fixed old drained call ≡ refusal
        → MatchOption refusal (Effect fixed old call asked reply new) (λ given. Unasked asked reply new (Refused given) old) → UsesGoOn old new
    by None is effect = over_effect fixed drained old call asked reply new is effect
    by (Some refusal) is refused = unmoved_from old old new refl refl refused.2

module _ (old new : StateValue) (step : UsesGoOn old new) where
  -- what is told of a live use is told whether it stayed or was drawn
  split : {P : Type 0} (slot : ℕ) (live : LivePacket) → live_at new slot ≡ Some live → (Stayed old slot live → P) → ((slot ≡ step.at) × WasDrawn old new step.at live → P) → P
  split {P} slot live there stayed drawn = elim (step.from slot live there) as (λ _. P) [ inl before ↦ stayed before | inr now ↦ drawn now ]

  pub uses_over : AreUses old → AreUses new
  uses_over uses =
      let counter : old.next_use ≤ new.next_use = step.counter in
      record {
        drawn = λ slot live there. split slot live there
            (λ stayed. let before = uses.drawn slot stayed.0 stayed.1 in let same = stayed.2 in omega (arith, before, same, counter))
            (λ now. let number = now.1.0 in let higher = now.1.1 in omega (arith, number, higher));
        apart = λ slot other live another there elsewhere same. split slot live there
            (λ stayed. split other another elsewhere
            (λ remained. uses.apart slot other stayed.0 remained.0 stayed.1 remained.1 (stayed.2 ∙ same ∙ sym remained.2))
            (λ now. let before = uses.drawn slot stayed.0 stayed.1 in let number = now.1.0 in let kept = stayed.2 in absurd (omega (arith, before, number, kept, same))))
            (λ now. split other another elsewhere
            (λ remained. let before = uses.drawn other remained.0 remained.1 in let number = now.1.0 in let kept = remained.2 in absurd (omega (arith, before, number, kept, same)))
            (λ likewise. now.0 ∙ sym likewise.0));
      }

  pub over_goes_on : (use_no : ℕ) → IsOver use_no old → IsOver use_no new
  over_goes_on use_no over =
      let counter : old.next_use ≤ new.next_use = step.counter in
      let below : use_no < old.next_use = over.drawn in
      record {
        drawn = omega (arith, counter, below);
        ended = λ slot live there same. split slot live there
            (λ stayed. stayed.3 (over.ended slot stayed.0 stayed.1 (stayed.2 ∙ same)))
            (λ now. let number = now.1.0 in absurd (omega (arith, number, below, same)));
      }
