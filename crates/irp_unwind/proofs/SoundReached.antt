-- A descent leaves a packet with the standing facts, if it had them.
use Rattle.std.proofs.Common.{◌≡◌, ℕ, ◌+◌, ◌<◌, ◌≤◌, zero, suc, Bool, true, false, ◌||◌, ◌&&◌, ◌==◌, is_some, List, [], ◌∷◌, refl, sym, ◌∙◌, ap, subst, arith, Option, Some, None, inl, inr}
use Rattle.std.specs.List.{list_any, AllByRecursion}
use Rattle.std.specs.Option.{option_map_or}
use Rattle.std.proofs.Math.Bool.{or-true}
use Rattle.std.proofs.lemmas.Bool.{cases_lt, cases_eq, cases_Bool, cond-true, cond-false, eq-eqb, ne_eqb}
use Rattle.irp_types.specs.Status.{invalid_device_request}
use Rattle.irp_types.specs.Rules.{is_known}
use Rattle.irp_types.specs.Packet.{PacketValue, size_of, location_at, with_status, is_nothing}
use Rattle.irp_types.specs.Unwinding.{Asking}
use Rattle.irp_types.specs.Stacks.{DevicesValue}
use Rattle.irp_types.specs.State.{Tables, AreTables}
use Rattle.irp_types.specs.Descent.{Frame, plans, marks_location, first_location, last_frame, frames_in, IsPlanned, AreFrames, PassedDown, Ends, Descended}
use Rattle.irp_types.specs.Standing.{is_keeping, lowest_location, IsSound}
use Rattle.irp_types.specs.declared.names.IrpRef.{IrpRef}
use Rattle.irp_types.specs.declared.names.CancelId.{CancelId}
use Rattle.irp_types.specs.declared.location.Location.{Location}
use Rattle.irp_types.specs.declared.location.Owner.TheVariants.{Device}
use Rattle.irp_types.specs.declared.location.Preparation.TheVariants.{Nothing}
use Rattle.irp_types.specs.declared.status.Status.{Status}
use Rattle.irp_types.specs.declared.routine.Rule.TheVariants.{Watch}
use Rattle.irp_types.specs.declared.routine.Known.{Known}
use Rattle.irp_types.specs.declared.routine.Setting.{Setting}
use Rattle.irp_types.specs.declared.answer.Plan.{Plan}
use Rattle.irp_types.specs.declared.answer.Plan.TheVariants.{Finish, Hold, HoldSlot, Skip, Forward, ForwardPend}
use Rattle.irp_types.specs.declared.asked.Asked.{Asked}
use Rattle.irp_unwind.proofs.Fit.{IsFit}
use Rattle.irp_unwind.proofs.Lists.{all_map}
use Rattle.irp_unwind.proofs.Frames.{set_at, last_has, last_low, in_here, in_rest}
use Rattle.irp_unwind.proofs.SetKnown.{sets_known, known_counted, cancel_counted}
use Rattle.irp_unwind.proofs.Stays.{all_in, last_of}
use Rattle.irp_unwind.proofs.SoundUnwound.{unwound_sound}

-- where the last frame marks its location, some frame does
last_marks : (frames : List Frame) → plans marks_location (last_frame frames) ≡ true → list_any (plans marks_location) frames ≡ true
last_marks [] marks = absurd (cc)
last_marks (frame ∷ []) marks = ap (λ one. one || false) marks
last_marks (frame ∷ follower ∷ others) marks =
    ap (λ rest. plans marks_location frame || rest) (last_marks (follower ∷ others) marks) ∙ or-true (plans marks_location frame)

-- where the last frame marks, some frame of its location does
last_marks_here : (frames : List Frame) → plans marks_location (last_frame frames) ≡ true → list_any (plans marks_location) (frames_in frames (last_frame frames).location) ≡ true
last_marks_here [] marks = absurd (cc)
last_marks_here (frame ∷ []) marks = ap (list_any (plans marks_location)) (in_here frame [] frame.location refl) ∙ ap (λ one. one || false) marks
last_marks_here (frame ∷ follower ∷ others) marks =
    let number = (last_frame (follower ∷ others)).location in
    let rest = last_marks_here (follower ∷ others) marks in
    elim (cases_eq frame.location number) as (λ _. list_any (plans marks_location) (frames_in (frame ∷ follower ∷ others) number) ≡ true) [
      | inl same ↦
          ap (list_any (plans marks_location)) (in_here frame (follower ∷ others) number same)
          ∙ ap (λ one. plans marks_location frame || one) rest ∙ or-true (plans marks_location frame)
      | inr other ↦ ap (list_any (plans marks_location)) (in_rest frame (follower ∷ others) number other) ∙ rest
    ]

-- what a frame sets is there, and it marks its location where what it sets may keep the packet
pub record SetsWell (counts : Known) (frame : Frame) (setting : Setting) : Type 0 where
  pub known : is_known counts setting ≡ true
  pub marks : is_keeping setting.routine.rule ≡ true → plans marks_location frame ≡ true

abbrev AllSetWell : Known → Frame → Type 0
AllSetWell counts frame = (setting : Setting) → set_at frame ≡ Some setting → SetsWell counts frame setting

sets_well : (tables : Tables) (irp : IrpRef) (packet : PacketValue) (devices : DevicesValue) (frame : Frame) → AreTables tables → IsPlanned tables irp packet devices frame → AllSetWell tables.counts frame
sets_well tables irp packet devices frame agree planned setting set =
    let by = sets_known tables irp packet devices frame planned setting set in
    record {
      known = known_counted tables frame setting agree by;
      marks = λ keeps.
          elim (cases_Bool (plans marks_location frame)) as (λ _. plans marks_location frame ≡ true) [
            | inl marks ↦ marks
            | inr unmarked ↦
                let watch : setting.routine.rule ≡ Watch = by.watches unmarked in
                let never : is_keeping setting.routine.rule ≡ false = ap is_keeping watch in
                absurd (cc)
          ];
    }

module _ (tables : Tables) (irp : IrpRef) (devices : DevicesValue) (old reached : PacketValue) (target : ℕ) (frames : List Frame) (agree : AreTables tables)
    (sound : IsSound tables.counts old) (prepared : is_nothing old.preparation ≡ false) (right : AreFrames tables irp devices old target frames) (passed : PassedDown old frames reached) where
  abbrev first : ℕ
  first = first_location old

  abbrev last : ℕ
  last = (last_frame frames).location

  two : 2 ≤ old.current
  two = sound.prepared prepared

  below_first : last ≤ first
  below_first = last_low frames first right.some right.locations

  all_well : AllByRecursion (AllSetWell tables.counts) frames
  all_well = all_map (IsPlanned tables irp old devices) (AllSetWell tables.counts) (λ frame planned. sets_well tables irp old devices frame agree planned) frames right.planned

  well_above : (number : ℕ) → AllSetWell tables.counts (last_frame (frames_in frames (number + 1)))
  well_above number = last_of (AllSetWell tables.counts) (frames_in frames (number + 1)) (λ setting none. absurd (cc)) (all_in (AllSetWell tables.counts) frames (number + 1) all_well)

  lowest : lowest_location old ≡ first
  lowest = cond-false _ _ _ prepared

  at_first : (setting : Setting) → (location_at reached first).setting ≡ Some setting → (location_at old first).setting ≡ Some setting
  at_first setting is =
      let used = passed.used first below_first (omega arith) in
      sym (ap (λ (location : Location). location.setting) used ∙ cond-true _ _ _ (eq-eqb first first refl)) ∙ is

  set_above : (number : ℕ) (setting : Setting) → last ≤ number → number < first → (location_at reached number).setting ≡ Some setting → set_at (last_frame (frames_in frames (number + 1))) ≡ Some setting
  set_above number setting from below is =
      let used = passed.used number from (omega arith) in
      let off : (number == first) ≡ false = ne_eqb number first (λ same. absurd (omega (arith, same, below))) in
      sym (ap (λ (location : Location). location.setting) used ∙ cond-false _ _ _ off) ∙ is

  known_from : (number : ℕ) (setting : Setting) → 1 ≤ number → (location_at reached number).setting ≡ Some setting → is_known tables.counts setting ≡ true
  known_from number setting some is =
      elim (cases_lt number last) as (λ _. is_known tables.counts setting ≡ true) [
        | inl low ↦ sound.routines number setting (sym (ap (λ (location : Location). location.setting) (passed.below number some low)) ∙ is)
        | inr from ↦ elim (cases_lt first number) as (λ _. is_known tables.counts setting ≡ true) [
          | inl high ↦ sound.routines number setting (sym (ap (λ (location : Location). location.setting) (passed.above number high)) ∙ is)
          | inr within ↦ elim (cases_eq number first) as (λ _. is_known tables.counts setting ≡ true) [
            | inl same ↦ sound.routines first setting (at_first setting (ap (λ given. (location_at reached given).setting) (sym same) ∙ is))
            | inr other ↦
                let below : number < first = omega (arith, within, other) in
                (well_above number setting (set_above number setting (omega (arith, from)) below is)).known
          ]
        ]
      ]

  known : (number : ℕ) (setting : Setting) → (location_at reached number).setting ≡ Some setting → is_known tables.counts setting ≡ true
  known zero setting is = known_from 1 setting (omega arith) is
  known (suc number) setting is = known_from (suc number) setting (omega arith) is

  keepers : (number : ℕ) (setting : Setting) → last ≤ number → number < size_of reached → (location_at reached number).setting ≡ Some setting → is_keeping setting.routine.rule ≡ true
      → (location_at reached (number + 1)).pending ≡ true
  keepers number setting from below is keeps =
      let top : number < size_of old = omega (arith, below, passed.size) in
      elim (cases_lt first number) as (λ _. (location_at reached (number + 1)).pending ≡ true) [
        | inl high ↦
            let up : first < number + 1 = omega arith in
            ap (λ (location : Location). location.pending) (passed.above (number + 1) up)
            ∙ sound.keepers number setting (omega (arith, lowest, high)) top (sym (ap (λ (location : Location). location.setting) (passed.above number high)) ∙ is) keeps
        | inr within ↦ elim (cases_eq number first) as (λ _. (location_at reached (number + 1)).pending ≡ true) [
          | inl same ↦
              let up : first < number + 1 = omega (arith, same) in
              let set : (location_at old number).setting ≡ Some setting =
              ap (λ given. (location_at old given).setting) same ∙ at_first setting (ap (λ given. (location_at reached given).setting) (sym same) ∙ is) in
              ap (λ (location : Location). location.pending) (passed.above (number + 1) up) ∙ sound.keepers number setting (omega (arith, lowest, same)) top set keeps
          | inr other ↦
              let low : number < first = omega (arith, within, other) in
              let marks = (well_above number setting (set_above number setting from low is)).marks keeps in
              let used = passed.used (number + 1) (omega (arith, from)) (omega (arith, low)) in
              let content = location_at old first in
              ap (λ (location : Location). location.pending) used
              ∙ ap (λ some. ((number + 1 == first) && content.pending) || some) (last_marks (frames_in frames (number + 1)) marks)
              ∙ or-true ((number + 1 == first) && content.pending)
        ]
      ]

  current : reached.current ≡ last
  current = ap (λ (value : PacketValue). value.current) passed.others

  devices_from : (number : ℕ) → last ≤ number → number ≤ size_of reached → is_some (location_at reached number).device ≡ true
  devices_from number from to =
      elim (cases_lt first number) as (λ _. is_some (location_at reached number).device ≡ true) [
        | inl high ↦
            let top : number ≤ size_of old = omega (arith, to, passed.size) in
            ap (λ (location : Location). is_some location.device) (passed.above number high) ∙ sound.devices number (omega (arith, high)) top
        | inr within ↦ ap (λ (location : Location). is_some location.device) (passed.used number from (omega (arith, within)))
      ]

  fit : IsFit tables.counts reached
  fit = record {
    few = omega (arith, passed.size, sound.few);
    placed = omega (arith, passed.lowest, current);
    within = omega (arith, current, below_first, two, passed.size, sound.within);
    devices = record { there = λ number from to. devices_from number (omega (arith, from, current)) to };
    routines = known;
    keepers = λ number setting from. keepers number setting (omega (arith, from, current));
  }

  -- a status changes nothing of it
  fit_with : (status : Status) (information : ℕ) → IsFit tables.counts (with_status reached status information)
  fit_with status information = record {
    few = fit.few;
    placed = fit.placed;
    within = fit.within;
    devices = record { there = fit.devices.there };
    routines = fit.routines;
    keepers = fit.keepers;
  }

  -- the packet as the last device holds it
  abbrev held_as : Option CancelId → Bool → PacketValue
  held_as cancel slot_held = record old {
    locations = reached.locations;
    current = last;
    preparation = Nothing;
    owner = Device (record { 0 = (last_frame frames).device });
    cancel_routine = cancel;
    slot_held = slot_held;
  }

  held_sound : (cancel : Option CancelId) (slot_held : Bool) → plans marks_location (last_frame frames) ≡ true
      → ((routine : CancelId) → cancel ≡ Some routine → routine.0 < tables.counts.cancel) → (slot_held ≡ true → cancel ≡ None) → IsSound tables.counts (held_as cancel slot_held)
  held_sound cancel slot_held marks there free =
      let content = location_at old first in
      let marked : (location_at reached last).pending ≡ true =
      ap (λ (location : Location). location.pending) (passed.used last (omega arith) below_first)
      ∙ ap (λ some. ((last == first) && content.pending) || some) (last_marks_here frames marks)
      ∙ or-true ((last == first) && content.pending) in
      record {
        some = omega (arith, fit.placed, fit.within);
        few = fit.few;
        placed = passed.lowest;
        within = omega (arith, fit.within, current);
        prepared = λ prepared. absurd (cc);
        marked = λ owned. marked;
        devices = devices_from;
        originator = λ owns. absurd (cc);
        routines = known;
        cancel = λ routine set. record { there = there routine set; held = refl; unskipped = refl };
        slots = λ is. record { held = refl; no_routine = free is; unprepared = refl };
        keepers = keepers;
      }

  -- the packet stood in no cancel slot when it was sent
  no_slot : old.slot_held ≡ false
  no_slot =
      elim (old.slot_held) as (λ given. old.slot_held ≡ given → given ≡ false) [
        | false ↦ λ is. refl
        | true ↦ λ is. let unprepared = (sound.slots is).unprepared in absurd (cc)
      ] refl

  marks_by : (plan : Plan) → (last_frame frames).plan ≡ Some plan → marks_location plan ≡ true → plans marks_location (last_frame frames) ≡ true
  marks_by plan is marks = ap (λ given. option_map_or marks_location given false) is ∙ marks

  held : (cancel : Option CancelId) → (last_frame frames).plan ≡ Some (Hold cancel) → IsSound tables.counts (record reached { owner = Device (record { 0 = (last_frame frames).device }); cancel_routine = cancel })
  held cancel plan =
      subst (λ (value : PacketValue). IsSound tables.counts (record value { owner = Device (record { 0 = (last_frame frames).device }); cancel_routine = cancel })) (sym passed.others)
      (held_sound cancel old.slot_held (marks_by (Hold cancel) plan refl)
      (λ routine set. cancel_counted tables irp old devices (last_frame frames) agree (last_has (IsPlanned tables irp old devices) frames right.some right.planned) routine (plan ∙ ap (λ given. Some (Hold given)) set))
      (λ is. let none : old.slot_held ≡ false = no_slot in absurd (cc)))

  held_in_slot : (last_frame frames).plan ≡ Some HoldSlot
      → IsSound tables.counts (record reached { owner = Device (record { 0 = (last_frame frames).device }); cancel_routine = None; slot_held = true })
  held_in_slot plan =
      subst (λ (value : PacketValue). IsSound tables.counts (record value { owner = Device (record { 0 = (last_frame frames).device }); cancel_routine = None; slot_held = true })) (sym passed.others)
      (held_sound None true (marks_by HoldSlot plan refl) (λ routine set. absurd (cc)) (λ is. refl))

  uncancelled : old.cancel_routine ≡ None → reached.cancel_routine ≡ None
  uncancelled none = ap (λ (value : PacketValue). value.cancel_routine) passed.others ∙ none

  unslotted : reached.slot_held ≡ false
  unslotted = ap (λ (value : PacketValue). value.slot_held) passed.others ∙ no_slot

  pub ends_sound : (plan : Option Plan) (asked : List Asking) (new : PacketValue) → old.cancel_routine ≡ None → (last_frame frames).plan ≡ plan → Ends irp (last_frame frames) reached asked new plan
      → IsSound tables.counts new
  ends_sound None asked new none is unwound = unwound_sound tables.counts irp (with_status reached invalid_device_request 0) asked new (fit_with invalid_device_request 0) unwound (uncancelled none) unslotted
  ends_sound (Some (Finish status information)) asked new none is unwound = unwound_sound tables.counts irp (with_status reached status information) asked new (fit_with status information) unwound (uncancelled none) unslotted
  ends_sound (Some (Hold cancel)) asked new none is ends = subst (IsSound tables.counts) (sym ends.1) (held cancel is)
  ends_sound (Some HoldSlot) asked new none is ends = subst (IsSound tables.counts) (sym ends.1) (held_in_slot is)
  ends_sound (Some Skip) asked new none is never = absurd never
  ends_sound (Some (Forward set)) asked new none is never = absurd never
  ends_sound (Some (ForwardPend set)) asked new none is never = absurd never

pub descent_sound : (tables : Tables) (irp : IrpRef) (devices : DevicesValue) (old : PacketValue) (target : ℕ) (asked : List Asked) (new : PacketValue) (status : Status) → AreTables tables
    → IsSound tables.counts old → is_nothing old.preparation ≡ false → old.cancel_routine ≡ None → Descended tables irp devices old target asked new status → IsSound tables.counts new
descent_sound tables irp devices old target asked new status agree sound prepared uncancelled descended =
    ends_sound tables irp devices old descended.reached target descended.frames agree sound prepared descended.right descended.passed
    (last_frame descended.frames).plan descended.unwinding new uncancelled refl descended.ended
