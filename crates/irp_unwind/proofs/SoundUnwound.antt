-- What unwinding leaves has the standing facts, where the packet had them on its way.
use Rattle.std.proofs.Common.{◌≡◌, ℕ, ◌+◌, ◌-◌, ◌<◌, ◌≤◌, zero, suc, true, false, not, ◌&&◌, cond, is_some, is_none, List, [], ◌∷◌, ◌++◌, drop, get_or, replicate, refl, sym, ◌∙◌, ap, subst, arith, Some, None, inl, inr}
use Rattle.std.specs.List.{AllByRecursion}
use Rattle.std.specs.Option.{option_map_or}
use Rattle.std.proofs.lemmas.Bool.{cases_lt, and_parts}
use Rattle.std.proofs.lemmas.List.{get_or_past}
use Rattle.irp_types.specs.Rules.{is_allowed, is_known}
use Rattle.irp_types.specs.Packet.{PacketValue, size_of, location_at, cleared}
use Rattle.irp_types.specs.Unwinding.{Asking, place_of, is_met_at, keeper_of, stop_of, device_above, owner_from, owner_after, IsAskedRight, unwound_packet, Unwound}
use Rattle.irp_types.specs.Refusals.{is_owned_by_device}
use Rattle.irp_types.specs.Standing.{is_keeping, IsSound}
use Rattle.irp_types.specs.declared.names.IrpRef.{IrpRef}
use Rattle.irp_types.specs.declared.names.DeviceId.{DeviceId}
use Rattle.irp_types.specs.declared.location.Location.{Location}
use Rattle.irp_types.specs.declared.location.Owner.TheVariants.{Originator, Ended}
use Rattle.irp_types.specs.declared.routine.Rule.{Rule}
use Rattle.irp_types.specs.declared.routine.Rule.TheVariants.{Watch, Change, Keeper, KeepOnError, Free}
use Rattle.irp_types.specs.declared.routine.RoutineId.{RoutineId}
use Rattle.irp_types.specs.declared.routine.Known.{Known}
use Rattle.irp_types.specs.declared.routine.Setting.{Setting}
use Rattle.irp_types.specs.declared.shown.Shown.{Shown}
use Rattle.irp_types.specs.declared.answer.Answer.{Answer}
use Rattle.irp_unwind.proofs.Fit.{IsFit}
use Rattle.irp_unwind.proofs.Lists.{above_start}
use Rattle.irp_unwind.proofs.Turns.{find_above}
use Rattle.irp_unwind.proofs.Bared.{get_or_bared, length_bared}

-- an answer that keeps is one of a rule that may keep
keeping : (rule : Rule) (shown : Shown) (answer : Answer) → is_allowed rule shown answer ≡ true → answer.keep ≡ true → is_keeping rule ≡ true
keeping Watch shown answer allowed keep =
    let obeyed : (not answer.keep && is_none answer.replacement) ≡ true = (and_parts _ _ (and_parts _ _ allowed).1).1 in
    let free : not answer.keep ≡ true = (and_parts _ _ obeyed).0 in
    let bound : not answer.keep ≡ false = ap not keep in
    absurd (cc)
keeping Change shown answer allowed keep =
    let free : not answer.keep ≡ true = (and_parts _ _ (and_parts _ _ allowed).1).1 in
    let bound : not answer.keep ≡ false = ap not keep in
    absurd (cc)
keeping Keeper shown answer allowed keep = refl
keeping KeepOnError shown answer allowed keep = refl
keeping Free shown answer allowed keep = refl

-- what is found has what each item has, and passes the test
pub record IsFound (irp : IrpRef) (packet : PacketValue) (asked : List Asking) (keeper : Asking) : Type 0 where
  pub right : IsAskedRight irp packet asked keeper
  pub above : packet.current ≤ place_of keeper
  pub keeps : keeper.answer.keep ≡ true

found : (irp : IrpRef) (packet : PacketValue) (asked among : List Asking) (keeper : Asking) → AllByRecursion (IsAskedRight irp packet asked) among
    → AllByRecursion (λ asking. packet.current ≤ place_of asking) among → keeper_of among ≡ Some keeper → IsFound irp packet asked keeper
found irp packet asked [] keeper right above is = absurd (cc)
found irp packet asked (first ∷ others) keeper right above is =
    elim (first.answer.keep) as (λ keep. first.answer.keep ≡ keep → cond keep (Some first) (keeper_of others) ≡ Some keeper → IsFound irp packet asked keeper) [
      | true ↦ λ keeps here.
          let same : first ≡ keeper = cc in
          subst (IsFound irp packet asked) same (record { right = right.0; above = above.0; keeps = keeps })
      | false ↦ λ goes_on later. found irp packet asked others keeper right.1 above.1 later
    ] refl is

get_or_cleared : {X : Type 0} (count : ℕ) (a : X) (others : List X) (place : ℕ) (default : X) → place < count → get_or (replicate count a ++ others) place default ≡ a
get_or_cleared zero a others place default within = absurd (omega arith)
get_or_cleared (suc count) a others zero default within = refl
get_or_cleared (suc count) a others (suc place) default within = get_or_cleared count a others place default (omega arith)

module _ (counts : Known) (irp : IrpRef) (old : PacketValue) (asked : List Asking) (new : PacketValue) (fit : IsFit counts old) (unwound : Unwound irp old asked new) where
  abbrev stop : ℕ
  stop = stop_of old asked

  abbrev left : PacketValue
  left = unwound_packet old asked

  starts : AllByRecursion (λ asking. old.current ≤ place_of asking) asked
  starts = above_start place_of (is_met_at old asked) old.current _ asked unwound.asked_right.places

  above_current : old.current ≤ stop
  above_current = find_above old.current (size_of old) asked starts fit.within

  -- a location that names a routine is one of the packet
  placed : (number : ℕ) (setting : Setting) → 1 ≤ number → (location_at old number).setting ≡ Some setting → number ≤ size_of old
  placed number setting some is =
      elim (cases_lt (size_of old) number) as (λ _. number ≤ size_of old) [
        | inr low ↦ omega arith
        | inl high ↦
            let past : size_of old ≤ number - 1 = omega (arith, high) in
            let none : (location_at old number).setting ≡ None = ap (λ (location : Location). location.setting) (get_or_past old.locations (number - 1) cleared past) in
            absurd (cc)
      ]

  -- who kept the packet, if anybody did
  pub record IsKept (keeper : Asking) : Type 0 where
    pub at : stop ≡ place_of keeper
    pub found : IsFound irp old asked keeper

  kept : (keeper : Asking) → keeper_of asked ≡ Some keeper → IsKept keeper
  kept keeper is = record {
    at = ap (λ given. option_map_or place_of given (size_of old)) is;
    found = found irp old asked asked keeper unwound.asked_right.right starts is;
  }

  below_top : stop ≤ size_of old
  below_top =
      elim (keeper_of asked) as (λ given. keeper_of asked ≡ given → stop ≤ size_of old) [
        | None ↦ λ is. let top : stop ≡ size_of old = ap (λ given. option_map_or place_of given (size_of old)) is in omega (arith, top)
        | Some keeper ↦ λ is.
            let by = kept keeper is in
            let setting = by.found.right.0 in
            let within = placed (place_of keeper) setting (omega (arith, by.found.above, fit.placed)) by.found.right.1 in
            omega (arith, by.at, within)
      ] refl

  size : size_of left ≡ size_of old
  size = length_bared stop cleared old.locations below_top

  -- above the stop all is as before, and below it cleared
  same : (number : ℕ) → stop < number → location_at left number ≡ location_at old number
  same number above = get_or_bared stop cleared old.locations (number - 1) cleared (omega arith) below_top

  bare : (number : ℕ) → number ≤ stop → location_at left number ≡ cleared
  bare number low = get_or_cleared stop cleared (drop stop old.locations) (number - 1) cleared (omega (arith, above_current, fit.placed))

  -- a device above the stop is one of the packet
  device_there : (device : DeviceId) → device_above old stop ≡ Some device → stop < size_of old
  device_there device is =
      elim (cases_lt stop (size_of old)) as (λ _. stop < size_of old) [
        | inl low ↦ low
        | inr high ↦
            let past : size_of old ≤ (stop + 1) - 1 = omega (arith, high) in
            let none : device_above old stop ≡ None = ap (λ (location : Location). location.device) (get_or_past old.locations ((stop + 1) - 1) cleared past) in
            absurd (cc)
      ]

  marked : is_owned_by_device (owner_after old asked) ≡ true → (location_at left (stop + 1)).pending ≡ true
  marked owned =
      elim (keeper_of asked) as (λ given. keeper_of asked ≡ given → is_owned_by_device (cond (is_some given) (owner_from (device_above old stop)) Ended) ≡ true → (location_at left (stop + 1)).pending ≡ true) [
        | None ↦ λ is nobody. absurd (cc)
        | Some keeper ↦ λ is by_device.
            let by = kept keeper is in
            let setting = by.found.right.0 in
            elim (device_above old stop) as (λ given. device_above old stop ≡ given → is_owned_by_device (owner_from given) ≡ true → (location_at left (stop + 1)).pending ≡ true) [
              | None ↦ λ none originator. absurd (cc)
              | Some device ↦ λ there device_owns.
                  let low : stop < size_of old = device_there device there in
                  let up : stop < stop + 1 = omega arith in
                  let set : (location_at old stop).setting ≡ Some setting = ap (λ number. (location_at old number).setting) by.at ∙ by.found.right.1 in
                  let rule : keeper.id.rule ≡ setting.routine.rule = ap (λ (id : RoutineId). id.rule) by.found.right.2 in
                  let keeps : is_keeping setting.routine.rule ≡ true = ap is_keeping (sym rule) ∙ keeping keeper.id.rule keeper.shown keeper.answer by.found.right.4 by.found.keeps in
                  ap (λ (location : Location). location.pending) (same (stop + 1) up) ∙ fit.keepers stop setting above_current low set keeps
            ] refl by_device
      ] refl owned

  devices : (number : ℕ) → stop + 1 ≤ number → number ≤ size_of left → is_some (location_at left number).device ≡ true
  devices number from to =
      let top : number ≤ size_of old = omega (arith, size) in
      let current : old.current ≤ number = omega (arith, above_current) in
      ap (λ (location : Location). is_some location.device) (same number (omega arith)) ∙ fit.devices.there number current top

  originator : owner_after old asked ≡ Originator → stop + 1 ≡ size_of left + 1
  originator owns =
      elim (keeper_of asked) as (λ given. cond (is_some given) (owner_from (device_above old stop)) Ended ≡ Originator → stop + 1 ≡ size_of left + 1) [
        | None ↦ λ nobody. absurd (cc)
        | Some keeper ↦ λ is.
            elim (device_above old stop) as (λ given. device_above old stop ≡ given → owner_from given ≡ Originator → stop + 1 ≡ size_of left + 1) [
              | Some device ↦ λ there device_owns. absurd (cc)
              | None ↦ λ none originator_owns.
                  elim (cases_lt stop (size_of old)) as (λ _. stop + 1 ≡ size_of left + 1) [
                    | inl low ↦
                        let there : is_some (device_above old stop) ≡ true = fit.devices.there (stop + 1) (omega (arith, above_current)) (omega arith) in
                        let nowhere : is_some (device_above old stop) ≡ false = ap is_some none in
                        absurd (cc)
                    | inr high ↦ omega (arith, high, below_top, size)
                  ]
            ] refl is
      ] owns

  routines : (number : ℕ) (setting : Setting) → (location_at left number).setting ≡ Some setting → is_known counts setting ≡ true
  routines number setting is =
      elim (cases_lt stop number) as (λ _. is_known counts setting ≡ true) [
        | inl above ↦ fit.routines number setting (sym (ap (λ (location : Location). location.setting) (same number above)) ∙ is)
        | inr low ↦
            let none : (location_at left number).setting ≡ None = ap (λ (location : Location). location.setting) (bare number (omega (arith, low))) in
            absurd (cc)
      ]

  keepers : (number : ℕ) (setting : Setting) → stop + 1 ≤ number → number < size_of left → (location_at left number).setting ≡ Some setting → is_keeping setting.routine.rule ≡ true
      → (location_at left (number + 1)).pending ≡ true
  keepers number setting from below is keeps =
      let here : stop < number = omega arith in
      let next : stop < number + 1 = omega arith in
      let top : number < size_of old = omega (arith, size) in
      let set : (location_at old number).setting ≡ Some setting = sym (ap (λ (location : Location). location.setting) (same number here)) ∙ is in
      ap (λ (location : Location). location.pending) (same (number + 1) next) ∙ fit.keepers number setting (omega (arith, above_current)) top set keeps

  pub unwound_sound : old.cancel_routine ≡ None → old.slot_held ≡ false → IsSound counts new
  unwound_sound uncancelled unslotted = subst (IsSound counts) (sym unwound.left) (record {
    some = omega (arith, size, fit.placed, fit.within);
    few = omega (arith, size, fit.few);
    placed = omega arith;
    within = omega (arith, size, below_top);
    prepared = λ prepared. absurd (cc);
    marked = marked;
    devices = devices;
    originator = originator;
    routines = routines;
    cancel = λ routine set. let none : old.cancel_routine ≡ None = uncancelled in absurd (cc);
    slots = λ is. let none : old.slot_held ≡ false = unslotted in absurd (cc);
    keepers = keepers;
  })
