-- The standing facts of a packet, through each call.
use Rattle.std.proofs.Common.{◌≡◌, ℕ, zero, suc, ◌+◌, ◌-◌, ◌<◌, ◌≤◌, Bool, true, false, not, ◌&&◌, List, [], ◌∷◌, length, replicate, Option, Some, None, is_some, refl, ap, sym, ◌∙◌, subst, arith, ◌⊎◌, inl, inr}
use Rattle.std.specs.Prelude.{if◌then◌else◌, nat_le, slice_index_or}
use Rattle.std.specs.Option.{option_map_or}
use Rattle.std.proofs.lemmas.List.{length-set, length-replicate}
use Rattle.std.proofs.lemmas.Bool.{false≢true, true≢false, leb-false, ltb-false, cases_eq, cases_lt, and_cases}
use Rattle.std.proofs.lemmas.Option.{none-some, same_Some}
use Rattle.irp_types.specs.Limits.{most_locations}
use Rattle.irp_types.specs.Rules.{is_known}
use Rattle.irp_types.specs.Checks.{Check, first_failing, or_else}
use Rattle.irp_types.specs.Packet.{PacketValue, size_of, location_at, location_with, with_location, with_status, cleared, new_packet, is_nothing, is_filled, is_skipped, lower_check, major_check, location_check, skip_check, is_above_top, set_next_refusal, copy_to_next_refusal, skip_refusal, set_routine_refusal, mark_pending_refusal, after_set_next, after_copy, after_skip, after_set_routine, after_mark, after_reset}
use Rattle.irp_types.specs.Refusals.{has_ended, is_owned_by_device, leave_refusal, routine_refusal, cancel_refusal}
use Rattle.irp_types.specs.Standing.{lowest_location, own_location, IsSound}
use Rattle.irp_types.specs.declared.status.Status.{Status}
use Rattle.irp_types.specs.declared.names.CancelId.{CancelId}
use Rattle.irp_types.specs.declared.location.Location.{Location}
use Rattle.irp_types.specs.declared.location.Owner.{Owner}
use Rattle.irp_types.specs.declared.location.Owner.TheVariants.{Originator, Device, Ended}
use Rattle.irp_types.specs.declared.location.Preparation.{Preparation}
use Rattle.irp_types.specs.declared.location.Preparation.TheVariants.{Nothing, Filled, Skipped}
use Rattle.irp_types.specs.declared.routine.Known.{Known}
use Rattle.irp_types.specs.declared.routine.Setting.{Setting}
use Rattle.irp_types.specs.declared.refusal.Refusal.{Refusal}
use Rattle.irp_types.specs.declared.refusal.Refusal.TheVariants.{NoLocation, AfterSkip, NotPrepared, TooShort, NoRoutine, CancelRoutineSet, AlreadyCancelled}
use Rattle.irp_manager.proofs.Locations.{at_written, at_other, at_cleared}

-- a check that did not fail, and the others
pub passed : (fails : Bool) (refusal : Refusal) (others : List Check) → first_failing ((fails, refusal) ∷ others) ≡ None → (fails ≡ false) × (first_failing others ≡ None)
passed true refusal others none = absurd (none-some refusal (sym none))
passed false refusal others none = (refl, none)

-- the checks of two groups passed
pub both_passed : (one two : Option Refusal) → or_else one two ≡ None → (one ≡ None) × (two ≡ None)
both_passed None two none = (refl, none)
both_passed (Some refusal) two none = absurd (none-some refusal (sym none))

pub sound_new : (counts : Known) (size : ℕ) → 1 ≤ size → size ≤ most_locations → IsSound counts (new_packet size)
sound_new counts size some few =
    let count : length (replicate size cleared) ≡ size = length-replicate size cleared in
    let bare : (number : ℕ) → (location_at (new_packet size) number).setting ≡ None = λ number. ap (λ (location : Location). location.setting) (at_cleared size (number - 1)) in
    record {
      some = omega arith;
      few = omega arith;
      placed = omega arith;
      within = omega arith;
      prepared = λ no. absurd (true≢false no);
      marked = λ no. absurd (false≢true no);
      devices = λ number from to. absurd (omega arith);
      originator = λ _. ap (λ given. given + 1) (sym count);
      routines = λ number setting there. absurd (none-some setting (sym (bare number) ∙ there));
      cancel = λ routine there. absurd (none-some routine there);
      slots = λ is. absurd (false≢true is);
      keepers = λ number setting from below there keeps. absurd (none-some setting (sym (bare number) ∙ there));
    }

pub sound_with_status : (counts : Known) (packet : PacketValue) (status : Status) (information : ℕ) → IsSound counts packet → IsSound counts (with_status packet status information)
sound_with_status counts packet status information sound = record {
  some = sound.some;
  few = sound.few;
  placed = sound.placed;
  within = sound.within;
  prepared = sound.prepared;
  marked = sound.marked;
  devices = sound.devices;
  originator = sound.originator;
  routines = sound.routines;
  cancel = λ routine there. let cancellable = sound.cancel routine there in record { there = cancellable.there; held = cancellable.held; unskipped = cancellable.unskipped };
  slots = λ is. let kept = sound.slots is in record { held = kept.held; no_routine = kept.no_routine; unprepared = kept.unprepared };
  keepers = sound.keepers;
}

-- the owner's own location is the current one where it did not skip
pub pending_here : (counts : Known) (packet : PacketValue) → is_skipped packet.preparation ≡ false → IsSound counts packet
    → is_owned_by_device packet.owner ≡ true → (location_at packet packet.current).pending ≡ true
pending_here counts packet unskipped sound owned =
    subst (λ skipped. (location_at packet (if skipped then packet.current - 1 else packet.current)).pending ≡ true) unskipped (sound.marked owned)

-- the lowest location that counts is never above the current one
low : (packet : PacketValue) (number : ℕ) → packet.current ≤ number → lowest_location packet ≤ number
low packet number above = by packet.preparation refl
  where
    by : (preparation : Preparation) → packet.preparation ≡ preparation → (if is_nothing preparation then packet.current else packet.current - 1) ≤ number
    by Nothing is = above
    by Filled is = omega (arith, above)
    by Skipped is = omega (arith, above)

-- where its packet is used and stands in a location, the owner is a device
owned_here : (counts : Known) (packet : PacketValue) → IsSound counts packet → has_ended packet.owner ≡ false → packet.current ≤ size_of packet → is_owned_by_device packet.owner ≡ true
owned_here counts packet sound used within = by packet.owner refl used
  where
    by : (owner : Owner) → packet.owner ≡ owner → has_ended owner ≡ false → is_owned_by_device owner ≡ true
    by Originator is _ = let top = sound.originator is in absurd (omega (arith, top, within))
    by (Device device) is _ = refl
    by Ended is unended = absurd (true≢false unended)

-- another content of the next lower location, which the packet is prepared with: it keeps the standing facts where its
-- routine is there, and stands above none that may keep but under a mark
module _ (counts : Known) (packet : PacketValue) (location : Location) (two : 2 ≤ packet.current) (unskipped : is_skipped packet.preparation ≡ false) (unheld : packet.slot_held ≡ false) (sound : IsSound counts packet) where
  abbrev pub lowered : PacketValue
  lowered = record (with_location packet (packet.current - 1) location) { preparation = Filled }

  within : packet.current ≤ size_of packet + 1
  within = sound.within

  size : size_of lowered ≡ size_of packet
  size = length-set packet.locations (packet.current - 1 - 1) location

  above : (number : ℕ) → packet.current ≤ number → location_at lowered number ≡ location_at packet number
  above number from = at_other packet (packet.current - 1) number location (λ same. omega arith)

  here : location_at lowered (packet.current - 1) ≡ location
  here = at_written packet (packet.current - 1) location (omega arith) (omega (arith, within))

  pub sound_lowered : ((setting : Setting) → location.setting ≡ Some setting → is_known counts setting ≡ true)
      → ((setting : Setting) → location.setting ≡ Some setting → packet.current ≤ size_of packet → (location_at packet packet.current).pending ≡ true)
      → IsSound counts lowered
  sound_lowered known under = record {
    some = omega (arith, size, sound.some);
    few = omega (arith, size, sound.few);
    placed = sound.placed;
    within = omega (arith, size, sound.within);
    prepared = λ _. two;
    marked = λ owned. ap (λ (given : Location). given.pending) (above packet.current (omega arith)) ∙ pending_here counts packet unskipped sound owned;
    devices = λ number from to. ap (λ (given : Location). is_some given.device) (above number from) ∙ sound.devices number from (omega (arith, size, to));
    originator = λ is. sound.originator is ∙ ap (λ given. given + 1) (sym size);
    routines = λ number setting there. elim (cases_eq (number - 1) (packet.current - 1 - 1)) as (λ _. is_known counts setting ≡ true) [
      | inl same ↦ known setting (ap (λ (given : Location). given.setting) (sym here ∙ sym (ap (λ place. slice_index_or lowered.locations place cleared) same)) ∙ there)
      | inr other ↦ sound.routines number setting (ap (λ (given : Location). given.setting) (sym (at_other packet (packet.current - 1) number location other)) ∙ there)
    ];
    cancel = λ routine there. let cancellable = sound.cancel routine there in record { there = cancellable.there; held = cancellable.held; unskipped = refl };
    slots = λ is. absurd (false≢true (sym unheld ∙ is));
    keepers = λ number setting from below there keeps. elim (cases_eq number (packet.current - 1)) as (λ _. (location_at lowered (number + 1)).pending ≡ true) [
      | inl same ↦
          let up : number + 1 ≡ packet.current = omega (arith, same, two) in
          let set_here : location.setting ≡ Some setting = ap (λ (given : Location). given.setting) (sym here ∙ sym (ap (location_at lowered) same)) ∙ there in
          ap (λ given. (location_at lowered given).pending) up ∙ ap (λ (given : Location). given.pending) (above packet.current (omega arith)) ∙ under setting set_here (omega (arith, size, below, same, two))
      | inr other ↦
          let higher : packet.current ≤ number = omega (arith, from, other, two) in
          ap (λ (given : Location). given.pending) (above (number + 1) (omega (arith, higher)))
          ∙ sound.keepers number setting (low packet number higher) (omega (arith, size, below)) (ap (λ (given : Location). given.setting) (sym (above number higher)) ∙ there) keeps
    ];
  }

set_next_passed : (packet : PacketValue) (major : ℕ) → set_next_refusal packet major ≡ None → (is_skipped packet.preparation ≡ false) × (2 ≤ packet.current)
set_next_passed packet major none =
    let unskipped = passed (is_skipped packet.preparation) AfterSkip (lower_check packet ∷ major_check major ∷ []) none in
    let lower = passed (nat_le packet.current 1) TooShort (major_check major ∷ []) unskipped.1 in
    let two : 1 < packet.current = leb-false packet.current 1 lower.0 in
    (unskipped.0, omega arith)

pub sound_set_next : (counts : Known) (packet : PacketValue) (major word : ℕ) → packet.slot_held ≡ false → set_next_refusal packet major ≡ None
    → IsSound counts packet → IsSound counts (after_set_next packet major word)
sound_set_next counts packet major word unheld none sound =
    let checks = set_next_passed packet major none in
    sound_lowered counts packet (location_with major word) checks.1 checks.0 unheld sound
    (λ setting there. absurd (none-some setting there)) (λ setting there. absurd (none-some setting there))

-- what doesn't fail to be so is so
pub is_so : (fact : Bool) → not fact ≡ false → fact ≡ true
is_so true _ = refl
is_so false fails = absurd (true≢false fails)

-- a packet that passes the checks of a setting was filled
filled : (packet : PacketValue) (preparation : Preparation) → packet.preparation ≡ preparation
    → first_failing ((is_skipped preparation, AfterSkip) ∷ (is_nothing preparation, NotPrepared) ∷ []) ≡ None → preparation ≡ Filled
filled packet Nothing is none = absurd (none-some NotPrepared (sym none))
filled packet Filled is none = refl
filled packet Skipped is none = absurd (none-some AfterSkip (sym none))

pub sound_set_routine : (counts : Known) (packet : PacketValue) (setting : Setting) → has_ended packet.owner ≡ false → packet.slot_held ≡ false → routine_refusal counts packet setting ≡ None
    → IsSound counts packet → IsSound counts (after_set_routine packet setting)
sound_set_routine counts packet setting used unheld none sound =
    let checks = both_passed (set_routine_refusal packet) (first_failing ((not (is_known counts setting), NoRoutine) ∷ [])) none in
    let is : packet.preparation ≡ Filled = filled packet packet.preparation refl checks.0 in
    let unskipped : is_skipped packet.preparation ≡ false = ap is_skipped is in
    let two : 2 ≤ packet.current = sound.prepared (ap is_nothing is) in
    let unknown : not (is_known counts setting) ≡ false = (passed (not (is_known counts setting)) NoRoutine [] checks.1).0 in
    let there = is_so (is_known counts setting) unknown in
    let location : Location = record (location_at packet (packet.current - 1)) { setting = Some setting } in
    let same : lowered counts packet location two unskipped unheld sound ≡ after_set_routine packet setting = ap (λ given. record (after_set_routine packet setting) { preparation = given }) (sym is) in
    subst (IsSound counts) same
    (sound_lowered counts packet location two unskipped unheld sound
    (λ other set_there. subst (λ given. is_known counts given ≡ true) (same_Some setting other set_there) there)
    (λ other set_there within. pending_here counts packet unskipped sound (owned_here counts packet sound used within)))

-- where the checks of an own location passed, the packet stands in one, which was not given away
pub own_passed : (packet : PacketValue) (others : List Check) → first_failing (location_check packet ∷ skip_check packet ∷ others) ≡ None
    → (is_skipped packet.preparation ≡ false) × (packet.current ≤ size_of packet) × (first_failing others ≡ None)
own_passed packet others none =
    let above = passed (is_above_top packet && not (is_skipped packet.preparation)) NoLocation (skip_check packet ∷ others) none in
    let skipped = passed (is_skipped packet.preparation) AfterSkip others above.1 in
    let within : packet.current ≤ size_of packet = elim (and_cases (is_above_top packet) (not (is_skipped packet.preparation)) above.0) as (λ _. packet.current ≤ size_of packet) [
      | inl low ↦ ltb-false (size_of packet) packet.current low
      | inr gone ↦ absurd (true≢false (ap not (sym skipped.0) ∙ gone))
    ] in
    (skipped.0, within, skipped.1)

pub sound_copy : (counts : Known) (packet : PacketValue) → packet.slot_held ≡ false → copy_to_next_refusal packet ≡ None → IsSound counts packet → IsSound counts (after_copy packet None)
sound_copy counts packet unheld none sound =
    let checks = own_passed packet (lower_check packet ∷ []) none in
    let lower = passed (nat_le packet.current 1) TooShort [] checks.2 in
    let two : 1 < packet.current = leb-false packet.current 1 lower.0 in
    let here = location_at packet packet.current in
    sound_lowered counts packet (record (location_with here.major here.word) { setting = None }) (omega arith) checks.0 unheld sound
    (λ setting there. absurd (none-some setting there)) (λ setting there. absurd (none-some setting there))

pub sound_mark : (counts : Known) (packet : PacketValue) → mark_pending_refusal packet ≡ None → IsSound counts packet → IsSound counts (after_mark packet packet.current)
sound_mark counts packet none sound =
    let checks = own_passed packet [] none in
    let current = packet.current in
    let location : Location = record (location_at packet current) { pending = true } in
    let marked : PacketValue = after_mark packet current in
    let size : size_of marked ≡ size_of packet = length-set packet.locations (current - 1) location in
    let here : location_at marked current ≡ location = at_written packet current location sound.placed checks.1 in
    let at : (number : ℕ) → ((number - 1 ≡ current - 1) × (location_at marked number ≡ location)) ⊎ (location_at marked number ≡ location_at packet number) = λ number.
    elim (cases_eq (number - 1) (current - 1)) as (λ _. ((number - 1 ≡ current - 1) × (location_at marked number ≡ location)) ⊎ (location_at marked number ≡ location_at packet number)) [
      | inl same ↦ inl (same, ap (λ place. slice_index_or marked.locations place cleared) same ∙ here)
      | inr other ↦ inr (at_other packet current number location other)
    ] in
    let device : (number : ℕ) → (location_at marked number).device ≡ (location_at packet number).device = λ number.
    elim (at number) as (λ _. (location_at marked number).device ≡ (location_at packet number).device) [
      | inl same ↦ ap (λ (given : Location). given.device) same.1 ∙ ap (λ place. (slice_index_or packet.locations place cleared).device) (sym same.0)
      | inr other ↦ ap (λ (given : Location). given.device) other
    ] in
    let setting_of : (number : ℕ) → (location_at marked number).setting ≡ (location_at packet number).setting = λ number.
    elim (at number) as (λ _. (location_at marked number).setting ≡ (location_at packet number).setting) [
      | inl same ↦ ap (λ (given : Location). given.setting) same.1 ∙ ap (λ place. (slice_index_or packet.locations place cleared).setting) (sym same.0)
      | inr other ↦ ap (λ (given : Location). given.setting) other
    ] in
    let still : (number : ℕ) → (location_at packet number).pending ≡ true → (location_at marked number).pending ≡ true = λ number was.
    elim (at number) as (λ _. (location_at marked number).pending ≡ true) [
      | inl same ↦ ap (λ (given : Location). given.pending) same.1
      | inr other ↦ ap (λ (given : Location). given.pending) other ∙ was
    ] in
    record {
      some = omega (arith, size, sound.some);
      few = omega (arith, size, sound.few);
      placed = sound.placed;
      within = omega (arith, size, sound.within);
      prepared = sound.prepared;
      marked = λ owned. still (own_location packet) (sound.marked owned);
      devices = λ number from to. ap is_some (device number) ∙ sound.devices number from (omega (arith, size, to));
      originator = λ is. sound.originator is ∙ ap (λ given. given + 1) (sym size);
      routines = λ number setting there. sound.routines number setting (sym (setting_of number) ∙ there);
      cancel = λ routine there. let cancellable = sound.cancel routine there in record { there = cancellable.there; held = cancellable.held; unskipped = cancellable.unskipped };
      slots = λ is. let kept = sound.slots is in record { held = kept.held; no_routine = kept.no_routine; unprepared = kept.unprepared };
      keepers = λ number setting from below there keeps. still (number + 1) (sound.keepers number setting from (omega (arith, size, below)) (sym (setting_of number) ∙ there) keeps);
    }

-- a device gives its location to the next lower one
skipped : (counts : Known) (packet : PacketValue) → is_skipped packet.preparation ≡ false → packet.current ≤ size_of packet → packet.cancel_routine ≡ None → packet.slot_held ≡ false → is_owned_by_device packet.owner ≡ true
    → IsSound counts packet → IsSound counts (record packet { current = packet.current + 1; preparation = Skipped })
skipped counts packet unskipped within free unheld owned sound =
    let back : packet.current + 1 - 1 ≡ packet.current = omega arith in
    let placed : 1 ≤ packet.current = sound.placed in
    record {
      some = sound.some;
      few = sound.few;
      placed = omega arith;
      within = omega (arith, within);
      prepared = λ _. omega (arith, placed);
      marked = λ _. subst (λ number. (location_at packet number).pending ≡ true) (sym back) (pending_here counts packet unskipped sound owned);
      devices = λ number from to. sound.devices number (omega (arith, from)) to;
      originator = λ is. let top = sound.originator is in absurd (omega (arith, top, within));
      routines = sound.routines;
      cancel = λ routine there. absurd (none-some routine (sym free ∙ there));
      slots = λ is. absurd (false≢true (sym unheld ∙ is));
      keepers = λ number setting from below there keeps. sound.keepers number setting (low packet number (omega (arith, from, back))) below there keeps;
    }

-- nothing is set
nothing_set : (cancel : Option CancelId) → is_some cancel ≡ false → cancel ≡ None
nothing_set None _ = refl
nothing_set (Some routine) set = absurd (true≢false set)

pub sound_skip : (counts : Known) (packet : PacketValue) → has_ended packet.owner ≡ false → packet.slot_held ≡ false → leave_refusal packet ≡ None → IsSound counts packet → IsSound counts (after_skip packet)
sound_skip counts packet used unheld none sound =
    let checks = both_passed (skip_refusal packet) (first_failing ((is_some packet.cancel_routine, CancelRoutineSet) ∷ [])) none in
    let own = own_passed packet [] checks.0 in
    let free = nothing_set packet.cancel_routine (passed (is_some packet.cancel_routine) CancelRoutineSet [] checks.1).0 in
    let owned = owned_here counts packet sound used own.1 in
    by packet.preparation refl own.0 own.1 free owned
  where
    by : (preparation : Preparation) → packet.preparation ≡ preparation → is_skipped packet.preparation ≡ false → packet.current ≤ size_of packet → packet.cancel_routine ≡ None → is_owned_by_device packet.owner ≡ true
        → IsSound counts (record (if is_filled preparation then with_location packet (packet.current - 1) cleared else packet) { current = packet.current + 1; preparation = Skipped })
    by Nothing is unskipped within free owned = skipped counts packet unskipped within free unheld owned sound
    by Skipped is unskipped within free owned = skipped counts packet unskipped within free unheld owned sound
    by Filled is unskipped within free owned =
        let two : 2 ≤ packet.current = sound.prepared (ap is_nothing is) in
        let size : size_of (lowered counts packet cleared two unskipped unheld sound) ≡ size_of packet = length-set packet.locations (packet.current - 1 - 1) cleared in
        let bare = sound_lowered counts packet cleared two unskipped unheld sound (λ setting there. absurd (none-some setting there)) (λ setting there. absurd (none-some setting there)) in
        skipped counts (lowered counts packet cleared two unskipped unheld sound) refl (omega (arith, size, within)) free unheld owned bare

pub sound_set_cancel : (counts : Known) (packet : PacketValue) (cancel : Option CancelId) → has_ended packet.owner ≡ false → packet.slot_held ≡ false → cancel_refusal counts packet cancel ≡ None
    → IsSound counts packet → IsSound counts (record packet { cancel_routine = cancel })
sound_set_cancel counts packet cancel used unheld none sound =
    let twice : List Check = (is_some cancel && packet.cancel, AlreadyCancelled) ∷ [] in
    let unknown : Bool = option_map_or (λ (routine : CancelId). nat_le counts.cancel routine.0) cancel false in
    let own = own_passed packet ((unknown, NoRoutine) ∷ twice) none in
    let known = passed unknown NoRoutine twice own.2 in
    let owned = owned_here counts packet sound used own.1 in
    record {
      some = sound.some;
      few = sound.few;
      placed = sound.placed;
      within = sound.within;
      prepared = sound.prepared;
      marked = sound.marked;
      devices = sound.devices;
      originator = sound.originator;
      routines = sound.routines;
      cancel = λ routine there. record {
        there = leb-false counts.cancel routine.0 (ap (λ (given : Option CancelId). option_map_or (λ (number : CancelId). nat_le counts.cancel number.0) given false) (sym there) ∙ known.0);
        held = owned;
        unskipped = own.0;
      };
      slots = λ is. absurd (false≢true (sym unheld ∙ is));
      keepers = sound.keepers;
    }

pub sound_reset : (counts : Known) (packet : PacketValue) (status : Status) → IsSound counts packet → IsSound counts (after_reset packet status)
sound_reset counts packet status sound = sound_with_status counts (new_packet (size_of packet)) status 0 (sound_new counts (size_of packet) sound.some sound.few)

-- a packet that its device owns and did not skip stands in a location: the device's own, which is marked
stands_here : (counts : Known) (packet : PacketValue) → IsSound counts packet → is_skipped packet.preparation ≡ false → is_owned_by_device packet.owner ≡ true → packet.current ≤ size_of packet
stands_here counts packet sound unskipped held =
    let marked = pending_here counts packet unskipped sound held in
    let placed : 1 ≤ packet.current = sound.placed in
    elim (cases_lt (size_of packet) packet.current) as (λ _. packet.current ≤ size_of packet) [
      | inl above ↦
          let bare : location_at packet packet.current ≡ cleared = past packet.locations (packet.current - 1) (omega (arith, above, placed)) in
          absurd (false≢true (sym (ap (λ (location : Location). location.pending) bare) ∙ marked))
      | inr within ↦ within
    ]
  where
    past : (locations : List Location) (place : ℕ) → length locations ≤ place → slice_index_or locations place cleared ≡ cleared
    past [] place far = refl
    past (location ∷ others) zero far = absurd (omega arith)
    past (location ∷ others) (suc place) far = past others place (omega arith)

-- a packet with a cancel routine stands in a location
pub cancellable_here : (counts : Known) (packet : PacketValue) (routine : CancelId) → IsSound counts packet → packet.cancel_routine ≡ Some routine → packet.current ≤ size_of packet
cancellable_here counts packet routine sound there =
    let cancellable = sound.cancel routine there in
    stands_here counts packet sound cancellable.unskipped cancellable.held

-- nothing was skipped where nothing was prepared
unprepared_unskipped : (preparation : Preparation) → is_nothing preparation ≡ true → is_skipped preparation ≡ false
unprepared_unskipped Nothing is = refl
unprepared_unskipped Filled is = refl
unprepared_unskipped Skipped is = absurd (false≢true is)

-- so does one in a cancel slot
pub held_here : (counts : Known) (packet : PacketValue) → IsSound counts packet → packet.slot_held ≡ true → packet.current ≤ size_of packet
held_here counts packet sound is =
    let held = sound.slots is in
    stands_here counts packet sound (unprepared_unskipped packet.preparation held.unprepared) held.held
