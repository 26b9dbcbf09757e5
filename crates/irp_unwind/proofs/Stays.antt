-- A reply other than PENDING leaves the packet with nobody below who sent it.
use Rattle.std.proofs.Common.{◌≡◌, ℕ, ◌+◌, ◌≤◌, Bool, true, false, not, ◌&&◌, cond, ◌||◌, ◌==◌, List, [], ◌∷◌, refl, sym, ◌∙◌, ap, subst, arith, Option, Some, None, is_none, inl, inr}
use Rattle.std.specs.List.{list_any, find, AllByRecursion}
use Rattle.std.specs.Option.{option_map_or}
use Rattle.std.proofs.lemmas.Bool.{cond-true, cond-false, cases_Bool, cases_lt, ne_eqb, and_parts}
use Rattle.irp_types.specs.Status.{pending, invalid_device_request}
use Rattle.irp_types.specs.Rules.{is_allowed, obeys}
use Rattle.irp_types.specs.Packet.{PacketValue, size_of, with_status}
use Rattle.irp_types.specs.Unwinding.{Asking, place_of, is_met_at, stop_of, IsAskedRight, Unwound}
use Rattle.irp_types.specs.Stacks.{DevicesValue}
use Rattle.irp_types.specs.State.{Tables}
use Rattle.irp_types.specs.Descent.{Frame, plans, marks_location, first_location, no_frame, last_frame, frames_in, IsPlanned, PassedDown, Ends, final_status, Descended, StaysUp}
use Rattle.irp_types.specs.declared.location.Location.{Location}
use Rattle.irp_types.specs.declared.names.IrpRef.{IrpRef}
use Rattle.irp_types.specs.declared.status.Status.{Status}
use Rattle.irp_types.specs.declared.routine.RoutineId.{RoutineId}
use Rattle.irp_types.specs.declared.routine.Rule.{Rule}
use Rattle.irp_types.specs.declared.routine.Rule.TheVariants.{Watch}
use Rattle.irp_types.specs.declared.routine.Setting.{Setting}
use Rattle.irp_types.specs.declared.shown.Shown.{Shown}
use Rattle.irp_types.specs.declared.answer.Answer.{Answer}
use Rattle.irp_types.specs.declared.answer.Plan.{Plan}
use Rattle.irp_types.specs.declared.answer.Plan.TheVariants.{Finish, Hold, HoldSlot, Skip, Forward, ForwardPend}
use Rattle.irp_types.specs.declared.asked.Asked.{Asked}
use Rattle.irp_unwind.proofs.Lists.{above_start, all_map, all_both}
use Rattle.irp_unwind.proofs.Frames.{set_at, last_in}
use Rattle.irp_unwind.proofs.SetKnown.{sets_known}

-- what holds of each frame holds of those of a location
pub all_in : (P : Frame → Type 0) (frames : List Frame) (number : ℕ) → AllByRecursion P frames → AllByRecursion P (frames_in frames number)
all_in P [] number all = tt
all_in P (frame ∷ frames) number all = elim (frame.location == number) as (λ here. AllByRecursion P (cond here (frame ∷ frames_in frames number) (frames_in frames number))) [
  | true ↦ (all.0, all_in P frames number all.1)
  | false ↦ all_in P frames number all.1
]

pub last_of : (P : Frame → Type 0) (frames : List Frame) → P no_frame → AllByRecursion P frames → P (last_frame frames)
last_of P [] none all = none
last_of P (frame ∷ frames) none all = last_in P frame frames all

-- it sets routines that look on alone
abbrev OnlyWatches : Frame → Type 0
OnlyWatches frame = (setting : Setting) → set_at frame ≡ Some setting → setting.routine.rule ≡ Watch

none_marks : (frames : List Frame) → list_any (plans marks_location) frames ≡ false → AllByRecursion (λ frame. plans marks_location frame ≡ false) frames
none_marks [] none = tt
none_marks (frame ∷ frames) none = let parts = or_parts (plans marks_location frame) (list_any (plans marks_location) frames) none in (parts.0, none_marks frames parts.1)
  where
    or_parts : (one two : Bool) → (one || two) ≡ false → (one ≡ false) × (two ≡ false)
    or_parts true two none = absurd (cc)
    or_parts false two none = (refl, none)

kept_above : (lowest size : ℕ) (asked : List Asking) → AllByRecursion (λ asking. asking.answer.keep ≡ true → lowest ≤ place_of asking) asked → lowest ≤ size
    → lowest ≤ option_map_or place_of (find (λ asking. asking.answer.keep) asked) size
kept_above lowest size [] all below = below
kept_above lowest size (asking ∷ asked) all below =
    elim (asking.answer.keep) as (λ keep. asking.answer.keep ≡ keep → lowest ≤ option_map_or place_of (cond keep (Some asking) (find (λ other. other.answer.keep) asked)) size) [
      | true ↦ λ keeps. all.0 keeps
      | false ↦ λ goes_on. kept_above lowest size asked all.1 below
    ] refl

-- a routine of rule Watch never keeps
watch_continues : (rule : Rule) (shown : Shown) (answer : Answer) → rule ≡ Watch → is_allowed rule shown answer ≡ true → answer.keep ≡ false
watch_continues rule shown answer is allowed =
    let obeyed : obeys rule shown answer ≡ true = (and_parts _ _ (and_parts _ _ allowed).1).1 in
    let watched : (not answer.keep && is_none answer.replacement) ≡ true = subst (λ given. obeys given shown answer ≡ true) is obeyed in
    unkept answer.keep (and_parts _ _ watched).0
  where
    unkept : (keep : Bool) → not keep ≡ true → keep ≡ false
    unkept true is = absurd (cc)
    unkept false is = refl

module _ (tables : Tables) (irp : IrpRef) (devices : DevicesValue) (packet reached : PacketValue) (frames : List Frame) (planned : AllByRecursion (IsPlanned tables irp packet devices) frames)
    (unmarked : list_any (plans marks_location) frames ≡ false) (passed : PassedDown packet frames reached) (high : packet.current ≤ size_of packet + 1) where
  watches : AllByRecursion OnlyWatches frames
  watches = all_map (λ frame. IsPlanned tables irp packet devices frame × (plans marks_location frame ≡ false)) OnlyWatches
      (λ frame both setting set. (sets_known tables irp packet devices frame both.0 setting set).watches both.1) frames
      (all_both (IsPlanned tables irp packet devices) (λ frame. plans marks_location frame ≡ false) frames planned (none_marks frames unmarked))

  -- below the first location nobody keeps the packet
  keeps_above : (status : Status) (information : ℕ) (asked : List Asking) (asking : Asking) → (last_frame frames).location ≤ place_of asking → IsAskedRight irp (with_status reached status information) asked asking
      → asking.answer.keep ≡ true → first_location packet ≤ place_of asking
  keeps_above status information asked asking from right keep =
      elim (cases_lt (place_of asking) (first_location packet)) as (λ _. first_location packet ≤ place_of asking) [
        | inr up ↦ up
        | inl down ↦
            let setting = right.0 in
            let used = passed.used (place_of asking) from (omega arith) in
            let off : (place_of asking == first_location packet) ≡ false = ne_eqb (place_of asking) (first_location packet) (λ same. absurd (omega (arith, same, down))) in
            let last = last_frame (frames_in frames (place_of asking + 1)) in
            let set : set_at last ≡ Some setting = sym (ap (λ (location : Location). location.setting) used ∙ cond-false _ _ _ off) ∙ right.1 in
            let only : OnlyWatches last = last_of OnlyWatches (frames_in frames (place_of asking + 1)) (λ given none. absurd (cc)) (all_in OnlyWatches frames (place_of asking + 1) watches) in
            let rule : asking.id.rule ≡ Watch = ap (λ (id : RoutineId). id.rule) right.2 ∙ only setting set in
            let continues : asking.answer.keep ≡ false = watch_continues asking.id.rule asking.shown asking.answer rule right.4 in
            absurd (cc)
      ]

  unwound_above : (status : Status) (information : ℕ) (asked : List Asking) (new : PacketValue) → Unwound irp (with_status reached status information) asked new → packet.current ≤ new.current
  unwound_above status information asked new unwound =
      let finished = with_status reached status information in
      let current : finished.current ≡ (last_frame frames).location = ap (λ (value : PacketValue). value.current) passed.others in
      let above : AllByRecursion (λ asking. finished.current ≤ place_of asking) asked = above_start place_of (is_met_at finished asked) finished.current _ asked unwound.asked_right.places in
      let all : AllByRecursion (λ asking. asking.answer.keep ≡ true → first_location packet ≤ place_of asking) asked =
      all_map (λ asking. (finished.current ≤ place_of asking) × IsAskedRight irp finished asked asking) (λ asking. asking.answer.keep ≡ true → first_location packet ≤ place_of asking)
      (λ asking both. keeps_above status information asked asking (omega (arith, both.0, current)) both.1) asked
      (all_both (λ asking. finished.current ≤ place_of asking) (IsAskedRight irp finished asked) asked above unwound.asked_right.right) in
      let size : size_of finished ≡ size_of packet = passed.size in
      let stop : first_location packet ≤ stop_of finished asked = kept_above (first_location packet) (size_of finished) asked all (omega arith) in
      let is : new.current ≡ stop_of finished asked + 1 = ap (λ (value : PacketValue). value.current) unwound.left in
      omega arith

  ends_above : (last : Frame) (plan : Option Plan) (asked : List Asking) (new : PacketValue) → Ends irp last reached asked new plan → (final_status plan ≡ pending → ⊥) → packet.current ≤ new.current
  ends_above last None asked new unwound other = unwound_above invalid_device_request 0 asked new unwound
  ends_above last (Some (Finish status information)) asked new unwound other = unwound_above status information asked new unwound
  ends_above last (Some (Hold cancel)) asked new unwound other = absurd (other refl)
  ends_above last (Some HoldSlot) asked new unwound other = absurd (other refl)
  ends_above last (Some Skip) asked new unwound other = absurd unwound
  ends_above last (Some (Forward set)) asked new unwound other = absurd unwound
  ends_above last (Some (ForwardPend set)) asked new unwound other = absurd unwound

pub stays_up : (tables : Tables) (irp : IrpRef) (devices : DevicesValue) (old new : PacketValue) (target : ℕ) (asked : List Asked) (status : Status) → old.current ≤ size_of old + 1
    → Descended tables irp devices old target asked new status → StaysUp old new status
stays_up tables irp devices old new target asked status high descended other =
    let last = last_frame descended.frames in
    elim (cases_Bool (list_any (plans marks_location) descended.frames)) as (λ _. old.current ≤ new.current) [
      | inl some ↦ absurd (other (descended.replied ∙ cond-true _ _ _ some))
      | inr none ↦
          let is : status ≡ final_status last.plan = descended.replied ∙ cond-false _ _ _ none in
          ends_above tables irp devices old descended.reached descended.frames descended.right.planned none descended.passed high last last.plan descended.unwinding new descended.ended
          (λ final. other (is ∙ final))
    ]
