-- No call asks more than the devices and locations that it may come to.
use Rattle.std.proofs.Common.{◌≡◌, ℕ, ◌+◌, ◌-◌, ◌≤◌, Bool, true, false, cond, List, [], ◌∷◌, length, map, filter, take, reverse, Option, Some, None, MatchOption, refl, sym, ◌∙◌, ap, subst, arith, inl, inr}
use Rattle.std.specs.Prelude.{◌==◌, unwrap_or}
use Rattle.std.specs.List.{position, AllByRecursion}
use Rattle.std.specs.Option.{option_map_or}
use Rattle.std.proofs.lemmas.Bool.{cases_lt}
use Rattle.std.proofs.lemmas.List.{get_or_past, length-map, length-take, length-reverse, length-append}
use Rattle.std.proofs.lemmas.List.Sums.{length-filter, count_by-le-length}
use Rattle.std.proofs.lemmas.List.FromFn.{length-range_with_len}
use Rattle.irp_types.specs.Status.{cancelled, invalid_device_request}
use Rattle.irp_types.specs.Packet.{PacketValue, size_of, location_at, cleared, with_status, after_take}
use Rattle.irp_types.specs.Limits.{most_locations}
use Rattle.irp_types.specs.Stacks.{DevicesValue, stack_of, depth_of, stack_size_of, AreStacks}
use Rattle.irp_types.specs.Unwinding.{Asking, as_asked, place_of, keeper_of, stop_of, from_to, is_met_at, IsAskedRight, AreAsked}
use Rattle.irp_types.specs.State.{StateValue, Fixed, Tables, packet_of}
use Rattle.irp_types.specs.Descent.{Frame, no_frame, last_frame, first_location, plans, is_copying, dispatch_at, shown_to, as_question, question_at, questions_of, devices_down, AreFrames, Ends, Descended}
use Rattle.irp_types.specs.Refusals.{first_refusal}
use Rattle.irp_types.specs.Standing.{StandingFacts}
use Rattle.irp_types.specs.Steps.{Unasked, Completes, after_cancel, Follows, Cancels, Effect, Step}
use Rattle.irp_types.specs.declared.status.Status.{Status}
use Rattle.irp_types.specs.declared.names.IrpRef.{IrpRef}
use Rattle.irp_types.specs.declared.names.DispatchId.{DispatchId}
use Rattle.irp_types.specs.declared.names.CancelId.{CancelId}
use Rattle.irp_types.specs.declared.location.Location.{Location}
use Rattle.irp_types.specs.declared.routine.Known.{Known}
use Rattle.irp_types.specs.declared.routine.Setting.{Setting}
use Rattle.irp_types.specs.declared.shown.Shown.{Shown}
use Rattle.irp_types.specs.declared.answer.CancelAnswer.{CancelAnswer}
use Rattle.irp_types.specs.declared.answer.CancelAnswer.TheVariants.{Finish as FinishCancel, Leave}
use Rattle.irp_types.specs.declared.answer.Plan.{Plan}
use Rattle.irp_types.specs.declared.answer.Plan.TheVariants.{Finish, Hold, HoldSlot, Skip, Forward, ForwardPend}
use Rattle.irp_types.specs.declared.asked.Asked.{Asked}
use Rattle.irp_types.specs.Calls.{Call}
use Rattle.irp_types.specs.declared.call.Call.TheVariants.{CreateDevice, Attach, Detach, Delete, Allocate, Free, Reuse, SetNext, CopyToNext, Skip as SkipCall, SetRoutine, MarkPending, CallDriver, Complete, FinishTaken, SetCancelRoutine, Cancel, Look}
use Rattle.irp_types.specs.declared.refusal.Refusal.{Refusal}
use Rattle.irp_types.specs.declared.reply.Reply.{Reply}
use Rattle.irp_types.specs.declared.reply.Reply.TheVariants.{Refused}
use Rattle.irp_unwind.proofs.Lists.{all_by_index}
use Rattle.irp_unwind.proofs.Frames.{last_has}
use Rattle.irp_manager.specs.Slots.{Slots}
use Rattle.irp_manager.specs.ManagerStates.{state_of, fixed_with, most_asked, Stepped}
use Rattle.irp_unwind.specs.Descents.{can_ask_down}
use Rattle.irp_manager.specs.Rooms.{can_ask}
use Rattle.irp_manager.specs.declared.manager_state.ManagerState.{ManagerState}
use Rattle.irp_manager.proofs.Named.{sound_named}

-- a location that has a routine is one of the packet's
routine_within : (packet : PacketValue) (number : ℕ) (setting : Setting) → (location_at packet number).setting ≡ Some setting → number ≤ size_of packet
routine_within packet number setting has =
    elim (cases_lt (size_of packet) number) as (λ _. number ≤ size_of packet) [
      | inl above ↦
          let past : length packet.locations ≤ number - 1 = omega arith in
          let none : (location_at packet number).setting ≡ None = ap (λ (location : Location). location.setting) (get_or_past packet.locations (number - 1) cleared past) in
          absurd (cc)
      | inr within ↦ within
    ]

-- an unwinding stops in a location of the packet
stop_within : (irp : IrpRef) (packet : PacketValue) (asked among : List Asking) → AllByRecursion (IsAskedRight irp packet asked) among → option_map_or place_of (keeper_of among) (size_of packet) ≤ size_of packet
stop_within irp packet asked [] right = omega arith
stop_within irp packet asked (first ∷ others) right =
    elim (first.answer.keep) as (λ keep. option_map_or place_of (cond keep (Some first) (keeper_of others)) (size_of packet) ≤ size_of packet) [
      | true ↦ routine_within packet (place_of first) right.0.0 right.0.1
      | false ↦ stop_within irp packet asked others right.1
    ]

-- an unwinding asks at most once in each location from the current one up
few_unwound : (irp : IrpRef) (packet : PacketValue) (asked : List Asking) → AreAsked irp packet asked → length asked ≤ (size_of packet + 1) - packet.current
few_unwound irp packet asked are =
    let stop = stop_of packet asked in
    let range = from_to packet.current stop in
    let low : stop ≤ size_of packet = stop_within irp packet asked asked are.right in
    let kept : length (filter (is_met_at packet asked) range) ≤ length range = subst (λ n. n ≤ length range) (sym (length-filter (is_met_at packet asked) range)) (count_by-le-length (is_met_at packet asked) range) in
    let long : length range ≡ (stop + 1) - packet.current = length-range_with_len packet.current ((stop + 1) - packet.current) in
    let same : length asked ≡ length (filter (is_met_at packet asked) range) = sym (length-map asked place_of) ∙ ap length are.places in
    omega (arith, low, kept, long, same)

few_completed : (irp : IrpRef) (old new : PacketValue) (asked : List Asked) → Completes irp old asked new → length asked ≤ (size_of old + 1) - old.current
few_completed irp old new asked completes =
    let same : length asked ≡ length completes.0 = ap length completes.2 ∙ length-map completes.0 as_asked in
    subst (λ n. n ≤ (size_of old + 1) - old.current) (sym same) (few_unwound irp old completes.0 completes.1.asked_right)

-- each frame asks at most one question
few_at : (shown : Shown) (dispatch : Option DispatchId) (plan : Option Plan) → length (as_question shown dispatch plan) ≤ 1
few_at shown None plan = omega arith
few_at shown (Some dispatch) None = omega arith
few_at shown (Some dispatch) (Some plan) = omega arith

few_dispatches : (tables : Tables) (irp : IrpRef) (packet : PacketValue) (devices : DevicesValue) (frames : List Frame) → length (questions_of tables irp packet devices frames) ≤ length frames
few_dispatches tables irp packet devices [] = omega arith
few_dispatches tables irp packet devices (frame ∷ frames) =
    let shown = shown_to irp packet devices frame in
    let here = question_at tables devices frame shown in
    let one : length here ≤ 1 = few_at shown (dispatch_at tables devices frame.device shown.major) frame.plan in
    let rest = few_dispatches tables irp packet devices frames in
    let both = length-append here (questions_of tables irp packet devices frames) in
    omega (arith, one, rest, both)

-- a descent goes through no more devices than stand from the target down
few_frames : (devices : DevicesValue) (target : ℕ) (frames : List Frame) → map (λ frame. frame.device) frames ≡ devices_down devices target (length frames) → length frames ≤ stack_size_of devices target
few_frames devices target frames are =
    let size = stack_size_of devices target in
    let part = take size (stack_of devices target) in
    let same : length frames ≡ length (take (length frames) (reverse part)) = sym (length-map frames (λ frame. frame.device)) ∙ ap length are in
    let cut = length-take (length frames) (reverse part) in
    let turned = length-reverse part in
    let short = length-take size (stack_of devices target) in
    omega (arith, same, cut, turned, short)

-- the last frame stands at most one location lower for each frame above it
last_high : (tables : Tables) (irp : IrpRef) (devices : DevicesValue) (packet : PacketValue) (target : ℕ) (frames : List Frame) → AreFrames tables irp devices packet target frames
    → first_location packet + 1 ≤ (last_frame frames).location + length frames
last_high tables irp devices packet target frames are =
    last_has (λ frame. first_location packet + 1 ≤ frame.location + length frames) frames are.some
    (all_by_index (λ frame. first_location packet + 1 ≤ frame.location + length frames) no_frame frames
    (λ place within.
    let at = are.locations place within in
    let few = count_by-le-length (plans is_copying) (take place frames) in
    let cut = length-take place frames in
    omega (arith, at, few, cut)))

few_ended : (irp : IrpRef) (last : Frame) (reached : PacketValue) (asked : List Asking) (new : PacketValue) (plan : Option Plan) → Ends irp last reached asked new plan → length asked ≤ (size_of reached + 1) - reached.current
few_ended irp last reached asked new None ends = few_unwound irp (with_status reached invalid_device_request 0) asked ends.asked_right
few_ended irp last reached asked new (Some (Finish status information)) ends = few_unwound irp (with_status reached status information) asked ends.asked_right
few_ended irp last reached asked new (Some (Hold cancel)) ends = let none : length asked ≡ 0 = ap length ends.0 in omega (arith, none)
few_ended irp last reached asked new (Some HoldSlot) ends = let none : length asked ≡ 0 = ap length ends.0 in omega (arith, none)
few_ended irp last reached asked new (Some Skip) ends = absurd ends
few_ended irp last reached asked new (Some (Forward set)) ends = absurd ends
few_ended irp last reached asked new (Some (ForwardPend set)) ends = absurd ends

few_descended : (tables : Tables) (irp : IrpRef) (devices : DevicesValue) (old : PacketValue) (target : ℕ) (asked : List Asked) (new : PacketValue) (status : Status) → Descended tables irp devices old target asked new status
    → length asked ≤ can_ask_down devices old target
few_descended tables irp devices old target asked new status descended =
    let frames = descended.frames in
    let last = last_frame frames in
    let reached = descended.reached in
    let dispatches = questions_of tables irp old devices frames in
    let routines = map as_asked descended.unwinding in
    let deep = few_frames devices target frames descended.right.devices_are in
    let high = last_high tables irp devices old target frames descended.right in
    let lowest = descended.passed.lowest in
    let size = descended.passed.size in
    let here : reached.current ≡ last.location = ap (λ (packet : PacketValue). packet.current) descended.passed.others in
    let down = few_dispatches tables irp old devices frames in
    let up = few_ended irp last reached descended.unwinding new last.plan descended.ended in
    let same : length routines ≡ length descended.unwinding = length-map descended.unwinding as_asked in
    let all : length asked ≡ length dispatches + length routines = ap length descended.listed ∙ length-append dispatches routines in
    omega (arith, deep, high, lowest, size, here, down, up, same, all)

few_followed : (irp : IrpRef) (old new : PacketValue) (answer : CancelAnswer) (asked : List Asked) → Follows irp old answer asked new → length asked ≤ (size_of old + 1) - old.current
few_followed irp old new (FinishCancel information) asked follows = few_completed irp (with_status old cancelled information) new asked follows
few_followed irp old new Leave asked follows = let none : length asked ≡ 0 = ap length follows.0 in omega (arith, none)

few_cancelled : (tables : Tables) (irp : IrpRef) (old new : PacketValue) (routine : Option CancelId) (asked : List Asked) (reply : Reply) → Cancels tables irp old routine asked reply new → length asked ≤ 1 + ((size_of old + 1) - old.current)
few_cancelled tables irp old new None asked reply cancels = let none : length asked ≡ 0 = ap length cancels.0 in omega (arith, none)
few_cancelled tables irp old new (Some routine) asked reply cancels =
    let later = few_followed irp (after_cancel old) new cancels.0 cancels.1 cancels.4 in
    let all = ap length cancels.3 in
    omega (arith, later, all)

none_few : (asked : List Asked) (most : ℕ) → asked ≡ [] → length asked ≤ most
none_few asked most none = let zero : length asked ≡ 0 = ap length none in omega (arith, zero)

few_effect : (fixed : Fixed) (old : StateValue) (call : Call) (asked : List Asked) (reply : Reply) (new : StateValue) → StandingFacts fixed.tables.counts old → Effect fixed old call asked reply new → length asked ≤ can_ask old call
few_effect fixed old (CreateDevice driver lock) asked reply new stands effect = none_few asked 0 effect.0
few_effect fixed old (Attach device to) asked reply new stands effect = none_few asked 0 effect.0
few_effect fixed old (Detach lower) asked reply new stands effect = none_few asked 0 effect.0
few_effect fixed old (Delete device) asked reply new stands effect = none_few asked 0 effect.0
few_effect fixed old (Allocate size) asked reply new stands effect = none_few asked 0 effect.2.0
few_effect fixed old (Free irp) asked reply new stands effect = none_few asked 0 effect.0
few_effect fixed old (Reuse irp status) asked reply new stands effect = none_few asked 0 effect.0
few_effect fixed old (SetNext party irp major word) asked reply new stands effect = none_few asked 0 effect.0
few_effect fixed old (CopyToNext party irp) asked reply new stands effect = none_few asked 0 effect.0
few_effect fixed old (SkipCall party irp) asked reply new stands effect = none_few asked 0 effect.0
few_effect fixed old (SetRoutine party irp setting) asked reply new stands effect = none_few asked 0 effect.0
few_effect fixed old (MarkPending party irp) asked reply new stands effect = none_few asked 0 effect.0
few_effect fixed old (CallDriver party irp target) asked reply new stands effect = few_descended fixed.tables irp old.devices (packet_of old irp) target.0 asked effect.0 effect.1 effect.2
few_effect fixed old (Complete party irp status information) asked reply new stands effect = few_completed irp (with_status (packet_of old irp) status information) effect.0 asked effect.1
few_effect fixed old (FinishTaken irp token status information) asked reply new stands effect = few_completed irp (with_status (after_take (packet_of old irp)) status information) effect.0 asked effect.1
few_effect fixed old (SetCancelRoutine party irp cancel) asked reply new stands effect = none_few asked 0 effect.0
few_effect fixed old (Cancel irp) asked reply new stands effect = few_cancelled fixed.tables irp (packet_of old irp) effect.0 (packet_of old irp).cancel_routine asked reply effect.1
few_effect fixed old (Look irp) asked reply new stands effect = none_few asked 0 effect.0

few_by : (fixed : Fixed) (old : StateValue) (call : Call) (asked : List Asked) (reply : Reply) (new : StateValue) (refusal : Option Refusal)
    → StandingFacts fixed.tables.counts old → MatchOption refusal (Effect fixed old call asked reply new) (λ given. Unasked asked reply new (Refused given) old) → length asked ≤ can_ask old call
few_by fixed old call asked reply new None stands effect = few_effect fixed old call asked reply new stands effect
few_by fixed old call asked reply new (Some refusal) stands unasked = none_few asked (can_ask old call) unasked.0

-- a step asks no more than its call can ask
pub few_step : (fixed : Fixed) (old : StateValue) (drained : Bool) (call : Call) (asked : List Asked) (reply : Reply) (new : StateValue)
    → StandingFacts fixed.tables.counts old → Step fixed old drained call asked reply new → length asked ≤ can_ask old call
few_step fixed old drained call asked reply new stands step = few_by fixed old call asked reply new (first_refusal fixed old drained call) stands step

-- a device that was never created counts as one that stands alone
pub alone : (devices : DevicesValue) (device : ℕ) → AreStacks devices → length devices.facts ≤ device → stack_size_of devices device ≡ 1
alone devices device are past =
    let counted = are.counted in
    let none : stack_of devices device ≡ [] = get_or_past devices.stacks device [] (omega (arith, past, counted)) in
    let zero : depth_of devices device ≡ 0 = ap (λ stack. unwrap_or (position (λ member. member == device) stack) 0) none in
    omega (arith, zero)

-- no device stands deeper than packets have locations
pub shallow : (devices : DevicesValue) (device : ℕ) → AreStacks devices → stack_size_of devices device ≤ most_locations
shallow devices device are =
    elim (cases_lt device (length devices.facts)) as (λ _. stack_size_of devices device ≤ most_locations) [
      | inl created ↦
          let stands = (are.stands device created).within in
          let few = are.few device created in
          omega (arith, stands, few)
      | inr past ↦
          let one = alone devices device are past in
          omega (arith, one)
    ]

-- a call can ask no more than such a call may ask in any state
pub at_most : (counts : Known) (state : StateValue) (call : Call) → StandingFacts counts state → can_ask state call ≤ most_asked call
at_most counts state (CreateDevice driver lock) stands = omega arith
at_most counts state (Attach device to) stands = omega arith
at_most counts state (Detach lower) stands = omega arith
at_most counts state (Delete device) stands = omega arith
at_most counts state (Allocate size) stands = omega arith
at_most counts state (Free irp) stands = omega arith
at_most counts state (Reuse irp status) stands = omega arith
at_most counts state (SetNext party irp major word) stands = omega arith
at_most counts state (CopyToNext party irp) stands = omega arith
at_most counts state (SkipCall party irp) stands = omega arith
at_most counts state (SetRoutine party irp setting) stands = omega arith
at_most counts state (MarkPending party irp) stands = omega arith
at_most counts state (CallDriver party irp target) stands =
    let deep = shallow state.devices target.0 stands.stacks in
    let few = (sound_named counts state irp stands).few in
    omega (arith, deep, few)
at_most counts state (Complete party irp status information) stands =
    let few = (sound_named counts state irp stands).few in
    omega (arith, few)
at_most counts state (FinishTaken irp token status information) stands =
    let few = (sound_named counts state irp stands).few in
    omega (arith, few)
at_most counts state (SetCancelRoutine party irp cancel) stands = omega arith
at_most counts state (Cancel irp) stands =
    let few = (sound_named counts state irp stands).few in
    omega (arith, few)
at_most counts state (Look irp) stands = omega arith

-- a call that was answered by its step asked no more than it can ask
pub few_stepped : {K : Type 0} (live : K → Slots) (tables : Tables) (drained : Bool) (old : ManagerState K) (call : Call) (asked : List Asked) (reply : Reply) (new : ManagerState K)
    → Stepped live tables drained old call asked reply new → StandingFacts tables.counts (state_of live old) → length asked ≤ can_ask (state_of live old) call
few_stepped live tables drained old call asked reply new stepped stands =
    let fixed : Fixed = fixed_with old tables in
    few_step fixed (state_of live old) drained call asked reply (state_of live new) stands (stepped.step fixed refl (refl, refl))
