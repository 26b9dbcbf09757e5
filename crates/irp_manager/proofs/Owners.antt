-- The calls that only the owner of a packet may make, all in one form.
use Rattle.std.proofs.Common.{◌≡◌, ℕ, Bool, List, [], Option, Some, None, MatchOption, refl, sym, ◌∙◌, ap, subst}
use Rattle.std.proofs.lemmas.Option.{same_Some, none-some}
use Rattle.std.specs.FinMap as fin
use Rattle.irp_types.specs.Checks.{or_else}
use Rattle.irp_types.specs.Packet.{PacketValue}
use Rattle.irp_types.specs.Stacks.{DevicesValue}
use Rattle.irp_types.specs.State.{StateValue, LivePacket, Fixed, Tables, live_at, packet_of, with_packet}
use Rattle.irp_types.specs.Refusals.{party_refusal, first_refusal}
use Rattle.irp_types.specs.Calls.{Call}
use Rattle.irp_types.specs.Descent.{StaysUp}
use Rattle.irp_unwind.specs.Endings.{can_ask_up}
use Rattle.irp_unwind.specs.Descents.{can_ask_down}
use Rattle.irp_types.specs.Steps.{Unasked, Effect, Step}
use Rattle.irp_types.specs.Standing.{IsSound, StandingFacts}
use Rattle.irp_types.specs.declared.names.IrpRef.{IrpRef}
use Rattle.irp_types.specs.declared.names.DeviceId.{DeviceId}
use Rattle.irp_types.specs.declared.names.CancelId.{CancelId}
use Rattle.irp_types.specs.declared.status.Status.{Status}
use Rattle.irp_types.specs.declared.routine.Setting.{Setting}
use Rattle.irp_types.specs.declared.call.Party.{Party}
use Rattle.irp_types.specs.declared.call.Call.TheVariants.{CreateDevice, Attach, Detach, Delete, Allocate, Free, Reuse, FinishTaken, Cancel, Look}
use Rattle.irp_types.specs.declared.call.Call.TheVariants.{SetNext, CopyToNext, Skip, SetRoutine, MarkPending, CallDriver, Complete, SetCancelRoutine}
use Rattle.irp_types.specs.declared.asked.Asked.{Asked}
use Rattle.irp_types.specs.declared.refusal.Refusal.{Refusal}
use Rattle.irp_types.specs.declared.reply.Reply.{Reply}
use Rattle.irp_types.specs.declared.reply.Reply.TheVariants.{Refused, Status as StatusIs}
use Rattle.irp_manager.specs.Slots.{Slots}
use Rattle.irp_manager.specs.Calls.{Goes, party_refusal_in}
use Rattle.irp_manager.specs.Rooms.{can_ask}
use Rattle.irp_manager.specs.Owning.{owner_named, own_refusal, OwnerDoes}
use Rattle.irp_manager.specs.ManagerStates.{Stepped, KeepsFixed, state_of}
use Rattle.irp_manager.specs.declared.manager_state.ManagerState.{ManagerState}
use Rattle.irp_manager.proofs.OnePacket.{GoesOn, party_goes_on, stands_on, stays_on}
use Rattle.irp_manager.proofs.Turns.{if_none}

-- what holds of each of the calls, holds of any that names this party as the owner of this packet
pub owners : (P : Call → Party × IrpRef → Type 0)
    → ((party : Party) (irp : IrpRef) (major word : ℕ) → P (SetNext party irp major word) (party, irp))
    → ((party : Party) (irp : IrpRef) → P (CopyToNext party irp) (party, irp))
    → ((party : Party) (irp : IrpRef) → P (Skip party irp) (party, irp))
    → ((party : Party) (irp : IrpRef) (setting : Setting) → P (SetRoutine party irp setting) (party, irp))
    → ((party : Party) (irp : IrpRef) → P (MarkPending party irp) (party, irp))
    → ((party : Party) (irp : IrpRef) (target : DeviceId) → P (CallDriver party irp target) (party, irp))
    → ((party : Party) (irp : IrpRef) (status : Status) (information : ℕ) → P (Complete party irp status information) (party, irp))
    → ((party : Party) (irp : IrpRef) (cancel : Option CancelId) → P (SetCancelRoutine party irp cancel) (party, irp))
    → (call : Call) (by : Party × IrpRef) → owner_named call ≡ Some by → P call by
owners P fill copy skip set mark send complete cancel = told
  where
    told : (call : Call) (by : Party × IrpRef) → owner_named call ≡ Some by → P call by
    told (SetNext party irp major word) by named = subst (P (SetNext party irp major word)) (same_Some (party, irp) by named) (fill party irp major word)
    told (CopyToNext party irp) by named = subst (P (CopyToNext party irp)) (same_Some (party, irp) by named) (copy party irp)
    told (Skip party irp) by named = subst (P (Skip party irp)) (same_Some (party, irp) by named) (skip party irp)
    told (SetRoutine party irp setting) by named = subst (P (SetRoutine party irp setting)) (same_Some (party, irp) by named) (set party irp setting)
    told (MarkPending party irp) by named = subst (P (MarkPending party irp)) (same_Some (party, irp) by named) (mark party irp)
    told (CallDriver party irp target) by named = subst (P (CallDriver party irp target)) (same_Some (party, irp) by named) (send party irp target)
    told (Complete party irp status information) by named = subst (P (Complete party irp status information)) (same_Some (party, irp) by named) (complete party irp status information)
    told (SetCancelRoutine party irp routine) by named = subst (P (SetCancelRoutine party irp routine)) (same_Some (party, irp) by named) (cancel party irp routine)
    told (CreateDevice driver lock) by named = absurd (none-some by named)
    told (Attach device to) by named = absurd (none-some by named)
    told (Detach lower) by named = absurd (none-some by named)
    told (Delete device) by named = absurd (none-some by named)
    told (Allocate size) by named = absurd (none-some by named)
    told (Free irp) by named = absurd (none-some by named)
    told (Reuse irp status) by named = absurd (none-some by named)
    told (FinishTaken irp token status information) by named = absurd (none-some by named)
    told (Cancel irp) by named = absurd (none-some by named)
    told (Look irp) by named = absurd (none-some by named)

-- why an owner's call is refused: for its reference or its party, or else by its own checks
abbrev refusal_of : Fixed → StateValue → Call → Party × IrpRef → Option Refusal
refusal_of fixed state call by =
    or_else (party_refusal state by.0 by.1) (own_refusal fixed.tables.counts state.devices (packet_of state by.1) call)

owners_refusal : (fixed : Fixed) (state : StateValue) (drained : Bool) (call : Call) (by : Party × IrpRef)
    → owner_named call ≡ Some by → first_refusal fixed state drained call ≡ refusal_of fixed state call by
owners_refusal fixed state drained =
    owners (λ call by. first_refusal fixed state drained call ≡ refusal_of fixed state call by)
    (λ _ _ _ _. refl) (λ _ _. refl) (λ _ _. refl) (λ _ _ _. refl) (λ _ _. refl) (λ _ _ _. refl) (λ _ _ _ _. refl) (λ _ _ _. refl)

-- what an owner's call makes of the state, by what it makes of the packet
abbrev Makes : Fixed → StateValue → Call → Party × IrpRef → List Asked → Reply → StateValue → Type 0
Makes fixed old call by asked reply new =
    (packet : PacketValue) × OwnerDoes fixed.tables by.1 old.devices call asked reply (packet_of old by.1) packet
    × (new ≡ with_packet old by.1.slot packet)

-- one packet is made of another, and nothing is asked
quiet : (old : StateValue) (slot : ℕ) (after : PacketValue) (told : Reply) (asked : List Asked) (reply : Reply) (new : StateValue)
    → (packet : PacketValue) × ((packet ≡ after) × (asked ≡ []) × (reply ≡ told)) × (new ≡ with_packet old slot packet)
    → Unasked asked reply new told (with_packet old slot after)
quiet old slot after told asked reply new done = (done.1.1, done.1.2, done.2 ∙ ap (with_packet old slot) done.1.0)

owners_effect : (fixed : Fixed) (old : StateValue) (asked : List Asked) (reply : Reply) (new : StateValue) (call : Call) (by : Party × IrpRef)
    → owner_named call ≡ Some by → Makes fixed old call by asked reply new → Effect fixed old call asked reply new
owners_effect fixed old asked reply new =
    owners (λ call by. Makes fixed old call by asked reply new → Effect fixed old call asked reply new)
    (λ _ irp _ _ done. quiet old irp.slot _ _ asked reply new done) (λ _ irp done. quiet old irp.slot _ _ asked reply new done) (λ _ irp done. quiet old irp.slot _ _ asked reply new done)
    (λ _ irp _ done. quiet old irp.slot _ _ asked reply new done) (λ _ irp done. quiet old irp.slot _ _ asked reply new done)
    (λ _ _ _ done. (done.0, done.1.0, done.1.1, done.1.2, done.2)) (λ _ _ _ _ done. (done.0, done.1.0, done.1.1, done.2))
    (λ _ irp _ done. quiet old irp.slot _ _ asked reply new done)

owners_step : (fixed : Fixed) (drained : Bool) (old : StateValue) (call : Call) (by : Party × IrpRef) (asked : List Asked) (reply : Reply) (new : StateValue)
    → owner_named call ≡ Some by
    → GoesOn (refusal_of fixed old call by) (OwnerDoes fixed.tables by.1 old.devices call asked reply (packet_of old by.1)) old by.1.slot asked reply new
    → Step fixed old drained call asked reply new
owners_step fixed drained old call by asked reply new named goes =
    let refused : Refusal → Type 0 = λ refusal. Unasked asked reply new (Refused refusal) old in
    subst (λ given. MatchOption given (Effect fixed old call asked reply new) refused) (sym (owners_refusal fixed old drained call by named))
    (if_none (refusal_of fixed old call by) (Makes fixed old call by asked reply new) (Effect fixed old call asked reply new) refused (owners_effect fixed old asked reply new call by named) goes)

-- the checks of the owner's call on a packet, in their order
abbrev pub checks_in : Tables → DevicesValue → Call → Party × IrpRef → LivePacket → Option Refusal
checks_in tables devices call by live =
    or_else (party_refusal_in (Some live) by.0 by.1) (own_refusal tables.counts devices live.packet call)

-- the owner's call refused before its own checks
pub refused_goes : (tables : Tables) (devices : DevicesValue) (call : Call) (by : Party × IrpRef) (asked : List Asked) (refusal : Refusal) (becomes : PacketValue → Type 0) (live : LivePacket)
    → party_refusal_in (Some live) by.0 by.1 ≡ Some refusal → asked ≡ [] → Goes (checks_in tables devices call by live) becomes live live asked (Refused refusal)
refused_goes tables devices call by asked refusal becomes live refused empty =
    subst (λ given. Goes (or_else given (own_refusal tables.counts devices live.packet call)) becomes live live asked (Refused refusal)) (sym refused) (empty, refl, refl)

-- what the owner's call did behind the checks of the party, for the call that it is and the questions in the list
pub owned_goes : (tables : Tables) (devices : DevicesValue) (call is : Call) (by : Party × IrpRef) (asked listed : List Asked) (reply : Reply) (before after : LivePacket)
    → call ≡ is → asked ≡ listed → party_refusal_in (Some before) by.0 by.1 ≡ None
    → Goes (own_refusal tables.counts devices before.packet is) (OwnerDoes tables by.1 devices is listed reply before.packet) before after listed reply
    → Goes (checks_in tables devices call by before) (OwnerDoes tables by.1 devices call asked reply before.packet) before after asked reply
owned_goes tables devices call is by asked listed reply before after same empty own goes =
    subst (λ (given : Call × List Asked × Option Refusal). Goes (or_else given.2 (own_refusal tables.counts devices before.packet given.0)) (OwnerDoes tables by.1 devices given.0 given.1 reply before.packet) before after given.1 reply)
    (λ i. (sym same i, sym empty i, sym own i)) goes

-- the owner's call, made on the packet in its slot
pub owned : {K : Type 0} (view : K → Slots) (tables : Tables) (drained : Bool) (old new : ManagerState K) (call : Call) (by : Party × IrpRef) (asked : List Asked) (reply : Reply) (before after : LivePacket) (slots : Slots)
    → owner_named call ≡ Some by → live_at (state_of view old) by.1.slot ≡ Some before → slots ≡ fin.insert (state_of view old).live by.1.slot after
    → Goes (checks_in tables (state_of view old).devices call by before) (OwnerDoes tables by.1 (state_of view old).devices call asked reply before.packet) before after asked reply
    → IsSound tables.counts after.packet → StandingFacts tables.counts (state_of view old)
    → state_of view new ≡ record (state_of view old) { live = slots } → KeepsFixed old new
    → Stepped view tables drained old call asked reply new
owned view tables drained old new call by asked reply before after slots named at put goes sound stands becomes keeps =
    let state : StateValue = state_of view old in
    let own_checks : PacketValue → Option Refusal = λ packet. own_refusal tables.counts state.devices packet call in
    let does : PacketValue → PacketValue → Type 0 = OwnerDoes tables by.1 state.devices call asked reply in
    record {
      step = λ fixed same agrees. owners_step fixed drained state call by asked reply (state_of view new) named
          (subst (λ (given : Tables × StateValue). GoesOn (or_else (party_refusal state by.0 by.1) (own_refusal given.0.counts state.devices (packet_of state by.1) call)) (OwnerDoes given.0 by.1 state.devices call asked reply (packet_of state by.1)) state by.1.slot asked reply given.1)
          (λ i. (sym same i, sym becomes i)) (party_goes_on state by.0 by.1 own_checks does before after asked reply slots at put goes));
      stands = subst (StandingFacts tables.counts) (sym becomes)
          (stands_on tables.counts state by.1.slot (checks_in tables state.devices call by before) (does before.packet) before after asked reply slots at put goes sound stands);
      fixed = keeps;
    }

-- how many questions a packet that its owner sends can ask
pub asks_down : (state : StateValue) (call : Call) (by : Party × IrpRef) (party : Party) (irp : IrpRef) (target : DeviceId)
    → owner_named call ≡ Some by → call ≡ CallDriver party irp target → can_ask state call ≡ can_ask_down state.devices (packet_of state by.1) target.0
asks_down state call by party irp target named is =
    ap (can_ask state) is ∙ ap (λ (given : Party × IrpRef). can_ask_down state.devices (packet_of state given.1) target.0) (same_Some (party, irp) by (ap owner_named (sym is) ∙ named))

-- how many questions a packet that its owner completes can ask
pub asks_up : (state : StateValue) (call : Call) (by : Party × IrpRef) (party : Party) (irp : IrpRef) (status : Status) (information : ℕ)
    → owner_named call ≡ Some by → call ≡ Complete party irp status information → can_ask state call ≡ can_ask_up (packet_of state by.1)
asks_up state call by party irp status information named is =
    ap (can_ask state) is ∙ ap (λ (given : Party × IrpRef). can_ask_up (packet_of state given.1)) (same_Some (party, irp) by (ap owner_named (sym is) ∙ named))

-- where a packet that its owner sent stands
pub sent_stays : (state : StateValue) (call : Call) (by : Party × IrpRef) (reply : Reply) (before after : LivePacket) (slots : Slots)
    → owner_named call ≡ Some by → live_at state by.1.slot ≡ Some before → slots ≡ fin.insert state.live by.1.slot after
    → ((status : Status) → reply ≡ StatusIs status → StaysUp before.packet after.packet status)
    → (party : Party) (irp : IrpRef) (target : DeviceId) → call ≡ CallDriver party irp target
    → (status : Status) → reply ≡ StatusIs status → StaysUp (packet_of state irp) (packet_of (record state { live = slots }) irp) status
sent_stays state call by reply before after slots named at put stays party irp target is status told =
    let same : (party, irp) ≡ by = same_Some (party, irp) by (ap owner_named (sym is) ∙ named) in
    subst (λ (given : Party × IrpRef). StaysUp (packet_of state given.1) (packet_of (record state { live = slots }) given.1) status) (sym same)
    (stays_on state by.1 before after slots status at put (stays status told))
