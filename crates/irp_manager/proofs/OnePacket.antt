-- A call on one live packet, which is changed in its slot.
use Rattle.std.proofs.Common.{◌≡◌, ℕ, ◌<◌, ◌≤◌, false, not, ◌==◌, is_some, List, [], ◌∷◌, Option, Some, None, MatchOption, unwrap_or, refl, sym, ◌∙◌, ap, subst, inl, inr}
use Rattle.std.proofs.lemmas.Bool.{cases_eq}
use Rattle.std.proofs.lemmas.Option.{same_Some}
use Rattle.std.specs.FinMap as fin
use Rattle.irp_types.specs.Checks.{Check, first_failing, or_else}
use Rattle.irp_types.specs.Refusals.{has_ended, is_owner, slot_check, packet_refusal, party_refusal}
use Rattle.irp_types.specs.declared.call.Party.{Party}
use Rattle.irp_types.specs.declared.refusal.Refusal.TheVariants.{NoIrp, Stale, NotOwner, Ended as HasEnded, SlotHeld}
use Rattle.irp_types.specs.Packet.{PacketValue, new_packet}
use Rattle.irp_types.specs.State.{StateValue, LivePacket, live_at, packet_at, packet_of, with_packet}
use Rattle.irp_types.specs.Descent.{StaysUp}
use Rattle.irp_types.specs.Steps.{Unasked}
use Rattle.irp_types.specs.declared.status.Status.{Status}
use Rattle.irp_types.specs.Standing.{IsSound, StandingFacts}
use Rattle.irp_types.specs.declared.names.IrpRef.{IrpRef}
use Rattle.irp_types.specs.declared.routine.Known.{Known}
use Rattle.irp_types.specs.declared.refusal.Refusal.{Refusal}
use Rattle.irp_types.specs.declared.asked.Asked.{Asked}
use Rattle.irp_types.specs.declared.reply.Reply.{Reply}
use Rattle.irp_types.specs.declared.reply.Reply.TheVariants.{Refused}
use Rattle.irp_manager.specs.Slots.{Slots}
use Rattle.irp_manager.specs.Calls.{Goes, packet_refusal_in, party_refusal_in}
use Rattle.irp_manager.proofs.Sound.{passed}
use Rattle.irp_manager.proofs.Maps.{get_inserted, get_kept, insert_same}

-- what no slot has
abbrev pub nothing : LivePacket
nothing = record { packet = new_packet 1; use_no = 0 }

-- the state once another packet was put into a slot
abbrev pub putting : StateValue → ℕ → LivePacket → StateValue
putting state slot live = record state { live = fin.insert state.live slot live }

pub found : (state : StateValue) (slot : ℕ) (live : LivePacket) → live_at state slot ≡ Some live → packet_at state slot ≡ live
found state slot live at = ap (λ given. unwrap_or given nothing) at

-- where a packet that was changed in its slot stands
pub stays_on : (state : StateValue) (irp : IrpRef) (live new : LivePacket) (slots : Slots) (status : Status)
    → live_at state irp.slot ≡ Some live → slots ≡ fin.insert state.live irp.slot new
    → StaysUp live.packet new.packet status → StaysUp (packet_of state irp) (packet_of (record state { live = slots }) irp) status
stays_on state irp live new slots status at put stays =
    let after = record state { live = slots } in
    let here : live_at after irp.slot ≡ Some new = ap (λ given. fin.get given irp.slot) put ∙ get_inserted state.live irp.slot new in
    subst (λ (given : LivePacket × LivePacket). StaysUp given.0.packet given.1.packet status)
    (λ i. (sym (found state irp.slot live at) i, sym (found after irp.slot new here) i)) stays

-- what a call on the packet of a slot makes of the state, as its step has it
abbrev pub GoesOn : Option Refusal → (PacketValue → Type 0) → StateValue → ℕ → List Asked → Reply → StateValue → Type 0
GoesOn refusal becomes old slot asked reply new =
    MatchOption refusal ((packet : PacketValue) × becomes packet × (new ≡ with_packet old slot packet)) (λ given. Unasked asked reply new (Refused given) old)

goes_here : (state : StateValue) (slot : ℕ) (refusal : Option Refusal) (becomes : PacketValue → Type 0) (live new : LivePacket) (asked : List Asked) (reply : Reply)
    → live_at state slot ≡ Some live → Goes refusal becomes live new asked reply
    → MatchOption refusal ((packet : PacketValue) × becomes packet × (putting state slot new ≡ putting state slot (record live { packet = packet })))
    (λ given. Unasked asked reply (putting state slot new) (Refused given) state)
goes_here state slot None becomes live new asked reply at goes = (goes.0, goes.1, ap (putting state slot) goes.2)
goes_here state slot (Some refusal) becomes live new asked reply at goes =
    let same : putting state slot live ≡ state = λ i. record state { live = insert_same state.live slot live at i } in
    (goes.0, goes.1, ap (putting state slot) goes.2 ∙ same)

-- the checks of the reference come first, and the packet's own checks follow
pub goes_on : (state : StateValue) (irp : IrpRef) (checks here : Option Refusal) (refusal : PacketValue → Option Refusal) (becomes : PacketValue → PacketValue → Type 0) (live new : LivePacket) (asked : List Asked) (reply : Reply) (slots : Slots)
    → checks ≡ here → live_at state irp.slot ≡ Some live → slots ≡ fin.insert state.live irp.slot new
    → Goes (or_else here (refusal live.packet)) (becomes live.packet) live new asked reply
    → GoesOn (or_else checks (refusal (packet_of state irp))) (becomes (packet_of state irp)) state irp.slot asked reply (record state { live = slots })
goes_on state irp checks here refusal becomes live new asked reply slots same at put goes =
    let is = found state irp.slot live at in
    let after : putting state irp.slot new ≡ record state { live = slots } = λ i. record state { live = sym put i } in
    subst (λ (given : Option Refusal × LivePacket × StateValue).
    MatchOption (or_else given.0 (refusal given.1.packet))
    ((packet : PacketValue) × becomes given.1.packet packet × (given.2 ≡ putting state irp.slot (record given.1 { packet = packet })))
    (λ refused. Unasked asked reply given.2 (Refused refused) state))
    (λ i. (sym same i, sym is i, after i))
    (goes_here state irp.slot (or_else here (refusal live.packet)) (becomes live.packet) live new asked reply at goes)

-- the checks of a reference, where its slot has a packet
pub packet_checked : (state : StateValue) (irp : IrpRef) (live : LivePacket) → live_at state irp.slot ≡ Some live → packet_refusal state irp ≡ packet_refusal_in (Some live) irp
packet_checked state irp live at =
    ap (λ (given : Option LivePacket). first_failing ((not (is_some given), NoIrp) ∷ (not ((unwrap_or given nothing).use_no == irp.use_no), Stale) ∷ [])) at

-- the checks of a reference and a party, where the slot has a packet
pub party_checked : (state : StateValue) (party : Party) (irp : IrpRef) (live : LivePacket) → live_at state irp.slot ≡ Some live → party_refusal state party irp ≡ party_refusal_in (Some live) party irp
party_checked state party irp live at =
    ap (λ (given : Option LivePacket).
    let packet = unwrap_or given nothing in
    first_failing (
    (not (is_some given), NoIrp)
    ∷ (not (packet.use_no == irp.use_no), Stale)
    ∷ (has_ended packet.packet.owner, HasEnded)
    ∷ (not (is_owner party packet.packet.owner), NotOwner) ∷ slot_check packet.packet ∷ [])) at

-- a call of a party on the packet of a slot
pub party_goes_on : (state : StateValue) (party : Party) (irp : IrpRef) (refusal : PacketValue → Option Refusal) (becomes : PacketValue → PacketValue → Type 0) (live new : LivePacket) (asked : List Asked) (reply : Reply) (slots : Slots)
    → live_at state irp.slot ≡ Some live → slots ≡ fin.insert state.live irp.slot new
    → Goes (or_else (party_refusal_in (Some live) party irp) (refusal live.packet)) (becomes live.packet) live new asked reply
    → GoesOn (or_else (party_refusal state party irp) (refusal (packet_of state irp))) (becomes (packet_of state irp)) state irp.slot asked reply (record state { live = slots })
party_goes_on state party irp refusal becomes live new asked reply slots at put goes =
    goes_on state irp (party_refusal state party irp) (party_refusal_in (Some live) party irp) refusal becomes live new asked reply slots (party_checked state party irp live at) at put goes

-- the packet of a party that owns it has not ended
pub not_ended : (party : Party) (irp : IrpRef) (live : LivePacket) → party_refusal_in (Some live) party irp ≡ None → has_ended live.packet.owner ≡ false
not_ended party irp live none =
    let owned : List Check = (not (is_owner party live.packet.owner), NotOwner) ∷ slot_check live.packet ∷ [] in
    let used : List Check = (has_ended live.packet.owner, HasEnded) ∷ owned in
    let current = passed (not (live.use_no == irp.use_no)) Stale used none in
    (passed (has_ended live.packet.owner) HasEnded owned current.1).0

-- and it stands in no cancel slot
pub not_in_slot : (party : Party) (irp : IrpRef) (live : LivePacket) → party_refusal_in (Some live) party irp ≡ None → live.packet.slot_held ≡ false
not_in_slot party irp live none =
    let slot : List Check = slot_check live.packet ∷ [] in
    let owned : List Check = (not (is_owner party live.packet.owner), NotOwner) ∷ slot in
    let used : List Check = (has_ended live.packet.owner, HasEnded) ∷ owned in
    let current = passed (not (live.use_no == irp.use_no)) Stale used none in
    let unended = passed (has_ended live.packet.owner) HasEnded owned current.1 in
    let own = passed (not (is_owner party live.packet.owner)) NotOwner slot unended.1 in
    (passed live.packet.slot_held SlotHeld [] own.1).0

-- the use of a packet stays through a call
same_use : (refusal : Option Refusal) (becomes : PacketValue → Type 0) (live new : LivePacket) (asked : List Asked) (reply : Reply) → Goes refusal becomes live new asked reply → new.use_no ≡ live.use_no
same_use None becomes live new asked reply goes = ap (λ (given : LivePacket). given.use_no) goes.2
same_use (Some refusal) becomes live new asked reply goes = ap (λ (given : LivePacket). given.use_no) goes.2

-- a fact of each live packet, once another packet was put into a slot
each_live : (P : LivePacket → Type 0) (slots : Slots) (slot : ℕ) (new : LivePacket) → P new → ((other : ℕ) (live : LivePacket) → (other ≡ slot → ⊥) → fin.get slots other ≡ Some live → P live)
    → (other : ℕ) (live : LivePacket) → fin.get (fin.insert slots slot new) other ≡ Some live → P live
each_live P slots slot new here elsewhere other live at =
    elim (cases_eq other slot) as (λ _. P live) [
      | inl is ↦
          let same : Some new ≡ Some live = sym (get_inserted slots slot new) ∙ ap (fin.get (fin.insert slots slot new)) (sym is) ∙ at in
          subst P (same_Some new live same) here
      | inr apart ↦ elsewhere other live apart (sym (get_kept slots slot new other apart) ∙ at)
    ]

-- which packet stood at a slot before, of the same use
stood : (slots : Slots) (slot : ℕ) (live new : LivePacket) → fin.get slots slot ≡ Some live → new.use_no ≡ live.use_no
    → (other : ℕ) (there : LivePacket) → fin.get (fin.insert slots slot new) other ≡ Some there → (before : LivePacket) × (fin.get slots other ≡ Some before) × (there.use_no ≡ before.use_no)
stood slots slot live new at number_same other there found =
    elim (cases_eq other slot) as (λ _. (before : LivePacket) × (fin.get slots other ≡ Some before) × (there.use_no ≡ before.use_no)) [
      | inl is ↦
          let same : Some new ≡ Some there = sym (get_inserted slots slot new) ∙ ap (fin.get (fin.insert slots slot new)) (sym is) ∙ found in
          (live, ap (fin.get slots) is ∙ at, ap (λ (given : LivePacket). given.use_no) (sym (same_Some new there same)) ∙ number_same)
      | inr apart ↦ (there, sym (get_kept slots slot new other apart) ∙ found, refl)
    ]

-- the standing facts, once a live packet went on
stands_put : (counts : Known) (state : StateValue) (slot : ℕ) (live new : LivePacket) → live_at state slot ≡ Some live → new.use_no ≡ live.use_no
    → IsSound counts new.packet → StandingFacts counts state → StandingFacts counts (putting state slot new)
stands_put counts state slot live new at number_same sound stands =
    let before = stood state.live slot live new at number_same in
    record {
      packets = each_live (λ (given : LivePacket). IsSound counts given.packet) state.live slot new sound (λ other there apart found. stands.packets other there found);
      counter = stands.counter;
      positive = λ other there found. let was = before other there found in subst (λ number. 1 ≤ number) (sym was.2) (stands.positive other was.0 was.1);
      drawn = λ other there found. let was = before other there found in subst (λ number. number < state.next_use) (sym was.2) (stands.drawn other was.0 was.1);
      apart = λ one two first second at_one at_two same.
          let was_one = before one first at_one in
          let was_two = before two second at_two in
          stands.apart one two was_one.0 was_two.0 was_one.1 was_two.1 (sym was_one.2 ∙ same ∙ was_two.2);
      stacks = stands.stacks;
    }

-- the standing facts, once a call on one packet went
pub stands_on : (counts : Known) (state : StateValue) (slot : ℕ) (refusal : Option Refusal) (becomes : PacketValue → Type 0) (live new : LivePacket) (asked : List Asked) (reply : Reply) (slots : Slots)
    → live_at state slot ≡ Some live → slots ≡ fin.insert state.live slot new → Goes refusal becomes live new asked reply
    → IsSound counts new.packet → StandingFacts counts state → StandingFacts counts (record state { live = slots })
stands_on counts state slot refusal becomes live new asked reply slots at put goes sound stands =
    let after : putting state slot new ≡ record state { live = slots } = λ i. record state { live = sym put i } in
    subst (StandingFacts counts) after
    (stands_put counts state slot live new at (same_use refusal becomes live new asked reply goes) sound stands)
