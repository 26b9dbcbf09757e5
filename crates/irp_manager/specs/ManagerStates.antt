-- The state that a manager is in, and what a call makes of it.
use Rattle.std.specs.Prelude.{ℕ, ◌≡◌, ◌*◌, Bool, true, false, if◌then◌else◌, List, Option, is_some}
use Rattle.std.specs.FinMap as fin
use Rattle.irp_types.specs.Limits.{most_locations}
use Rattle.irp_types.specs.State.{StateValue, Fixed, Tables, packet_of}
use Rattle.irp_types.specs.Descent.{StaysUp}
use Rattle.irp_types.specs.Steps.{Step}
use Rattle.irp_types.specs.Standing.{StandingFacts}
use Rattle.irp_types.specs.declared.asked.Asked.{Asked}
use Rattle.irp_types.specs.Calls.{Call, packet_completed}
use Rattle.irp_types.specs.declared.call.Call.TheVariants.{Allocate, Free, CallDriver, Cancel}
use Rattle.irp_types.specs.declared.call.Party.{Party}
use Rattle.irp_types.specs.declared.names.IrpRef.{IrpRef}
use Rattle.irp_types.specs.declared.names.DeviceId.{DeviceId}
use Rattle.irp_types.specs.declared.status.Status.{Status}
use Rattle.irp_types.specs.declared.reply.Reply.{Reply}
use Rattle.irp_types.specs.declared.reply.Reply.TheVariants.{Done, Irp, Refused, Status as StatusIs}
use Rattle.irp_manager.specs.Slots.{Slots}
use Rattle.irp_manager.specs.declared.manager_state.ManagerState.{ManagerState}

-- the state of a manager, by what its keep has
abbrev pub state_of : {K : Type 0} → (K → Slots) → ManagerState K → StateValue
state_of live manager =
    record { live = live manager.keep; devices = manager.stacks.devices; next_use = manager.next_use }

-- what is fixed of a manager whose asker has these tables
abbrev pub fixed_with : {K : Type 0} → ManagerState K → Tables → Fixed
fixed_with manager tables = record { locks = manager.locks; tables = tables; limit = manager.stacks.limit }

-- what is fixed agrees with a manager: it has its locks and its limit
abbrev pub Agrees : {K : Type 0} → Fixed → ManagerState K → Type 0
Agrees fixed manager = (fixed.locks ≡ manager.locks) × (fixed.limit ≡ manager.stacks.limit)

-- locks and limit stay
abbrev pub KeepsFixed : {K : Type 0} → ManagerState K → ManagerState K → Type 0
KeepsFixed old new = (new.locks ≡ old.locks) × (new.stacks.limit ≡ old.stacks.limit)

-- a call was answered by its step, and the standing facts are kept
pub record Stepped {K : Type 0} (live : K → Slots) (tables : Tables) (drained : Bool) (old : ManagerState K)
    (call : Call) (asked : List Asked) (reply : Reply) (new : ManagerState K) : Type 0 where
  pub step :
      (fixed : Fixed) → fixed.tables ≡ tables → Agrees fixed old
      → Step fixed (state_of live old) drained call asked reply (state_of live new)
  pub stands : StandingFacts tables.counts (state_of live new)
  pub fixed : KeepsFixed old new

-- a call was answered by its step, whatever the tables, where the standing facts held
abbrev pub SteppedAny :
    {K : Type 0} → (K → Slots) → ManagerState K → Call → List Asked → Reply → ManagerState K → Type 0
SteppedAny live old call asked reply new =
    (tables : Tables) (drained : Bool) → StandingFacts tables.counts (state_of live old)
    → Stepped live tables drained old call asked reply new

-- where the reply to the sender of this packet is a status, the packet stands as `StaysUp` says
abbrev pub SentStays : {K : Type 0} → (K → Slots) → ManagerState K → IrpRef → Reply → ManagerState K → Type 0
SentStays live old irp reply new =
    (status : Status) → reply ≡ StatusIs status
    → StaysUp (packet_of (state_of live old) irp) (packet_of (state_of live new) irp) status

-- where the call sends a packet, that packet stands as `StaysUp` says
abbrev pub SenderStays : {K : Type 0} → (K → Slots) → ManagerState K → Call → Reply → ManagerState K → Type 0
SenderStays live old call reply new =
    (party : Party) (irp : IrpRef) (target : DeviceId) → call ≡ CallDriver party irp target
    → SentStays live old irp reply new

-- where the call allocates a packet, its slot is as the keep promises for the wish
abbrev pub SlotGranted : {K : Type 0} → (K → Option ℕ → ℕ → Type 0) → ManagerState K → Option ℕ → Call → Reply → Type 0
SlotGranted grants old wish call reply =
    (size : ℕ) (irp : IrpRef) → call ≡ Allocate size → reply ≡ Irp irp → grants old.keep wish irp.slot

-- the old keep has a packet at this slot; and what the keep promises of giving back holds of the old keep, the slot and
-- the new keep
abbrev pub WasGivenBack :
    {K : Type 0} → (K → Slots) → (K → ℕ → K → Type 0) → ManagerState K → ℕ → ManagerState K → Type 0
WasGivenBack live gave_back old slot new =
    (is_some (fin.get (live old.keep) slot) ≡ true) × gave_back old.keep slot new.keep

-- where the call is the Free of a packet and the reply is Done: the old keep has a packet at the slot that the call
-- names; and what the keep promises of giving back holds of the old keep, that slot and the new keep
abbrev pub SlotGivenBack :
    {K : Type 0} → (K → Slots) → (K → ℕ → K → Type 0) → ManagerState K → Call → Reply → ManagerState K → Type 0
SlotGivenBack live gave_back old call reply new =
    (irp : IrpRef) → call ≡ Free irp → reply ≡ Done → WasGivenBack live gave_back old irp.slot new

-- whether a call takes no slot and gives none back: it was refused, or it neither allocates nor frees a packet
abbrev pub leaves_slots : Call → Reply → Bool
leaves_slots (Allocate size) (Refused refusal) = true
leaves_slots (Allocate size) reply = false
leaves_slots (Free irp) (Refused refusal) = true
leaves_slots (Free irp) reply = false
leaves_slots call reply = true

-- a call that takes no slot and gives none back leaves the slot that comes next
abbrev pub LeavesNext : {K : Type 0} → (K → Option ℕ) → ManagerState K → Call → Reply → ManagerState K → Type 0
LeavesNext next old call reply new = leaves_slots call reply ≡ true → next new.keep ≡ next old.keep

-- how many questions a call may ask: one to each device and one to each location where it sends, completes or cancels
abbrev pub most_asked : Call → ℕ
most_asked (CallDriver party irp target) = 2 * most_locations
most_asked (Cancel irp) = 2 * most_locations
most_asked call = if is_some (packet_completed call) then 2 * most_locations else 0
