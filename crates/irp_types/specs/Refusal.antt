-- Refusals: their numbers and names, and when each comes.
use Rattle.std.specs.Prelude.{ℕ, List, [], ◌∷◌, codes}
use Rattle.std.specs.List.{find}
use Rattle.std.proofs.Common.{◌≡◌, Some, bytes_eq, refl}
use Rattle.irp_types.specs.declared.refusal.Refusal.{Refusal}
use Rattle.irp_types.specs.declared.refusal.Refusal.TheVariants.{NoIrp, Stale, NoDevice, DeviceGone, NotOwner}
use Rattle.irp_types.specs.declared.refusal.Refusal.TheVariants.{NoLocation, NotPrepared, AfterSkip, TooShort}
use Rattle.irp_types.specs.declared.refusal.Refusal.TheVariants.{WrongTarget, NoRoutine, BadStatus, CancelRoutineSet}
use Rattle.irp_types.specs.declared.refusal.Refusal.TheVariants.{AlreadyCancelled, InFlight, StillAttached, SameStack}
use Rattle.irp_types.specs.declared.refusal.Refusal.TheVariants.{TooDeep, Full, NothingAttached, NotDrained, BadSize}
use Rattle.irp_types.specs.declared.refusal.Refusal.TheVariants.{BadMajor, NoDriver, Ended, HistoryFull, NoLock}
use Rattle.irp_types.specs.declared.refusal.Refusal.TheVariants.{SlotHeld, NotSlotHeld}

-- each refusal: its own number, its name, and when it comes
abbrev pub refusal_row : Refusal → ℕ × List ℕ × List ℕ
refusal_row NoIrp = (1, codes "NoIrp", codes "no live packet is under this slot")
refusal_row Stale = (2, codes "Stale", codes "the packet is in another use by now")
refusal_row NoDevice = (3, codes "NoDevice", codes "no such device was created")
refusal_row DeviceGone = (4, codes "DeviceGone", codes "the device was deleted")
refusal_row NotOwner = (5, codes "NotOwner", codes "the caller doesn't own the packet")
refusal_row NoLocation = (6, codes "NoLocation", codes "the originator has no location of its own")
refusal_row NotPrepared =
    (7, codes "NotPrepared", codes "the next location wasn't filled, and the own one wasn't skipped")
refusal_row AfterSkip = (8, codes "AfterSkip", codes "after a skip the owner may only send")
refusal_row TooShort = (9, codes "TooShort", codes "too few locations are left")
refusal_row WrongTarget = (10, codes "WrongTarget", codes "a device sends to the device just below it alone")
refusal_row NoRoutine = (11, codes "NoRoutine", codes "there is no such routine")
refusal_row BadStatus = (12, codes "BadStatus", codes "no packet is completed with this status")
refusal_row CancelRoutineSet = (13, codes "CancelRoutineSet", codes "the packet still has a cancel routine")
refusal_row AlreadyCancelled = (14, codes "AlreadyCancelled", codes "the packet was cancelled before")
refusal_row InFlight = (15, codes "InFlight", codes "a device still has the packet")
refusal_row StillAttached = (16, codes "StillAttached", codes "the device has a neighbour in its stack")
refusal_row SameStack = (17, codes "SameStack", codes "both devices are in one stack")
refusal_row TooDeep = (18, codes "TooDeep", codes "the stack would be too deep")
refusal_row Full = (19, codes "Full", codes "a limit is reached")
refusal_row NothingAttached = (20, codes "NothingAttached", codes "nothing stands above this device")
refusal_row NotDrained = (21, codes "NotDrained", codes "the caller doesn't know the remove lock drained")
refusal_row BadSize = (22, codes "BadSize", codes "no packet has so many locations")
refusal_row BadMajor = (23, codes "BadMajor", codes "there is no such major function code")
refusal_row NoDriver = (24, codes "NoDriver", codes "there is no such driver")
refusal_row Ended = (25, codes "Ended", codes "this use has completed")
refusal_row HistoryFull = (26, codes "HistoryFull", codes "the history is full")
refusal_row NoLock = (27, codes "NoLock", codes "there is no such remove lock")
refusal_row SlotHeld = (28, codes "SlotHeld", codes "the packet is kept for a cancel slot")
refusal_row NotSlotHeld = (29, codes "NotSlotHeld", codes "the packet is kept for no cancel slot")

abbrev pub refusal_number : Refusal → ℕ
refusal_number one = (refusal_row one).0

abbrev pub refusal_name : Refusal → List ℕ
refusal_name one = (refusal_row one).1

abbrev pub refusal_meaning : Refusal → List ℕ
refusal_meaning one = (refusal_row one).2

-- every refusal
unfoldable pub refusals : List Refusal
refusals =
    NoIrp ∷ Stale ∷ NoDevice ∷ DeviceGone ∷ NotOwner ∷
    NoLocation ∷ NotPrepared ∷ AfterSkip ∷ TooShort ∷ WrongTarget ∷
    NoRoutine ∷ BadStatus ∷ CancelRoutineSet ∷ AlreadyCancelled ∷
    InFlight ∷ StillAttached ∷ SameStack ∷ TooDeep ∷ Full ∷
    NothingAttached ∷ NotDrained ∷ BadSize ∷ BadMajor ∷ NoDriver ∷
    Ended ∷ HistoryFull ∷ NoLock ∷ SlotHeld ∷ NotSlotHeld ∷ []

-- each refusal is the first of all that has its name, so no two have one name
pub refusal_found :
    (one : Refusal) → find (λ value. bytes_eq (refusal_name one) (refusal_name value)) refusals ≡ Some one
unfolding refusals
refusal_found NoIrp = refl
refusal_found Stale = refl
refusal_found NoDevice = refl
refusal_found DeviceGone = refl
refusal_found NotOwner = refl
refusal_found NoLocation = refl
refusal_found NotPrepared = refl
refusal_found AfterSkip = refl
refusal_found TooShort = refl
refusal_found WrongTarget = refl
refusal_found NoRoutine = refl
refusal_found BadStatus = refl
refusal_found CancelRoutineSet = refl
refusal_found AlreadyCancelled = refl
refusal_found InFlight = refl
refusal_found StillAttached = refl
refusal_found SameStack = refl
refusal_found TooDeep = refl
refusal_found Full = refl
refusal_found NothingAttached = refl
refusal_found NotDrained = refl
refusal_found BadSize = refl
refusal_found BadMajor = refl
refusal_found NoDriver = refl
refusal_found Ended = refl
refusal_found HistoryFull = refl
refusal_found NoLock = refl
refusal_found SlotHeld = refl
refusal_found NotSlotHeld = refl
