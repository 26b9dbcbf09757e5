-- Steps on remove locks and on cancel slots in words.
use Rattle.std.specs.Prelude.{ℕ, List, ◌++◌, codes}
use Rattle.std.specs.Fmt.{decimal}
use Rattle.irp_types.specs.declared.names.LockNo.{LockNo}
use Rattle.irp_types.specs.declared.seat_act.Hand.{Hand}
use Rattle.irp_types.specs.declared.seat_act.LockAct.{LockAct}
use Rattle.irp_types.specs.declared.seat_act.LockAct.TheVariants as lock
use Rattle.irp_types.specs.declared.seat_act.SlotAct.{SlotAct}
use Rattle.irp_types.specs.declared.seat_act.SlotAct.TheVariants as slot

-- a lock, and a tag
abbrev pub lock_and_tag : LockNo → ℕ → List ℕ
lock_and_tag lock tag = codes "remove lock " ++ (decimal lock.0 ++ (codes ", tag " ++ decimal tag))

-- a step on a remove lock
abbrev pub lock_act_text : LockAct → List ℕ
lock_act_text (lock.Acquire lock tag) = codes "IoAcquireRemoveLock(" ++ (lock_and_tag lock tag ++ codes ")")
lock_act_text (lock.Release lock tag) = codes "IoReleaseRemoveLock(" ++ (lock_and_tag lock tag ++ codes ")")
lock_act_text (lock.BeginRemove lock tag) = codes "begins the removal of " ++ lock_and_tag lock tag
lock_act_text (lock.Drained lock) = codes "is remove lock " ++ (decimal lock.0 ++ codes " drained?")

-- a reference that is handed over
abbrev pub hand_text : Hand → List ℕ
hand_text hand = codes "hands " ++ (lock_and_tag hand.lock hand.tag ++ (codes ", to seat " ++ decimal hand.to))

-- a step on a cancel slot
abbrev pub slot_act_text : SlotAct → List ℕ
slot_act_text (slot.Publish number) = codes "publishes in cancel slot " ++ decimal number
slot_act_text (slot.Withdraw number) = codes "withdraws from cancel slot " ++ decimal number
slot_act_text (slot.Request number) = codes "requests cancel slot " ++ decimal number
