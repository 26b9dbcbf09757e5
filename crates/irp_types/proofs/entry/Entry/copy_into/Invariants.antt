use Rattle.std.proofs.Common.{◌≡◌, take}
use Rattle.std.specs.Prelude.{vec_len, vec_capacity}
use Rattle.irp_types.proofs.entry.Entry.copy_into.Given as goal

-- the front of the questions is written, and the room is as it was
abbrev pub invariant-loop-item : goal.invariant-loop-item
invariant-loop-item l = (l.asked.items ≡ take l.item-index l.self.asked) × (vec_len l.asked ≡ l.item-index) × (vec_capacity l.asked ≡ vec_capacity l.fn.room)
