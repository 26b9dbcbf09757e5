-- Which slot a new packet gets. A session keeps its packets in a slab: a new one gets the slot that was freed last, and
-- where each slot that was freed has a packet again, the first that never had one.
use Rattle.std.specs.Prelude.{ℕ, ◌-◌, Bool, true, false, List, [], ◌∷◌, ◌++◌, length, take, slice_get, unwrap_or}
use Rattle.irp_types.specs.Calls.{Call}
use Rattle.irp_types.specs.declared.call.Call.TheVariants.{Allocate, Free}
use Rattle.irp_types.specs.declared.reply.Reply.{Reply}
use Rattle.irp_types.specs.declared.reply.Reply.TheVariants.{Done, Irp}

-- the slot of the next packet, where these slots were freed and have no packet since, the one that was freed last at the
-- end, and so many packets are live
abbrev pub next_slot : List ℕ → ℕ → ℕ
next_slot freed live = unwrap_or (slice_get freed (length freed - 1)) live

-- the freed slots behind a call that was answered so
abbrev pub freed_after : Call → Reply → List ℕ → List ℕ
freed_after (Allocate size) (Irp irp) freed = take (length freed - 1) freed
freed_after (Free irp) Done freed = freed ++ irp.slot ∷ []
freed_after call reply freed = freed

-- the same, where a new packet may come to be; else none is kept, since nothing shows it
abbrev pub freed_if : Bool → Call → Reply → List ℕ → List ℕ
freed_if true call reply freed = freed_after call reply freed
freed_if false call reply freed = []
