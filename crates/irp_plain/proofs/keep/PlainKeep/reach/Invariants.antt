use Rattle.std.proofs.Common.{◌≡◌, ◌+◌, ◌-◌, length}
use Rattle.irp_manager.specs.Slots.{live_of}
use Rattle.irp_plain.proofs.keep.PlainKeep.reach.Given as goal

-- no packet has changed
abbrev pub invariant-loop-self : goal.invariant-loop-self
invariant-loop-self l = live_of l.self-inside.places.items ≡ live_of l.initial.self-inside.places.items

abbrev pub decreases-loop-self : goal.decreases-loop-self
decreases-loop-self l = (l.slot + 1) - length l.self-inside.places.items
