use Rattle.std.proofs.Common.{ℕ, ◌<◌}
use Rattle.irp_plain.specs.Alike.{IsAlike}
use Rattle.irp_plain.proofs.alike.are_same_stacks.Given as goal

-- the devices so far are shown alike
abbrev pub invariant-loop-number : goal.invariant-loop-number
invariant-loop-number l = (lower : ℕ) → lower < l.number → IsAlike l.one.devices l.other.devices lower
