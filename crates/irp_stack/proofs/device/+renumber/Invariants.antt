-- The positions that are left decrease.
use Rattle.std.proofs.Common.{◌+◌, ◌-◌}
use Rattle.irp_types.specs.Limits.{most_locations}
use Rattle.irp_stack.proofs.device.+renumber.Given as goal

abbrev pub decreases-renumber : goal.decreases-renumber
decreases-renumber l = most_locations + 1 - l.size
