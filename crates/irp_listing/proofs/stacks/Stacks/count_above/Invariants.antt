use Rattle.std.proofs.Common.{◌≡◌, ◌+◌, ◌-◌}
use Rattle.irp_listing.specs.Stacks.{count_above, held}
use Rattle.irp_listing.proofs.stacks.Stacks.count_above.Given as goal

-- those counted so far and those above the last of them are all
abbrev pub invariant-loop-count : goal.invariant-loop-count
invariant-loop-count l =
    l.count + count_above (held l.self.above) (64 - l.count) l.at ≡ count_above (held l.self.above) 64 l.fn.device
