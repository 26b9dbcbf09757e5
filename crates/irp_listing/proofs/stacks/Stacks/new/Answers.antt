-- Nothing is told yet.
use Rattle.std.proofs.Common.{refl}
use Rattle.irp_listing.specs.Stacks.{tells_above, tells_lost}
use Rattle.irp_listing.proofs.Following.{none_kept}
use Rattle.irp_listing.proofs.stacks.Stacks.new.Goals as goal

pub returns : goal.returns
returns c = record { above = none_kept tells_above; lost = none_kept tells_lost; devices = (refl, refl) }
