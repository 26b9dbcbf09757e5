-- Tidy records show stacks in which each device is at one place.
use Rattle.std.proofs.Common.{ap}
use Rattle.irp_stack.proofs.Reading.{are_stacks}
use Rattle.irp_stack.proofs.stacks.Stacks.are_stacks.Goals as goal

pub returns : goal.returns
returns c = are_stacks c.self.inside.devices.items c.args.self.now.devices (ap (λ s. s.devices) c.self.view_is) c.self.invariant.1
