-- Which refusal a detachment would be answered.
use Rattle.std.proofs.Common.{sym, ap}
use Rattle.irp_stack.proofs.Detaching.{out_nothing}
use Rattle.irp_stack.proofs.Heights.{out_above}
use Rattle.irp_stack.proofs.stacks.Stacks.detach_refusal.Goals as goal

pub returns-in-None : goal.returns-in-None
returns-in-None c = sym (out_nothing (ap (λ s. s.devices) c.self.view_is) c.self.invariant.1 c.in-Ok.ensures c.in-None.is)

pub returns-in-Some : goal.returns-in-Some
returns-in-Some c = sym (out_above (ap (λ s. s.devices) c.self.view_is) c.self.invariant.1 c.in-Ok.ensures c.in-Some.is)
