-- Which refusal a deletion would be answered.
use Rattle.std.proofs.Common.{sym, ◌∙◌, ap}
use Rattle.irp_stack.proofs.Deleting.{out_kept, out_gone}
use Rattle.irp_stack.proofs.stacks.Stacks.delete_refusal.Goals as goal

pub returns-then-has_neighbour : goal.returns-then-has_neighbour
returns-then-has_neighbour c = sym (out_kept (ap (λ s. s.devices) c.self.view_is) c.self.invariant.1 c.in-Ok.ensures (sym c.has_neighbour.ensures ∙ c.if-has_neighbour.true))

pub returns : goal.returns
returns c = sym (out_gone (ap (λ s. s.devices) c.self.view_is) c.self.invariant.1 c.in-Ok.ensures (sym c.has_neighbour.ensures ∙ c.if-has_neighbour.false)).fine
