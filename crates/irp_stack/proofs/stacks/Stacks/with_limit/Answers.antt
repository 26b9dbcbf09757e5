-- No records are tidy, and show no devices.
use Rattle.std.proofs.Common.{length, sym, ◌∙◌, ap, subst, arith}
use Rattle.irp_stack.specs.Records.{value_of, IsTidy}
use Rattle.irp_stack.proofs.Creating.{tidy_none, value_none}
use Rattle.irp_stack.proofs.stacks.Stacks.with_limit.Goals as goal

pub invariant_of-result : goal.invariant_of-result
invariant_of-result c = (omega (arith, ap length c.new.ensures.items), subst IsTidy (sym c.new.ensures.items) tidy_none)

pub returns : goal.returns
returns c = λ i. record { devices = (ap value_of c.new.ensures.items ∙ value_none) i; limit = c.args.limit }
