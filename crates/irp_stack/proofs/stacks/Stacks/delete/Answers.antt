-- Delete refuses and changes what its checks say.
use Rattle.std.proofs.Common.{length, sym, ◌∙◌, ap, subst, arith}
use Rattle.irp_types.specs.Stacks.{after_delete}
use Rattle.irp_types.specs.Checks.{answer_unless, value_unless}
use Rattle.irp_stack.specs.Records.{value_of, IsTidy}
use Rattle.irp_stack.proofs.Deleting.{out_kept, out_gone}
use Rattle.irp_stack.proofs.stacks.Stacks.delete.Goals as goal

pub returns-then-has_neighbour-clause-answer : goal.returns-then-has_neighbour-clause-answer
returns-then-has_neighbour-clause-answer c =
    let e = out_kept (ap (λ s. s.devices) c.self.view_is) c.self.invariant.1 c.in_ok-found.ensures (sym c.has_neighbour.ensures ∙ c.if-has_neighbour.true) in
    ap (λ o. answer_unless o tt) (sym e)

pub invariant_of-self : goal.invariant_of-self
invariant_of-self c =
    let e = out_gone (ap (λ s. s.devices) c.self.view_is) c.self.invariant.1 c.in_ok-found.ensures (sym c.has_neighbour.ensures ∙ c.if-has_neighbour.false) in
    (omega (arith, c.self.invariant.0, e.long, ap length c.retire.ensures), subst IsTidy (sym c.retire.ensures) e.tidied)

pub returns-clause-answer : goal.returns-clause-answer
returns-clause-answer c =
    let e = out_gone (ap (λ s. s.devices) c.self.view_is) c.self.invariant.1 c.in_ok-found.ensures (sym c.has_neighbour.ensures ∙ c.if-has_neighbour.false) in
    ap (λ o. answer_unless o tt) (sym e.fine)

pub returns-clause-changed : goal.returns-clause-changed
returns-clause-changed c =
    let e = out_gone (ap (λ s. s.devices) c.self.view_is) c.self.invariant.1 c.in_ok-found.ensures (sym c.has_neighbour.ensures ∙ c.if-has_neighbour.false) in
    ap value_of c.retire.ensures ∙ e.value ∙ ap (λ o. value_unless o c.args.self.now.devices (after_delete c.args.self.now.devices c.args.device.0)) (sym e.fine)
