-- Attach refuses and changes what its checks say.
use Rattle.std.proofs.Common.{length, sym, ◌∙◌, ap, subst, arith, Ok}
use Rattle.std.proofs.lemmas.Result.{err_from_is_err_and}
use Rattle.irp_types.specs.Stacks.{top_of, after_attach}
use Rattle.irp_types.specs.Limits.{most_under}
use Rattle.irp_types.specs.Checks.{answer_unless, value_unless}
use Rattle.irp_stack.specs.Records.{id, value_of, IsTidy}
use Rattle.irp_stack.proofs.Attaching.{out_target, out_same, out_still, out_deep, out_fine}
use Rattle.irp_stack.proofs.stacks.Stacks.attach.Goals as goal

pub returns-in_err-target-clause-answer : goal.returns-in_err-target-clause-answer
returns-in_err-target-clause-answer c =
    let p = err_from_is_err_and c.from_residual-in_err-target.result c.from_residual-in_err-target.ensures.1 in
    let e = out_target c.args.self.now.limit c.args.to.0 (ap (λ s. s.devices) c.self.view_is) c.in_ok-own.ensures c.in_err-target.ensures in
    rw (p.1, p.2) (ap (λ o. answer_unless o (id (top_of c.args.self.now.devices c.args.to.0))) (sym e))

pub returns-in_err-target-clause-changed : goal.returns-in_err-target-clause-changed
returns-in_err-target-clause-changed c =
    let e = out_target c.args.self.now.limit c.args.to.0 (ap (λ s. s.devices) c.self.view_is) c.in_ok-own.ensures c.in_err-target.ensures in
    ap (λ o. value_unless o c.args.self.now.devices (after_attach c.args.self.now.devices c.args.device.0 c.args.to.0)) (sym e)

pub returns-then-own-target-clause-answer : goal.returns-then-own-target-clause-answer
returns-then-own-target-clause-answer c =
    let e = out_same c.args.self.now.limit (ap (λ s. s.devices) c.self.view_is) c.self.invariant.1 c.in_ok-own.ensures c.in_ok-target.ensures c.if-own-target.true in
    ap (λ o. answer_unless o (id (top_of c.args.self.now.devices c.args.to.0))) (sym e)

pub returns-then-own-target-clause-changed : goal.returns-then-own-target-clause-changed
returns-then-own-target-clause-changed c =
    let e = out_same c.args.self.now.limit (ap (λ s. s.devices) c.self.view_is) c.self.invariant.1 c.in_ok-own.ensures c.in_ok-target.ensures c.if-own-target.true in
    ap (λ o. value_unless o c.args.self.now.devices (after_attach c.args.self.now.devices c.args.device.0 c.args.to.0)) (sym e)

pub returns-then-has_neighbour-clause-answer : goal.returns-then-has_neighbour-clause-answer
returns-then-has_neighbour-clause-answer c =
    let e = out_still c.args.self.now.limit (ap (λ s. s.devices) c.self.view_is) c.self.invariant.1 c.in_ok-own.ensures c.in_ok-target.ensures c.if-own-target.false
    (sym c.has_neighbour.ensures ∙ c.if-has_neighbour.true) in
    ap (λ o. answer_unless o (id (top_of c.args.self.now.devices c.args.to.0))) (sym e)

pub returns-then-has_neighbour-clause-changed : goal.returns-then-has_neighbour-clause-changed
returns-then-has_neighbour-clause-changed c =
    let e = out_still c.args.self.now.limit (ap (λ s. s.devices) c.self.view_is) c.self.invariant.1 c.in_ok-own.ensures c.in_ok-target.ensures c.if-own-target.false
    (sym c.has_neighbour.ensures ∙ c.if-has_neighbour.true) in
    ap (λ o. value_unless o c.args.self.now.devices (after_attach c.args.self.now.devices c.args.device.0 c.args.to.0)) (sym e)

pub returns-then-depth-locations-clause-answer : goal.returns-then-depth-locations-clause-answer
returns-then-depth-locations-clause-answer c =
    let e = out_deep c.args.self.now.limit (ap (λ s. s.devices) c.self.view_is) c.self.invariant.1 c.in_ok-own.ensures c.in_ok-target.ensures c.if-own-target.false
    (sym c.has_neighbour.ensures ∙ c.if-has_neighbour.false) c.record_at-depth.ensures c.record_at-depth-2.ensures (omega (arith, ap (λ s. most_under s.limit) c.self.view_is)) in
    ap (λ o. answer_unless o (id (top_of c.args.self.now.devices c.args.to.0))) (sym e)

pub invariant_of-self : goal.invariant_of-self
invariant_of-self c =
    let e = out_fine c.args.self.now.limit (ap (λ s. s.devices) c.self.view_is) c.self.invariant.1 c.in_ok-own.ensures c.in_ok-target.ensures c.if-own-target.false
    (sym c.has_neighbour.ensures ∙ c.if-has_neighbour.false) c.record_at-depth.ensures c.record_at-depth-2.ensures
    (omega (arith, ap (λ s. most_under s.limit) c.self.view_is)) in
    (omega (arith, c.self.invariant.0, e.long, ap length c.put_above.ensures), subst IsTidy (sym c.put_above.ensures) e.tidied)

pub returns-clause-answer : goal.returns-clause-answer
returns-clause-answer c =
    let e = out_fine c.args.self.now.limit (ap (λ s. s.devices) c.self.view_is) c.self.invariant.1 c.in_ok-own.ensures c.in_ok-target.ensures c.if-own-target.false
    (sym c.has_neighbour.ensures ∙ c.if-has_neighbour.false) c.record_at-depth.ensures c.record_at-depth-2.ensures
    (omega (arith, ap (λ s. most_under s.limit) c.self.view_is)) in
    ap Ok e.answer ∙ ap (λ o. answer_unless o (id (top_of c.args.self.now.devices c.args.to.0))) (sym e.fine)

pub returns-clause-changed : goal.returns-clause-changed
returns-clause-changed c =
    let e = out_fine c.args.self.now.limit (ap (λ s. s.devices) c.self.view_is) c.self.invariant.1 c.in_ok-own.ensures c.in_ok-target.ensures c.if-own-target.false
    (sym c.has_neighbour.ensures ∙ c.if-has_neighbour.false) c.record_at-depth.ensures c.record_at-depth-2.ensures
    (omega (arith, ap (λ s. most_under s.limit) c.self.view_is)) in
    ap value_of c.put_above.ensures ∙ e.value ∙ ap (λ o. value_unless o c.args.self.now.devices (after_attach c.args.self.now.devices c.args.device.0 c.args.to.0))
    (sym e.fine)
