-- Detach refuses and changes what its checks say.
use Rattle.std.proofs.Common.{◌<◌, length, sym, ◌∙◌, ap, subst, arith, Ok, unwrap_or}
use Rattle.std.specs.List.{AllByRecursion}
use Rattle.irp_types.specs.Limits.{most_locations}
use Rattle.irp_types.specs.Stacks.{upper_of, after_detach}
use Rattle.irp_types.specs.Checks.{answer_unless, value_unless}
use Rattle.irp_stack.specs.Records.{id, value_of, walk, renumbered, IsTidy}
use Rattle.irp_stack.proofs.Detaching.{out_nothing, out_cut}
use Rattle.irp_stack.proofs.stacks.Stacks.detach.Goals as goal

pub returns-in_default-clause-answer : goal.returns-in_default-clause-answer
returns-in_default-clause-answer c =
    let e = out_nothing (ap (λ s. s.devices) c.self.view_is) c.self.invariant.1 c.in_ok-below.ensures c.in_default.is in
    ap (λ o. answer_unless o (id (unwrap_or (upper_of c.args.self.now.devices c.args.lower.0) 0))) (sym e)

pub returns-in_default-clause-changed : goal.returns-in_default-clause-changed
returns-in_default-clause-changed c =
    let e = out_nothing (ap (λ s. s.devices) c.self.view_is) c.self.invariant.1 c.in_ok-below.ensures c.in_default.is in
    ap (λ o. value_unless o c.args.self.now.devices (after_detach c.args.self.now.devices c.args.lower.0)) (sym e)

pub renumber-requires-clause-known : goal.renumber-requires-clause-known
renumber-requires-clause-known c =
    let e = out_cut (ap (λ s. s.devices) c.self.view_is) c.self.invariant.1 c.in_ok-below.ensures c.in-Some.is c.record_at.ensures in
    subst (λ M. AllByRecursion (λ d. d < length M) (walk most_locations M c.in-Some.upper.0)) (sym c.cut_between.ensures) e.known

pub invariant_of-self : goal.invariant_of-self
invariant_of-self c =
    let e = out_cut (ap (λ s. s.devices) c.self.view_is) c.self.invariant.1 c.in_ok-below.ensures c.in-Some.is c.record_at.ensures in
    let same = c.renumber.ensures ∙ ap (λ M. renumbered c.in-Some.upper 1 (walk most_locations M c.in-Some.upper.0) M) c.cut_between.ensures in
    (omega (arith, c.self.invariant.0, e.long, ap length same), subst IsTidy (sym same) e.tidied)

pub returns-clause-answer : goal.returns-clause-answer
returns-clause-answer c =
    let e = out_cut (ap (λ s. s.devices) c.self.view_is) c.self.invariant.1 c.in_ok-below.ensures c.in-Some.is c.record_at.ensures in
    ap Ok e.answer ∙ ap (λ o. answer_unless o (id (unwrap_or (upper_of c.args.self.now.devices c.args.lower.0) 0))) (sym e.fine)

pub returns-clause-changed : goal.returns-clause-changed
returns-clause-changed c =
    let e = out_cut (ap (λ s. s.devices) c.self.view_is) c.self.invariant.1 c.in_ok-below.ensures c.in-Some.is c.record_at.ensures in
    let same = c.renumber.ensures ∙ ap (λ M. renumbered c.in-Some.upper 1 (walk most_locations M c.in-Some.upper.0) M) c.cut_between.ensures in
    ap value_of same ∙ e.value ∙ ap (λ o. value_unless o c.args.self.now.devices (after_detach c.args.self.now.devices c.args.lower.0)) (sym e.fine)
