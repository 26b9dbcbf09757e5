-- A created device is alone in its stack, and was not refused.
use Rattle.std.proofs.Common.{◌≡◌, ◌<◌, length, [], sym, ◌∙◌, ap, subst, arith}
use Rattle.std.proofs.lemmas.Bool.{lt-leb}
use Rattle.irp_types.specs.declared.refusal.Refusal.TheVariants.{Full}
use Rattle.irp_types.specs.Limits.{most_devices}
use Rattle.irp_stack.specs.Records.{value_of, IsTidy}
use Rattle.irp_stack.proofs.Refusing.{skips}
use Rattle.irp_stack.proofs.Creating.{out_made}
use Rattle.irp_stack.proofs.stacks.Stacks.create.Goals as goal

pub invariant_of-self-2 : goal.invariant_of-self-2
invariant_of-self-2 c =
    let n : c.len-count.result ≡ length c.self.inside.devices.items = c.len-count.ensures ∙ c.self.inside.devices.ok.0 in
    let e = out_made c.self.inside.devices.items c.args.self.now.devices c.args.driver c.args.lock c.len-count.result n (ap (λ s. s.devices) c.self.view_is) c.self.invariant.1 in
    let items = c.in-Ok.ensures.items in
    (omega (arith, ap length items, e.long, n, c.if-count-ge-MOST_DEVICES.false), subst IsTidy (sym items) e.tidied)

pub returns-clause-created : goal.returns-clause-created
returns-clause-created c =
    let n : c.len-count.result ≡ length c.self.inside.devices.items = c.len-count.ensures ∙ c.self.inside.devices.ok.0 in
    let e = out_made c.self.inside.devices.items c.args.self.now.devices c.args.driver c.args.lock c.len-count.result n (ap (λ s. s.devices) c.self.view_is) c.self.invariant.1 in
    let count : c.len-count.result ≡ length c.args.self.now.devices.facts = n ∙ sym e.count in
    let room : length c.args.self.now.devices.facts < most_devices = omega (arith, count, c.if-count-ge-MOST_DEVICES.false) in
    (count, skips _ Full [] (lt-leb most_devices (length c.args.self.now.devices.facts) room), λ i. record { devices = (ap value_of c.in-Ok.ensures.items ∙ e.value) i; limit = (c.self.view_is i).limit })
