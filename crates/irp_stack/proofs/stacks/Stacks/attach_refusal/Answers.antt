-- Which refusal an attachment would be answered.
use Rattle.std.proofs.Common.{sym, ◌∙◌, ap, arith}
use Rattle.irp_types.specs.Limits.{most_under}
use Rattle.irp_stack.proofs.Attaching.{out_same, out_still, out_deep, out_fine}
use Rattle.irp_stack.proofs.stacks.Stacks.attach_refusal.Goals as goal

pub returns-then-own-target : goal.returns-then-own-target
returns-then-own-target c =
    sym (out_same c.args.self.now.limit (ap (λ s. s.devices) c.self.view_is) c.self.invariant.1 c.in-Ok.ensures c.in-Ok-live_device.ensures c.if-own-target.true)

pub returns-then-has_neighbour : goal.returns-then-has_neighbour
returns-then-has_neighbour c =
    sym (out_still c.args.self.now.limit (ap (λ s. s.devices) c.self.view_is) c.self.invariant.1 c.in-Ok.ensures c.in-Ok-live_device.ensures c.if-own-target.false
    (sym c.has_neighbour.ensures ∙ c.if-has_neighbour.true))

pub returns-then-record_at-locations : goal.returns-then-record_at-locations
returns-then-record_at-locations c =
    sym (out_deep c.args.self.now.limit (ap (λ s. s.devices) c.self.view_is) c.self.invariant.1 c.in-Ok.ensures c.in-Ok-live_device.ensures c.if-own-target.false
    (sym c.has_neighbour.ensures ∙ c.if-has_neighbour.false) c.record_at.ensures c.record_at-2.ensures (omega (arith, ap (λ s. most_under s.limit) c.self.view_is)))

pub returns : goal.returns
returns c =
    sym (out_fine c.args.self.now.limit (ap (λ s. s.devices) c.self.view_is) c.self.invariant.1 c.in-Ok.ensures c.in-Ok-live_device.ensures c.if-own-target.false
    (sym c.has_neighbour.ensures ∙ c.if-has_neighbour.false) c.record_at.ensures c.record_at-2.ensures (omega (arith, ap (λ s. most_under s.limit) c.self.view_is))).fine
