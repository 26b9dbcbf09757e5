-- The height is the position that the record of the top names.
use Rattle.std.proofs.Common.{◌<◌, length, sym, ◌∙◌, ap, subst, arith}
use Rattle.irp_stack.specs.declared.device.Device.{Device}
use Rattle.irp_stack.specs.Records.{record_of}
use Rattle.irp_stack.proofs.Heights.{bottom_known, height_none, height_read, top_known}
use Rattle.irp_stack.proofs.stacks.Stacks.height.Goals as goal

pub returns-then-device-len : goal.returns-then-device-len
returns-then-device-len c =
    height_none c.self.inside.devices.items c.args.self.now.devices c.args.device.0 (ap (λ s. s.devices) c.self.view_is) c.self.invariant.1
    (omega (arith, c.if-device-len.true, c.len.ensures ∙ c.self.inside.devices.ok.0))

pub record_at-base-requires : goal.record_at-base-requires
record_at-base-requires c =
    let known : c.args.device.0 < length c.self.inside.devices.items = omega (arith, c.if-device-len.false, c.len.ensures ∙ c.self.inside.devices.ok.0) in
    subst (λ (given : Device). given.bottom.0 < length c.self.inside.devices.items) (sym c.record_at-own.ensures) (bottom_known c.self.inside.devices.items c.self.invariant.1 c.args.device.0 known)

pub record_at-requires : goal.record_at-requires
record_at-requires c =
    let R = c.self.inside.devices.items in
    let known : c.args.device.0 < length R = omega (arith, c.if-device-len.false, c.len.ensures ∙ c.self.inside.devices.ok.0) in
    let base = c.record_at-base.ensures ∙ ap (λ (own : Device). record_of R own.bottom.0) c.record_at-own.ensures in
    subst (λ (given : Device). given.top.0 < length R) (sym base) (top_known R c.self.invariant.1 c.args.device.0 known)

pub returns : goal.returns
returns c =
    let R = c.self.inside.devices.items in
    let known : c.args.device.0 < length R = omega (arith, c.if-device-len.false, c.len.ensures ∙ c.self.inside.devices.ok.0) in
    let base = c.record_at-base.ensures ∙ ap (λ (own : Device). record_of R own.bottom.0) c.record_at-own.ensures in
    ap (λ (given : Device). given.size) c.record_at.ensures
    ∙ ap (λ (given : Device). (record_of R given.top.0).size) base
    ∙ height_read R c.args.self.now.devices c.args.device.0 (ap (λ s. s.devices) c.self.view_is) c.self.invariant.1 known
