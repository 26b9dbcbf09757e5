-- The device above is the one that the record names.
use Rattle.std.proofs.Common.{◌<◌, length, ◌∙◌, ap, subst}
use Rattle.irp_stack.specs.declared.device.Device.{Device}
use Rattle.irp_stack.specs.Records.{record_of, blank}
use Rattle.irp_stack.proofs.Heights.{upper_read}
use Rattle.irp_stack.proofs.stacks.Stacks.upper.Goals as goal

pub returns : goal.returns
returns c =
    let found = c.in_ok-get.ensures.lookup.3 in
    let known : c.args.device.0 < length c.self.inside.devices.items = subst (λ l. c.args.device.0 < length l) c.deref.ensures.value found.0 in
    ap (λ (r : Device). r.upper) (found.1 blank ∙ ap (λ l. record_of l c.args.device.0) c.deref.ensures.value)
    ∙ upper_read c.self.inside.devices.items c.args.self.now.devices c.args.device.0 (ap (λ s. s.devices) c.self.view_is) c.self.invariant.1 known
