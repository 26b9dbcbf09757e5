-- The position is the one that the record names.
use Rattle.std.proofs.Common.{◌≡◌, length, sym, ◌∙◌, ap, arith}
use Rattle.std.proofs.lemmas.List.{length-map}
use Rattle.irp_types.specs.Stacks.{DevicesValue}
use Rattle.irp_stack.specs.Records.{facts_in}
use Rattle.irp_stack.proofs.Reading.{size_read}
use Rattle.irp_stack.proofs.stacks.Stacks.stack_size.Goals as goal

pub returns-clause-size : goal.returns-clause-size
returns-clause-size c =
    let R = c.self.inside.devices.items in
    let n : length R ≡ length c.args.self.now.devices.facts = sym (length-map R facts_in) ∙ ap (λ (v : DevicesValue). length v.facts) (ap (λ s. s.devices) c.self.view_is) in
    ap (λ r. r.size) c.record_at.ensures ∙ size_read R c.args.self.now.devices c.args.device.0 (ap (λ s. s.devices) c.self.view_is) c.self.invariant.1
    (omega (arith, n, c.requires))
