use Rattle.std.proofs.Common.{arith, refl, below_more}
use Rattle.irp_plain.specs.Alike.{IsAlike}
use Rattle.irp_plain.proofs.SameStacks.{same_devices}
use Rattle.irp_plain.proofs.alike.are_same_stacks.Goals as goal

pub loop-number-preserved : goal.loop-number-preserved
loop-number-preserved c =
    below_more (IsAlike c.args.one.now.devices c.args.other.now.devices) c.loop-number.number c.loop-number.invariant
    (c.is_same_device.ensures.0 c.if-not-is_same_device.false)

pub returns : goal.returns
returns c = (
  λ _. same_devices c.args.one.now.devices c.args.other.now.devices (record {
    counted = omega arith;
    one_stands = c.are_stacks.ensures;
    other_stands = c.are_stacks-2.ensures;
    alike = λ device created. c.loop-number.invariant device (omega arith);
  }),
  λ _. refl,
)
