use Rattle.std.proofs.Common.{◌≡◌, ◌∙◌, ◌-◌, ℕ, ap, arith}
use Rattle.irp_grammar.specs.Reading.{attachments, members_of, with_steps}
use Rattle.irp_grammar.proofs.Adding.{attached_more}
use Rattle.irp_grammar.proofs.said.Said.attach_all.Goals as goal

-- one more is attached
pub loop-device-preserved : goal.loop-device-preserved
loop-device-preserved c =
    let above = c.loop-device.invariant.0 in (
      omega (arith, above),
      omega (arith, c.loop-device-test.true),
      attached_more c.args.head.section c.args.head.seat c.args.head.condition c.args.first c.loop-device.device
          (members_of c.args.self.now) (members_of c.loop-device.self) (members_of c.attach.new.self) above
          c.loop-device.invariant.2 c.in_ok-attach.ensures,
    )

-- all that were created are
pub returns : goal.returns
returns c =
    let all : c.loop-device.device - c.args.first ≡ c.args.self.now.devices - c.args.first =
    omega (arith, c.loop-device-test.false, c.loop-device.invariant.0, c.loop-device.invariant.1) in
    c.loop-device.invariant.2
    ∙ ap
    (λ (n : ℕ). with_steps c.args.head.section (attachments n c.args.head.seat c.args.head.condition c.args.first) (members_of c.args.self.now))
    all
