use Rattle.std.proofs.Common.{List, length, ap, ◌∙◌, arith}
use Rattle.irp_machine.specs.declared.parts.Planned.{Planned}
use Rattle.irp_machine.proofs.Accepted.{header_accepted}
use Rattle.irp_machine.proofs.Plans.{acts_long}
use Rattle.irp_machine.proofs.opening.machine_of.Goals as goal

pub new-asker-requires : goal.new-asker-requires
new-asker-requires c = (header_accepted c.args.script.now c.args.header.now c.requires.sound c.requires.headed).tables

pub new-requires : goal.new-requires
new-requires c =
    let long = ap (λ (acts : List (List Planned)). length acts) c.in_ok-acts.ensures.acts
    ∙ acts_long c.args.rivals.now c.args.steps.now c.args.script.now.seats in
    let few = c.requires.sound.few_seats in
    omega (arith, long, few)
