use Rattle.std.proofs.Common.{subst}
use Rattle.irp_types.specs.Standing.{StandingFacts}
use Rattle.irp_machine.proofs.calling.new_manager.Goals as goal

pub returns-clause-stands : goal.returns-clause-stands
returns-clause-stands c =
    let counts = c.args.header.now.completions in
    subst (StandingFacts counts) c.with_limit.ensures.state (c.with_limit.ensures.stands counts)
