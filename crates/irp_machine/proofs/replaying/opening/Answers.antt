use Rattle.irp_machine.proofs.Histories.{opens_of}
use Rattle.irp_machine.proofs.replaying.opening.Goals as goal

pub returns : goal.returns
returns c = opens_of c.args.header.now c.args.script.now c.play_setup.new.entries.items c.in_ok-start.start c.in_ok-start.ensures.setup
