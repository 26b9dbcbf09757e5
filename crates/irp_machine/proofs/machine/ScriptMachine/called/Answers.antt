use Rattle.irp_machine.proofs.Histories.{call_acted}
use Rattle.irp_machine.proofs.machine.ScriptMachine.called.Goals as goal

pub returns : goal.returns
returns c =
    call_acted c.args.self.now c.args.next.now c.call.new.next c.args.seat c.args.planned c.args.calling c.args.learned.now
    c.in_ok-applied.applied c.called.result c.requires c.in_ok-applied.ensures.applied c.in_ok-applied.ensures.rest c.called.ensures
