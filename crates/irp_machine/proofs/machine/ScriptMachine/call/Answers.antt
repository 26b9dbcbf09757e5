use Rattle.std.proofs.Common.{Bool, IfOk, subst}
use Rattle.irp_machine.specs.Calling.{IsApplied}
use Rattle.irp_machine.specs.Machine.{RulesValue, knows_of}
use Rattle.irp_machine.proofs.machine.ScriptMachine.call.Goals as goal

pub returns-clause-applied : goal.returns-clause-applied
returns-clause-applied c =
    subst
    (λ (allocates : Bool).
    IfOk c.call.result
    (λ applied. IsApplied c.args.self.now.fixed c.args.self.now.script allocates (knows_of c.args.learned.now) c.args.next.now.manager c.args.calling.call applied c.call.new.self.manager))
    c.allocates-allocates.ensures
    (subst
    (λ (rules : RulesValue).
    IfOk c.call.result
    (λ applied. IsApplied rules.fixed rules.script c.allocates-allocates.result (knows_of c.args.learned.now) c.args.next.now.manager c.args.calling.call applied c.call.new.self.manager))
    c.self.view_is c.call.ensures.applied)
