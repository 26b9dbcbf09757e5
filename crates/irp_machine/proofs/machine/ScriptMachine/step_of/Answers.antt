use Rattle.std.proofs.Common.{rules, ◌≡◌, Option, Some, refl, sym, subst}
use Rattle.irp_machine.specs.declared.parts.Planned.{Planned}
use Rattle.irp_machine.specs.Machine.{StepsTo, act_of}
use Rattle.irp_machine.proofs.Plans.{seat_there}
use Rattle.irp_machine.proofs.machine.ScriptMachine.step_of.Goals as goal

pub step_in-requires : goal.step_in-requires
step_in-requires c =
    let act : act_of c.args.self.now c.args.standing.now c.args.seat ≡ Some c.in-Some.planned = search rules in
    seat_there c.args.self.now c.args.standing.now c.args.seat c.in-Some.planned act

pub returns : goal.returns
returns c =
    let machine = c.args.self.now in
    let standing = c.args.standing.now in
    let act : act_of machine standing c.args.seat ≡ Some c.in-Some.planned = search rules in
    subst (λ (act : Option Planned). StepsTo machine standing c.args.seat act (Some c.in_ok-next.next)) (sym act)
    (c.in_ok-next.next, refl, c.in_ok-next.ensures)
