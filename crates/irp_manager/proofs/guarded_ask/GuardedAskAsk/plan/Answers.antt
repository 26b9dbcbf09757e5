use Rattle.std.proofs.Common.{◌≡◌, length, sym, ap, subst, arith}
use Rattle.irp_types.specs.State.{Tables}
use Rattle.irp_types.specs.declared.answer.Plan.{Plan}
use Rattle.irp_manager.proofs.Passed.{plan_passes}
use Rattle.irp_manager.proofs.guarded_ask.GuardedAskAsk.plan.Goals as goal
use Rattle.irp_manager.proofs.guarded_ask.GuardedAskAsk.plan.Goals.{then-id-dispatches, else-id-dispatches}

pub returns : goal.returns
returns g c =
    let tables : Tables = c.args.self.now.tables in
    let own : Tables = g.A.Ask.tables c.args.self.now.ask in
    let may = g.A.Ask.may_plan c.args.self.now.ask in
    let id = c.args.id in
    let shown = c.args.shown in
    let given : Plan = c.if-id-dispatches.plan in
    plan_passes tables own may id shown c.known_of-known.result given c.guarded_plan.result c.known_of-known.ensures c.guarded_plan.ensures
    (λ same. elim c.if-id-dispatches.branch as (λ _. may id shown given) [
      | then-id-dispatches w ↦ subst (may id shown) (sym w.plan-is) w.plan-plan.ensures
      | else-id-dispatches w ↦
          let none = w.if-id-dispatches in
          let count : length own.dispatches ≡ length tables.dispatches = ap (λ (found : Tables). length found.dispatches) same in
          absurd (omega (arith, none, count, c.dispatches.ensures, c.requires))
    ])
    (g.met.A.Ask.plans_allowed c.args.self.now.ask id shown given)
