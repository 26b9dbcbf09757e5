use Rattle.std.proofs.Common.{sym, ◌∙◌}
use Rattle.irp_routines.specs.TableFacts.{dispatch_there}
use Rattle.irp_unwind.proofs.device.ask_plan.Goals as goal

pub plan-plan-requires : goal.plan-plan-requires
plan-plan-requires g c =
    let ask = c.args.ask.now in
    dispatch_there (g.A.Ask.tables ask) c.driver_of.result c.shown_here-shown.result.major c.in_ok-id.id (g.met.A.Ask.tables_agree ask) (sym c.dispatch_of.ensures ∙ c.in_ok-id.was)
