use Rattle.irp_manager.proofs.manager.Manager.with_limit.Goals as goal

pub returns-clause-stands : goal.returns-clause-stands
returns-clause-stands g c = c.with_limit.ensures.stands (g.A.Ask.tables c.args.ask).counts
