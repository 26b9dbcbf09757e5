use Rattle.std.proofs.Common.{◌≡◌, None, sym, subst}
use Rattle.irp_types.specs.State.{Tables, AreTables}
use Rattle.irp_types.specs.Limits.{most_routines}
use Rattle.irp_types.specs.Rules.{count_of_rule}
use Rattle.irp_types.specs.declared.routine.Known.{Known}
use Rattle.irp_routines.specs.Tables.{routine_refusal}
use Rattle.irp_routines.proofs.Agreeing.{routine_agrees}
use Rattle.irp_routines.proofs.Refusing.{room}
use Rattle.irp_routines.proofs.fixed_tables.FixedTables.add_counted.Goals as goal

pub invariant_of-self : goal.invariant_of-self
invariant_of-self c =
    let tables : Tables = record {
      counts = c.self.inside.counts;
      drivers = c.self.inside.drivers.items;
      dispatches = c.self.inside.dispatches.items;
      cancel_rules = c.self.inside.cancel_rules.items;
    } in
    let room = room most_routines (count_of_rule tables.counts c.args.rule) (subst (λ (given : Tables). routine_refusal given c.args.rule ≡ None) (sym c.self.view_is) c.requires) in
    subst (λ (counts : Known). AreTables (record tables { counts = counts })) (sym c.one_more-self-inside.ensures) (routine_agrees tables c.args.rule room c.self.invariant)

pub returns-clause-agree : goal.returns-clause-agree
returns-clause-agree c = invariant_of-self c
