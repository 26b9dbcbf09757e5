use Rattle.std.proofs.Common.{◌≡◌, None, List, ◌++◌, ◌∷◌, [], sym, ◌∙◌, ap, subst}
use Rattle.irp_types.specs.State.{Tables, AreTables}
use Rattle.irp_types.specs.declared.routine.Known.{Known}
use Rattle.irp_routines.specs.Tables.{dispatch_refusal}
use Rattle.irp_routines.proofs.Agreeing.{dispatch_agrees}
use Rattle.irp_routines.proofs.Refusing.{dispatch_fits}
use Rattle.irp_routines.proofs.fixed_tables.FixedTables.add_dispatch.Goals as goal

pub invariant_of-self-2 : goal.invariant_of-self-2
invariant_of-self-2 c =
    let tables : Tables = record {
      counts = c.self.inside.counts;
      drivers = c.self.inside.drivers.items;
      dispatches = c.self.inside.dispatches.items;
      cancel_rules = c.self.inside.cancel_rules.items;
    } in
    let fits = dispatch_fits tables c.args.known (subst (λ (given : Tables). dispatch_refusal given c.args.known ≡ None) (sym c.self.view_is) (sym c.dispatch_refusal.ensures ∙ c.in_default.is)) in
    let dispatches = c.push_reserved.ensures.items ∙ ap (λ given. given ++ c.args.known ∷ []) c.reserve.ensures.items in
    subst (λ (given : List Known). AreTables (record tables { dispatches = given })) (sym dispatches) (dispatch_agrees tables c.args.known fits.1 fits.0 c.self.invariant)

pub returns-clause-agree : goal.returns-clause-agree
returns-clause-agree c = invariant_of-self-2 c
