use Rattle.std.proofs.Common.{◌≡◌, None, List, length, ◌++◌, ◌∷◌, [], sym, ◌∙◌, ap, subst}
use Rattle.irp_types.specs.State.{Tables, AreTables}
use Rattle.irp_types.specs.Limits.{most_routines}
use Rattle.irp_types.specs.declared.routine.CancelRule.{CancelRule}
use Rattle.irp_routines.specs.Tables.{cancel_refusal, with_cancel}
use Rattle.irp_routines.proofs.Agreeing.{cancel_agrees}
use Rattle.irp_routines.proofs.Refusing.{room}
use Rattle.irp_routines.proofs.fixed_tables.FixedTables.add_cancel.Goals as goal

pub invariant_of-self-2 : goal.invariant_of-self-2
invariant_of-self-2 c =
    let tables : Tables = record {
      counts = c.self.inside.counts;
      drivers = c.self.inside.drivers.items;
      dispatches = c.self.inside.dispatches.items;
      cancel_rules = c.self.inside.cancel_rules.items;
    } in
    let room = room most_routines (length tables.cancel_rules) (subst (λ (given : Tables). cancel_refusal given ≡ None) (sym c.self.view_is) (sym c.cancel_refusal.ensures ∙ c.in_default.is)) in
    let rules = c.push_reserved.ensures.items ∙ ap (λ given. given ++ c.args.rule ∷ []) c.reserve.ensures.items in
    subst (λ (given : List CancelRule). AreTables (record (with_cancel tables c.args.rule) { cancel_rules = given })) (sym rules) (cancel_agrees tables c.args.rule room c.self.invariant)

pub returns-clause-agree : goal.returns-clause-agree
returns-clause-agree c = invariant_of-self-2 c
