use Rattle.std.proofs.Common.{◌≡◌, None, List, ◌++◌, ◌∷◌, [], sym, ◌∙◌, ap, subst}
use Rattle.irp_types.specs.State.{Tables, Entrance, AreTables}
use Rattle.irp_routines.specs.Tables.{by_major, driver_refusal}
use Rattle.irp_routines.proofs.Agreeing.{driver_agrees}
use Rattle.irp_routines.proofs.ByMajor.{driver_by_major}
use Rattle.irp_routines.proofs.Refusing.{driver_fits}
use Rattle.irp_routines.proofs.fixed_tables.FixedTables.add_driver.Goals as goal

pub invariant_of-self-2 : goal.invariant_of-self-2
invariant_of-self-2 c =
    let tables : Tables = record {
      counts = c.self.inside.counts;
      drivers = c.self.inside.drivers.items;
      dispatches = c.self.inside.dispatches.items;
      cancel_rules = c.self.inside.cancel_rules.items;
    } in
    let pairs = c.args.pairs.items in
    let fits = driver_fits tables pairs (subst (λ (given : Tables). driver_refusal given pairs ≡ None) (sym c.self.view_is) (ap (driver_refusal c.args.self.now) (sym c.as_slice.ensures.value) ∙ sym c.driver_refusal.ensures ∙ c.in_default.is)) in
    let table : c.from_vec.result ≡ by_major pairs = c.from_vec.ensures ∙ c.in-Ok.ensures ∙ ap by_major c.as_slice-2.ensures.value in
    let drivers = c.push_reserved.ensures.items ∙ ap (λ given. given ++ c.from_vec.result ∷ []) c.reserve.ensures.items ∙ ap (λ given. tables.drivers ++ given ∷ []) table in
    subst (λ (given : List (List Entrance)). AreTables (record tables { drivers = given })) (sym drivers) (driver_agrees tables (by_major pairs) fits.1 (driver_by_major tables pairs fits.0) c.self.invariant)

pub returns-clause-agree : goal.returns-clause-agree
returns-clause-agree c = invariant_of-self-2 c
