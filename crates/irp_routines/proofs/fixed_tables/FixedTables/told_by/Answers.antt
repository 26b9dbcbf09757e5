use Rattle.std.proofs.Common.{◌≡◌, sym, subst}
use Rattle.irp_types.specs.State.{Tables, AreTables}
use Rattle.irp_routines.proofs.fixed_tables.FixedTables.told_by.Goals as goal

pub invariant_of-result : goal.invariant_of-result
invariant_of-result g c =
    let ask = c.args.ask.now in
    let tables = g.A.Ask.tables ask in
    let told : Tables = record { counts = c.counts.result; drivers = c.in_ok-drivers.drivers.items; dispatches = c.in_ok-dispatches.dispatches.items; cancel_rules = c.in_ok-cancel_rules.cancel_rules.items } in
    let same : told ≡ tables = λ i. record { counts = c.counts.ensures i; drivers = c.in_ok-drivers.ensures i; dispatches = c.in_ok-dispatches.ensures i; cancel_rules = c.in_ok-cancel_rules.ensures i } in
    subst AreTables (sym same) (g.met.A.Ask.tables_agree ask)
