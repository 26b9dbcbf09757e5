use Rattle.std.proofs.Common.{◌≡◌, rules, subst}
use Rattle.irp_types.specs.State.{Tables, AreTables}
use Rattle.irp_routines.proofs.fixed_tables.FixedTables.copied.Goals as goal

pub invariant_of-result : goal.invariant_of-result
invariant_of-result c =
    let inside = c.self.inside in
    let drivers : inside.drivers.items ≡ c.in_ok-drivers.drivers.items = search rules in
    let dispatches : inside.dispatches.items ≡ c.in_ok-dispatches.dispatches.items = search rules in
    let cancel_rules : inside.cancel_rules.items ≡ c.in_ok-cancel_rules.cancel_rules.items = search rules in
    let before : Tables = record { counts = inside.counts; drivers = inside.drivers.items; dispatches = inside.dispatches.items; cancel_rules = inside.cancel_rules.items } in
    let after : Tables = record { counts = inside.counts; drivers = c.in_ok-drivers.drivers.items; dispatches = c.in_ok-dispatches.dispatches.items; cancel_rules = c.in_ok-cancel_rules.cancel_rules.items } in
    let same : before ≡ after = λ i. record { counts = inside.counts; drivers = drivers i; dispatches = dispatches i; cancel_rules = cancel_rules i } in
    subst AreTables same c.self.invariant
