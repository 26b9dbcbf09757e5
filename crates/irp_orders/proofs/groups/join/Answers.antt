use Rattle.std.proofs.Common.{◌≡◌, ◌+◌, ℕ, List, Option, Some, inl, refl, min, arith, subst}
use Rattle.std.specs.Prelude.{IfSome, slice_get}
use Rattle.std.specs.Option.{IsSomeAnd}
use Rattle.std.proofs.lemmas.Grind.{common_steps}
use Rattle.std.proofs.lemmas.Option.{gets}
use Rattle.irp_orders.specs.Alike.{AreAlike}
use Rattle.irp_orders.specs.Rows.{most_orders, most_joined}
use Rattle.irp_orders.specs.declared.found.Found.{Found}
use Rattle.irp_orders.proofs.Grouping.{alike_at}
use Rattle.irp_orders.proofs.groups.join.Goals as goal

pub returns : goal.returns
returns c =
    let orders : c.saturating_add-group.result ≡ min (c.in-Some-get_mut.group.now.orders + c.args.found.orders) most_orders = grind (arith, c.saturating_add-group.ensures) in
    let joined : c.saturating_add-group-2.result ≡ min (c.in-Some-get_mut.group.now.joined + 1) most_joined = grind (arith, c.saturating_add-group-2.ensures) in
    let stands : slice_get c.args.groups.now.items c.in-Some.place ≡ Some c.in-Some-get_mut.group.now = grind (arith, common_steps, gets, c.in-Some-get_mut.ensures) in
    let there : IsSomeAnd (slice_get c.as_slice.result.now c.in-Some.place) (λ row. AreAlike row c.args.found) =
    subst (λ (place : Option ℕ). IfSome place (λ number. IsSomeAnd (slice_get c.as_slice.result.now number) (λ row. AreAlike row c.args.found))) c.in-Some.is c.in_ok-place.ensures in
    let alike =
    alike_at c.args.groups.now.items c.in-Some.place c.in-Some-get_mut.group.now c.args.found stands
    (subst (λ (rows : List Found). IsSomeAnd (slice_get rows c.in-Some.place) (λ row. AreAlike row c.args.found)) c.as_slice.ensures.value there) in
    record {
      number = c.in-Some.place;
      made = inl (c.in-Some-get_mut.group.now, stands, alike, rw (orders, joined) refl);
    }
