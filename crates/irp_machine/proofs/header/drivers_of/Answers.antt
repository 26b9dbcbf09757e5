use Rattle.std.proofs.Common.{◌+◌, List, take, sym, subst, arith}
use Rattle.irp_types.specs.State.{Entrance}
use Rattle.irp_machine.specs.Headers.{AreSorted, IsSorted}
use Rattle.irp_machine.proofs.Sorting.{sorted_next}
use Rattle.irp_machine.proofs.header.drivers_of.Goals as goal

pub loop-driver-preserved : goal.loop-driver-preserved
loop-driver-preserved c =
    let drivers = c.args.drivers.now in
    let place = c.loop-driver.driver-index in
    let one = c.in_ok-driver_of.field-0 in
    subst (λ (sorted : List (List Entrance)). AreSorted (take (place + 1) drivers) sorted) (sym {A = List (List Entrance)} c.in_ok-push.ensures.items)
    (sorted_next drivers c.loop-driver.sorted.items place c.driver-item.result one (omega (arith, c.loop-driver-test.true)) c.driver-item.is c.loop-driver.invariant
    (subst (λ (driver : List Entrance). IsSorted driver one) c.as_slice.ensures c.in_ok-driver_of.ensures))
