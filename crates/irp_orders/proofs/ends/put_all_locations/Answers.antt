use Rattle.irp_orders.specs.Ends.{location_above}
use Rattle.irp_orders.proofs.Numbering.{says_next}
use Rattle.irp_orders.proofs.ends.put_all_locations.Goals as goal

pub loop-place-preserved : goal.loop-place-preserved
loop-place-preserved c =
    says_next (location_above c.args.lowest) c.args.locations.now c.loop-place.place _ c.args.out.now c.loop-place.out c.put_location_above.new.out
    c.loop-place-test.true c.loop-place.invariant c.put_location_above.ensures
