use Rattle.std.proofs.Common.{arith, subst}
use Rattle.std.proofs.lemmas.List.{length-map}
use Rattle.irp_remove.specs.Seats.{IsWhole, pair_of, view_of}
use Rattle.irp_remove.proofs.Seating.{views_hold, views_idle}
use Rattle.irp_remove.proofs.seat.RemoveSeat.holds_what_it_lists.Goals as goal

pub returns : goal.returns
returns c =
    let seated = c.self.invariant in
    let there = seated.all_there in
    subst IsWhole c.self.view_is (
      views_hold _ _ seated.all_held,
      views_idle _ _ seated.all_idle,
      omega (arith, length-map c.self.inside.held.items pair_of, length-map c.self.inside.idle.items view_of),
    )
