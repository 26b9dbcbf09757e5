use Rattle.std.proofs.Common.{refl, map, subst, sym, rules}
use Rattle.std.proofs.lemmas.Result.{err_from_is_err_and}
use Rattle.irp_script.specs.Seats.{number_of, seat_at_work, seats_at_work}
use Rattle.irp_script.specs.Working.{HandStops, working}
use Rattle.irp_script.proofs.Handing.{makes_hand}
use Rattle.irp_script.proofs.Stopping.{has_seat, no_seat, none_of_them, one_number}
use Rattle.irp_script.proofs.worker.Worker.hand.Goals as goal

pub returns-clause-made : goal.returns-clause-made
returns-clause-made g c =
    makes_hand seat_at_work _ _ c.args.step c.args.hand c.in-Some.from_at c.in-Some-place_of.to_at
    c.args.self.now.seats.items c.hand_between-reply.new.seats.items _ _ _ _ _ _ _
    c.in-Some.ensures.some c.in-Some-place_of.ensures.some (search rules) c.reserve.ensures.items c.hand_between-reply.ensures.hands c.tell.ensures c.keep.ensures

pub returns-in_default-clause-made : goal.returns-in_default-clause-made
returns-in_default-clause-made g c = (
  refl,
  no_seat seat_at_work c.args.self.now.seats.items c.args.step.seat (none_of_them c.place_of.result c.in_default.is c.place_of.ensures.none),
)

pub returns-in_default-place_of-clause-made : goal.returns-in_default-place_of-clause-made
returns-in_default-place_of-clause-made g c = (
  refl,
  (
    has_seat seat_at_work c.args.self.now.seats.items c.in-Some.from_at c.args.step.seat c.in-Some.ensures.some,
    no_seat seat_at_work c.args.self.now.seats.items c.args.hand.to (none_of_them c.place_of-2.result c.in_default-place_of.is c.place_of-2.ensures.none),
  ),
)

pub returns-then-from_at-to_at-clause-made : goal.returns-then-from_at-to_at-clause-made
returns-then-from_at-to_at-clause-made g c = (
  refl,
  (
    has_seat seat_at_work c.args.self.now.seats.items c.in-Some.from_at c.args.step.seat c.in-Some.ensures.some,
    one_number (map number_of c.args.self.now.seats.items) c.in-Some.from_at c.in-Some-place_of.to_at c.args.step.seat c.args.hand.to
        c.in-Some.ensures.some c.in-Some-place_of.ensures.some c.if-from_at-to_at.true,
  ),
)

pub returns-in_err-reserve-clause-made : goal.returns-in_err-reserve-clause-made
returns-in_err-reserve-clause-made g c =
    let p = err_from_is_err_and c.from_residual.result c.from_residual.ensures.1 in
    rw p.1 (
      (λ i. working (seats_at_work c.args.self.now.seats.items) (c.reserve.ensures.items i) c.args.self.now.known c.args.self.now.heard.items),
      subst (HandStops c.args.step c.args.hand (map seat_at_work c.args.self.now.seats.items)) (sym p.2) (
        has_seat seat_at_work c.args.self.now.seats.items c.in-Some.from_at c.args.step.seat c.in-Some.ensures.some,
        has_seat seat_at_work c.args.self.now.seats.items c.in-Some-place_of.to_at c.args.hand.to c.in-Some-place_of.ensures.some,
      ),
    )
