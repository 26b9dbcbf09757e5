use Rattle.std.proofs.Common.{rules, arith, length, sym}
use Rattle.irp_shared.proofs.Gathering.{if_none_on, all_on, counts_left, stand_on, stood_last}
use Rattle.irp_shared.proofs.closing.gather.Goals as goal

pub loop-seat-preserved-in-Some-compare : goal.loop-seat-preserved-in-Some-compare
loop-seat-preserved-in-Some-compare g c =
    let left = c.loop-seat.left.items in
    let fewer = c.pop.new.self.items in
    let taken = c.in-Some.ensures.items in
    let old = c.loop-seat.invariant in
    let counts = counts_left left fewer c.in-Some.seat taken in
    let differs = c.in-Some-compare.ensures.differs in
    let sums = old.1 in
    let amount = c.compare.ensures.amount in
    let parts = old.0 in
    let merged = c.compare.ensures.parts in
    let lengths = c.pop.ensures.len in (
      search rules,
      omega (arith, counts, sums, amount),
      tt,
      (record { place = length fewer; seat = c.in-Some.seat; given = old.4 (length fewer) c.in-Some.seat (stood_last left fewer c.in-Some.seat taken); numbered = sym differs.0; kept_there = differs.1 }, differs.2, c.in-Some-compare.ensures.place),
      λ place seat at. old.4 place seat (stand_on left fewer c.in-Some.seat taken place seat at),
    )

pub loop-seat-preserved : goal.loop-seat-preserved
loop-seat-preserved g c =
    let left = c.loop-seat.left.items in
    let fewer = c.pop.new.self.items in
    let taken = c.in-Some.ensures.items in
    let old = c.loop-seat.invariant in
    let counts = counts_left left fewer c.in-Some.seat taken in
    let sums = old.1 in
    let amount = c.compare.ensures.amount in (
      search rules,
      omega (arith, counts, sums, amount),
      if_none_on c.loop-seat.difference (all_on c.args.history.now c.args.seats.items left fewer c.in-Some.seat taken c.in_default-compare.ensures.same) old.2,
      old.3,
      λ place seat at. old.4 place seat (stand_on left fewer c.in-Some.seat taken place seat at),
    )
