use Rattle.std.proofs.Common.{arith, ◌-◌}
use Rattle.irp_explore.proofs.Apart.{none_before}
use Rattle.irp_explore.proofs.joining.place_of.Goals as goal

pub returns-then-other-node-clause-none : goal.returns-then-other-node-clause-none
returns-then-other-node-clause-none g c = λ start steps all reached falling floor.
    let moves = g.M.Machine.moves c.args.machine.now in
    let seats = g.M.Machine.seats c.args.machine.now in
    let mark = g.M.Machine.mark c.args.machine.now in
    let place = c.loop-end.end - 1 in
    none_before moves seats mark start steps c.args.joined.now c.args.node.now c.index-joined-end.result place
    (omega (arith, c.loop-end.invariant.within, c.loop-end-test.true)) c.index-joined-end.is c.if-other-node.true all reached falling floor
    (λ k d from below. c.loop-end.invariant.apart k d (omega (arith, from, c.loop-end-test.true)) below)
