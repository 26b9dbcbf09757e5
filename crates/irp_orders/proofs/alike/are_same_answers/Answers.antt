use Rattle.std.proofs.Common.{◌≡◌, ◌<◌, arith, length, true}
use Rattle.irp_orders.specs.Alike.{SayTheSame}
use Rattle.irp_orders.proofs.Pairing.{zip_next}
use Rattle.irp_orders.proofs.alike.are_same_answers.Goals as goal

pub loop-place-preserved : goal.loop-place-preserved
loop-place-preserved c =
    let low : c.loop-place.place < length c.args.ones.now = omega (arith, c.loop-place-test.true) in
    let other : c.loop-place.place < length c.args.others.now = omega (arith, low, c.if-ones-others.false) in
    let same : c.say_the_same.result ≡ true = grind (arith, c.if-not-say_the_same.false) in
    zip_next SayTheSame c.args.ones.now c.args.others.now c.loop-place.place _ _ low other c.loop-place.invariant
    (c.say_the_same.ensures.0 same)
