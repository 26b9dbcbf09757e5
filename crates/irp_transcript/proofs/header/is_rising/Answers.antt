-- The next major is above the one before it, or the rise stops there.
use Rattle.irp_transcript.proofs.Each.{no_truth}
use Rattle.irp_transcript.proofs.Rising.{rises_more, rises_not}
use Rattle.irp_transcript.proofs.header.is_rising.Goals as goal

pub returns-then-pairs-place : goal.returns-then-pairs-place
returns-then-pairs-place c = (
  λ yes. absurd (no_truth yes),
  λ rising. absurd (rises_not c.args.pairs.now c.loop-place.place c.loop-place.auto.place c.loop-place-test.true c.if-pairs-place.true rising),
)

pub loop-place-preserved : goal.loop-place-preserved
loop-place-preserved c =
    rises_more c.args.pairs.now c.loop-place.place c.loop-place.auto.place c.if-pairs-place.false c.loop-place.invariant
