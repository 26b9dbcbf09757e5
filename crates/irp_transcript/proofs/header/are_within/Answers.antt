-- The counts are within where each is.
use Rattle.std.proofs.Common.{refl}
use Rattle.std.proofs.lemmas.List.Elements.{All-more}
use Rattle.irp_types.specs.Rules.{IsWithin}
use Rattle.irp_transcript.proofs.Each.{each_done}
use Rattle.irp_transcript.proofs.header.are_within.Goals as goal

pub loop-one-preserved : goal.loop-one-preserved
loop-one-preserved c =
    All-more (λ one. IsWithin one c.args.counts) c.args.known.now c.loop-one.one-index _ c.loop-one-test.true c.loop-one.invariant
    (c.is_within.ensures.0 c.if-not-is_within.false)

pub returns : goal.returns
returns c =
    (λ _. each_done (λ one. IsWithin one c.args.counts) c.args.known.now c.loop-one.one-index c.loop-one-test.false c.loop-one.invariant, λ _. refl)
