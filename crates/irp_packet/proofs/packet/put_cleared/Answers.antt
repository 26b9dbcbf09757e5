-- As many cleared locations are pushed as are asked for.
use Rattle.std.proofs.Common.{arith, ◌++◌, ◌∷◌, [], ◌∙◌, ap}
use Rattle.std.proofs.lemmas.Grind.{common_steps}
use Rattle.std.proofs.lemmas.List.{replicate-append-replicate, length-replicate}
use Rattle.irp_types.specs.Packet.{cleared}
use Rattle.irp_packet.proofs.packet.put_cleared.Goals as goal

pub push-requires : goal.push-requires
push-requires c = grind (arith, common_steps, c.loop-number.invariant, length-replicate c.loop-number._number cleared)

pub loop-number-preserved : goal.loop-number-preserved
loop-number-preserved c =
    c.push.ensures.items ∙ ap (λ items. items ++ cleared ∷ []) c.loop-number.invariant ∙ replicate-append-replicate c.loop-number._number 1 cleared
