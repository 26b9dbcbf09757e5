-- One more piece of the text goes out.
use Rattle.std.proofs.Common.{◌∙◌}
use Rattle.irp_streams.proofs.Pieces.{front_then, front_within, counted_taken}
use Rattle.irp_streams.proofs.out.put_all.Goals as goal

pub loop-done-preserved : goal.loop-done-preserved
loop-done-preserved g c = record {
  within = front_within c.args.text.now c.loop-done.done c.in-Ok.taken c.loop-done-test.true c.in-Ok.ensures.bound;
  gone = front_then c.args.text.now c.loop-done.done c.in-Ok.taken _ _ _ c.loop-done.invariant.gone c.in-Ok.ensures.bytes;
  calm = c.in-Ok.ensures.count ∙ (counted_taken c.in-Ok.taken _ _ c.if-taken-eq0.false ∙ c.loop-done.invariant.calm);
}
