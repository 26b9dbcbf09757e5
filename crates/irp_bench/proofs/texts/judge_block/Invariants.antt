-- Less is left of the block.
use Rattle.std.proofs.Common.{length}
use Rattle.irp_bench.proofs.texts.judge_block.Given as goal

abbrev pub decreases-loop-line : goal.decreases-loop-line
decreases-loop-line l = length l.rest
