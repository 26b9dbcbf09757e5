use Rattle.std.proofs.Common.{length}
use Rattle.irp_text_faults.proofs.spelling.+says.Given as goal

abbrev pub decreases-says : goal.decreases-says
decreases-says l = length l.letters.now
