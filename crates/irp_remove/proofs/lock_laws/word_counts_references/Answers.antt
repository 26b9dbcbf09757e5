use Rattle.irp_remove.proofs.Lawful.{word_law}
use Rattle.irp_remove.proofs.lock_laws.word_counts_references.Goals as goal

pub returns : goal.returns
returns c = word_law
