-- Bytes that weren't read.
use Rattle.std.proofs.Common.{ℕ, List, [], Option, Some, None, refl, arith}
use Rattle.std.specs.Io.KnownBytes.{Consumes}
use Rattle.irp_feed.specs.Input.{TakesAtMost}

reads_none : (old : Option (List ℕ)) → Consumes old old []
reads_none None = tt
reads_none (Some xs) = refl

-- none was read
pub takes_none : (limit : ℕ) (old : Option (List ℕ)) → TakesAtMost limit old old
takes_none limit old = ([], omega arith, reads_none old)
