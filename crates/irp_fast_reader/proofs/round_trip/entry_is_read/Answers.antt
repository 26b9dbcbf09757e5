use Rattle.irp_fast_reader.proofs.Whole.{entry_is_read}
use Rattle.irp_fast_reader.proofs.round_trip.entry_is_read.Goals as goal

pub returns : goal.returns
returns c = entry_is_read
