use Rattle.irp_fast_reader.proofs.Whole.{nothing_else, text_tells, written}
use Rattle.irp_fast_reader.proofs.round_trip.written_is_read.Goals as goal

pub returns-clause-same : goal.returns-clause-same
returns-clause-same c = written

pub returns-clause-only : goal.returns-clause-only
returns-clause-only c = nothing_else

pub returns-clause-tells : goal.returns-clause-tells
returns-clause-tells c = text_tells
