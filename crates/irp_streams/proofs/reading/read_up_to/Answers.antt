-- Where a piece was taken and there is no memory for it, it was taken behind the others.
use Rattle.std.proofs.Common.{◌≤◌, ◌+◌, length, rules}
use Rattle.irp_streams.proofs.Pieces.{takes_piece}
use Rattle.irp_streams.proofs.reading.read_up_to.Goals as goal

pub returns-then-is_err-clause-within : goal.returns-then-is_err-clause-within
returns-then-is_err-clause-within g c =
    let few : length c.loop-buffer.bytes.items + c.in-Ok.taken ≤ c.args.limit = search rules in
    takes_piece c.loop-buffer.bytes.items _ c.in-Ok.taken c.args.limit
    (g.R.Read.remaining c.args.reader.now) (g.R.Read.remaining c.loop-buffer.reader) (g.R.Read.remaining c.read.new.self)
    c.in-Ok.ensures.bound.0 few c.loop-buffer.invariant.so_far c.in-Ok.ensures.bytes.0
