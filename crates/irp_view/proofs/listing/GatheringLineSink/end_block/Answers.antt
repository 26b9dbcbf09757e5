-- What was gathered of the block was sent, or a beginning of it.
use Rattle.std.proofs.Common.{refl}
use Rattle.irp_view.specs.Streams.{Output, output_of}
use Rattle.irp_view.proofs.Listed.{block_breaks, block_left, block_sent}
use Rattle.irp_view.proofs.listing.GatheringLineSink.end_block.Goals as goal

pub returns-in-Ok : goal.returns-in-Ok
returns-in-Ok g c =
    let mid : Output = output_of (g.O.Out.gone c.args.output.now) (g.O.Out.failures c.args.output.now) in
    let new : Output = output_of (g.O.Out.gone c.send.new.output) (g.O.Out.failures c.send.new.output) in
    let written = rw c.as_slice.ensures.value at c.in-Ok.ensures.ok in
    record {
      taken = λ aim ended before has more. block_sent c.args.self.now mid new aim ended before has _ written c.clear.ensures.items refl refl refl refl refl;
      left = λ aim ended before has. block_left c.args.self.now mid new aim ended before has _ written refl;
    }

pub returns-in-Err : goal.returns-in-Err
returns-in-Err g c =
    let mid : Output = output_of (g.O.Out.gone c.args.output.now) (g.O.Out.failures c.args.output.now) in
    let new : Output = output_of (g.O.Out.gone c.send.new.output) (g.O.Out.failures c.send.new.output) in
    record {
      taken = λ aim ended before has more. absurd (cc (more));
      left = λ aim ended before has. block_breaks c.args.self.now mid new aim ended before has c.in-Err.fault (rw c.as_slice.ensures.value at c.in-Err.ensures.err);
    }
