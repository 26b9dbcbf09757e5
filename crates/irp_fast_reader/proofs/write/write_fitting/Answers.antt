-- A transcript that fits is read back; one without a header has no lines.
use Rattle.std.proofs.Common.{Ok, rules}
use Rattle.irp_fast_reader.specs.Fitting.{Writes}
use Rattle.irp_fast_reader.proofs.Fitted.{none_written, read_back}
use Rattle.irp_fast_reader.proofs.write.write_fitting.Goals as goal

pub returns-in-None-clause-writes : goal.returns-in-None-clause-writes
returns-in-None-clause-writes g c = none_written c.args.transcript.now (g.O.Out.gone c.args.out.now) (c.is_one.ensures.bare (search rules))

pub returns-in-None-clause-back : goal.returns-in-None-clause-back
returns-in-None-clause-back g c =
    let none : Writes c.args.transcript.now (g.O.Out.gone c.args.out.now) (g.O.Out.gone c.args.out.now) (Ok tt) =
    none_written c.args.transcript.now (g.O.Out.gone c.args.out.now) (c.is_one.ensures.bare (search rules)) in
    read_back c.args.transcript.now _ _ (Ok tt) c.is_one.ensures c.written_is_read.ensures.same none

pub returns-in-Some-clause-back : goal.returns-in-Some-clause-back
returns-in-Some-clause-back g c =
    let writes : Writes c.args.transcript.now (g.O.Out.gone c.args.out.now) (g.O.Out.gone c.write_under.new.out) c.write_under.result = search rules in
    read_back c.args.transcript.now _ _ c.write_under.result c.is_one.ensures c.written_is_read.ensures.same writes
