-- Where the output fails the beginning that it took went out.
use Rattle.std.proofs.Common.{take, drop, sym, arith, length-drop}
use Rattle.std.proofs.lemmas.List.{take-append-drop}
use Rattle.irp_streams.proofs.out.send.Goals as goal

pub returns-in-Err-clause-err : goal.returns-in-Err-clause-err
returns-in-Err-clause-err g c = (
  record {
    front = take c.in-Err.field-0 c.args.bytes.now;
    rest = drop c.in-Err.field-0 c.args.bytes.now;
    whole = sym (take-append-drop c.in-Err.field-0 c.args.bytes.now);
    short = omega (arith, length-drop c.in-Err.field-0 c.args.bytes.now, c.in-Err.ensures.short);
    gone = c.in-Err.ensures.front;
  },
  c.in-Err.ensures.rose,
)
