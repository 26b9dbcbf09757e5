use Rattle.std.proofs.Common.{sym, subst}
use Rattle.std.specs.Fmt.{WritesOnOk}
use Rattle.irp_types.specs.Calls.{Call}
use Rattle.irp_names.specs.Calls.{further_text}
use Rattle.irp_names.proofs.call_names.FurtherWordsDisplay.fmt.Goals as goal

pub returns-in-FinishTaken-clause-writes : goal.returns-in-FinishTaken-clause-writes
returns-in-FinishTaken-clause-writes g c =
    subst (λ (call : Call). WritesOnOk g.W.Write.write_str_gives c.args.f.now c.write-in-FinishTaken.result (further_text call) c.write-in-FinishTaken.new.self)
    (sym c.in-FinishTaken.is) c.write-in-FinishTaken.ensures.writes
