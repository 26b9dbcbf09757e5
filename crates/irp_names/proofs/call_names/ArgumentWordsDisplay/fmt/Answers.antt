use Rattle.std.proofs.Common.{sym, subst}
use Rattle.std.specs.Fmt.{WritesOnOk}
use Rattle.irp_types.specs.Calls.{Call}
use Rattle.irp_names.specs.Calls.{arguments_text}
use Rattle.irp_names.proofs.call_names.ArgumentWordsDisplay.fmt.Goals as goal

pub returns-in-Attach-clause-writes : goal.returns-in-Attach-clause-writes
returns-in-Attach-clause-writes g c =
    subst (λ (call : Call). WritesOnOk g.W.Write.write_str_gives c.args.f.now c.write-in-Attach.result (arguments_text call c.args.self.now.0.drained) c.write-in-Attach.new.self)
    (sym c.in-Attach.is) c.write-in-Attach.ensures.writes
