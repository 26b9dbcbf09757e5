-- Where the output fails the beginning of the verdict's line that it took went out.
use Rattle.std.proofs.Common.{◌≡◌, ◌<◌, ℕ, List, length, take, subst, ◌∙◌}
use Rattle.std.specs.Io.KnownBytes.{Appends}
use Rattle.irpx.specs.Checking.{verdict_line}
use Rattle.irpx.proofs.Telling.{begins_at}
use Rattle.irpx.proofs.checking.tell.Goals as goal

pub returns-clause-err : goal.returns-clause-err
returns-clause-err g c =
    let same : c.as_bytes.result.now ≡ verdict_line c.args.verdict = c.as_bytes.ensures.value ∙ c.in-Ok.ensures in
    let within : c.in-Err.field-0 < length (verdict_line c.args.verdict) = subst (λ (text : List ℕ). c.in-Err.field-0 < length text) same c.in-Err.ensures.short in
    let front : Appends (g.O.Out.gone c.args.output.now) (g.O.Out.gone c.put_all.new.out) (take c.in-Err.field-0 (verdict_line c.args.verdict)) =
    subst (λ (text : List ℕ). Appends (g.O.Out.gone c.args.output.now) (g.O.Out.gone c.put_all.new.out) (take c.in-Err.field-0 text)) same c.in-Err.ensures.front in
    (begins_at (verdict_line c.args.verdict) c.in-Err.field-0 (g.O.Out.gone c.args.output.now) (g.O.Out.gone c.put_all.new.out) within front, c.in-Err.ensures.rose)
