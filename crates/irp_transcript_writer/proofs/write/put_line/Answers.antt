-- Where memory runs out nothing of the line went out, and where the output fails the front that it took.
use Rattle.std.proofs.Common.{◌≡◌, ◌<◌, ℕ, List, length, take, refl, sym, ◌∙◌, subst}
use Rattle.std.specs.Io.KnownBytes.{Appends}
use Rattle.irp_transcript_writer.specs.Json.{line_text}
use Rattle.irp_transcript_writer.specs.Puts.{Stopped}
use Rattle.irp_transcript_writer.proofs.Puts.{stopped_at, stopped_first}
use Rattle.irp_transcript_writer.proofs.write.put_line.Goals as goal

pub returns-in-Err : goal.returns-in-Err
returns-in-Err g c =
    let text : List ℕ = line_text (g.T.Written.json c.args.value.now) in
    let same : c.as_slice.result.now ≡ text = c.as_slice.ensures.value ∙ c.in-Ok.ensures in
    let bound : c.in-Err.done < length text = subst (λ line. c.in-Err.done < length line) same c.in-Err.ensures.short in
    let front : Appends (g.O.Out.gone c.args.out.now) (g.O.Out.gone c.put_all.new.out) (take c.in-Err.done text) =
    subst (λ line. Appends (g.O.Out.gone c.args.out.now) (g.O.Out.gone c.put_all.new.out) (take c.in-Err.done line)) same c.in-Err.ensures.front in (
      subst (λ written. Stopped text c.args.before (g.O.Out.gone c.args.out.now) (g.O.Out.gone c.put_all.new.out) written)
          (sym c.saturating_add-in-Err.ensures) (stopped_at text c.args.before c.in-Err.done _ _ bound front),
      c.in-Err.ensures.rose,
    )

pub returns-in_default : goal.returns-in_default
returns-in_default g c = (stopped_first (g.T.Written.json c.args.value.now) c.args.before (g.O.Out.gone c.args.out.now) c.ranges.before.fits, refl)
