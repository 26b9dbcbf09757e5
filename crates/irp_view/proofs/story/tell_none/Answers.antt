-- The verdict alone was told and sent.
use Rattle.std.proofs.Common.{ℕ, List, ◌++◌, ap, ◌∙◌}
use Rattle.irp_judge.specs.declared.verdict.Verdict.TheVariants.{Legal}
use Rattle.irp_transcript_writer.specs.Json.{line_text}
use Rattle.irp_story.specs.Lines.{verdict_line}
use Rattle.irp_view.specs.Streams.{Output, output_of}
use Rattle.irp_view.proofs.Stories.{none_sent, none_untold}
use Rattle.irp_view.proofs.story.tell_none.Goals as goal

pub returns-in-Ok : goal.returns-in-Ok
returns-in-Ok g c = λ old new holds.
    (let before : Output = output_of (g.O.Out.gone c.args.output.now) (g.O.Out.failures c.args.output.now) in
    let after : Output = output_of (g.O.Out.gone c.send_text.new.output) (g.O.Out.failures c.send_text.new.output) in
    none_sent old new before after holds c.send_text.result _
    (c.in-Ok.ensures ∙ ap (λ (given : List ℕ). given ++ line_text (verdict_line 0 (Legal 0))) c.new-text.ensures.items)
    (rw c.as_slice.ensures.value at c.send_text.ensures))

pub returns : goal.returns
returns g c = λ old new holds.
    (let before : Output = output_of (g.O.Out.gone c.args.output.now) (g.O.Out.failures c.args.output.now) in
    none_untold old new before before holds)
