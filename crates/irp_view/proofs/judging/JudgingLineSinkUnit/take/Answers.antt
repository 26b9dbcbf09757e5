-- The line is given to the refused calls and to the judge.
use Rattle.std.proofs.Common.{sym, subst}
use Rattle.irp_judge.specs.Judges.{seen}
use Rattle.irp_transcript_reader.specs.Reading.{with_line}
use Rattle.irp_view.specs.RefusedCalls.{HasNoted}
use Rattle.irp_view.specs.declared.refused_calls.RefusedCalls.{RefusedCalls}
use Rattle.irp_view.proofs.Judged.{judged_on}
use Rattle.irp_view.proofs.judging.JudgingLineSinkUnit.take.Goals as goal

pub returns : goal.returns
returns c = λ output fixed ended before was place few words.
    (judged_on c.judge_line.result (seen c.args.self.now.judge) (seen c.judge_line.new.judge) c.args.self.now.kept c.judge_line.new.kept before c.args.line was place c.judge_line.ensures.header
    (subst (λ (given : RefusedCalls). HasNoted given (with_line before c.args.line).entries) (sym c.judge_line.ensures.refused) (c.in_ok-note_line.ensures before was.noted few))
    (c.judge_line.ensures.judged before place was.header was.judged few was.entry was.words words))
