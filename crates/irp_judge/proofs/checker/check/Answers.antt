use Rattle.std.proofs.Common.{List, length, Option, sym, subst}
use Rattle.irp_types.specs.declared.entry.Entry.{Entry}
use Rattle.irp_transcript.specs.Transcripts.{TranscriptValue}
use Rattle.irp_judge.specs.Checked.{IsVerdictOn, verdict_of}
use Rattle.irp_judge.specs.declared.verdict.Wrong.{Wrong}
use Rattle.irp_judge.proofs.checker.check.Goals as goal

pub returns-in-None : goal.returns-in-None
returns-in-None c =
    let transcript : TranscriptValue = c.args.transcript.now in
    subst (λ (given : Option Wrong × List Entry). IsVerdictOn transcript (verdict_of (length given.1) given.0)) (λ i. (c.in-None.is i, sym c.entries.ensures i)) c.in_ok-explain.ensures.verdict

pub returns-in-Some : goal.returns-in-Some
returns-in-Some c =
    let transcript : TranscriptValue = c.args.transcript.now in
    subst (λ (given : Option Wrong). IsVerdictOn transcript (verdict_of (length transcript.entries) given)) c.in-Some.is c.in_ok-explain.ensures.verdict
