-- A transcript that is judged line after line.
use Rattle.std.proofs.Common.{◌≡◌, [], Option, Some, inl, inr, refl, sym, subst}
use Rattle.irp_judge.specs.Checked.{IsVerdict, IsVerdictWith}
use Rattle.irp_judge.specs.Judging.{HasJudged, JudgeValue}
use Rattle.irp_judge.specs.declared.verdict.Verdict.{Verdict}
use Rattle.irp_judge.specs.declared.verdict.Verdict.TheVariants.{Legal}
use Rattle.irp_transcript.specs.Headers.{fixed_of}
use Rattle.irp_transcript.specs.Transcripts.{TranscriptValue, no_lines}
use Rattle.irp_transcript.specs.declared.header.Header.{Header}
use Rattle.irp_feed.specs.Input.{Holds}
use Rattle.irp_feed.specs.Feeding.{Stops, header_alone, refused_line}
use Rattle.irp_feed.specs.Feeding as feed
use Rattle.irp_feed.specs.declared.unfed.Unfed.{Unfed}
use Rattle.irp_feed.specs.declared.unfed.Unfed.TheVariants as unfed
use Rattle.irp_feed.proofs.Fed.{fails_of}
use Rattle.irpx.specs.Checking.{HasVerdict}
use Rattle.irpx.specs.Judging.{Fails, IsJudged, refusal_of}
use Rattle.irp_streams.specs.Streams.{Bytes}

-- behind the header nothing was judged
pub starts_judged : (judge : JudgeValue) (header : Header) → judge.header ≡ header → HasJudged judge [] → IsJudged judge (header_alone header)
starts_judged judge header same judged = record { header = subst (λ (given : Header). Some header ≡ Some given) (sym same) refl; judged = judged }

-- the verdict on the transcript in the input
pub verdict_on : (judge : JudgeValue) (verdict : Verdict) (old now : Bytes) (transcript : TranscriptValue) → Holds old now transcript → IsJudged judge transcript
    → IsVerdict (fixed_of judge.header) transcript.entries verdict → HasVerdict old now verdict
verdict_on judge verdict old now transcript holds are is = (
  holds.0,
  holds.1,
  record {
    transcript = transcript;
    read = holds.2;
    judged = subst (λ (known : Option Header). IsVerdictWith known transcript.entries verdict) (sym are.header) is;
  },
)

-- where it has no lines
pub verdict_on_none : (old now : Bytes) → Holds old now no_lines → HasVerdict old now (Legal 0)
verdict_on_none old now holds = (holds.0, holds.1, record { transcript = no_lines; read = holds.2; judged = refl })

-- or why there is none
fails_so : (given : Unfed) (old now : Bytes) → feed.Fails old now (refused_line given) → Fails old now (refusal_of given)
fails_so (unfed.Refused line refused) old now fails = (inr (line, fails.0.0, refl, fails.0.1, fails.0.2), fails.1)
fails_so unfed.Input old now fails = (inl tt, fails.1)
fails_so unfed.NoMemory old now fails = (inl tt, fails.1)
fails_so unfed.NotTaken old now fails = (inl tt, fails.1)

pub stops_so : (given : Unfed) (old now : Bytes) (transcript : TranscriptValue) → Stops old now (refused_line given) transcript → Fails old now (refusal_of given)
stops_so given old now transcript stops = fails_so given old now (fails_of (refused_line given) old now transcript stops)
