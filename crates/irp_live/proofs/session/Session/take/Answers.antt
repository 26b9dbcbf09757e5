-- At most one entry is added, and that one was fed.
use Rattle.std.proofs.Common.{rules, ◌≡◌, ◌≤◌, ◌<◌, length, subst}
use Rattle.std.specs.Prelude.{slice_index_or}
use Rattle.serde_json.specs.View.{view}
use Rattle.irp_judge.specs.Judges.{seen}
use Rattle.irp_judge.specs.Judging.{JudgeValue}
use Rattle.irp_transcript.specs.Transcripts.{TranscriptValue}
use Rattle.irp_transcript_reader.specs.Reading.{so_far}
use Rattle.irp_live.proofs.Grown.{grown, stands_more, stands_same}
use Rattle.irp_live.proofs.session.Session.take.Goals as goal

pub returns-then-len-before-clause-stands : goal.returns-then-len-before-clause-stands
returns-then-len-before-clause-stands c =
    let judge : JudgeValue = seen c.args.self.now.judge in
    let old : TranscriptValue = so_far c.args.self.now.reading in
    let new : TranscriptValue = so_far c.take_value.new.self in
    let few : length new.entries ≤ length old.entries = search rules in
    stands_same judge old new (grown judge.header old new (view c.args.value.now) c.requires.header c.in_ok-take_value.ensures.takes) few
    c.requires.header c.requires.judged

pub returns-in-Ok-clause-stands : goal.returns-in-Ok-clause-stands
returns-in-Ok-clause-stands c =
    let judge : JudgeValue = seen c.args.self.now.judge in
    let old : TranscriptValue = so_far c.args.self.now.reading in
    let new : TranscriptValue = so_far c.take_value.new.self in
    let more : length old.entries < length new.entries = search rules in
    let at : c.len-before.result ≡ length old.entries = search rules in
    let is = subst (λ place. c.index.result.now ≡ slice_index_or new.entries place c.index.result.now) at c.index.ensures in
    stands_more judge (seen c.feed.new.self) old new c.index.result.now
    (grown judge.header old new (view c.args.value.now) c.requires.header c.in_ok-take_value.ensures.takes) more is
    c.requires.header c.feed.ensures.header (c.in-Ok.ensures.judged old.entries c.requires.judged)
