-- Each line is taken, or refused, or cut, and the last leaves nothing.
use Rattle.std.proofs.Common.{◌≡◌, ℕ, ◌+◌, ◌<◌, Err, Ok, refl, sym, subst, arith, length}
use Rattle.irp_transcript.specs.Transcripts.{TranscriptValue, IsTranscript}
use Rattle.irp_transcript_reader.specs.Reading.{ReadsFrom, so_far}
use Rattle.irp_transcript_reader.specs.declared.read_fault.ReadFault.TheVariants.{Line, NoMemory}
use Rattle.irp_transcript_reader.proofs.Said.{kept}
use Rattle.irp_fast_reader.proofs.Blocks.{reads_end, reads_on}
use Rattle.irp_fast_reader.proofs.read.read_transcript.Goals as goal

pub returns-in_default : goal.returns-in_default
returns-in_default c =
    let before : TranscriptValue = so_far c.loop-rest.reading in
    let count : ℕ = c.loop-rest.lines in
    let some : 0 < length c.loop-rest.rest.now = grind arith in
    c.loop-rest.invariant.leads (Err (Line (count + 1)))
    (subst (λ text. ReadsFrom before count (Err (Line (count + 1))) text) (sym c.in_default.ensures) (0, omega arith, (refl, some)))

pub returns-in-Err-Form : goal.returns-in-Err-Form
returns-in-Err-Form c =
    let before : TranscriptValue = so_far c.loop-rest.reading in
    let count : ℕ = c.loop-rest.lines in
    let refused = rw c.in-Err-Form.field-0-is at c.in-Err-Form.ensures in
    c.loop-rest.invariant.leads (Err (Line (count + 1)))
    (subst (λ text. ReadsFrom before count (Err (Line (count + 1))) text) (sym c.in-Some.ensures.whole) (0, omega arith, refused))

pub returns-in-Err-NoMemory : goal.returns-in-Err-NoMemory
returns-in-Err-NoMemory c =
    let before : TranscriptValue = so_far c.loop-rest.reading in
    let count : ℕ = c.loop-rest.lines in
    let taking = rw c.in-Err-NoMemory.field-0-is at c.in-Err-NoMemory.ensures in
    c.loop-rest.invariant.leads (Err NoMemory)
    (subst (λ text. ReadsFrom before count (Err NoMemory) text) (sym c.in-Some.ensures.whole) (0, taking))

pub loop-rest-preserved : goal.loop-rest-preserved
loop-rest-preserved c =
    let before : TranscriptValue = so_far c.loop-rest.reading in
    let between : TranscriptValue = so_far c.take_line.new.reading in
    let count : ℕ = c.loop-rest.lines in
    record {
      count = omega (arith, c.loop-rest.invariant.count, c.in-Some.ensures.shorter);
      one = subst IsTranscript (sym c.in-Ok.ensures.2.2) (kept before c.in-Ok.ensures.0 c.in-Ok.ensures.2.0 c.loop-rest.invariant.one c.in-Ok.ensures.2.1);
      leads = λ answer reads. c.loop-rest.invariant.leads answer
          (subst (λ text. ReadsFrom before count answer text) (sym c.in-Some.ensures.whole)
          (reads_on before between count answer c.in-Some.line.now _ _ c.in-Ok.ensures reads));
    }

pub returns : goal.returns
returns c =
    let none : length c.loop-rest.rest.now ≡ 0 = grind arith in
    rw c.into_transcript.ensures
    (c.loop-rest.invariant.leads (Ok (so_far c.loop-rest.reading))
    (reads_end (so_far c.loop-rest.reading) c.loop-rest.lines c.loop-rest.rest.now none))
