-- What was written is read again as the same.
use Rattle.std.specs.Prelude.{◌≡◌, ℕ, List, Some, Result, Ok, Err, ⊤}
use Rattle.serde_json.specs.Written.{compact_text}
use Rattle.irp_types.specs.declared.entry.Entry.{Entry}
use Rattle.irp_transcript.specs.Transcripts.{TranscriptValue, IsTranscript, no_lines}
use Rattle.irp_transcript_reader.specs.Lines.{entry_at}
use Rattle.irp_transcript_reader.specs.Reading.{IsLine, ReadsFrom, cut}
use Rattle.irp_transcript_reader.specs.declared.read_fault.ReadFault.{ReadFault}
use Rattle.irp_transcript_reader.specs.declared.read_fault.ReadFault.TheVariants.{Line, NoMemory}
use Rattle.irp_transcript_writer.specs.Lines.{entry_json, lines, text_of}
use Rattle.irp_fast_reader.specs.Fits.{EntryFits, Fits, IsShort}

-- the line of an entry that fits, without its newline, is a line that is read as the entry
abbrev pub EntryIsRead : Type 0
EntryIsRead =
    (entry : Entry) → EntryFits entry → IsShort (entry_json entry)
    → IsLine (compact_text (entry_json entry)) (entry_json entry) × (entry_at (entry_json entry) ≡ Some entry)

-- the text of a transcript that fits is read as the transcript
abbrev pub WrittenIsRead : Type 0
WrittenIsRead =
    (transcript : TranscriptValue) → IsTranscript transcript → Fits transcript
    → ReadsFrom no_lines 0 (Ok transcript) (cut (text_of (lines transcript)))

-- what a reader may answer of a transcript's text: the transcript, or that memory ran out
abbrev pub IsReadAgain : TranscriptValue → Result TranscriptValue ReadFault → Type 0
IsReadAgain transcript (Ok again) = again ≡ transcript
IsReadAgain transcript (Err (Line line)) = ⊥
IsReadAgain transcript (Err NoMemory) = ⊤

-- the text of a transcript that fits is read as nothing else, and no line of it is refused
abbrev pub NothingElseIsRead : Type 0
NothingElseIsRead =
    (transcript : TranscriptValue) (answer : Result TranscriptValue ReadFault) → IsTranscript transcript
    → Fits transcript
    → ReadsFrom no_lines 0 answer (cut (text_of (lines transcript))) → IsReadAgain transcript answer

-- two transcripts that fit and have one text are one
abbrev pub TextTells : Type 0
TextTells =
    (one other : TranscriptValue) → IsTranscript one → IsTranscript other → Fits one → Fits other
    → text_of (lines one) ≡ text_of (lines other) → one ≡ other

-- what is answered of the text, if it is the transcript's own, and the transcript fits
abbrev pub ReadsOwnText : TranscriptValue → List ℕ → Result TranscriptValue ReadFault → Type 0
ReadsOwnText transcript text answer =
    text ≡ text_of (lines transcript) → Fits transcript → IsReadAgain transcript answer
