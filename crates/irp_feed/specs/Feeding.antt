-- The text of an input, which comes in blocks.
use Rattle.std.specs.Prelude.{ℕ, ◌≡◌, ◌+◌, ◌-◌, ◌≤◌, List, ◌++◌, length, drop, take, Bool, Option, Some, None, Result, Ok, Err}
use Rattle.std.specs.Io.KnownBytes.{Consumes}
use Rattle.irp_transcript.specs.Headers.{IsHeader}
use Rattle.irp_transcript.specs.Transcripts.{TranscriptValue, no_lines}
use Rattle.irp_transcript.specs.declared.header.Header.{Header}
use Rattle.irp_transcript_reader.specs.Reading.{TakesAll, cut, with_line}
use Rattle.irp_transcript_reader.specs.declared.read_fault.ReadFault.{ReadFault}
use Rattle.irp_transcript_reader.specs.declared.read_fault.ReadFault.TheVariants as faults
use Rattle.irp_fast_reader.specs.Fed.{HasRead}
use Rattle.irp_transcript_reader.specs.declared.line.Line.TheVariants.{Header as HeaderLine}
use Rattle.irp_fast_reader.specs.declared.reader.Reader.{Reader}
use Rattle.irp_feed.specs.Input.{Bytes, Holds, IsInput, IsRefused, IsTextOf, TakesAtMost, most_bytes, most_taken}
use Rattle.irp_feed.specs.declared.header.Start.{Start}
use Rattle.irp_feed.specs.declared.input.InputFailed.{InputFailed}
use Rattle.irp_feed.specs.declared.unfed.RefusedLine.{RefusedLine}
use Rattle.irp_feed.specs.declared.unfed.RefusedLine.TheVariants.{NoNewline}
use Rattle.irp_feed.specs.declared.unfed.Unfed.{Unfed}
use Rattle.irp_feed.specs.declared.unfed.Unfed.TheVariants.{Input, Refused, NoMemory}

-- ---- lines

-- why a text isn't read on, where its next line is this one
abbrev pub unfed_of : ReadFault → RefusedLine → Unfed
unfed_of (faults.Line line) refused = Refused line refused
unfed_of faults.NoMemory refused = NoMemory

-- the number of the first line that is refused, from 1, where that is why a text isn't read
abbrev pub line_in : ReadFault → Option ℕ
line_in (faults.Line line) = Some line
line_in faults.NoMemory = None

abbrev pub refused_line : Unfed → Option ℕ
refused_line (Refused line refused) = Some line
refused_line other = None

-- a line that is refused is the first one of the text
abbrev pub IsTextOfNone : List ℕ → Option ℕ → Type 0
IsTextOfNone text (Some line) = IsRefused text line
IsTextOfNone text None = Unit {0}

-- the same of each text that begins like this
abbrev pub IsHopeless : Option ℕ → List ℕ → Type 0
IsHopeless (Some line) text = (more : List ℕ) → IsRefused (text ++ more) line
IsHopeless None text = Unit {0}

-- so many lines stand before the one that is refused; where none is, that isn't known
abbrev pub AreAllBefore : Option ℕ → ℕ → Type 0
AreAllBefore (Some line) count = line ≡ count + 1
AreAllBefore None count = Unit {0}

-- a header, and no line behind it
abbrev pub header_alone : Header → TranscriptValue
header_alone header = with_line no_lines (HeaderLine header)

-- so many first lines of a text say this transcript
abbrev pub SayFirst : ℕ → List ℕ → TranscriptValue → Type 0
SayFirst count text transcript = (count ≤ length (cut text).0) × TakesAll no_lines (take count (cut text).0) transcript

-- ---- the input

-- this text was taken of the input so far, and so many bytes may follow
pub record IsSoFar (old now : Bytes) (left : ℕ) (text : List ℕ) : Type 0 where
  pub took : Consumes old now text
  pub count : length text + left ≡ most_bytes

-- this text in the input goes on, and with what follows it is all of it; or, where the rest couldn't be taken, not too
-- much was
abbrev pub Drains : Result Bool InputFailed → Bytes → Bytes → List ℕ → Type 0
Drains (Ok has_newline) old new text = (more : List ℕ) × IsInput old new (text ++ more)
Drains (Err failed) old new text =
    (more : List ℕ) × (length (text ++ more) ≤ most_taken) × Consumes old new (text ++ more)

-- a line that is refused is the first one of this text in the input, which is all of it
abbrev pub IsNoneOf : Bytes → Bytes → List ℕ → Option ℕ → Type 0
IsNoneOf old new text (Some line) = IsInput old new text × IsRefused text line
IsNoneOf old new text None = Unit {0}

-- a line that is refused is the first one of the text in the input
abbrev pub HoldsNone : Bytes → Bytes → Option ℕ → Type 0
HoldsNone old new (Some line) = (text : List ℕ) × IsInput old new text × IsRefused text line
HoldsNone old new None = Unit {0}

-- the same; not too much was taken of the input
abbrev pub Fails : Bytes → Bytes → Option ℕ → Type 0
Fails old new line = HoldsNone old new line × TakesAtMost most_taken old new

-- the same where the text in the input begins like this
pub record FailsBehind (text : List ℕ) (old new : Bytes) (line : Option ℕ) : Type 0 where
  pub more : List ℕ
  pub none : IsNoneOf old new (text ++ more) line
  pub few : length (text ++ more) ≤ most_taken
  pub took : Consumes old new (text ++ more)

-- this was taken of the input, and not too much of it; so many first lines say this transcript
pub record TakesFirst (old new : Bytes) (transcript : TranscriptValue) : Type 0 where
  pub text : List ℕ
  pub few : length text ≤ most_taken
  pub took : Consumes old new text
  pub count : ℕ
  pub say : SayFirst count text transcript

-- the input isn't read to its end: a line that is refused is the first one of its text, behind those of this transcript
pub record Stops (old new : Bytes) (line : Option ℕ) (transcript : TranscriptValue) : Type 0 where
  pub first : TakesFirst old new transcript
  pub none : IsNoneOf old new first.text line
  pub all : AreAllBefore line first.count

-- a piece of a buffer
abbrev pub piece_of : List ℕ → ℕ → ℕ → List ℕ
piece_of buffer from to = take (to - from) (drop from buffer)

-- the header was read; the block ends where the text that was taken does
pub record Starts (old new : Bytes) (start : Start) (reader : Reader) (buffer : List ℕ) : Type 0 where
  pub text : List ℕ
  pub read : HasRead reader text (header_alone start.header)
  pub accepted : IsHeader start.header
  pub order : start.from ≤ start.to
  pub within : start.to ≤ length buffer
  pub so_far : IsSoFar old new start.left (text ++ piece_of buffer start.from start.to)

-- what becomes of the input behind this text, whose whole lines make this transcript: its next block was taken; or it is
-- at its end, and the text is the transcript's; or why the text isn't read on
abbrev pub NextBlock : Result (Option ℕ) Unfed → Bytes → Bytes → ℕ → List ℕ → List ℕ → TranscriptValue → Type 0
NextBlock (Ok (Some count)) old now left buffer text before =
    IsSoFar old now (left - count) (text ++ take count buffer)
NextBlock (Ok None) old now left buffer text before = IsInput old now text × IsTextOf text before
NextBlock (Err unfed) old now left buffer text before =
    FailsBehind text old now (refused_line unfed) × AreAllBefore (refused_line unfed) (length (cut text).0)

-- why there is no next block: the input failed, or a line without a newline stands at its end
abbrev pub IsNoBlock : Unfed → Type 0
IsNoBlock Input = Unit {0}
IsNoBlock (Refused line NoNewline) = Unit {0}
IsNoBlock other = ⊥

-- what becomes of the input up to its header, where it may have no lines
abbrev pub IsStart : Bytes → Bytes → Result (Option Start) Unfed → Reader → List ℕ → Type 0
IsStart old new (Ok None) reader buffer = Holds old new no_lines
IsStart old new (Ok (Some start)) reader buffer = Starts old new start reader buffer
IsStart old new (Err unfed) reader buffer = Stops old new (refused_line unfed) no_lines

-- ---- what takes the lines

-- a reader was fed this text, whose lines make this transcript, of few word lines
pub record AreRead (reader : Reader) (text : List ℕ) (transcript : TranscriptValue) : Type 0 where
  pub read : HasRead reader text transcript
  pub few : length transcript.words ≤ length text

-- the lines of a text were read; or a line isn't, behind so many, whatever follows the text
abbrev pub ReadsLines : Result (Unit {0}) Unfed → Reader → List ℕ → TranscriptValue → ℕ → Type 0
ReadsLines (Ok done) reader text transcript count = AreRead reader text transcript
ReadsLines (Err unfed) reader text transcript count =
    IsHopeless (refused_line unfed) text × AreAllBefore (refused_line unfed) count

-- the lines that were read were taken
pub record AreTaken (read : Result (Unit {0}) Unfed) (reader : Reader) (taken : TranscriptValue → Type 0)
    (text : List ℕ) : Type 0 where
  pub transcript : TranscriptValue
  pub count : ℕ
  pub say : SayFirst count text transcript
  pub are : taken transcript
  pub reads : ReadsLines read reader text transcript count

-- what becomes of one more block; where memory ran out for what takes the lines, this is left of the blocks before it
abbrev pub FeedsBlock : {E : Type 0} → Result (Result (Unit {0}) Unfed) E → Reader → (TranscriptValue → Type 0)
    → Type 0 → List ℕ → Type 0
FeedsBlock (Ok read) reader taken left text = AreTaken read reader taken text
FeedsBlock (Err error) reader taken left text = left

-- all lines of the transcript that the input holds were taken; or why that holds none, and what is left of first lines
abbrev pub FeedsRest : Result (Unit {0}) Unfed → Bytes → Bytes → (TranscriptValue → Type 0)
    → (TranscriptValue → Type 0) → Type 0
FeedsRest (Ok done) old new taken left =
    (transcript : TranscriptValue) × Holds old new transcript × taken transcript
FeedsRest (Err unfed) old new taken left =
    (transcript : TranscriptValue) × Stops old new (refused_line unfed) transcript × left transcript
