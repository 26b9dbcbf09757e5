-- What a reader keeps of a text that it is fed block after block, and what it gives.
use Rattle.std.specs.Prelude.{⊤, ℕ, ◌≡◌, ◌≤◌, ◌<◌, ◌+◌, List, [], ◌++◌, length, take, true, is_some, Option, Some, None, Result, Ok, Err}
use Rattle.irp_forms.specs.declared.unread.Unread.{Unread}
use Rattle.irp_forms.specs.declared.unread.Unread.TheVariants as unread
use Rattle.irp_transcript.specs.Transcripts.{TranscriptValue, IsTranscript, no_lines}
use Rattle.irp_transcript_reader.specs.Reading.{ReadsFrom, Refuses, Takes, TakesAll, cut, most_bytes, most_entries, seen_of, with_line}
use Rattle.irp_transcript_reader.specs.declared.read_fault.ReadFault.{ReadFault}
use Rattle.irp_transcript_reader.specs.declared.read_fault.ReadFault.TheVariants as faults
use Rattle.irp_transcript_reader.specs.declared.line.Line.{Line}
use Rattle.irp_transcript_reader.specs.declared.line.Line.TheVariants.{Header as HeaderLine, Entry as EntryLine, Word as WordLine}
use Rattle.irp_fast_reader.specs.declared.line_reader.LineReader.{LineReader}
use Rattle.irp_fast_reader.specs.declared.reader.Reader.{Reader}

-- ---- lines

-- a header is the first line, and no other; no entry stands behind a word line
abbrev pub IsInPlace : TranscriptValue → Line → Type 0
IsInPlace before (HeaderLine header) = before ≡ no_lines
IsInPlace before (EntryLine entry) = (is_some before.header ≡ true) × (before.words ≡ [])
IsInPlace before (WordLine word) = is_some before.header ≡ true

-- a reader of lines was given those of this transcript
pub record HasTaken (reader : LineReader) (before : TranscriptValue) : Type 0 where
  pub one : IsTranscript before
  pub seen : reader.seen ≡ seen_of before
  pub few : length before.entries ≤ most_entries

-- what it gives for the next line, behind this transcript: what the line is, unless it is refused, or memory ran out
abbrev pub Given : Result Line Unread → LineReader → TranscriptValue → List ℕ → Type 0
Given (Ok given) reader before line =
    IsInPlace before given × Takes before line (with_line before given)
    × HasTaken reader (with_line before given)
Given (Err unread.Form) reader before line = Refuses before line
Given (Err unread.NoMemory) reader before line = ⊤

-- ---- blocks

-- what is kept of a line with one more piece, unless it is too long
abbrev pub Keeps : Result (Unit {0}) Unread → List ℕ → List ℕ → List ℕ → Type 0
Keeps (Ok done) before piece after = (after ≡ before ++ piece) × (length after ≤ most_bytes)
Keeps (Err unread.Form) before piece after = most_bytes < length (before ++ piece)
Keeps (Err unread.NoMemory) before piece after = ⊤

-- what is told where this line isn't read
abbrev pub fault_at : ℕ → Unread → ReadFault
fault_at line unread.Form = faults.Line line
fault_at line unread.NoMemory = faults.NoMemory

-- a reader was fed this text, whose whole lines make this transcript: it keeps the beginning of a line behind them
pub record HasRead (reader : Reader) (text : List ℕ) (before : TranscriptValue) : Type 0 where
  pub lines : TakesAll no_lines (cut text).0 before
  pub kept : reader.kept.items ≡ (cut text).1
  pub short : length reader.kept.items ≤ most_bytes
  pub counted : reader.count ≡ length (cut text).0
  pub taken : HasTaken reader.lines before

-- what it makes of one more block, behind this text and this transcript: it gives the next line, and with how many
-- bytes of the block that ends; or none, where the block ends before the line does. Or the line is refused, whatever
-- follows the block; or memory ran out
abbrev pub Gives : Result (Option (Line × ℕ)) ReadFault → Reader → List ℕ → TranscriptValue
    → List ℕ → Type 0
Gives (Ok None) reader text before block = HasRead reader (text ++ block) before
Gives (Ok (Some (line, count))) reader text before block =
    (0 < count) × (count ≤ length block) × IsInPlace before line
    × HasRead reader (text ++ take count block) (with_line before line)
Gives (Err (faults.Line line)) reader text before block =
    (more : List ℕ) → ReadsFrom no_lines 0 (Err (faults.Line line)) (cut (text ++ (block ++ more)))
Gives (Err faults.NoMemory) reader text before block = ⊤

-- the line that is refused is the next one behind this text
abbrev pub IsNextLine : List ℕ → ReadFault → Type 0
IsNextLine text (faults.Line line) = line ≡ length (cut text).0 + 1
IsNextLine text faults.NoMemory = ⊤

-- a line is refused; memory didn't run out
abbrev pub IsLineFault : ReadFault → Type 0
IsLineFault (faults.Line line) = ⊤
IsLineFault faults.NoMemory = ⊥

-- the answer at the end of the text: the transcript, unless the text ends before its last line does
abbrev pub ended : TranscriptValue → Result (Unit {0}) ReadFault → Result TranscriptValue ReadFault
ended before (Ok done) = Ok before
ended before (Err fault) = Err fault
