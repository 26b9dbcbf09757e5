-- What goes out of a transcript: all of it where it fits, and else the lines before the first that doesn't.
use Rattle.std.specs.Prelude.{ℕ, ◌≡◌, ◌+◌, ◌<◌, List, [], ◌++◌, codes, length, map, take, Option, IfSome, Result, Ok, Err, ⊤}
use Rattle.std.specs.Fmt.{decimal}
use Rattle.std.specs.List.{All}
use Rattle.std.specs.Io.KnownBytes.{Appends, Keeps}
use Rattle.serde_json.specs.Data.{Data}
use Rattle.irp_transcript.specs.Transcripts.{TranscriptValue, no_lines}
use Rattle.irp_transcript.specs.declared.header.Header.{Header}
use Rattle.irp_transcript_reader.specs.Reading.{ReadsFrom, cut, most_entries}
use Rattle.irp_transcript_writer.specs.Json.{line_text}
use Rattle.irp_transcript_writer.specs.Lines.{entry_json, header_json, lines, text_of, word_json}
use Rattle.irp_streams.specs.Out.{risen}
use Rattle.irp_fast_reader.specs.Fits.{EntryUnder, Fits, IsShort, LineFits, WordUnder}
use Rattle.irp_fast_reader.specs.declared.unfit.{Unfit.Unfit, Unwritten.Unwritten}
use Rattle.irp_fast_reader.specs.declared.unfit.Unfit.TheVariants as part
use Rattle.irp_fast_reader.specs.declared.unfit.Unwritten.TheVariants as unwritten

-- a part, as it stands in a message
abbrev pub name_of : Unfit → List ℕ
name_of part.TooMany = codes "more than 1000000 entries"
name_of part.Header = codes "header"
name_of (part.Entry place) = codes "entry " ++ decimal place
name_of (part.Word place) = codes "word line " ++ decimal place

-- what went out, where that is known
abbrev pub Bytes : Type 0
Bytes = Option (List ℕ)

-- what must hold of the header under itself, beside that its line is short: nothing more
abbrev pub AnyHeader : Header → Header → Type 0
AnyHeader header value = ⊤

-- ---- what a call that writes did

-- a beginning of the text went out, which isn't the whole text
pub record Begins (text : List ℕ) (old new : Bytes) : Type 0 where
  pub front : List ℕ
  pub rest : List ℕ
  pub whole : text ≡ front ++ rest
  pub short : 0 < length rest
  pub gone : Appends old new front

-- the same, of a part of the text alone: nothing behind that part went out
pub record BeginsWithin (part text : List ℕ) (old new : Bytes) : Type 0 where
  pub begins : Begins text old new
  pub left : List ℕ
  pub within : part ≡ begins.front ++ left

-- the count of failures rose exactly where the output failed
abbrev pub Counts : {T : Type 0} → ℕ → ℕ → Result T Unwritten → Type 0
Counts old new (Err unwritten.Output) = new ≡ risen old
Counts old new other = new ≡ old

-- what a call that puts the line of a value did: the line went out, or this part doesn't fit, or the output failed
-- within a line that fits, or memory ran out and nothing went out
abbrev pub PutsLine : {T : Type 0} → (T → Type 0) → (T → Data) → Unfit → T
    → Bytes → Bytes → Result (Unit {0}) Unwritten → Type 0
PutsLine Holds json unfit value old new (Ok done) = LineFits Holds json value × Appends old new (line_text (json value))
PutsLine Holds json unfit value old new (Err (unwritten.Unfit told)) =
    (told ≡ unfit) × (LineFits Holds json value → ⊥) × Keeps old new
PutsLine Holds json unfit value old new (Err unwritten.Output) =
    LineFits Holds json value × Begins (line_text (json value)) old new
PutsLine Holds json unfit value old new (Err unwritten.NoMemory) = Keeps old new

-- the first of these that doesn't fit stands at this place
pub record IsFirst {T : Type 0} (Good : T → Type 0) (place : ℕ) (values : List T) : Type 0 where
  pub within : place < length values
  pub before : All Good (take place values)
  pub broken : All Good (take (place + 1) values) → ⊥

-- what a call that puts the lines of values did: all went out, or those before the first that doesn't fit, or a
-- beginning of the first lines, which fit
abbrev pub PutsLines : {T : Type 0} → (T → Type 0) → (T → Data) → (ℕ → Unfit) → List T
    → Bytes → Bytes → Result (Unit {0}) Unwritten → Type 0
PutsLines Holds json unfit values old new (Ok done) =
    All (LineFits Holds json) values × Appends old new (text_of (map json values))
PutsLines Holds json unfit values old new (Err (unwritten.Unfit told)) =
    (place : ℕ) × (told ≡ unfit place) × IsFirst (LineFits Holds json) place values
    × Appends old new (text_of (map json (take place values)))
PutsLines Holds json unfit values old new (Err other) =
    (count : ℕ) × All (LineFits Holds json) (take count values)
    × BeginsWithin (text_of (map json (take count values))) (text_of (map json values)) old new

-- ---- a transcript

-- what stands before this part, in a transcript of its own: no line, where it has too many entries
abbrev pub front : Unfit → TranscriptValue → TranscriptValue
front part.TooMany transcript = no_lines
front part.Header transcript = no_lines
front (part.Entry place) transcript = record transcript { entries = take place transcript.entries; words = [] }
front (part.Word place) transcript = record transcript { words = take place transcript.words }

-- under the header this part doesn't fit
abbrev pub IsUnfitUnder : Unfit → TranscriptValue → Header → Type 0
IsUnfitUnder part.TooMany transcript header = most_entries < length transcript.entries
IsUnfitUnder part.Header transcript header = IsShort (header_json header) → ⊥
IsUnfitUnder (part.Entry place) transcript header = IsFirst (LineFits (EntryUnder header) entry_json) place transcript.entries
IsUnfitUnder (part.Word place) transcript header = IsFirst (LineFits (WordUnder header) word_json) place transcript.words

-- exactly what stands before this part went out, and fits; the part doesn't fit
pub record StopsAt (transcript : TranscriptValue) (old new : Bytes) (told : Unfit) : Type 0 where
  pub fits : Fits (front told transcript)
  pub gone : Appends old new (text_of (lines (front told transcript)))
  pub unfit : IfSome transcript.header (IsUnfitUnder told transcript)

-- a beginning of the text went out, which isn't the whole text: of the lines before this part, and they fit
pub record BeginsFitting (transcript : TranscriptValue) (old new : Bytes) : Type 0 where
  pub part : Unfit
  pub fits : Fits (front part transcript)
  pub gone : BeginsWithin (text_of (lines (front part transcript))) (text_of (lines transcript)) old new

-- the transcript's text is read as the transcript itself
abbrev pub IsReadBack : TranscriptValue → Type 0
IsReadBack transcript = ReadsFrom no_lines 0 (Ok transcript) (cut (text_of (lines transcript)))

-- what a call that writes a transcript did: it fits, and all of it went out; or this part doesn't fit, and what stands
-- before it went out; or a beginning went out of lines that fit
abbrev pub Writes : TranscriptValue → Bytes → Bytes → Result (Unit {0}) Unwritten → Type 0
Writes transcript old new (Ok done) = Fits transcript × Appends old new (text_of (lines transcript))
Writes transcript old new (Err (unwritten.Unfit told)) = StopsAt transcript old new told
Writes transcript old new (Err other) = BeginsFitting transcript old new
