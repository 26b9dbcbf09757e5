-- Transcripts as the formats read them from bytes, line after line.
use Rattle.std.specs.Option.{option_map}
use Rattle.std.specs.Prelude.{◌≡◌, ℕ, zero, suc, ◌+◌, ◌<◌, ◌≤◌, ◌==◌, ◌&&◌, nat_lt, List, [], ◌∷◌, ◌++◌, length}
use Rattle.std.specs.Prelude.{codes, Bool, true, false, is_some, IsUtf8, Option, Some, None, Result, Ok, Err, if◌then◌else◌}
use Rattle.serde_json.specs.Data.{Data}
use Rattle.serde_json.specs.Find.{get}
use Rattle.serde_json.specs.Read.{read}
use Rattle.irp_forms.specs.declared.unread.Unread.{Unread}
use Rattle.irp_forms.specs.declared.unread.Unread.TheVariants as unread
use Rattle.irp_types.specs.declared.entry.Entry.{Entry}
use Rattle.irp_transcript.specs.Headers.{IsHeader}
use Rattle.irp_transcript.specs.Transcripts.{TranscriptValue}
use Rattle.irp_transcript.specs.declared.{header.Header.Header, word_line.Act.Act, word_line.WordLine.WordLine}
use Rattle.irp_transcript.specs.declared.word_line.Act.TheVariants as acts
use Rattle.irp_transcript_reader.specs.Forms.{has_entry, has_word}
use Rattle.irp_transcript_reader.specs.Lines.{entry_at, header_at}
use Rattle.irp_transcript_reader.specs.WordLines.{word_line_at}
use Rattle.irp_transcript_reader.specs.declared.{line.Line.Line, read_fault.ReadFault.ReadFault, reading.Reading.Reading, seen.Seen.Seen}
use Rattle.irp_transcript_reader.specs.declared.line.Line.TheVariants.{Header as HeaderLine, Entry as EntryLine, Word as WordLineOf}
use Rattle.irp_transcript_reader.specs.declared.read_fault.ReadFault.TheVariants as faults

-- ---- values

-- as many bytes as a line has without its newline, and as many entries as a transcript has
abbrev pub most_bytes : ℕ
most_bytes = 65536

abbrev pub most_entries : ℕ
most_entries = 1000000

-- an entry's line has the key `call`
abbrev pub is_entry : Data → Bool
is_entry form = is_some (get (codes "call") form)

-- a step hands over to one of these seats, if it hands over
abbrev pub hands_within : ℕ → Act → Bool
hands_within seats (acts.Hand hand) = nat_lt hand.to seats
hands_within seats other = true

-- what the lines so far leave to those behind them: before the header nothing
abbrev pub seen_of : TranscriptValue → Option Seen
seen_of before = option_map (λ (header : Header). record {
  form = header.form;
  seats = header.seats;
  entries = length before.entries;
  before_words = length before.words == 0;
}) before.header

-- and with this line more
abbrev pub seen_behind : Option Seen → Line → Option Seen
seen_behind seen (HeaderLine header) =
    Some (record { form = header.form; seats = header.seats; entries = 0; before_words = true })
seen_behind seen (EntryLine entry) = option_map (λ (it : Seen). record it { entries = it.entries + 1 }) seen
seen_behind seen (WordLineOf word) = option_map (λ (it : Seen). record it { before_words = false }) seen

-- an entry may stand there: before the word lines, where there are not too many, of one of the seats, if the form has it
abbrev pub takes_entry : Seen → Entry → Bool
takes_entry seen entry =
    (seen.before_words && nat_lt seen.entries most_entries) && (nat_lt entry.seat seen.seats && has_entry seen.form entry)

-- a word line may stand there: of one of the seats, if the form has it
abbrev pub takes_word : Seen → WordLine → Bool
takes_word seen word =
    (nat_lt word.seat seen.seats && hands_within seen.seats word.act) && has_word seen.form word

-- the value is this line: first a header that the formats accept, and then an entry or a word line that may stand there
abbrev pub Says : Option Seen → Data → Line → Type 0
Says None form (HeaderLine header) = (header_at form ≡ Some header) × IsHeader header
Says None form other = ⊥
Says (Some seen) form (HeaderLine header) = ⊥
Says (Some seen) form (EntryLine entry) =
    (is_entry form ≡ true) × (entry_at form ≡ Some entry) × (takes_entry seen entry ≡ true)
Says (Some seen) form (WordLineOf word) =
    (is_entry form ≡ false) × (word_line_at form ≡ Some word) × (takes_word seen word ≡ true)

-- the transcript with one line more
abbrev pub with_line : TranscriptValue → Line → TranscriptValue
with_line before (HeaderLine header) = record before { header = Some header }
with_line before (EntryLine entry) = record before { entries = before.entries ++ entry ∷ [] }
with_line before (WordLineOf word) = record before { words = before.words ++ word ∷ [] }

-- the next value makes the one transcript of the other
abbrev pub IsNext : TranscriptValue → Data → TranscriptValue → Type 0
IsNext before form after = (line : Line) × Says (seen_of before) form line × (after ≡ with_line before line)

-- ---- lines

-- a line, without its newline, isn't too long, and serde_json reads it as this value
abbrev pub IsLine : List ℕ → Data → Type 0
IsLine line form = (length line ≤ most_bytes) × IsUtf8 line × (read line ≡ Some form)

-- a line is this one, behind what was seen
abbrev pub IsLineOf : Option Seen → List ℕ → Line → Type 0
IsLineOf seen line given = (form : Data) × IsLine line form × Says seen form given

-- a line is read as this entry
abbrev pub IsEntryLine : List ℕ → Entry → Type 0
IsEntryLine line entry = (form : Data) × IsLine line form × (entry_at form ≡ Some entry) × (is_entry form ≡ true)

-- the next line makes the one transcript of the other
abbrev pub Takes : TranscriptValue → List ℕ → TranscriptValue → Type 0
Takes before line after = (form : Data) × IsLine line form × IsNext before form after

-- the next line makes no transcript
abbrev pub Refuses : TranscriptValue → List ℕ → Type 0
Refuses before line = (after : TranscriptValue) → Takes before line after → ⊥

-- the lines make the one transcript of the other, one after another
abbrev pub TakesAll : TranscriptValue → List (List ℕ) → TranscriptValue → Type 0
TakesAll before [] after = before ≡ after
TakesAll before (line ∷ others) after =
    (between : TranscriptValue) × Takes before line between × TakesAll between others after

-- ---- bytes

-- a byte before what was cut
abbrev pub onto : ℕ → List (List ℕ) × List ℕ → List (List ℕ) × List ℕ
onto byte ([], rest) = ([], byte ∷ rest)
onto byte (line ∷ others, rest) = ((byte ∷ line) ∷ others, rest)

-- the lines, each without its newline, and what stands after the last newline
abbrev pub cut : List ℕ → List (List ℕ) × List ℕ
cut [] = ([], [])
cut (byte ∷ bytes) = if byte == 10 then ([] ∷ (cut bytes).0, (cut bytes).1) else onto byte (cut bytes)

-- the first line, and what follows its newline
pub record Splits (bytes line more : List ℕ) : Type 0 where
  pub whole : cut bytes ≡ (line ∷ (cut more).0, (cut more).1)
  pub shorter : length more < length bytes

-- this line, counted from 0, is the first that isn't taken: it is refused, or has no newline
abbrev pub RefusedAt : ℕ → TranscriptValue → List (List ℕ) × List ℕ → Type 0
RefusedAt place before ([], rest) = (place ≡ 0) × (0 < length rest)
RefusedAt zero before (line ∷ others, rest) = Refuses before line
RefusedAt (suc place) before (line ∷ others, rest) =
    (between : TranscriptValue) × Takes before line between × RefusedAt place between (others, rest)

-- a line that memory may run out for: it isn't empty and isn't too long
abbrev pub TakesMemory : List ℕ → Type 0
TakesMemory line = (0 < length line) × (length line ≤ most_bytes)

-- memory may run out at this line, counted from 0: it has its newline, and all lines before it are taken
abbrev pub RunsOutAt : ℕ → TranscriptValue → List (List ℕ) → Type 0
RunsOutAt place before [] = ⊥
RunsOutAt zero before (line ∷ others) = TakesMemory line
RunsOutAt (suc place) before (line ∷ others) =
    (between : TranscriptValue) × Takes before line between × RunsOutAt place between others

-- what is read from the rest, after so many lines that made this transcript: the transcript of all lines, where each is
-- taken and has its newline; or the number, from 1, of the first line that isn't taken; or that memory ran out at a
-- line behind lines that are taken
abbrev pub ReadsFrom : TranscriptValue → ℕ → Result TranscriptValue ReadFault → List (List ℕ) × List ℕ → Type 0
ReadsFrom before count (Ok transcript) text = (text.1 ≡ []) × TakesAll before text.0 transcript
ReadsFrom before count (Err (faults.Line line)) text =
    (place : ℕ) × (line ≡ count + place + 1) × RefusedAt place before text
ReadsFrom before count (Err faults.NoMemory) text = (place : ℕ) × RunsOutAt place before text.0

-- ---- what is read so far

abbrev pub so_far : Reading → TranscriptValue
so_far reading = record { header = reading.header; entries = reading.entries.items; words = reading.words.items }

-- what the next value made of it, unless memory ran out
abbrev pub TakesValue : Result (Unit {0}) Unread → TranscriptValue → Data → TranscriptValue → Type 0
TakesValue (Ok done) before form after = IsNext before form after
TakesValue (Err unread.Form) before form after = (other : TranscriptValue) → IsNext before form other → ⊥
TakesValue (Err unread.NoMemory) before form after = Unit {0}

-- what the next line made of it
abbrev pub TakesLine : Result (Unit {0}) Unread → TranscriptValue → List ℕ → TranscriptValue → Type 0
TakesLine (Ok done) before line after = Takes before line after
TakesLine (Err unread.Form) before line after = Refuses before line
TakesLine (Err unread.NoMemory) before line after = TakesMemory line

-- what a line or its value is, behind what was seen: an entry or a word line where it may stand
abbrev pub entry_line : Seen → Entry → Result Line Unread
entry_line seen entry = if takes_entry seen entry then Ok (EntryLine entry) else Err unread.Form

abbrev pub word_line : Seen → WordLine → Result Line Unread
word_line seen word = if takes_word seen word then Ok (WordLineOf word) else Err unread.Form

abbrev pub SaysLine : Result Line Unread → Option Seen → Data → Type 0
SaysLine (Ok line) seen form = Says seen form line
SaysLine (Err unread.Form) seen form = (line : Line) → Says seen form line → ⊥
SaysLine (Err unread.NoMemory) seen form = Unit {0}

abbrev pub ReadsLine : Result Line Unread → Option Seen → List ℕ → Type 0
ReadsLine (Ok given) seen line = IsLineOf seen line given
ReadsLine (Err unread.Form) seen line = (given : Line) → IsLineOf seen line given → ⊥
ReadsLine (Err unread.NoMemory) seen line = TakesMemory line
