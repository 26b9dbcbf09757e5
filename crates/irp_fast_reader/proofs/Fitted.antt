-- A transcript's lines: the header's, the entries' and the word lines, of which all fit and go out, or the first ones.
use Rattle.std.proofs.Common.{◌≡◌, ◌≤◌, ◌<◌, ℕ, List, [], ◌++◌, map, length, take, Some, Result, Ok, Err, refl, sym, ap, ◌∙◌, subst, append_assoc, arith}
use Rattle.std.proofs.lemmas.Grind.{common_steps}
use Rattle.std.specs.Prelude.{OnOk}
use Rattle.std.specs.List.{All}
use Rattle.std.specs.Io.KnownBytes.{Appends, Keeps}
use Rattle.irp_types.specs.declared.entry.Entry.{Entry}
use Rattle.irp_transcript.specs.Transcripts.{IsTranscript, TranscriptValue, no_lines}
use Rattle.irp_transcript.specs.declared.{header.Header.Header, word_line.WordLine.WordLine}
use Rattle.irp_transcript_reader.specs.Reading.{most_entries}
use Rattle.irp_transcript_writer.specs.Json.{line_text}
use Rattle.irp_transcript_writer.specs.Lines.{entry_json, header_json, header_lines, lines, text_of, word_json}
use Rattle.irp_streams.proofs.Pieces.{appends_kept, appends_none, appends_then}
use Rattle.irp_transcript_writer.proofs.Puts.{all_sent, line_some, parts, text_one}
use Rattle.irp_fast_reader.specs.Fits.{EntryUnder, IsShort, LineFits, WordUnder}
use Rattle.irp_fast_reader.specs.Laws.{WrittenIsRead}
use Rattle.irp_fast_reader.specs.Fitting.{AnyHeader, Begins, BeginsWithin, BeginsFitting, Bytes, IsReadBack, PutsLine, PutsLines, StopsAt, Writes}
use Rattle.irp_fast_reader.specs.declared.unfit.Unwritten.{Unwritten}
use Rattle.irp_fast_reader.specs.declared.unfit.Unfit.TheVariants.{Entry as EntryAt, Header as HeadLine, TooMany, Word as WordAt}
use Rattle.irp_fast_reader.specs.declared.unfit.Unwritten.TheVariants as unwritten
use Rattle.irp_fast_reader.proofs.Going.{begins_within, behind, behind_last, longer, nothing, sent}

abbrev whole : Header → List Entry → List WordLine → TranscriptValue
whole header entries words = record { header = Some header; entries = entries; words = words }

-- the first ones of few are few
taken_few : {T : Type 0} (place most : ℕ) (values : List T) → length values ≤ most → length (take place values) ≤ most
taken_few place most values few = grind (arith, common_steps)

-- ---- what went out

head_gone : (header : Header) (old new : Bytes) → Appends old new (line_text (header_json header)) → Appends old new (text_of (header_lines (Some header)))
head_gone header old new gone = subst (λ text. Appends old new text) (text_one (header_json header)) gone

all_gone : (header : Header) (entries : List Entry) (words : List WordLine) (old one two new : Bytes) → Appends old one (line_text (header_json header))
    → Appends one two (text_of (map entry_json entries)) → Appends two new (text_of (map word_json words)) → Appends old new (text_of (lines (whole header entries words)))
all_gone header entries words old one two new head first second =
    all_sent (whole header entries words) (Some header) entries words _ _ _ old one two new refl refl refl
    (sent _ 0 old one (head_gone header old one head)) (sent _ _ one two first) (sent _ _ two new second)

-- the text of the header's line, of the entries' and of the word lines
whole_is : (header : Header) (entries : List Entry) (words : List WordLine)
    → text_of (lines (whole header entries words)) ≡ line_text (header_json header) ++ (text_of (map entry_json entries) ++ text_of (map word_json words))
whole_is header entries words =
    parts (whole header entries words)
    ∙ ap (λ (text : List ℕ). text ++ (text_of (map entry_json entries) ++ text_of (map word_json words))) (sym (text_one (header_json header)))

-- the output failed within the header's line
head_breaks : (header : Header) (entries : List Entry) (words : List WordLine) (old new : Bytes) → IsShort (header_json header) → Begins (line_text (header_json header)) old new
    → BeginsFitting (whole header entries words) old new
head_breaks header entries words old new short stops = record {
  part = EntryAt 0;
  fits = record { short = short; few = omega arith; entries = λ k d lt. absurd (omega arith); words = λ k d lt. absurd (omega arith) };
  gone =
      begins_within _ _ stops.front _ _ old new (behind _ [] _ _ stops.front stops.rest (whole_is header entries words) stops.whole)
      (longer stops.rest _ stops.short) (behind _ [] _ _ stops.front stops.rest (whole_is header [] []) stops.whole) stops.gone;
}

-- memory ran out before the header's line
head_kept : (header : Header) (entries : List Entry) (words : List WordLine) (old new : Bytes) → Keeps old new → BeginsFitting (whole header entries words) old new
head_kept header entries words old new kept = record {
  part = TooMany;
  fits = tt;
  gone =
      begins_within _ _ [] _ _ old new (whole_is header entries words) (longer _ _ (line_some (header_json header))) refl
      (appends_kept [] old old new (appends_none old) kept);
}

-- a line of the entries was the last
entries_break : (header : Header) (entries : List Entry) (words : List WordLine) (old one new : Bytes) (place : ℕ) → IsShort (header_json header) → length entries ≤ most_entries
    → Appends old one (line_text (header_json header)) → All (LineFits (EntryUnder header) entry_json) (take place entries)
    → BeginsWithin (text_of (map entry_json (take place entries))) (text_of (map entry_json entries)) one new
    → BeginsFitting (whole header entries words) old new
entries_break header entries words old one new place short few head fit stops = record {
  part = EntryAt place;
  fits = record { short = short; few = taken_few place most_entries entries few; entries = fit; words = λ k d lt. absurd (omega arith) };
  gone =
      begins_within _ _ (line_text (header_json header) ++ stops.begins.front) _ _ old new
      (behind _ (line_text (header_json header)) _ _ stops.begins.front stops.begins.rest (whole_is header entries words) stops.begins.whole)
      (longer stops.begins.rest _ stops.begins.short)
      (behind _ (line_text (header_json header)) _ _ stops.begins.front stops.left (whole_is header (take place entries) []) stops.within)
      (appends_then _ stops.begins.front old one new head stops.begins.gone);
}

-- a word line was the last
words_break : (header : Header) (entries : List Entry) (words : List WordLine) (old one two new : Bytes) (place : ℕ) → IsShort (header_json header) → length entries ≤ most_entries
    → Appends old one (line_text (header_json header)) → All (LineFits (EntryUnder header) entry_json) entries → Appends one two (text_of (map entry_json entries))
    → All (LineFits (WordUnder header) word_json) (take place words)
    → BeginsWithin (text_of (map word_json (take place words))) (text_of (map word_json words)) two new
    → BeginsFitting (whole header entries words) old new
words_break header entries words old one two new place short few head fit first fit_words stops =
    let front = line_text (header_json header) ++ text_of (map entry_json entries) in
    let split : (words : List WordLine) → text_of (lines (whole header entries words)) ≡ front ++ text_of (map word_json words) =
    λ words. whole_is header entries words ∙ sym (append_assoc (line_text (header_json header)) (text_of (map entry_json entries)) (text_of (map word_json words))) in
    record {
      part = WordAt place;
      fits = record { short = short; few = few; entries = fit; words = fit_words };
      gone =
          begins_within _ _ (front ++ stops.begins.front) _ _ old new
          (behind_last _ front _ stops.begins.front stops.begins.rest (split words) stops.begins.whole) stops.begins.short
          (behind_last _ front _ stops.begins.front stops.left (split (take place words)) stops.within)
          (appends_then _ stops.begins.front old two new (appends_then _ _ old one two head first) stops.begins.gone);
    }

-- ---- what writing does

pub head_stops : (header : Header) (entries : List Entry) (words : List WordLine) (old new : Bytes) (fault : Unwritten)
    → PutsLine (AnyHeader header) header_json HeadLine header old new (Err fault) → Writes (whole header entries words) old new (Err fault)
head_stops header entries words old new (unwritten.Unfit part) puts =
    rw puts.0 (record { fits = tt; gone = appends_kept _ old old new (nothing old) puts.2; unfit = λ short. puts.1 (tt, short) })
head_stops header entries words old new unwritten.Output puts = head_breaks header entries words old new puts.0.1 puts.1
head_stops header entries words old new unwritten.NoMemory puts = head_kept header entries words old new puts

pub entries_stop : (header : Header) (entries : List Entry) (words : List WordLine) (old one new : Bytes) (fault : Unwritten)
    → IsShort (header_json header) → length entries ≤ most_entries → Appends old one (line_text (header_json header))
    → PutsLines (EntryUnder header) entry_json EntryAt entries one new (Err fault) → Writes (whole header entries words) old new (Err fault)
entries_stop header entries words old one new (unwritten.Unfit part) short few head puts =
    rw puts.1
    (record {
      fits = record { short = short; few = taken_few puts.0 most_entries entries few; entries = puts.2.before; words = λ k d lt. absurd (omega arith) };
      gone = all_gone header (take puts.0 entries) [] old one new new head puts.3 (nothing new);
      unfit = puts.2;
    })
entries_stop header entries words old one new unwritten.Output short few head puts =
    entries_break header entries words old one new puts.0 short few head puts.1 puts.2
entries_stop header entries words old one new unwritten.NoMemory short few head puts =
    entries_break header entries words old one new puts.0 short few head puts.1 puts.2

pub words_end : (header : Header) (entries : List Entry) (words : List WordLine) (old one two new : Bytes) (result : Result (Unit {0}) Unwritten)
    → IsShort (header_json header) → length entries ≤ most_entries → Appends old one (line_text (header_json header))
    → All (LineFits (EntryUnder header) entry_json) entries → Appends one two (text_of (map entry_json entries))
    → PutsLines (WordUnder header) word_json WordAt words two new result → Writes (whole header entries words) old new result
words_end header entries words old one two new (Ok done) short few head fit first puts = (
  record { short = short; few = few; entries = fit; words = puts.0 },
  all_gone header entries words old one two new head first puts.1,
)
words_end header entries words old one two new (Err (unwritten.Unfit part)) short few head fit first puts =
    rw puts.1
    (record {
      fits = record { short = short; few = few; entries = fit; words = puts.2.before };
      gone = all_gone header entries (take puts.0 words) old one two new head first puts.3;
      unfit = puts.2;
    })
words_end header entries words old one two new (Err unwritten.Output) short few head fit first puts =
    words_break header entries words old one two new puts.0 short few head fit first puts.1 puts.2
words_end header entries words old one two new (Err unwritten.NoMemory) short few head fit first puts =
    words_break header entries words old one two new puts.0 short few head fit first puts.1 puts.2

pub too_many : (header : Header) (entries : List Entry) (words : List WordLine) (old : Bytes) → most_entries < length entries
    → StopsAt (whole header entries words) old old TooMany
too_many header entries words old many = record { fits = tt; gone = nothing old; unfit = many }

-- a transcript without a header has no lines
pub none_written : (transcript : TranscriptValue) (old : Bytes) → transcript ≡ no_lines → Writes transcript old old (Ok tt)
none_written transcript old none = rw none (tt, nothing old)

-- what was written whole is read back
pub read_back : (transcript : TranscriptValue) (old new : Bytes) (result : Result (Unit {0}) Unwritten) → IsTranscript transcript → WrittenIsRead
    → Writes transcript old new result → OnOk result (IsReadBack transcript)
read_back transcript old new (Ok done) is law writes = law transcript is writes.0
read_back transcript old new (Err fault) is law writes = tt
