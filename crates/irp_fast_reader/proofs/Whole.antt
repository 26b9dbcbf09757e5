-- A transcript that fits: its text's lines are taken one after another, and nothing else is read from them.
use Rattle.std.proofs.Common.{◌≡◌, ℕ, zero, suc, ◌+◌, ◌<◌, ◌≤◌, List, [], ◌∷◌, ◌++◌, length, map, Option, Some, None, Result, Ok, Err, refl, sym, subst, ap, ◌∙◌, arith, append_assoc, append-nil, length-append}
use Rattle.std.specs.Prelude.{⊤}
use Rattle.std.specs.List.{All}
use Rattle.std.proofs.lemmas.Bool.{lt-ltb, ne_eqb, true≢false}
use Rattle.std.proofs.lemmas.List.Elements.{All-head, All-tail}
use Rattle.std.proofs.lemmas.Option.{same_Some}
use Rattle.serde_json.specs.Data.{Data}
use Rattle.serde_json.specs.Read.{max_depth}
use Rattle.serde_json.specs.Written.{compact_text}
use Rattle.irp_types.specs.declared.entry.Entry.{Entry}
use Rattle.irp_transcript.specs.Headers.{IsHeader}
use Rattle.irp_transcript.specs.Transcripts.{TranscriptValue, IsTranscript, no_lines}
use Rattle.irp_transcript.specs.declared.{header.Header.Header, word_line.WordLine.WordLine}
use Rattle.irp_transcript_reader.specs.Reading.{IsLine, IsNext, ReadsFrom, RefusedAt, Says, Takes, TakesAll, cut, most_entries, onto, seen_of, with_line}
use Rattle.irp_transcript_reader.specs.declared.{line.Line.Line, seen.Seen.Seen}
use Rattle.irp_transcript_reader.specs.declared.line.Line.TheVariants.{Header as HeaderLine, Entry as EntryLine, Word as WordLineOf}
use Rattle.irp_transcript_reader.specs.declared.read_fault.ReadFault.{ReadFault}
use Rattle.irp_transcript_reader.specs.declared.read_fault.ReadFault.TheVariants.{Line as LineFault, NoMemory}
use Rattle.irp_transcript_writer.specs.Json.{line_text}
use Rattle.irp_transcript_writer.specs.Lines.{entry_json, header_json, lines, text_of, word_json}
use Rattle.irp_fast_reader.proofs.Entries.{entry_back, entry_stands}
use Rattle.irp_fast_reader.proofs.Headers.{header_back, header_stands}
use Rattle.irp_fast_reader.proofs.Plain.{IsPlain, plain, utf8_plain}
use Rattle.irp_fast_reader.proofs.ReadBack.{read_back}
use Rattle.irp_fast_reader.proofs.Stands.{Stands}
use Rattle.irp_fast_reader.proofs.WordLines.{no_entry, word_back, word_stands}
use Rattle.irp_fast_reader.specs.Fits.{EntryUnder, Fits, FitsUnder, IsShort, LineFits, WordUnder}
use Rattle.irp_fast_reader.specs.Laws.{EntryIsRead, IsReadAgain, NothingElseIsRead, TextTells, WrittenIsRead}

-- ---- lines

-- the compact text of a value that stands is a line of that value
pub line_is : (form : Data) → Stands form max_depth → IsShort form → IsLine (compact_text form) form
line_is form stands short = (short, utf8_plain (compact_text form) (plain form max_depth stands), read_back form stands)

cut_line : (line rest : List ℕ) → IsPlain line → cut (line ++ 10 ∷ rest) ≡ (line ∷ (cut rest).0, (cut rest).1)
cut_line [] rest h = refl
cut_line (byte ∷ bytes) rest h = rw (ne_eqb byte 10 (λ e. omega (arith, h.0))) (ap (onto byte) (cut_line bytes rest h.2))

-- all of these stand
abbrev pub AllStand : List Data → Type 0
AllStand [] = ⊤
AllStand (form ∷ forms) = Stands form max_depth × AllStand forms

all_stand_append : (one other : List Data) → AllStand one → AllStand other → AllStand (one ++ other)
all_stand_append [] other h k = k
all_stand_append (form ∷ forms) other h k = (h.0, all_stand_append forms other h.1 k)

all_stand_map : {T : Type 0} (json_of : T → Data) (Suits : T → Type 0) → ((value : T) → Suits value → Stands (json_of value) max_depth)
    → (values : List T) → All Suits values → AllStand (map json_of values)
all_stand_map json_of Suits stands [] h = tt
all_stand_map json_of Suits stands (value ∷ values) h =
    (stands value (All-head Suits value values h), all_stand_map json_of Suits stands values (All-tail Suits value values h))

-- the lines of a text are the compact texts, and nothing stands after the last newline
cut_text : (forms : List Data) → AllStand forms → cut (text_of forms) ≡ (map compact_text forms, [])
unfolding text_of line_text
cut_text [] h = refl
cut_text (form ∷ forms) h =
    ap cut (append_assoc (compact_text form) (10 ∷ []) (text_of forms))
    ∙ cut_line (compact_text form) (text_of forms) (plain form max_depth h.0)
    ∙ ap (λ (parts : List (List ℕ) × List ℕ). (compact_text form ∷ parts.0, parts.1)) (cut_text forms h.1)

-- ---- one line

-- a transcript under a header
abbrev made : Header → List Entry → List WordLine → TranscriptValue
made header entries words = record { header = Some header; entries = entries; words = words }

entry_taken : (header : Header) (before : List Entry) (entry : Entry) → length before < most_entries → EntryUnder header entry
    → IsNext (made header before []) (entry_json entry) (made header (before ++ entry ∷ []) [])
entry_taken header before entry few h = (
  EntryLine entry,
  (refl, entry_back entry h.fits, rw (lt-ltb (length before) most_entries few, lt-ltb entry.seat header.seats h.seated) h.of_form),
  refl,
)

word_taken : (header : Header) (entries : List Entry) (before : List WordLine) (line : WordLine) → WordUnder header line
    → IsNext (made header entries before) (word_json line) (made header entries (before ++ line ∷ []))
word_taken header entries before line h = (
  WordLineOf line,
  (no_entry line h.fits, word_back line h.fits, rw (lt-ltb line.seat header.seats h.seated, h.hands) h.of_form),
  refl,
)

-- ---- all lines

words_taken : (header : Header) (entries : List Entry) (before words : List WordLine) → All (LineFits (WordUnder header) word_json) words
    → TakesAll (made header entries before) (map compact_text (map word_json words)) (made header entries (before ++ words))
words_taken header entries before [] h = ap (made header entries) (sym (append-nil before))
words_taken header entries before (line ∷ words) h =
    let under = All-head (LineFits (WordUnder header) word_json) line words h in (
      made header entries (before ++ line ∷ []),
      (word_json line, line_is (word_json line) (word_stands 125 line under.0.fits) under.1, word_taken header entries before line under.0),
      subst (λ (all : List WordLine). TakesAll (made header entries (before ++ line ∷ [])) (map compact_text (map word_json words)) (made header entries all))
          (append_assoc before (line ∷ []) words)
          (words_taken header entries (before ++ line ∷ []) words (All-tail (LineFits (WordUnder header) word_json) line words h)),
    )

entries_taken : (header : Header) (before entries : List Entry) (words : List WordLine) → length before + length entries ≤ most_entries
    → All (LineFits (EntryUnder header) entry_json) entries → All (LineFits (WordUnder header) word_json) words
    → TakesAll (made header before []) (map compact_text (map entry_json entries ++ map word_json words)) (made header (before ++ entries) words)
entries_taken header before [] words few h k =
    subst (λ (all : List Entry). TakesAll (made header before []) (map compact_text (map word_json words)) (made header all words))
    (sym (append-nil before)) (words_taken header before [] words k)
entries_taken header before (entry ∷ entries) words few h k =
    let under = All-head (LineFits (EntryUnder header) entry_json) entry entries h in
    let longer : length (before ++ entry ∷ []) + length entries ≤ most_entries = omega (arith, length-append before (entry ∷ [])) in (
      made header (before ++ entry ∷ []) [],
      (
        entry_json entry,
        line_is (entry_json entry) (entry_stands 122 entry under.0.fits) under.1,
        entry_taken header before entry (omega arith) under.0,
      ),
      subst (λ (all : List Entry). TakesAll (made header (before ++ entry ∷ []) []) (map compact_text (map entry_json entries ++ map word_json words)) (made header all words))
          (append_assoc before (entry ∷ []) entries)
          (entries_taken header (before ++ entry ∷ []) entries words longer (All-tail (LineFits (EntryUnder header) entry_json) entry entries h) k),
    )

under_taken : (header : Header) (entries : List Entry) (words : List WordLine) → IsHeader header → FitsUnder (made header entries words) header
    → TakesAll no_lines (map compact_text (lines (made header entries words))) (made header entries words)
under_taken header entries words accepted fits = (
  made header [] [],
  (header_json header, line_is (header_json header) (header_stands 123 header accepted) fits.short, (HeaderLine header, (header_back header accepted, accepted), refl)),
  entries_taken header [] entries words (omega (arith, fits.few)) fits.entries fits.words,
)

under_stand : (header : Header) (entries : List Entry) (words : List WordLine) → IsHeader header → FitsUnder (made header entries words) header
    → AllStand (lines (made header entries words))
under_stand header entries words accepted fits = (
  header_stands 123 header accepted,
  all_stand_append (map entry_json entries) (map word_json words)
      (all_stand_map entry_json (LineFits (EntryUnder header) entry_json) (λ entry under. entry_stands 122 entry under.0.fits) entries fits.entries)
      (all_stand_map word_json (LineFits (WordUnder header) word_json) (λ line under. word_stands 125 line under.0.fits) words fits.words),
)

-- ---- one answer

-- a value is one line
says_same : (seen : Option Seen) (form : Data) (line other : Line) → Says seen form line → Says seen form other → line ≡ other
says_same None form (HeaderLine header) (HeaderLine other) one two = ap HeaderLine (same_Some header other (sym one.0 ∙ two.0))
says_same None form (HeaderLine header) (EntryLine other) one two = absurd two
says_same None form (HeaderLine header) (WordLineOf other) one two = absurd two
says_same None form (EntryLine entry) other one two = absurd one
says_same None form (WordLineOf word) other one two = absurd one
says_same (Some seen) form (HeaderLine header) other one two = absurd one
says_same (Some seen) form (EntryLine entry) (HeaderLine other) one two = absurd two
says_same (Some seen) form (EntryLine entry) (EntryLine other) one two = ap EntryLine (same_Some entry other (sym one.1 ∙ two.1))
says_same (Some seen) form (EntryLine entry) (WordLineOf other) one two = absurd (true≢false (sym one.0 ∙ two.0))
says_same (Some seen) form (WordLineOf word) (HeaderLine other) one two = absurd two
says_same (Some seen) form (WordLineOf word) (EntryLine other) one two = absurd (true≢false (sym two.0 ∙ one.0))
says_same (Some seen) form (WordLineOf word) (WordLineOf other) one two = ap WordLineOf (same_Some word other (sym one.1 ∙ two.1))

next_same : (before after other : TranscriptValue) (form : Data) → IsNext before form after → IsNext before form other → after ≡ other
next_same before after other form one two =
    one.2 ∙ ap (with_line before) (says_same (seen_of before) form one.0 two.0 one.1 two.1) ∙ sym two.2

takes_same : (before after other : TranscriptValue) (line : List ℕ) → Takes before line after → Takes before line other → after ≡ other
takes_same before after other line (form, is, next) (second_form, second_is, second_next) =
    let same : second_form ≡ form = same_Some second_form form (sym second_is.2 ∙ is.2) in
    next_same before after other form next (subst (λ (given : Data). IsNext before given other) same second_next)

all_same : (before after other : TranscriptValue) (texts : List (List ℕ)) → TakesAll before texts after → TakesAll before texts other → after ≡ other
all_same before after other [] one two = sym one ∙ two
all_same before after other (line ∷ texts) (between, taken, more) (second, second_taken, second_more) =
    let same : second ≡ between = takes_same before second between line second_taken taken in
    all_same between after other texts more (subst (λ (given : TranscriptValue). TakesAll given texts other) same second_more)

-- behind lines that are all taken, what has no newline is refused
pub refused_last : (place : ℕ) (before after : TranscriptValue) (texts : List (List ℕ)) (rest : List ℕ) → TakesAll before texts after
    → RefusedAt place before (texts, rest) → (place ≡ length texts) × (0 < length rest)
refused_last place before after [] rest taken refused = refused
refused_last zero before after (line ∷ texts) rest (between, taken, more) refused = absurd (refused between taken)
refused_last (suc place) before after (line ∷ texts) rest (between, taken, more) (second, second_taken, refused) =
    let same : second ≡ between = takes_same before second between line second_taken taken in
    let last = refused_last place between after texts rest more (subst (λ (given : TranscriptValue). RefusedAt place given (texts, rest)) same refused) in
    (ap suc last.0, last.1)

never_refused : (place : ℕ) (before after : TranscriptValue) (texts : List (List ℕ)) → TakesAll before texts after → RefusedAt place before (texts, []) → ⊥
never_refused place before after texts taken refused = omega (arith, (refused_last place before after texts [] taken refused).1)

-- ---- the laws

-- the lines of a transcript that fits are taken, and their forms stand
all_under : (known : Option Header) (entries : List Entry) (words : List WordLine) → IsTranscript (record { header = known; entries = entries; words = words })
    → Fits (record { header = known; entries = entries; words = words })
    → TakesAll no_lines (map compact_text (lines (record { header = known; entries = entries; words = words }))) (record { header = known; entries = entries; words = words })
    × AllStand (lines (record { header = known; entries = entries; words = words }))
all_under None entries words is fits =
    subst (λ (given : TranscriptValue). TakesAll no_lines (map compact_text (lines given)) given × AllStand (lines given)) (sym (is.bare refl)) (refl, tt)
all_under (Some header) entries words is fits = (under_taken header entries words is.accepted fits, under_stand header entries words is.accepted fits)

-- the text of a transcript that fits is read as the transcript
pub written : WrittenIsRead
written transcript is fits =
    let both = all_under transcript.header transcript.entries transcript.words is fits in
    let cuts = cut_text (lines transcript) both.1 in (
      ap (λ (parts : List (List ℕ) × List ℕ). parts.1) cuts,
      subst (λ (texts : List (List ℕ)). TakesAll no_lines texts transcript) (sym (ap (λ (parts : List (List ℕ) × List ℕ). parts.0) cuts)) both.0,
    )

judged : (answer : Result TranscriptValue ReadFault) (after : TranscriptValue) (texts : List (List ℕ)) → TakesAll no_lines texts after
    → ReadsFrom no_lines 0 answer (texts, []) → IsReadAgain after answer
judged (Ok again) after texts taken reads = all_same no_lines again after texts reads.1 taken
judged (Err (LineFault line)) after texts taken reads = never_refused reads.0 no_lines after texts taken reads.2
judged (Err NoMemory) after texts taken reads = tt

-- and as nothing else
pub nothing_else : NothingElseIsRead
nothing_else transcript answer is fits reads =
    let both = all_under transcript.header transcript.entries transcript.words is fits in
    judged answer transcript (map compact_text (lines transcript)) both.0
    (subst (λ (text : List (List ℕ) × List ℕ). ReadsFrom no_lines 0 answer text) (cut_text (lines transcript) both.1) reads)

-- two transcripts that fit and have one text are one
pub text_tells : TextTells
text_tells one other one_is other_is one_fits other_fits same =
    sym (nothing_else one (Ok other) one_is one_fits
    (subst (λ (text : List ℕ). ReadsFrom no_lines 0 (Ok other) (cut text)) (sym same) (written other other_is other_fits)))

-- the line of an entry that fits is read as the entry
pub entry_is_read : EntryIsRead
entry_is_read entry fits short = (line_is (entry_json entry) (entry_stands 122 entry fits) short, entry_back entry fits)
