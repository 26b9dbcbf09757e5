-- What a line is read as, and what it leaves.
use Rattle.std.proofs.Common.{◌≡◌, ◌≤◌, ℕ, Bool, true, false, List, length, Option, Some, None, Result, Ok, Err, refl, sym, subst, ◌∙◌, if◌then◌else◌}
use Rattle.std.specs.Prelude.{IsUtf8}
use mathlib.Core.Bool.{true≢false}
use Rattle.std.proofs.lemmas.Option.{none-some, same_Some}
use Rattle.serde_json.specs.Data.{Data}
use Rattle.serde_json.specs.Read.{read}
use Rattle.irp_forms.proofs.Texts.{some_text}
use Rattle.irp_forms.specs.declared.unread.Unread.{Unread}
use Rattle.irp_forms.specs.declared.unread.Unread.TheVariants as unread
use Rattle.irp_types.specs.declared.entry.Entry.{Entry}
use Rattle.irp_transcript.specs.Transcripts.{TranscriptValue, IsTranscript}
use Rattle.irp_transcript.specs.declared.{header.Header.Header, word_line.WordLine.WordLine}
use Rattle.irp_transcript_reader.specs.Lines.{entry_at}
use Rattle.irp_transcript_reader.specs.Reading.{IsEntryLine, ReadsLine, Says, SaysLine, entry_line, is_entry, most_bytes, seen_of, takes_entry, takes_word, with_line, word_line}
use Rattle.irp_transcript_reader.specs.WordLines.{word_line_at}
use Rattle.irp_transcript_reader.specs.declared.{line.Line.Line, seen.Seen.Seen}
use Rattle.irp_transcript_reader.specs.declared.line.Line.TheVariants.{Header as HeaderLine, Entry as EntryLine, Word as WordLineOf}

-- ---- a value

module _ (seen : Seen) (form : Data) where
  -- a value with a call is an entry, or refused
  no_entry : is_entry form ≡ true → ((entry : Entry) → entry_at form ≡ Some entry → takes_entry seen entry ≡ true → ⊥) → (line : Line) → Says (Some seen) form line → ⊥
  no_entry named none (HeaderLine header) says = says
  no_entry named none (EntryLine entry) says = none entry says.1 says.2
  no_entry named none (WordLineOf word) says = true≢false (sym named ∙ says.0)

  entry_placed : (entry : Entry) (fits : Bool) → is_entry form ≡ true → entry_at form ≡ Some entry → takes_entry seen entry ≡ fits
      → SaysLine (if fits then Ok (EntryLine entry) else Err unread.Form) (Some seen) form
  entry_placed entry true named is fits = (named, is, fits)
  entry_placed entry false named is fits =
      no_entry named (λ other second fitting. true≢false (sym fitting ∙ subst (λ (it : Entry). takes_entry seen it ≡ false) (same_Some entry other (sym is ∙ second)) fits))

  pub entry_says : (entry : Entry) → is_entry form ≡ true → entry_at form ≡ Some entry → SaysLine (entry_line seen entry) (Some seen) form
  entry_says entry named is = entry_placed entry (takes_entry seen entry) named is refl

  -- another one is a word line, or refused
  no_word : is_entry form ≡ false → ((word : WordLine) → word_line_at form ≡ Some word → takes_word seen word ≡ true → ⊥) → (line : Line) → Says (Some seen) form line → ⊥
  no_word named none (HeaderLine header) says = says
  no_word named none (EntryLine entry) says = true≢false (sym says.0 ∙ named)
  no_word named none (WordLineOf word) says = none word says.1 says.2

  word_placed : (word : WordLine) (fits : Bool) → is_entry form ≡ false → word_line_at form ≡ Some word → takes_word seen word ≡ fits
      → SaysLine (if fits then Ok (WordLineOf word) else Err unread.Form) (Some seen) form
  word_placed word true named is fits = (named, is, fits)
  word_placed word false named is fits =
      no_word named (λ other second fitting. true≢false (sym fitting ∙ subst (λ (it : WordLine). takes_word seen it ≡ false) (same_Some word other (sym is ∙ second)) fits))

  pub word_says : (word : WordLine) → is_entry form ≡ false → word_line_at form ≡ Some word → SaysLine (word_line seen word) (Some seen) form
  word_says word named is = word_placed word (takes_word seen word) named is refl

-- ---- a line

-- what the value of a line is the line is
pub line_gives : (answer : Result Line Unread) (seen : Option Seen) (line : List ℕ) (form : Data) → length line ≤ most_bytes → IsUtf8 line → read line ≡ Some form
    → SaysLine answer seen form → ReadsLine answer seen line
line_gives (Ok given) seen line form few utf8 is says = (form, (few, utf8, is), says)
line_gives (Err unread.Form) seen line form few utf8 is none =
    λ given of. none given (subst (λ (it : Data). Says seen it given) (same_Some of.0 form (sym of.1.2 ∙ is)) of.2)
line_gives (Err unread.NoMemory) seen line form few utf8 is says = (some_text line form is, few)

-- the entry that a line is read as is what the line is
pub entry_gives : (seen : Seen) (line : List ℕ) (entry : Entry) → IsEntryLine line entry → ReadsLine (entry_line seen entry) (Some seen) line
entry_gives seen line entry known =
    line_gives (entry_line seen entry) (Some seen) line known.0 known.1.0 known.1.1 known.1.2 (entry_says seen known.0 entry known.3 known.2)

-- ---- a transcript

abbrev under : Option Header → List Entry → List WordLine → TranscriptValue
under known entries words = record { header = known; entries = entries; words = words }

said_kept : (known : Option Header) (entries : List Entry) (words : List WordLine) (form : Data) (line : Line) → IsTranscript (under known entries words)
    → Says (seen_of (under known entries words)) form line → IsTranscript (with_line (under known entries words) line)
said_kept None entries words form (HeaderLine header) one says = record { accepted = says.1; bare = λ none. absurd (none-some header (sym none)) }
said_kept None entries words form (EntryLine entry) one says = absurd says
said_kept None entries words form (WordLineOf word) one says = absurd says
said_kept (Some header) entries words form (HeaderLine other) one says = absurd says
said_kept (Some header) entries words form (EntryLine entry) one says = record { accepted = one.accepted; bare = λ none. absurd (none-some header (sym none)) }
said_kept (Some header) entries words form (WordLineOf word) one says = record { accepted = one.accepted; bare = λ none. absurd (none-some header (sym none)) }

-- a transcript with one more line is one
pub kept : (before : TranscriptValue) (form : Data) (line : Line) → IsTranscript before → Says (seen_of before) form line → IsTranscript (with_line before line)
kept before form line one says = said_kept before.header before.entries before.words form line one says
