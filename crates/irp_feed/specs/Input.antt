-- What was read of an input, and the transcript in it.
use Rattle.std.specs.Prelude.{ℕ, ◌≡◌, ◌≤◌, List, length, IfSome, Option, Ok, Err}
use Rattle.std.specs.Io.KnownBytes.{Consumes}
use Rattle.irp_transcript.specs.Transcripts.{TranscriptValue, no_lines}
use Rattle.irp_transcript_reader.specs.Reading.{ReadsFrom, cut}
use Rattle.irp_transcript_reader.specs.declared.read_fault.ReadFault.TheVariants as fault

-- what is left of an input, where that is known
abbrev pub Bytes : Type 0
Bytes = Option (List ℕ)

-- as many bytes as the text of a transcript may have, and as many as may be taken of the input, since one too many
-- shows that it is too long
abbrev pub most_bytes : ℕ
most_bytes = 1073741824

abbrev pub most_taken : ℕ
most_taken = 1073741825

-- at most so many bytes are taken of the input, where that is known
abbrev pub TakesAtMost : ℕ → Bytes → Bytes → Type 0
TakesAtMost limit old new = (taken : List ℕ) × (length taken ≤ limit) × Consumes old new taken

-- this text, which isn't too long, is what was left of the input, where that is known, and it was taken
pub record IsInput (old new : Bytes) (text : List ℕ) : Type 0 where
  pub few : length text ≤ most_bytes
  pub whole : IfSome old (λ left. text ≡ left)
  pub took : Consumes old new text

-- the text is this transcript's
abbrev pub IsTextOf : List ℕ → TranscriptValue → Type 0
IsTextOf text transcript = ReadsFrom no_lines 0 (Ok transcript) (cut text)

-- this line is the first of the text that is refused
abbrev pub IsRefused : List ℕ → ℕ → Type 0
IsRefused text line = ReadsFrom no_lines 0 (Err (fault.Line line)) (cut text)

-- the input holds the text of this transcript
abbrev pub Holds : Bytes → Bytes → TranscriptValue → Type 0
Holds old new transcript = (text : List ℕ) × IsInput old new text × IsTextOf text transcript
