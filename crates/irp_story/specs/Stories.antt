-- The story of a history: its lines, one after another.
use Rattle.std.specs.Prelude.{ℕ, ◌≡◌, List, [], ◌∷◌, ◌++◌, length, map, Option, Some, None}
use Rattle.serde_json.specs.Data.{Data}
use Rattle.irp_types.specs.declared.entry.Entry.{Entry}
use Rattle.irp_transcript.specs.Transcripts.{TranscriptValue}
use Rattle.irp_transcript.specs.declared.header.Header.{Header}
use Rattle.irp_transcript.specs.declared.word_line.WordLine.{WordLine}
use Rattle.irp_judge.specs.Checked.{IsVerdictOn}
use Rattle.irp_judge.specs.Judges.{seen}
use Rattle.irp_judge.specs.Judging.{HasJudged, JudgeValue}
use Rattle.irp_judge.specs.declared.verdict.Verdict.{Verdict}
use Rattle.irp_transcript_writer.specs.Lines.{text_of}
use Rattle.irp_story.specs.Lines.{entry_line, header_line, step_line, verdict_line}
use Rattle.irp_story.specs.declared.story.Story.{Story}

-- the line of an entry behind those before it: what a judge tells that was fed these, and keeps the state that the manager
-- is in behind them
pub record IsEntryLine (header : Header) (before : List Entry) (entry : Entry) (line : Data) : Type 0 where
  pub judge : JudgeValue
  pub headed : judge.header ≡ header
  pub judged : HasJudged judge (before ++ entry ∷ [])
  pub whole : line ≡ entry_line (length before) judge entry

-- the lines of the entries that come behind those before: one for each, in order
abbrev pub AreEntryLines : Header → List Entry → List Entry → List Data → Type 0
AreEntryLines header before [] lines = lines ≡ []
AreEntryLines header before (entry ∷ entries) lines =
    (line : Data) × (others : List Data) × IsEntryLine header before entry line
    × AreEntryLines header (before ++ entry ∷ []) entries others × (lines ≡ line ∷ others)

-- the lines before the verdict: of the header, of each entry, and of each step on a remove lock or a cancel slot
abbrev pub AreLines : Option Header → List Entry → List WordLine → List Data → Type 0
AreLines None entries words lines = lines ≡ []
AreLines (Some header) entries words lines =
    (told : List Data) × AreEntryLines header [] entries told
    × (lines ≡ header_line header ∷ (told ++ map step_line words))

-- a text is that of these lines
pub record IsBegun (transcript : TranscriptValue) (text : List ℕ) : Type 0 where
  pub lines : List Data
  pub are : AreLines transcript.header transcript.entries transcript.words lines
  pub whole : text ≡ text_of lines

-- a text is the story of a transcript: these lines, and the line of the verdict
pub record IsStory (transcript : TranscriptValue) (text : List ℕ) : Type 0 where
  pub lines : List Data
  pub are : AreLines transcript.header transcript.entries transcript.words lines
  pub verdict : Verdict
  pub judged : IsVerdictOn transcript verdict
  pub whole : text ≡ text_of (lines ++ verdict_line (length transcript.entries) verdict ∷ [])

-- a transcript with one entry more, and with one step more
abbrev pub with_entry : TranscriptValue → Entry → TranscriptValue
with_entry before entry = record before { entries = before.entries ++ entry ∷ [] }

abbrev pub with_word : TranscriptValue → WordLine → TranscriptValue
with_word before word = record before { words = before.words ++ word ∷ [] }

-- the story of this transcript was told up to the verdict, as this text
pub record HasTold (story : Story) (transcript : TranscriptValue) (text : List ℕ) : Type 0 where
  pub headed : transcript.header ≡ Some (seen story.judge).header
  pub judged : HasJudged (seen story.judge) transcript.entries
  pub begun : IsBegun transcript text

-- a header alone
abbrev pub bare : Header → TranscriptValue
bare header = record { header = Some header; entries = []; words = [] }
