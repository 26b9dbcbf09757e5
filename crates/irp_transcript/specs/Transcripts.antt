-- Transcripts as contracts see them.
use Rattle.std.specs.Prelude.{◌≡◌, List, [], Option, None, IfSome}
use Rattle.irp_types.specs.declared.entry.Entry.{Entry}
use Rattle.irp_transcript.specs.Headers.{IsHeader}
use Rattle.irp_transcript.specs.declared.header.Header.{Header}
use Rattle.irp_transcript.specs.declared.word_line.WordLine.{WordLine}

-- what a transcript was made with, the entries and the word lines
pub record TranscriptValue : Type 0 where
  pub header : Option Header
  pub entries : List Entry
  pub words : List WordLine

-- no header, no entries and no word lines
abbrev pub no_lines : TranscriptValue
no_lines = record { header = None; entries = []; words = [] }

-- the formats accept the header, and there is one unless there are neither entries nor word lines
pub record IsTranscript (transcript : TranscriptValue) : Type 0 where
  pub accepted : IfSome transcript.header IsHeader
  pub bare : transcript.header ≡ None → transcript ≡ no_lines
