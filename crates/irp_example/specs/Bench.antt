-- What is left of the bench.
use Rattle.std.specs.Prelude.{◌≡◌, Some}
use Rattle.irp_types.specs.Histories.{IsLegal}
use Rattle.irp_transcript.specs.Headers.{fixed_of}
use Rattle.irp_transcript.specs.Transcripts.{TranscriptValue}
use Rattle.irp_transcript.specs.declared.header.Header.{Header}

-- the transcript has a header, and its history is one that the sequential manager could have made with what that tells
abbrev pub HasLegalHistory : TranscriptValue → Type 0
HasLegalHistory transcript =
    (header : Header) × (transcript.header ≡ Some header) × IsLegal (fixed_of header) transcript.entries
