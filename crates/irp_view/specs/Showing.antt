-- The text that shows a transcript.
use Rattle.std.specs.Prelude.{⊤, ℕ, ◌≡◌, ◌≤◌, ◌<◌, ◌⊎◌, nat_lt, List, [], ◌∷◌, ◌++◌, length, Bool, false, Option, None, Some}
use Rattle.irp_types.specs.declared.entry.Entry.{Entry}
use Rattle.irp_types.specs.declared.names.IrpRef.{IrpRef}
use Rattle.irp_transcript.specs.Transcripts.{TranscriptValue}
use Rattle.irp_transcript.specs.declared.header.Header.{Header}
use Rattle.irp_transcript.specs.declared.word_line.WordLine.{WordLine}
use Rattle.irp_streams.specs.Streams.{Bytes}
use Rattle.irp_listing.specs.Blocks.{block_after}
use Rattle.irp_listing.specs.Choosing.{IsChosen}
use Rattle.irp_listing.specs.Listing.{word_lines_of}
use Rattle.irp_streams.specs.Writing.{Written}
use Rattle.irp_view.specs.declared.orders.Span.{Span}
use Rattle.irp_view.specs.declared.showing.Wanted.{Wanted}

-- ---- what is wanted

-- a place is one of a span's, or of all
abbrev pub IsWithin : Option Span → ℕ → Type 0
IsWithin None place = ⊤
IsWithin (Some span) place = (span.from ≤ place) × (place < span.to)

-- the seat of each call is told where there are several
abbrev pub tells_seats : Option Header → Bool
tells_seats None = false
tells_seats (Some header) = nat_lt 1 header.seats

-- what is wanted of a transcript with this header: the entries of one use of a packet or of all, and those of a span or
-- of all of it
abbrev pub wanted_of : Option IrpRef → Option Span → Option Header → Wanted
wanted_of only span header = record { choice = record { only = only; tells_seats = tells_seats header }; span = span }

-- ---- what stands for entries

-- the entry behind these is wanted: its place is within the span, and it is chosen
abbrev pub IsWanted : Wanted → List Entry → Entry → Type 0
IsWanted wanted before entry = IsWithin wanted.span (length before) × IsChosen wanted.choice.only entry

-- this text stands for it: its block, as the entries up to it tell, where it is wanted, and else nothing
abbrev pub StandsFor : Wanted → List Entry → Entry → List ℕ → Type 0
StandsFor wanted before entry text =
    (IsWanted wanted before entry × (text ≡ block_after wanted.choice.tells_seats (before ++ entry ∷ []) entry))
    ⊎ ((IsWanted wanted before entry → ⊥) × (text ≡ []))

-- this text stands for the entries that come behind those before, one after the other
abbrev pub IsListing : Wanted → List Entry → List Entry → List ℕ → Type 0
IsListing wanted before [] text = text ≡ []
IsListing wanted before (entry ∷ entries) text =
    (first rest : List ℕ) × StandsFor wanted before entry first × IsListing wanted (before ++ entry ∷ []) entries rest
    × (text ≡ first ++ rest)

-- ---- what shows a transcript

-- the text for word lines, where all entries are shown; nothing where some are chosen
abbrev pub AreWordsFor : Option IrpRef → Option Span → List WordLine → List ℕ → Type 0
AreWordsFor None None words text = text ≡ word_lines_of words
AreWordsFor (Some irp) span words text = text ≡ []
AreWordsFor None (Some span) words text = text ≡ []

-- this text shows a transcript: what stands for all of its entries, and behind it what stands for the word lines
pub record IsShowing (only : Option IrpRef) (span : Option Span) (transcript : TranscriptValue) (text : List ℕ)
    : Type 0 where
  pub listing : List ℕ
  pub is_listing : IsListing (wanted_of only span transcript.header) [] transcript.entries listing
  pub words : List ℕ
  pub are_words : AreWordsFor only span transcript.words words
  pub whole : text ≡ listing ++ words

-- that text went out, and nothing failed
pub record Shows (only : Option IrpRef) (span : Option Span) (transcript : TranscriptValue)
    (old new : Bytes) (before after : ℕ) : Type 0 where
  pub text : List ℕ
  pub is : IsShowing only span transcript text
  pub written : Written text old new before after
