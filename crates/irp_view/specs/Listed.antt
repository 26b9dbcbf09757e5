-- What shows a transcript while its text is read, block after block.
use Rattle.std.specs.Prelude.{ℕ, ◌≡◌, List, [], ◌++◌, length, true, is_some, Option, Some, None, Result, Ok, Err}
use Rattle.irp_types.specs.declared.names.IrpRef.{IrpRef}
use Rattle.irp_transcript.specs.Transcripts.{TranscriptValue}
use Rattle.irp_feed.specs.Feeding.{Stops, TakesFirst}
use Rattle.irp_feed.specs.Input.{Holds}
use Rattle.irp_listing.specs.Listing.{are_none}
use Rattle.irp_listing.specs.Stacks.{IsAfter}
use Rattle.irp_streams.specs.Writing.{BreaksOff}
use Rattle.irp_streams.specs.declared.reading.StreamFault.{StreamFault}
use Rattle.irp_view.specs.Reading.{line_of}
use Rattle.irp_view.specs.Showing.{IsShowing, Shows, tells_seats}
use Rattle.irp_view.specs.Streams.{Output, Streams}
use Rattle.irp_view.specs.declared.listing.Gathering.{Gathering}
use Rattle.irp_view.specs.declared.listing.Unshown.{Unshown}
use Rattle.irp_view.specs.declared.listing.Unshown.TheVariants.{Unread as IsUnread, Unwritten as IsUnwritten}
use Rattle.irp_view.specs.declared.orders.Span.{Span}
use Rattle.irp_view.specs.declared.showing.Shown.{Shown}
use Rattle.irp_view.specs.declared.showing.Wanted.{Wanted}

-- ---- what is gathered

-- the lines of this transcript were gone through: what was sent, and then what is gathered, shows it; the stacks are
-- those that its entries lead to, and its header says whether seats are told
pub record IsGathered (wanted : Wanted) (shown : Shown) (sent : List ℕ) (transcript : TranscriptValue) : Type 0 where
  pub counted : shown.entries ≡ length transcript.entries
  pub before_words : shown.before_words ≡ are_none transcript.words
  pub followed : IsAfter transcript.entries shown.stacks
  pub headed : is_some transcript.header ≡ true
  pub seats : wanted.choice.tells_seats ≡ tells_seats transcript.header
  pub shows : IsShowing wanted.choice.only wanted.span transcript (sent ++ shown.text.items)

-- nothing was gone through
pub record IsFresh (shown : Shown) : Type 0 where
  pub counted : shown.entries ≡ 0
  pub before_words : shown.before_words ≡ true
  pub followed : IsAfter [] shown.stacks
  pub empty : shown.text.items ≡ []

-- what is chosen of a history: the entries of one use of a packet or of all, and those of a span or of all of it
pub record Chosen : Type 0 where
  pub only : Option IrpRef
  pub span : Option Span

abbrev pub chosen_of : Option IrpRef → Option Span → Chosen
chosen_of only span = record { only = only; span = span }

-- what is chosen, and the output before
pub record Aim : Type 0 where
  pub chosen : Chosen
  pub before : Output

abbrev pub aim_of : Chosen → Output → Aim
aim_of chosen before = record { chosen = chosen; before = before }

-- what shows this transcript went out
abbrev pub ShowsLines : Chosen → TranscriptValue → Output → Output → Type 0
ShowsLines chosen transcript before after =
    Shows chosen.only chosen.span transcript before.gone after.gone before.failures after.failures

-- a beginning of it went out, before this fault
pub record BreaksLines (chosen : Chosen) (transcript : TranscriptValue) (before after : Output) (fault : StreamFault)
    : Type 0 where
  pub text : List ℕ
  pub is : IsShowing chosen.only chosen.span transcript text
  pub broken : BreaksOff text before.gone after.gone before.failures after.failures fault

-- what shows a transcript went out, or a beginning of it, before a fault if there was one
abbrev pub HasSent : Option StreamFault → Output → Aim → TranscriptValue → Type 0
HasSent None output aim transcript = ShowsLines aim.chosen transcript aim.before output
HasSent (Some fault) output aim transcript = BreaksLines aim.chosen transcript aim.before output fault

-- the lines of the second transcript were gone through, with this choice; what shows the first went out
pub record HasGathered (gathering : Gathering) (output : Output) (aim : Aim) (ended transcript : TranscriptValue)
    : Type 0 where
  pub only : gathering.wanted.choice.only ≡ aim.chosen.only
  pub span : gathering.wanted.span ≡ aim.chosen.span
  pub calm : gathering.fault ≡ None
  pub shows : ShowsLines aim.chosen ended aim.before output
  pub is : IsGathered gathering.wanted gathering.shown shows.text transcript

-- ---- the input

-- the input holds no transcript: what shows the lines before the one that is refused went out
abbrev pub StopsAt : Chosen → Option ℕ → Streams → Streams → Type 0
StopsAt chosen line before after =
    (transcript : TranscriptValue) × Stops before.left after.left line transcript
    × ShowsLines chosen transcript before.output after.output

-- the output failed, or memory ran out for it, behind the first lines of the input's text
abbrev pub BreaksAt : Chosen → StreamFault → Streams → Streams → Type 0
BreaksAt chosen fault before after =
    (transcript : TranscriptValue) × TakesFirst before.left after.left transcript
    × BreaksLines chosen transcript before.output after.output fault

-- the input holds a transcript, and all of what shows it went out
abbrev pub ShowsAll : Chosen → Streams → Streams → Type 0
ShowsAll chosen before after =
    (transcript : TranscriptValue) × Holds before.left after.left transcript
    × ShowsLines chosen transcript before.output after.output

-- what went out of the input's transcript: all, or up to where it was found that there is none, or up to where the
-- output failed
abbrev pub ShowsInput : Result (Unit {0}) Unshown → Chosen → Streams → Streams → Type 0
ShowsInput (Ok done) chosen before after = ShowsAll chosen before after
ShowsInput (Err (IsUnread unread)) chosen before after = StopsAt chosen (line_of unread) before after
ShowsInput (Err (IsUnwritten fault)) chosen before after = BreaksAt chosen fault before after
