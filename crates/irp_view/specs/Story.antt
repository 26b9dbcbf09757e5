-- The story of a transcript, told while its text is read, block after block.
use Rattle.std.specs.Prelude.{ℕ, ◌≡◌, ◌⊎◌, List, [], ◌++◌, Option, Some, None, Result, Ok, Err}
use Rattle.irp_transcript.specs.Transcripts.{TranscriptValue}
use Rattle.irp_feed.specs.Feeding.{Stops, TakesFirst}
use Rattle.irp_feed.specs.Input.{Holds, TakesAtMost, most_taken}
use Rattle.irp_story.specs.Stories.{HasTold, IsBegun, IsStory}
use Rattle.irp_streams.specs.Writing.{BreaksOff, IsQuiet, Written}
use Rattle.irp_streams.specs.declared.reading.StreamFault.{StreamFault}
use Rattle.irp_view.specs.Reading.{line_of}
use Rattle.irp_view.specs.Streams.{Output, Streams}
use Rattle.irp_view.specs.declared.listing.Unshown.{Unshown}
use Rattle.irp_view.specs.declared.listing.Unshown.TheVariants.{Unread as IsUnread, Unwritten as IsUnwritten}
use Rattle.irp_view.specs.declared.story.Telling.{Telling}

-- ---- what went out

-- a text is the story of a transcript up to its verdict; or it is empty, and the transcript has at most a header
abbrev pub IsPart : TranscriptValue → List ℕ → Type 0
IsPart transcript text =
    IsBegun transcript text ⊎ ((text ≡ []) × (transcript.entries ≡ []) × (transcript.words ≡ []))

-- that went out, and nothing failed
pub record TellsBegun (transcript : TranscriptValue) (before after : Output) : Type 0 where
  pub text : List ℕ
  pub is : IsPart transcript text
  pub written : Written text before.gone after.gone before.failures after.failures

-- the whole story went out
pub record TellsStory (transcript : TranscriptValue) (before after : Output) : Type 0 where
  pub text : List ℕ
  pub is : IsStory transcript text
  pub written : Written text before.gone after.gone before.failures after.failures

-- a beginning of it went out, before this fault
pub record BreaksStory (transcript : TranscriptValue) (before after : Output) (fault : StreamFault) : Type 0 where
  pub text : List ℕ
  pub is : IsBegun transcript text ⊎ IsStory transcript text
  pub broken : BreaksOff text before.gone after.gone before.failures after.failures fault

-- what went out of the lines of a transcript, before a fault if there was one
abbrev pub HasSentStory : Option StreamFault → Output → Output → TranscriptValue → Type 0
HasSentStory None output before transcript = TellsBegun transcript before output
HasSentStory (Some fault) output before transcript = BreaksStory transcript before output fault

-- the lines of the second transcript were told; the story of the first went out
pub record IsTelling (telling : Telling) (output before : Output) (ended transcript : TranscriptValue) : Type 0 where
  pub calm : telling.fault ≡ None
  pub went : TellsBegun ended before output
  pub told : HasTold telling.story transcript (went.text ++ telling.text.items)

-- what sending a text did
abbrev pub IsSent : List ℕ → Output → Output → Result (Unit {0}) Unshown → Type 0
IsSent text before after (Ok done) = Written text before.gone after.gone before.failures after.failures
IsSent text before after (Err (IsUnwritten fault)) =
    BreaksOff text before.gone after.gone before.failures after.failures fault
IsSent text before after (Err (IsUnread unread)) = ⊥

-- ---- the input

-- memory ran out: before anything was told, or behind the last line
abbrev pub RunsOut : Streams → Streams → Type 0
RunsOut before after =
    (TakesAtMost most_taken before.left after.left
    × IsQuiet before.output.gone after.output.gone before.output.failures after.output.failures)
    ⊎ ((transcript : TranscriptValue) × Holds before.left after.left transcript
    × TellsBegun transcript before.output after.output)

-- the input holds no transcript: the story of the lines before the one that is refused went out; or memory ran out
abbrev pub StopsStory : Option ℕ → Streams → Streams → Type 0
StopsStory line before after =
    ((transcript : TranscriptValue) × Stops before.left after.left line transcript
    × TellsBegun transcript before.output after.output)
    ⊎ ((line ≡ None) × RunsOut before after)

-- the output failed, behind the first lines of the input's text or behind all of them
abbrev pub BreaksInput : StreamFault → Streams → Streams → Type 0
BreaksInput fault before after =
    (transcript : TranscriptValue)
    × (TakesFirst before.left after.left transcript ⊎ Holds before.left after.left transcript)
    × BreaksStory transcript before.output after.output fault

-- the input holds a transcript, and all of its story went out
abbrev pub TellsAll : Streams → Streams → Type 0
TellsAll before after =
    (transcript : TranscriptValue) × Holds before.left after.left transcript
    × TellsStory transcript before.output after.output

-- what went out of the story of the input's transcript: all, or up to where it was found that there is none, or up to
-- where the output failed
abbrev pub TellsInput : Result (Unit {0}) Unshown → Streams → Streams → Type 0
TellsInput (Ok done) before after = TellsAll before after
TellsInput (Err (IsUnread unread)) before after = StopsStory (line_of unread) before after
TellsInput (Err (IsUnwritten fault)) before after = BreaksInput fault before after
