-- What the program does for its words.
use Rattle.std.specs.Prelude.{ℕ, ◌≡◌, ◌⊎◌, Err, false, List, MatchResult, None, Ok, Option, Result, Some}
use Rattle.std.specs.Borrow.{Bor}
use Rattle.clap.specs.Words.{fault_of, subcommand_of}
use Rattle.irp_transcript.specs.Transcripts.{TranscriptValue}
use Rattle.irp_judge.specs.declared.verdict.Verdict.{Verdict}
use Rattle.irp_feed.specs.Feeding.{HoldsNone}
use Rattle.irp_feed.specs.Input.{Bytes, Holds}
use Rattle.irp_streams.specs.Writing.{BreaksOff, IsQuiet, Written}
use Rattle.irp_streams.specs.declared.reading.StreamFault.{StreamFault}
use Rattle.irp_program.specs.Opening.{IsUnopened}
use Rattle.irp_program.specs.declared.opening.Unopened.{Unopened}
use Rattle.irp_program.specs.declared.words.Unasked.{Unasked}
use Rattle.irp_program.specs.declared.words.Unasked.TheVariants.{NoMemory}
use Rattle.irp_view.specs.CommandLine.{AsksForOrMemory, command_line}
use Rattle.irp_view.specs.Ending.{ending_of, of_unopened, of_unread, of_unwritten, of_verdict, of_words}
use Rattle.irp_view.specs.Joined.{ArePut}
use Rattle.irp_view.specs.Listed.{BreaksAt, Chosen, StopsAt, chosen_of}
use Rattle.irp_view.specs.Reading.{line_of}
use Rattle.irp_view.specs.Showing.{Shows}
use Rattle.irp_view.specs.Story.{BreaksInput, StopsStory, TellsStory}
use Rattle.irp_view.specs.Streams.{Output, Streams, streams_of}
use Rattle.irp_view.specs.Telling.{Says, SaysNothing}
use Rattle.irp_view.specs.declared.orders.Asked.{Asked}
use Rattle.irp_view.specs.declared.ending.Ending.{Ending}
use Rattle.irp_view.specs.declared.ending.Ending.TheVariants.{Done}
use Rattle.irp_view.specs.declared.orders.Order.{Order}
use Rattle.irp_view.specs.declared.orders.Order.TheVariants.{Help, Read}
use Rattle.irp_view.specs.declared.orders.Task.{Task}
use Rattle.irp_view.specs.declared.orders.Task.TheVariants.{Why, List as Listing, Story}
use Rattle.irp_view.specs.declared.reading.Unread.{Unread}

-- a text went out; or a beginning of it, before a fault
abbrev pub Helped : Output → Output → Ending → Type 0
Helped before after ending =
    (text : List ℕ) × (result : Result (Unit {0}) StreamFault) × (ending ≡ ending_of (λ done. Done) result)
    × MatchResult result (λ done. Written text before.gone after.gone before.failures after.failures)
    (BreaksOff text before.gone after.gone before.failures after.failures)

-- what is told of a transcript, by what is asked
abbrev pub Answers : Task → TranscriptValue → Output → Output → Ending → Type 0
Answers Why transcript before after ending =
    (result : Result Verdict StreamFault) × (ending ≡ ending_of of_verdict result)
    × MatchResult result (Says transcript before.gone after.gone before.failures after.failures)
    (SaysNothing transcript before.gone after.gone before.failures after.failures)
Answers (Listing only span) transcript before after ending =
    (ending ≡ Done) × Shows only span transcript before.gone after.gone before.failures after.failures
Answers Story transcript before after ending = (ending ≡ Done) × TellsStory transcript before after

-- the input holds a transcript, of which this is told
abbrev pub AnswersRead : Task → Streams → Streams → Ending → Type 0
AnswersRead task before after ending =
    (transcript : TranscriptValue) × Holds before.left after.left transcript
    × Answers task transcript before.output after.output ending

-- it holds none, and nothing went out
abbrev pub ReadsNone : Streams → Streams → Ending → Type 0
ReadsNone before after ending =
    (unread : Unread) × HoldsNone before.left after.left (line_of unread) × (ending ≡ of_unread unread)
    × IsQuiet before.output.gone after.output.gone before.output.failures after.output.failures

-- it holds none: what shows the lines before the one that is refused went out
pub record ShowsBefore (chosen : Chosen) (before after : Streams) (ending : Ending) : Type 0 where
  pub unread : Unread
  pub stops : StopsAt chosen (line_of unread) before after
  pub ending_is : ending ≡ of_unread unread

-- the output failed, or memory ran out for it, behind the first lines of the input's text: a beginning of what shows
-- these went out
pub record BreaksBefore (chosen : Chosen) (before after : Streams) (ending : Ending) : Type 0 where
  pub fault : StreamFault
  pub breaks : BreaksAt chosen fault before after
  pub ending_is : ending ≡ of_unwritten fault

-- the same of a story: that of the lines before the one that is refused went out, without a verdict
pub record TellsBefore (before after : Streams) (ending : Ending) : Type 0 where
  pub unread : Unread
  pub stops : StopsStory (line_of unread) before after
  pub ending_is : ending ≡ of_unread unread

pub record BreaksTelling (before after : Streams) (ending : Ending) : Type 0 where
  pub fault : StreamFault
  pub breaks : BreaksInput fault before after
  pub ending_is : ending ≡ of_unwritten fault

-- what was done: the help; or what is asked of the transcript in the input, if there is one. Where entries are listed or
-- a story is told, those before a line that is refused went out though there is none
abbrev pub Obeys : Order → Streams → Streams → Ending → Type 0
Obeys Help before after ending = (after.left ≡ before.left) × Helped before.output after.output ending
Obeys (Read (Listing only span)) before after ending =
    AnswersRead (Listing only span) before after ending
    ⊎ (ShowsBefore (chosen_of only span) before after ending
    ⊎ BreaksBefore (chosen_of only span) before after ending)
Obeys (Read Story) before after ending =
    AnswersRead Story before after ending ⊎ (TellsBefore before after ending ⊎ BreaksTelling before after ending)
Obeys (Read task) before after ending = AnswersRead task before after ending ⊎ ReadsNone before after ending

-- nothing went out, and this is how it ends
abbrev pub EndsWith : Ending → Output → Output → Ending → Type 0
EndsWith fault before after ending =
    (ending ≡ fault) × IsQuiet before.gone after.gone before.failures after.failures

-- the file of this name isn't opened
abbrev pub OpensNone : Option (Bor (List ℕ)) → Output → Output → Ending → Type 0
OpensNone None before after ending = ⊥
OpensNone (Some name) before after ending =
    (unopened : Unopened) × IsUnopened name.now unopened × EndsWith (of_unopened unopened) before after ending

-- what is asked for is done, with the file that is named or with standard input; or the file isn't opened
abbrev pub ObeysOn : Asked → Output → Output → Ending → Type 0
ObeysOn asked before after ending =
    ((left rest : Bytes) × Obeys asked.order (streams_of left before) (streams_of rest after) ending)
    ⊎ OpensNone asked.file before after ending

abbrev pub ObeysAsked : Result Asked Unasked → Output → Output → Ending → Type 0
ObeysAsked (Ok asked) before after ending = ObeysOn asked before after ending
ObeysAsked (Err unasked) before after ending = EndsWith (of_words unasked) before after ending

-- what the words ask for is done, once a use of a packet that stands in one of them is two words
pub record ObeysParted (words : List (List ℕ)) (before after : Output) (ending : Ending) : Type 0 where
  pub parted : List (List ℕ)
  pub are_put : ArePut false words parted
  pub asked : Result Asked Unasked
  pub asks : AsksForOrMemory (fault_of command_line parted) (subcommand_of command_line parted) asked
  pub obeys : ObeysAsked asked before after ending

abbrev pub ObeysWords : List (List ℕ) → Output → Output → Ending → Type 0
ObeysWords words before after ending =
    EndsWith (of_words NoMemory) before after ending ⊎ ObeysParted words before after ending
