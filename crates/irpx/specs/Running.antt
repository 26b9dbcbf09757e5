-- What running a script leaves and writes.
use Rattle.std.specs.Prelude.{
  ℕ,
  ◌≡◌,
  ◌⊎◌,
  ◌<◌,
  ◌+◌,
  List,
  ◌++◌,
  length,
  map,
  position,
  take,
  Option,
  Some,
  None,
  IfSome,
  Result,
  Ok,
  Err,
}
use Rattle.std.specs.Io.KnownBytes.{Consumes}
use Rattle.std.specs.Option.{option_map}
use Rattle.irp_types.specs.declared.entry.Entry.{Entry}
use Rattle.irp_types.specs.Histories.{IsLegal, CompletesOnce, own_entries}
use Rattle.irp_types.specs.State.{Fixed, Tables, Entrance}
use Rattle.irp_types.specs.declared.answer.CancelAnswer.{CancelAnswer}
use Rattle.irp_types.specs.declared.answer.Plan.{Plan}
use Rattle.irp_routines.specs.Tables.{by_major, no_tables}
use Rattle.irp_shared.specs.Answered.{EachAnswered}
use Rattle.irp_transcript.specs.Headers.{fixed_of, limit_of, IsHeader}
use Rattle.irp_shared.specs.Closing.{AreSeated}
use Rattle.irp_transcript.specs.Transcripts.{TranscriptValue}
use Rattle.irp_transcript.specs.declared.header.Header.{Header}
use Rattle.irp_transcript.specs.declared.word_line.WordLine.{WordLine}
use Rattle.irp_script_reader.specs.Scripts.{ReadsScript}
use Rattle.irp_script_reader.specs.Sound.{with_all}
use Rattle.irp_script_reader.specs.declared.refusal.ScriptFault.TheVariants as script_fault
use Rattle.irp_script_reader.specs.declared.refusal.ScriptRefusal.{ScriptRefusal}
use Rattle.irp_script_reader.specs.declared.script.CompletionRoutine.{CompletionRoutine}
use Rattle.irp_script_reader.specs.declared.script.Script.{Script}
use Rattle.irp_script_reader.specs.declared.script.ScriptForm.{ScriptForm}
use Rattle.irp_script.specs.Between.{hands_between}
use Rattle.irp_steps.specs.Behaviours.{cancel_rule_of}
use Rattle.irp_steps.specs.Forms.{form_of}
use Rattle.irp_script.specs.Made.{calls_in, calls_of}
use Rattle.irp_script.specs.Numbers.{EachAsOften, NoneMoreOften}
use Rattle.irp_script.specs.Outcomes.{Outcome, Ways, outcomes}
use Rattle.irp_script.specs.Told.{IsTold}
use Rattle.irp_script.specs.Words.{AreInOrder, told_by, word_steps}
use Rattle.irp_script.specs.Ran.{Ran}
use Rattle.irp_script.specs.declared.stop.Stop.{Stop}
use Rattle.irp_streams.specs.Streams.{Bytes, IsQuiet, Output, Streams}
use Rattle.irpx.specs.Ending.{IsReadingFault}
use Rattle.irpx.specs.Writing.{Prints, StopsShort}
use Rattle.irpx.specs.declared.not_done.NotDone.{NotDone}
use Rattle.irpx.specs.declared.not_done.NotDone.TheVariants.{
  HandsBetween,
  LabelsDiffer,
  NoMemory,
  ReceiptsDiffer,
  RefusedScript,
  Stopped,
}
use Rattle.irpx.specs.declared.not_done.Phase.TheVariants.{Running}

-- ---- the input

-- as many bytes as are taken of the input, one more than the text of a script may have
abbrev pub most_taken : ℕ
most_taken = 1048577

-- this text is what is taken of the input, and what is read, where the input is known: all that was left, or its first
-- bytes
pub record IsRead (old new : Bytes) (text : List ℕ) : Type 0 where
  pub first : IfSome old (λ left. text ≡ take most_taken left)
  pub took : Consumes old new text

-- what is read of the input is the text of this script
abbrev pub HoldsScript : Bytes → Bytes → Script → Type 0
HoldsScript old new script = (text : List ℕ) × IsRead old new text × ReadsScript (Ok script) text

-- why there is no script: the text isn't had; or what is read of the input is refused, so
abbrev pub NoScript : Bytes → Bytes → NotDone → Type 0
NoScript old new fault =
    IsReadingFault fault
    ⊎ ((refusal : ScriptRefusal) × (text : List ℕ) × (fault ≡ RefusedScript refusal)
    × IsRead old new text × ReadsScript (Err (script_fault.Refused refusal)) text)

-- ---- who is asked

-- the tables with these completion routines too
abbrev pub and_routines : List CompletionRoutine → Tables → Tables
and_routines routines tables = record tables { counts = with_all tables.counts routines }

-- the tables with these cancel routines too: each has the rule that its answer keeps
abbrev pub and_cancels : List CancelAnswer → Tables → Tables
and_cancels answers tables = record tables {
  counts = record tables.counts { cancel = tables.counts.cancel + length answers };
  cancel_rules = tables.cancel_rules ++ map cancel_rule_of answers;
}

-- the tables with these dispatches too, of which each may name all routines that there are
abbrev pub and_dispatches : List Plan → Tables → Tables
and_dispatches plans tables =
    record tables { dispatches = tables.dispatches ++ map (λ plan. tables.counts) plans }

-- the tables with these drivers too
abbrev pub and_drivers : List (List Entrance) → Tables → Tables
and_drivers drivers tables = record tables { drivers = tables.drivers ++ map by_major drivers }

-- the tables of a store with all the closures that a script tells of, and no more
abbrev pub tables_of : Script → Tables
tables_of script =
    and_drivers script.drivers
    (and_dispatches script.dispatches
    (and_cancels script.cancels (and_routines script.completions no_tables)))

-- ---- the output

-- what is fixed while the script is run with these tables
abbrev pub fixed_for : Script → Tables → Fixed
fixed_for script tables =
    record { locks = script.locks; tables = tables; limit = limit_of (form_of script.form) }

-- a transcript of a run of the script with these tables: its header tells the script's form, seats and locks, and the
-- tables, and the formats accept it; its history is legal, completes each use of a packet at most once, and has entries
-- of the script's seats alone; whoever was asked answered what the script tells of it; its word lines are in order
pub record IsRun (script : Script) (tables : Tables) (transcript : TranscriptValue) : Type 0 where
  pub header : Header
  pub told : transcript.header ≡ Some header
  pub form : header.form ≡ form_of script.form
  pub seats : header.seats ≡ script.seats
  pub fixed : fixed_of header ≡ fixed_for script tables
  pub fits : IsHeader header
  pub legal : IsLegal (fixed_of header) transcript.entries
  pub once : CompletesOnce (fixed_of header) transcript.entries
  pub seated : AreSeated script.seats transcript.entries
  pub answered : EachAnswered (IsTold script) transcript.entries
  pub words : AreInOrder transcript.words

-- a transcript of a session, with the form of the script that was run, and these word lines
abbrev pub run_transcript : ScriptForm → List WordLine → TranscriptValue → TranscriptValue
run_transcript form words transcript = record transcript {
  header = option_map
      (λ (header : Header). record header { form = form_of form }) transcript.header;
  words = words;
}

-- why there is no transcript of a script that was run: memory ran out, the seats kept other entries, or a step read a
-- label for another packet than it was bound to
abbrev pub IsRunningFault : NotDone → Type 0
IsRunningFault (NoMemory Running) = Unit {0}
IsRunningFault ReceiptsDiffer = Unit {0}
IsRunningFault (LabelsDiffer label) = Unit {0}
IsRunningFault other = ⊥

-- the calls of each seat's entries are those of its own among these, in order: each once and no other, but for the
-- packets and the tokens that they name
abbrev pub MakesCalls : ℕ → List Outcome → List Entry → Type 0
MakesCalls seats outs entries =
    (seat : ℕ) → seat < seats → calls_in (own_entries entries seat) ≡ calls_of seat outs

-- The steps came out in some ways: some finishes of taken packets found no token, and some steps with a condition were
-- passed over. The word lines tell of these finishes, and of the acts on locks and slots that were made: of no step more
-- often than it stands in the script. Where nothing stopped, they tell of each as often as it stands there, and the
-- entries are the calls of all other steps that were made, the setup's and then the others
pub record ShowsSteps (script : Script) (transcript : TranscriptValue) (stop : Option Stop) : Type 0 where
  pub ways_first : Ways
  pub ways : Ways
  pub told : NoneMoreOften
      (word_steps (outcomes ways script.steps)) (map told_by transcript.words)
  pub all_told : stop ≡ None
      → EachAsOften (word_steps (outcomes ways script.steps)) (map told_by transcript.words)
  pub all_made : stop ≡ None → MakesCalls script.seats
      (outcomes ways_first script.setup ++ outcomes ways script.steps) transcript.entries

-- a transcript of the run of a script with these tables, which shows the script's steps, and comes of what so many
-- workers ran
pub record IsRanBy (workers : ℕ) (script : Script) (tables : Tables) (transcript : TranscriptValue) (stop : Option Stop)
    : Type 0 where
  pub run : IsRun script tables transcript
  pub shows : ShowsSteps script transcript stop
  pub ran : Ran workers script (fixed_for script tables) transcript stop

-- what came of a script with these tables that so many workers were to run. To its end: the transcript of such a run
-- without a stop was written. Else there is no transcript, and nothing went out; or the transcript of one with this
-- stop was written; or a beginning of the transcript of one went out
abbrev pub AfterScript : {T : Type 0} → ℕ → Script → Tables → Output → Output → Result T NotDone → Type 0
AfterScript workers script tables before after (Ok done) =
    (transcript : TranscriptValue) × IsRanBy workers script tables transcript None
    × Prints transcript before after
AfterScript workers script tables before after (Err fault) =
    (IsRunningFault fault × IsQuiet before after)
    ⊎ ((stop : Stop) × (transcript : TranscriptValue) × (fault ≡ Stopped stop)
    × IsRanBy workers script tables transcript (Some stop) × Prints transcript before after)
    ⊎ ((stop : Option Stop) × (transcript : TranscriptValue) × IsRanBy workers script tables transcript stop
    × StopsShort transcript before after fault)

-- the first step that hands a reference between seats that fall to different of so many workers is this one, or there
-- is none; and the input holds the script
abbrev pub HandsFirst : ℕ → Option ℕ → Streams → Streams → Script → Type 0
HandsFirst workers place before after script =
    HoldsScript before.left after.left script
    × (position (hands_between workers) script.steps ≡ place)

-- the input holds a script that hands nothing between so many workers, and this came of it
abbrev pub RunsWhole : {T : Type 0} → ℕ → Streams → Streams → Result T NotDone → Type 0
RunsWhole workers before after result =
    (script : Script) × HandsFirst workers None before after script
    × AfterScript workers script (tables_of script) before.output after.output result

-- what `run` did with so many workers: there is no script, or one that hands a reference between workers, and nothing
-- went out; or the input holds one that hands nothing between them, which was run to its end or not
abbrev pub AfterRun : {T : Type 0} → ℕ → Streams → Streams → Result T NotDone → Type 0
AfterRun {T = T} workers before after (Ok done) = RunsWhole {T = T} workers before after (Ok done)
AfterRun {T = T} workers before after (Err fault) =
    (NoScript before.left after.left fault × IsQuiet before.output after.output)
    ⊎ ((step : ℕ) × (script : Script) × (fault ≡ HandsBetween step)
    × HandsFirst workers (Some step) before after script × IsQuiet before.output after.output)
    ⊎ RunsWhole {T = T} workers before after (Err fault)
