-- What the program does for a script and what is asked of its orders.
use Rattle.std.specs.Prelude.{ℕ, ◌≡◌, ◌⊎◌, ◌-◌, ◌<◌, ⊤, Bool, true, false, List, length, slice_get, take, Option, Some, IfSome, Ok, Err, All, Contains}
use Rattle.std.specs.Borrow.{Bor}
use Rattle.std.specs.Io.KnownBytes.{Appends, Consumes}
use Rattle.irp_condition.specs.declared.condition.Condition.{Condition}
use Rattle.irp_machine.specs.Endings.{end_of}
use Rattle.irp_machine.specs.Orders.{AreOutcomesOf}
use Rattle.irp_machine.specs.Replays.{IsReplay, told_end}
use Rattle.irp_machine.specs.declared.outcome.Outcome.{Outcome}
use Rattle.irp_types.specs.declared.entry.Entry.{Entry}
use Rattle.irp_transcript.specs.Transcripts.{TranscriptValue}
use Rattle.irp_transcript_writer.specs.Lines.{lines, text_of}
use Rattle.irp_grammar.specs.Reading.{IsSaidIn}
use Rattle.irp_script_reader.specs.Scripts.{ReadsScript}
use Rattle.irp_script_reader.specs.declared.refusal.ScriptFault.TheVariants.{Refused}
use Rattle.irp_script_reader.specs.declared.script.ScriptParts.{ScriptParts}
use Rattle.irp_orders.specs.Conditions.{Says, SaysNothing}
use Rattle.irp_orders.specs.Exploring.{IsUnexplored, MeetsBound, tells}
use Rattle.irp_orders.specs.Facts.{Meets}
use Rattle.irp_orders.specs.Right.{IsRight, IsSetup}
use Rattle.irp_orders.specs.Rows.{AreFoundsOf, AreRowsOf, IsSomeStuck}
use Rattle.irp_orders.specs.Table.{AreColumnsOf, IsTable}
use Rattle.irp_orders.specs.Told.{IsAnswerOf}
use Rattle.irp_orders.specs.declared.asked.Order.{Order}
use Rattle.irp_orders.specs.declared.asked.Task.{Task}
use Rattle.irp_orders.specs.declared.asked.Task.TheVariants.{Never, Right, Show, Table}
use Rattle.irp_orders.specs.declared.columns.Columns.{Columns}
use Rattle.irp_orders.specs.declared.found.Found.{Found}
use Rattle.irp_orders.specs.declared.judging.Question.TheVariants as question
use Rattle.irp_orders.specs.declared.ending.Ending.{Ending}
use Rattle.irp_orders.specs.declared.ending.Ending.TheVariants.{
  Done,
  Broken,
  NoMemory,
  Met,
  NoOrder,
  NoOutcome,
  RefusedCondition,
  RefusedScript,
  FaultyWords,
  Differs,
  Failed,
}

-- the program gives up: the input or the output failed, or memory ran out
abbrev pub IsGivenUp : Ending → Type 0
IsGivenUp Failed = ⊤
IsGivenUp NoMemory = ⊤
IsGivenUp other = ⊥

-- ---- judging

-- why a text isn't read as a condition: it says none, or memory ran out
abbrev pub IsUnread : ScriptParts → Bool → List ℕ → Ending → Type 0
IsUnread script tells text (RefusedCondition fault) = SaysNothing script tells text
IsUnread script tells text NoMemory = ⊤
IsUnread script tells text other = ⊥

-- why nothing is told of a condition and these outcomes: it isn't read, or the order of one of them can't be made again
abbrev pub IsUnjudged : ScriptParts → Bool → List ℕ → List Found → Ending → Type 0
IsUnjudged script tells text founds NoOrder = IsSomeStuck script founds
IsUnjudged script tells text founds other = IsUnread script tells text other

-- these are the outcomes of a script's orders, and a text says this condition of the script
pub record IsAsked (script : ScriptParts) (order : Order) (text : List ℕ) (outcomes : List Outcome) (condition : Condition)
    : Type 0 where
  pub outcomes_are : AreOutcomesOf script (tells order) outcomes
  pub says : Says script (tells order) text condition

-- no order of a script ends so that the condition holds that a text says
abbrev pub IsKept : ScriptParts → Order → List ℕ → Type 0
IsKept script order text =
    (outcomes : List Outcome) × (condition : Condition) × IsAsked script order text outcomes condition
    × All (λ outcome. Meets script.steps condition outcome.end → ⊥) outcomes

-- some order of a script ends so that the condition holds that a text says
abbrev pub IsBroken : ScriptParts → Order → List ℕ → Type 0
IsBroken script order text =
    (outcomes : List Outcome) × (condition : Condition) × (outcome : Outcome)
    × IsAsked script order text outcomes condition × Contains outcomes outcome
    × Meets script.steps condition outcome.end

-- how the program ends that was asked whether a condition never holds: Done, with status 0, only where no order's end
-- meets it; Broken, with 2, only where some does; Met, with 3, only where the orders meet this bound. It never ends with
-- NoOrder: each outcome's order can be made again
abbrev pub Judges : ScriptParts → Order → List ℕ → Ending → Type 0
Judges script order text Done = IsKept script order text
Judges script order text Broken = IsBroken script order text
Judges script order text (Met bound) = MeetsBound script order bound
Judges script order text Failed = ⊤
Judges script order text other = IsUnread script (tells order) text other

-- ---- what is right

-- these are the outcomes of a script's orders, with what the steps were answered, and these entries tell its setup
pub record AreToBeRight (script : ScriptParts) (setup : List Entry) (outcomes : List Outcome) : Type 0 where
  pub outcomes_are : AreOutcomesOf script true outcomes
  pub set_up : IsSetup script setup

-- every order of a script ends right
abbrev pub AreAllRight : ScriptParts → Type 0
AreAllRight script =
    (outcomes : List Outcome) × (setup : List Entry) × AreToBeRight script setup outcomes
    × All (λ outcome. IsRight script.steps setup outcome.end) outcomes

-- some order of a script doesn't end right
abbrev pub IsOneWrong : ScriptParts → Type 0
IsOneWrong script =
    (outcomes : List Outcome) × (setup : List Entry) × (outcome : Outcome) × AreToBeRight script setup outcomes
    × Contains outcomes outcome × (IsRight script.steps setup outcome.end → ⊥)

-- the same is asked, and answers of steps tell outcomes apart
abbrev pub with_replies : Order → Order
with_replies order = record order { by_ends = false }

-- why it isn't told whether orders end right: memory ran out
abbrev pub IsUnexamined : Ending → Type 0
IsUnexamined NoMemory = ⊤
IsUnexamined other = ⊥

-- the same of these outcomes, or the order of one of them can't be made again
abbrev pub IsUntold : ScriptParts → List Found → Ending → Type 0
IsUntold script founds NoOrder = IsSomeStuck script founds
IsUntold script founds other = IsUnexamined other

-- how the program ends that was asked whether every order ends right: Done, with status 0, only where each does; Broken,
-- with 2, only where one doesn't; Met, with 3, only where the orders meet this bound. It never ends with NoOrder
abbrev pub Examines : ScriptParts → Order → Ending → Type 0
Examines script order Done = AreAllRight script
Examines script order Broken = IsOneWrong script
Examines script order (Met bound) = MeetsBound script (with_replies order) bound
Examines script order Failed = ⊤
Examines script order other = IsUnexamined other

-- ---- rows

-- a transcript was put whole behind what had gone out, or it isn't written whole
abbrev pub Writes : TranscriptValue → Option (List ℕ) → Option (List ℕ) → Ending → Type 0
Writes transcript old new Done = Appends old new (text_of (lines transcript))
Writes transcript old new other = IsGivenUp other

-- this transcript shows the row of this number, counted from 1: it makes the order again that the row's outcome keeps,
-- with a legal history, and ends as that outcome
pub record IsShown (script : ScriptParts) (order : Order) (number : ℕ) (transcript : TranscriptValue) : Type 0 where
  pub rows : List Found
  pub rows_are : AreRowsOf script order rows
  pub some : 0 < number
  pub row : Found
  pub stands : slice_get rows (number - 1) ≡ Some row
  pub replay : IsReplay script row.outcome.path.items transcript
  pub ends : row.outcome.end ≡ told_end (tells order) (end_of replay.last)

-- there are so many rows, and none of this number
pub record IsBeyond (script : ScriptParts) (order : Order) (number count : ℕ) : Type 0 where
  pub rows : List Found
  pub rows_are : AreRowsOf script order rows
  pub counted : count ≡ length rows
  pub beyond : (number ≡ 0) ⊎ (count < number)

-- why no row of this number is shown: there is none, a bound is met, or memory ran out
abbrev pub IsUnshown : ScriptParts → Order → ℕ → Ending → Type 0
IsUnshown script order number (NoOutcome count) = IsBeyond script order number count
IsUnshown script order number other = IsUnexplored script order other

-- how the program ends that was asked to show a row: Done only where the transcript that shows it was put behind what
-- had gone out
abbrev pub Shows : ScriptParts → Order → ℕ → Option (List ℕ) → Option (List ℕ) → Ending → Type 0
Shows script order number old new Done =
    (transcript : TranscriptValue) × IsShown script order number transcript
    × Appends old new (text_of (lines transcript))
Shows script order number old new Failed = ⊤
Shows script order number old new other = IsUnshown script order number other

-- a text is the table of the rows of what is asked of a script's orders
abbrev pub IsTableOf : ScriptParts → Order → List ℕ → Type 0
IsTableOf script order text =
    (rows : List Found) × (columns : Columns) × AreRowsOf script order rows × AreColumnsOf script rows columns
    × IsTable columns rows text

-- how the program ends that was asked for the table: Done only where the table of the script's orders was put behind what
-- had gone out
abbrev pub Tables : ScriptParts → Order → Option (List ℕ) → Option (List ℕ) → Ending → Type 0
Tables script order old new Done = (text : List ℕ) × IsTableOf script order text × Appends old new text
Tables script order old new Failed = ⊤
Tables script order old new other = IsUnexplored script order other

-- ---- answering

-- the program ends as it was to, unless a text isn't written whole
abbrev pub IsSent : Ending → Ending → Type 0
IsSent wanted ending = (ending ≡ wanted) ⊎ IsGivenUp ending

-- the same, and the text was put behind what had gone out
abbrev pub Sends : List ℕ → Ending → Option (List ℕ) → Option (List ℕ) → Ending → Type 0
Sends text wanted old new ending = ((ending ≡ wanted) × Appends old new text) ⊎ IsGivenUp ending

-- a text tells of these outcomes whether a condition holds that another text says; the program ends so
abbrev pub TellsHolding : ScriptParts → Bool → List ℕ → List Found → List ℕ → Ending → Type 0
TellsHolding script tells text founds told ending =
    (condition : Bor Condition) × Says script tells text condition.now
    × IsAnswerOf script (question.Never condition) founds told ending

-- the same of the outcomes of a script's orders
abbrev pub TellsNever : ScriptParts → Order → List ℕ → List ℕ → Ending → Type 0
TellsNever script order text told ending =
    (founds : List Found) × AreFoundsOf script (tells order) founds
    × TellsHolding script (tells order) text founds told ending

-- a text tells of these outcomes whether they are right; the program ends so
abbrev pub TellsExamined : ScriptParts → List Found → List ℕ → Ending → Type 0
TellsExamined script founds told ending =
    (setup : Bor (List Entry)) × IsSetup script setup.now
    × IsAnswerOf script (question.Right setup) founds told ending

-- the same of the outcomes of a script's orders
abbrev pub TellsRight : ScriptParts → List ℕ → Ending → Type 0
TellsRight script told ending =
    (founds : List Found) × AreFoundsOf script true founds × TellsExamined script founds told ending

-- nothing was judged
abbrev pub IsUnsaid : Ending → Type 0
IsUnsaid Done = ⊥
IsUnsaid Broken = ⊥
IsUnsaid other = ⊤

-- where the program ends by what was judged, such a text was put behind what had gone out
abbrev pub Utters : (List ℕ → Ending → Type 0) → Option (List ℕ) → Option (List ℕ) → Ending → Type 0
Utters Tells old new Done = (text : List ℕ) × Tells text Done × Appends old new text
Utters Tells old new Broken = (text : List ℕ) × Tells text Broken × Appends old new text
Utters Tells old new other = ⊤

-- what is answered by what is asked; then this has gone out, where that is known
abbrev pub Answers : ScriptParts → Order → Task → Option (List ℕ) → Option (List ℕ) → Ending → Type 0
Answers script order (Never text) old new ending =
    Judges script order text.now ending × Utters (TellsNever script order text.now) old new ending
Answers script order (Show number) old new ending = Shows script order number old new ending
Answers script order Right old new ending =
    Examines script order ending × Utters (TellsRight script) old new ending
Answers script order Table old new ending = Tables script order old new ending

-- ---- the whole

-- as many bytes as are taken of the input at most, since one too many shows that a script is too long
abbrev pub most_taken : ℕ
most_taken = 1048577

-- this text was taken of the input: its first bytes, where these are known
pub record IsInput (old new : Option (List ℕ)) (text : List ℕ) : Type 0 where
  pub front : IfSome old (λ left. text ≡ take most_taken left)
  pub took : Consumes old new text

-- a text isn't a script's, and this is its first fault
abbrev pub IsRefused : List ℕ → Ending → Type 0
IsRefused text (RefusedScript refusal) = ReadsScript (Err (Refused refusal)) text
IsRefused text other = ⊥

-- a text is a script's, and this is answered of it
abbrev pub IsAnswered : Order → List ℕ → Option (List ℕ) → Option (List ℕ) → Ending → Type 0
IsAnswered order text old new ending =
    (script : ScriptParts) × ReadsScript (Ok script) text × Answers script order order.task old new ending

-- what the program does with its input and its output: it gives up; or it refuses the text, or answers what is asked of
-- its script
abbrev pub Explores :
    Order → Option (List ℕ) → Option (List ℕ) → Option (List ℕ) → Option (List ℕ) → Ending → Type 0
Explores order left rest old new ending =
    IsGivenUp ending
    ⊎ ((text : List ℕ) × IsInput left rest text × (IsRefused text ending ⊎ IsAnswered order text old new ending))

-- words say no script: each fault is told, or memory ran out
abbrev pub IsFaulty : Ending → Type 0
IsFaulty (FaultyWords lines) = ⊤
IsFaulty Differs = ⊤
IsFaulty NoMemory = ⊤
IsFaulty other = ⊥

-- the lines of a text say a script, which is read from its JSON, and this is answered of it
abbrev pub IsToldOfWords : Order → List ℕ → Option (List ℕ) → Option (List ℕ) → Ending → Type 0
IsToldOfWords order text old new ending =
    (script : ScriptParts) × (json : List ℕ) × IsSaidIn text script × ReadsScript (Ok script) json
    × Answers script order order.task old new ending

-- what the program does with words in its input: it gives up, or tells their faults; or it answers what is asked of the
-- script that they say
abbrev pub ExploresWords :
    Order → Option (List ℕ) → Option (List ℕ) → Option (List ℕ) → Option (List ℕ) → Ending → Type 0
ExploresWords order left rest old new ending =
    IsGivenUp ending
    ⊎ ((text : List ℕ) × IsInput left rest text × (IsFaulty ending ⊎ IsToldOfWords order text old new ending))
