-- Orders made again, and recorded.
use Rattle.std.specs.Prelude.{ℕ, zero, suc, ◌≡◌, Bool, false, true, List, [], ◌∷◌, ◌++◌, filter_map, length, Option, Some, None, slice_get, slice_index_or}
use Rattle.std.specs.Option.{option_map, option_and_then}
use Rattle.irp_types.specs.declared.call.Call.TheVariants.{FinishTaken}
use Rattle.irp_types.specs.declared.entry.Entry.{Entry}
use Rattle.irp_types.specs.declared.seat_act.SlotAct.TheVariants as slots
use Rattle.irp_types.specs.Histories.{LeadsTo, lock_of}
use Rattle.irp_transcript.specs.Headers.{IsHeader, fixed_of}
use Rattle.irp_transcript.specs.Transcripts.{TranscriptValue}
use Rattle.irp_transcript.specs.declared.header.Header.{Header}
use Rattle.irp_transcript.specs.declared.word_line.Act.{Act}
use Rattle.irp_transcript.specs.declared.word_line.Act.TheVariants as word
use Rattle.irp_transcript.specs.declared.word_line.WordLine.{WordLine}
use Rattle.irp_script_reader.specs.declared.act.Step.{Step}
use Rattle.irp_script_reader.specs.declared.act.StepAct.{StepAct}
use Rattle.irp_script_reader.specs.declared.act.StepAct.TheVariants as does
use Rattle.irp_script_reader.specs.declared.script.ScriptParts.{ScriptParts}
use Rattle.irp_machine.specs.declared.outcome.End.{End}
use Rattle.irp_machine.specs.declared.outcome.Outcome.{Outcome}
use Rattle.irp_machine.specs.declared.parts.Calling.{Calling}
use Rattle.irp_plain.specs.declared.parts.After.{After}
use Rattle.irp_plain.specs.declared.parts.Change.{Change}
use Rattle.irp_machine.specs.declared.parts.Next.{Next}
use Rattle.irp_machine.specs.declared.parts.Next.TheVariants.{Changes, Calls}
use Rattle.irp_machine.specs.declared.parts.Planned.{Planned}
use Rattle.irp_plain.specs.declared.answered.Answered.{Answered}
use Rattle.irp_plain.specs.declared.answered.Answered.TheVariants.{Reply as Replied, Word}
use Rattle.irp_plain.specs.declared.answered.Told.{Told}
use Rattle.irp_machine.specs.Endings.{end_of, without_replies}
use Rattle.irp_machine.specs.Headers.{IsHeaderOf}
use Rattle.irp_machine.specs.Machine.{RulesValue, Acts, IsCallOf, IsNext, Makes, act_of, seat_at}
use Rattle.irp_machine.specs.Next.{next_of}
use Rattle.irp_machine.specs.Openings.{IsStuck, Opens, begun, first_standing, rules_of, seats_of}
use Rattle.irp_machine.specs.Orders.{AreOutcomesOf, IsOrder}
use Rattle.irp_plain.specs.Seats.{SeatValue, new_seat}
use Rattle.irp_machine.specs.Standings.{StandingValue}

-- ---- entries

-- an entry tells a call of a seat, which was made and answered so
pub record TellsCall (rules : RulesValue) (standing : StandingValue) (seat : ℕ) (planned : Planned) (calling : Calling)
    (change : Change) (made : IsCallOf rules standing seat planned calling change) (entry : Entry) : Type 0 where
  pub caller : entry.seat ≡ seat
  pub call : entry.call ≡ calling.call
  pub asked : entry.asked ≡ made.call.asked
  pub reply : entry.reply ≡ made.reply
  pub lock : entry.lock ≡ lock_of standing.manager.state calling.call
  pub drained : entry.drained ≡ made.drained

-- what is recorded of a step: of a call its entry, behind the others and with its place there as its number; of any
-- other step nothing
abbrev pub Records :
    (rules : RulesValue) (standing : StandingValue) (seat : ℕ) (planned : Planned) (next : Next) (change : Change)
    → IsNext rules standing seat planned next change → List Entry → List Entry → Type 0
Records rules standing seat planned (Changes one) change is old new = new ≡ old
Records rules standing seat planned (Calls calling) change made old new =
    (entry : Entry) × (entry.number ≡ length old) × TellsCall rules standing seat planned calling change made entry
    × (new ≡ old ++ entry ∷ [])

-- the next step of a seat was made, in this act, and recorded; and this is where the seat is behind it
abbrev pub PlaysSo :
    RulesValue → StandingValue → List Entry → ℕ → Planned → StandingValue → List Entry → After → Type 0
PlaysSo rules standing old seat planned after new behind =
    (made : Makes rules standing seat planned (next_of standing (seat_at standing seat) planned) after)
    × Records rules standing seat planned (next_of standing (seat_at standing seat) planned) made.0 made.1 old new
    × (behind ≡ made.0.after)

-- the next step of a seat was made, in this act, and recorded
abbrev pub PlaysIn : RulesValue → StandingValue → List Entry → ℕ → Option Planned → StandingValue → List Entry → Type 0
PlaysIn rules standing old seat None after new = ⊥
PlaysIn rules standing old seat (Some planned) after new =
    (made : Makes rules standing seat planned (next_of standing (seat_at standing seat) planned) after)
    × Records rules standing seat planned (next_of standing (seat_at standing seat) planned) made.0 made.1 old new

-- the next steps of these seats were made, one after another, and recorded
abbrev pub Plays : RulesValue → StandingValue → List Entry → List ℕ → StandingValue → List Entry → Type 0
Plays rules standing old [] last new = (standing ≡ last) × (old ≡ new)
Plays rules standing old (seat ∷ path) last new =
    (middle : StandingValue) × (entries : List Entry)
    × PlaysIn rules standing old seat (act_of rules standing seat) middle entries
    × Plays rules middle entries path last new

-- the setup of a script was made, then the next steps of these seats, and recorded. The entries are a legal history
-- that leads to the manager's state
pub record IsPlayed (header : Header) (script : ScriptParts) (tells : Bool) (path : List ℕ) (last : StandingValue)
    (entries : List Entry) : Type 0 where
  pub ended : StandingValue
  pub front : List Entry
  pub setup :
      Plays (rules_of header script [] script.setup false)
      (first_standing header script) [] (seats_of script.setup) ended front
  pub steps :
      Plays (rules_of header script script.steps script.steps tells)
      (begun header ended.manager ended.labels) front path last entries
  pub history : LeadsTo (fixed_of header) entries last.manager.state

-- ---- word lines

-- the act that a word line tells, of a step
abbrev pub word_act : StepAct → Option Act
word_act (does.OnLock act) = Some (word.OnLock act)
word_act (does.Hand hand) = Some (word.Hand hand)
word_act (does.Publish slot irp) = Some (word.OnSlot (slots.Publish slot))
word_act (does.Withdraw slot) = Some (word.OnSlot (slots.Withdraw slot))
word_act (does.Request slot) = Some (word.OnSlot (slots.Request slot))
word_act (does.Call (FinishTaken irp slot status information)) = Some (word.FinishTaken slot)
word_act other = None

-- the word line of what a seat was told, where a lock or a slot told it
abbrev pub line_by : ℕ → ℕ → Answered → Option Act → Option WordLine
line_by seat step (Replied reply) act = None
line_by seat step (Word reply) act =
    option_map (λ (act : Act). record { seat = seat; step = step; act = act; reply = reply }) act

abbrev pub line_of : List Step → ℕ → Told → Option WordLine
line_of steps seat told =
    line_by seat told.step told.answer
    (option_and_then (λ (step : Step). word_act step.act) (slice_get steps told.step))

-- the word lines of what the seats below this one were told
abbrev pub words_below : List Step → List SeatValue → ℕ → List WordLine
words_below steps seats zero = []
words_below steps seats (suc seat) =
    words_below steps seats seat
    ++ filter_map (line_of steps seat) (slice_index_or seats seat new_seat).told

-- ---- replays

-- a transcript tells these seats' steps, made one after another by a header of the script: the entries are those of its
-- setup and then of the steps, and the word lines are what the seats were told at last
pub record IsReplay (script : ScriptParts) (path : List ℕ) (transcript : TranscriptValue) : Type 0 where
  pub header : Header
  pub headed : IsHeaderOf script header
  pub accepted : IsHeader header
  pub told : transcript.header ≡ Some header
  pub last : StandingValue
  pub played : IsPlayed header script true path last transcript.entries
  pub words : transcript.words ≡ words_below script.steps last.seats header.seats

-- by a header of the script, and from where it stands behind its setup, a seat of the path isn't there at its turn, or
-- has no step left
pub record StopsShort (script : ScriptParts) (path : List ℕ) : Type 0 where
  pub header : Header
  pub headed : IsHeaderOf script header
  pub start : StandingValue
  pub opens : Opens header script start
  pub stuck : IsStuck (rules_of header script script.steps script.steps true) start path

-- ---- laws

-- each order has a legal history, and ends as that history does
abbrev pub OrdersHaveHistories : Type 0
OrdersHaveHistories =
    (header : Header) (script : ScriptParts) (tells : Bool) (start : StandingValue) (path : List ℕ) (end : End)
    → Opens header script start → IsOrder (rules_of header script script.steps script.steps tells) start path end
    → (last : StandingValue) × (entries : List Entry) × IsPlayed header script tells path last entries
    × (end ≡ end_of last)

-- what is told of an end: without the replies, where none is kept
abbrev pub told_end : Bool → End → End
told_end true end = end
told_end false end = without_replies end

-- a replay of an outcome's path ends as the outcome, the replies aside where only ends are compared
abbrev pub ReplaysEndSo : Type 0
ReplaysEndSo =
    (script : ScriptParts) (tells : Bool) (outcomes : List Outcome) (k : ℕ) (outcome : Outcome)
    (transcript : TranscriptValue)
    → AreOutcomesOf script tells outcomes → slice_get outcomes k ≡ Some outcome
    → (replay : IsReplay script outcome.path.items transcript) → outcome.end ≡ told_end tells (end_of replay.last)

-- the path of an outcome can be made again: each of its seats has a step left at its turn
abbrev pub PathsCanBeMade : Type 0
PathsCanBeMade =
    (script : ScriptParts) (tells : Bool) (outcomes : List Outcome) (k : ℕ) (outcome : Outcome)
    → AreOutcomesOf script tells outcomes → slice_get outcomes k ≡ Some outcome
    → StopsShort script outcome.path.items → ⊥

-- ---- as a replay is made

-- this change comes next, the manager's state changes beside it, and what is to be recorded is
abbrev pub IsActed :
    RulesValue → StandingValue → ℕ → Planned → Next → List Entry → StandingValue → List Entry → Change → Type 0
IsActed rules standing seat planned next old new entries change =
    (acts : Acts rules standing seat planned next new change)
    × Records rules standing seat planned next change acts.0 old entries

-- the setup was made and recorded; the script then stands at this start
pub record IsSetUp (header : Header) (script : ScriptParts) (old new : List Entry)
    (start : StandingValue) : Type 0 where
  pub ended : StandingValue
  pub setup :
      Plays (rules_of header script [] script.setup false)
      (first_standing header script) old (seats_of script.setup) ended new
  pub begun : start ≡ begun header ended.manager ended.labels
