-- The script that lines say, and what is told of it.
use Rattle.std.specs.Prelude.{◌≡◌, ◌==◌, ℕ, Bool, true, false, List, [], ◌∷◌, ◌++◌, map, take, Option, Some, None, is_some, Ok, Err}
use Rattle.std.specs.Prelude.{if◌then◌else◌, string_bytes}
use Rattle.std.specs.List.{list_any}
use Rattle.std.specs.Option.{unwrap_or}
use Rattle.irp_types.specs.declared.answer.Plan.{Plan}
use Rattle.irp_types.specs.declared.answer.Plan.TheVariants as plan
use Rattle.irp_types.specs.declared.call.Call.{Call}
use Rattle.irp_types.specs.declared.call.Call.TheVariants as call
use Rattle.irp_types.specs.declared.call.Party.{Party}
use Rattle.irp_types.specs.declared.call.Party.TheVariants as party
use Rattle.irp_types.specs.declared.names.CancelId.{CancelId}
use Rattle.irp_types.specs.declared.routine.Setting.{Setting}
use Rattle.irp_types.specs.declared.seat_act.LockAct.{LockAct}
use Rattle.irp_types.specs.declared.seat_act.LockAct.TheVariants as lock_act
use Rattle.irp_script_reader.specs.Scripts.{ReadsScript}
use Rattle.irp_script_reader.specs.declared.{act.Named.Named, act.Step.Step, act.StepAct.StepAct}
use Rattle.irp_script_reader.specs.declared.act.Named.TheVariants as named
use Rattle.irp_script_reader.specs.declared.act.StepAct.TheVariants as does
use Rattle.irp_script_reader.specs.declared.refusal.ScriptFault.{ScriptFault}
use Rattle.irp_script_reader.specs.declared.refusal.ScriptFault.TheVariants as script_fault
use Rattle.irp_script_reader.specs.declared.script.{ScriptForm.ScriptForm, ScriptParts.ScriptParts}
use Rattle.irp_script_reader.specs.declared.script.ScriptForm.TheVariants as forms
use Rattle.irp_names.specs.declared.plan_kinds.PlanKind.TheVariants as kind
use Rattle.irp_forms.specs.declared.step_names.ActKind.{ActKind}
use Rattle.irp_forms.specs.declared.step_names.ActKind.TheVariants as act_kind
use Rattle.irp_grammar.specs.Naming.{label_texts}
use Rattle.irp_grammar.specs.declared.step_line.{PlanLine.PlanLine, StepLine.StepLine, Value.Value}
use Rattle.irp_grammar.specs.declared.step_line.Value.TheVariants as value
use Rattle.irp_grammar.specs.declared.{cursor.WordsFault.WordsFault, law.Told.Told, law.Untold.Untold, said.Said.Said}
use Rattle.irp_grammar.specs.declared.law.Untold.TheVariants as untold

-- a step hangs on anything
abbrev pub have_conditions : List StepLine → Bool
have_conditions lines = list_any (λ (line : StepLine). is_some line.condition) lines

-- the form's number: as the lines say; else 4 where a step hangs on anything, 2 where they have slots, and 1 where they
-- have neither
abbrev pub form_number : Option ℕ → Option ℕ → Bool → ℕ
form_number (Some form) slots hangs = form
form_number None slots true = 4
form_number None (Some slots) false = 2
form_number None None false = 1

-- the form of this number, with so many slots where it has these
abbrev pub form_numbered : ℕ → ℕ → ScriptForm
form_numbered number slots =
    if number == 4 then forms.Four slots else (if number == 2 then forms.Two slots else forms.One)

-- the form, with its slots where it has these: none where the lines say nothing of them
abbrev pub form_of : Option ℕ → Option ℕ → Bool → ScriptForm
form_of form slots hangs = form_numbered (form_number form slots hangs) (unwrap_or slots 0)

-- a party; a cancel routine or null, and a setting or null
abbrev pub party_value : Party → Value
party_value party.Originator = value.Originator
party_value (party.Device device) = value.Number device.0

abbrev pub cancel_value : Option CancelId → Value
cancel_value (Some id) = value.Number id.0
cancel_value None = value.Null

abbrev pub set_value : Option Setting → Value
set_value (Some setting) = value.Set setting
set_value None = value.Null

-- no values; these and then none, six in all
abbrev pub none : List Value
none = value.Absent ∷ value.Absent ∷ value.Absent ∷ value.Absent ∷ value.Absent ∷ value.Absent ∷ []

abbrev pub six : List Value → List Value
six its = take 6 (its ++ none)

-- what a call is said as: its word, and the values of its keys, in their order. No script has a call that allocates: what
-- it allocates has a label.
abbrev pub call_said : Call Named ℕ → ActKind × List Value
call_said (call.CreateDevice driver lock) =
    (act_kind.CreateDevice, six (value.Number driver.0 ∷ value.Number lock.0 ∷ []))
call_said (call.Attach device to) = (act_kind.Attach, six (value.Number device.0 ∷ value.Number to.0 ∷ []))
call_said (call.Detach lower) = (act_kind.Detach, six (value.Number lower.0 ∷ []))
call_said (call.Delete device) = (act_kind.Delete, six (value.Number device.0 ∷ []))
call_said (call.Free irp) = (act_kind.Free, six (value.Packet irp ∷ []))
call_said (call.Cancel irp) = (act_kind.Cancel, six (value.Packet irp ∷ []))
call_said (call.Look irp) = (act_kind.Look, six (value.Packet irp ∷ []))
call_said (call.Reuse irp status) = (act_kind.Reuse, six (value.Packet irp ∷ value.Number status.0 ∷ []))
call_said (call.FinishTaken irp slot status information) = (
  act_kind.FinishTaken,
  six (value.Packet irp ∷ value.Number slot
      ∷ value.Number status.0 ∷ value.Number information ∷ []),
)
call_said (call.Allocate size) = (act_kind.Allocate, six (value.Number size ∷ []))
call_said (call.SetNext by irp major its) =
    (act_kind.SetNext, six (party_value by ∷ value.Packet irp ∷ value.Number major ∷ value.Number its ∷ []))
call_said (call.CopyToNext by irp) = (act_kind.CopyToNext, six (party_value by ∷ value.Packet irp ∷ []))
call_said (call.Skip by irp) = (act_kind.Skip, six (party_value by ∷ value.Packet irp ∷ []))
call_said (call.MarkPending by irp) = (act_kind.MarkPending, six (party_value by ∷ value.Packet irp ∷ []))
call_said (call.SetRoutine by irp setting) =
    (act_kind.SetRoutine, six (party_value by ∷ value.Packet irp ∷ value.Set setting ∷ []))
call_said (call.CallDriver by irp target) =
    (act_kind.CallDriver, six (party_value by ∷ value.Packet irp ∷ value.Number target.0 ∷ []))
call_said (call.Complete by irp status information) = (
  act_kind.Complete,
  six (party_value by ∷ value.Packet irp
      ∷ value.Number status.0 ∷ value.Number information ∷ []),
)
call_said (call.SetCancelRoutine by irp cancel) =
    (act_kind.SetCancelRoutine, six (party_value by ∷ value.Packet irp ∷ cancel_value cancel ∷ []))

-- what an act on a remove lock is said as
abbrev pub lock_act_said : LockAct → ActKind × List Value
lock_act_said (lock_act.Acquire lock tag) = (act_kind.Acquire, six (value.Number lock.0 ∷ value.Number tag ∷ []))
lock_act_said (lock_act.Release lock tag) = (act_kind.Release, six (value.Number lock.0 ∷ value.Number tag ∷ []))
lock_act_said (lock_act.BeginRemove lock tag) =
    (act_kind.BeginRemove, six (value.Number lock.0 ∷ value.Number tag ∷ []))
lock_act_said (lock_act.Drained lock) = (act_kind.Drained, six (value.Number lock.0 ∷ []))

-- what a step is said as
abbrev pub act_said : StepAct → ActKind × List Value
act_said (does.Call made) = call_said made
act_said (does.Allocate size label) =
    (act_kind.Allocate, six (value.Number size ∷ value.Packet (named.Label label) ∷ []))
act_said (does.OnLock on) = lock_act_said on
act_said (does.Hand hand) =
    (act_kind.Hand, six (value.Number hand.lock.0 ∷ value.Number hand.tag ∷ value.Number hand.to ∷ []))
act_said (does.Publish slot irp) = (act_kind.Publish, six (value.Number slot ∷ value.Packet irp ∷ []))
act_said (does.Withdraw slot) = (act_kind.Withdraw, six (value.Number slot ∷ []))
act_said (does.Request slot) = (act_kind.Request, six (value.Number slot ∷ []))

-- the line of a step
abbrev pub line_of : Step → StepLine
line_of step =
    record {
      seat = step.seat;
      act = (act_said step.act).0;
      values = (act_said step.act).1;
      condition = step.condition;
    }

-- what a plan is said as, and its line
abbrev pub plan_line : Plan → PlanLine
plan_line (plan.Finish status information) =
    record { kind = kind.Finish; values = six (value.Number status.0 ∷ value.Number information ∷ []) }
plan_line (plan.Hold cancel) = record { kind = kind.Hold; values = six (cancel_value cancel ∷ []) }
plan_line plan.HoldSlot = record { kind = kind.HoldSlot; values = none }
plan_line plan.Skip = record { kind = kind.Skip; values = none }
plan_line (plan.Forward set) = record { kind = kind.Forward; values = six (set_value set ∷ []) }
plan_line (plan.ForwardPend set) = record { kind = kind.ForwardPend; values = six (set_value set ∷ []) }

-- the texts of the labels that lines name, in the order in which they first name them
abbrev pub labels_of : Said → List (List ℕ)
labels_of said = label_texts said.names

-- the script is what the lines say, member by member in order; one seat and one lock where they say nothing of them
pub record Says (said : Said) (script : ScriptParts) : Type 0 where
  pub form : script.form ≡ form_of said.form said.slots (have_conditions said.steps.items)
  pub seats : script.seats ≡ unwrap_or said.seats 1
  pub locks : script.locks ≡ unwrap_or said.locks 1
  pub completions : script.completions ≡ said.completions.items
  pub cancels : script.cancels ≡ said.cancels.items
  pub dispatches : said.dispatches.items ≡ map plan_line script.dispatches
  pub drivers : script.drivers ≡ said.drivers.items
  pub setup : said.setup.items ≡ map line_of script.setup
  pub steps : said.steps.items ≡ map line_of script.steps
  pub labels : script.labels ≡ labels_of said

-- the JSON is read as this script, which is what the lines say; and they have no fault
pub record TellsScript (said : Said) (told : Told) : Type 0 where
  pub faultless : said.faults.items ≡ []
  pub read : ReadsScript (Ok told.script) (string_bytes told.text)
  pub says : Says said told.script

-- these faults are given, unless memory runs out
abbrev pub GivesFaults : List WordsFault → Untold → Type 0
GivesFaults faults (untold.Faults given) = given.items ≡ faults
GivesFaults faults untold.NoMemory = Unit {0}
GivesFaults faults untold.Differs = ⊥

-- the script of this text is refused so; or memory runs out, in reading it or in writing its words
abbrev pub IsUnread : ScriptFault → List ℕ → Type 0
IsUnread (script_fault.Refused refusal) text = ReadsScript (Err (script_fault.Refused refusal)) text
IsUnread script_fault.NoMemory text = Unit {0}
