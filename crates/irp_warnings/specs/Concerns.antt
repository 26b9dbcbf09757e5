-- What of a step that was made is hardly meant.
use Rattle.std.specs.Prelude.{ℕ, ◌-◌, ◌==◌, ◌&&◌, Bool, false, not, if◌then◌else◌, nat_le, nat_lt, List, [], length, slice_get, Option, Some, None}
use Rattle.std.specs.List.{find, list_any}
use Rattle.std.specs.Bool.{then_some}
use Rattle.std.specs.Option.{option_and_then, option_map, option_map_or, option_or}
use Rattle.irp_types.specs.declared.{asked.Asked.Asked, entry.Entry.Entry, names.CancelId.CancelId, names.DeviceId.DeviceId}
use Rattle.irp_types.specs.declared.{names.IrpRef.IrpRef, names.LockNo.LockNo}
use Rattle.irp_types.specs.declared.{reply.Reply.Reply, routine.Known.Known, routine.Setting.Setting}
use Rattle.irp_types.specs.declared.asked.Asked.TheVariants.{Dispatch}
use Rattle.irp_types.specs.declared.call.Party.TheVariants.{Originator}
use Rattle.irp_types.specs.declared.call.Call.TheVariants as call
use Rattle.irp_types.specs.declared.refusal.Refusal.TheVariants.{StillAttached}
use Rattle.irp_types.specs.declared.reply.Reply.TheVariants.{Refused, Status}
use Rattle.irp_types.specs.declared.seat_act.LockAct.TheVariants.{Release, BeginRemove}
use Rattle.irp_types.specs.declared.call.Call.{Call as CallOf}
use Rattle.irp_types.specs.Descent.{is_passing}
use Rattle.irp_types.specs.Packet.{size_of}
use Rattle.irp_types.specs.Rules.{count_of_rule}
use Rattle.irp_types.specs.Stacks.{DevicesValue, stack_size_of}
use Rattle.irp_types.specs.State.{LivePacket, live_at}
use Rattle.irp_transcript.specs.declared.word_line.WordReply.{WordReply}
use Rattle.irp_transcript.specs.declared.word_line.WordReply.TheVariants as words
use Rattle.irp_script_reader.specs.Sound.{known_of}
use Rattle.irp_script_reader.specs.declared.{act.Named.Named, act.Step.Step, act.StepAct.StepAct, condition.Condition.Condition}
use Rattle.irp_script_reader.specs.declared.act.Named.TheVariants.{Label}
use Rattle.irp_script_reader.specs.declared.act.StepAct.TheVariants.{Call, Hand, OnLock}
use Rattle.irp_script_reader.specs.declared.refusal.Section.{Section}
use Rattle.irp_script_reader.specs.declared.script.ScriptParts.{ScriptParts}
use Rattle.irp_steps.specs.Labels.{label_at, packet_of}
use Rattle.irp_steps.specs.StepKinds.{named_by}
use Rattle.irp_plain.specs.declared.answered.Answered.{Answered}
use Rattle.irp_plain.specs.declared.answered.Answered.TheVariants.{Reply as Replied, Word}
use Rattle.irp_machine.specs.Runs.{RunValue}
use Rattle.irp_machine.specs.Standings.{StandingValue}
use Rattle.irp_warnings.specs.Answers.{may_be_answered}
use Rattle.irp_warnings.specs.declared.warning.Concern.{Concern}
use Rattle.irp_warnings.specs.declared.warning.Concern.TheVariants.{Unbound, NoCompletionRoutine, NoCancelRoutine, TooShort, NoLower, Attached, NotHeld, NeverAnswered}

-- what isn't meant in a step, by its list and its place there
pub record Hint : Type 0 where
  pub section : Section
  pub index : ℕ
  pub concern : Concern

-- ---- what the text shows

-- the step that a condition names may not be answered so
abbrev pub never_by : Condition → Step → Option Concern
never_by condition named =
    then_some (not (may_be_answered named.act condition.answer)) (NeverAnswered condition.step)

abbrev pub never_answered : ScriptParts → Option Condition → Option Concern
never_answered script None = None
never_answered script (Some condition) =
    option_and_then (never_by condition) (slice_get script.steps condition.step)

-- a completion routine of a rule isn't there
abbrev pub no_routine : Known → Setting → Option Concern
no_routine known setting =
    then_some (nat_le (count_of_rule known setting.routine.rule) setting.routine.no)
    (NoCompletionRoutine setting.routine.rule setting.routine.no (count_of_rule known setting.routine.rule))

-- a cancel routine isn't there
abbrev pub no_cancel : Known → CancelId → Option Concern
no_cancel known cancel = then_some (nat_le known.cancel cancel.0) (NoCancelRoutine cancel.0 known.cancel)

-- ---- labels

-- this tells that the label isn't bound
abbrev pub tells_of : ℕ → Concern → Bool
tells_of label (Unbound one) = one == label
tells_of label other = false

abbrev pub is_told : List Hint → ℕ → Bool
is_told told label = list_any (λ (hint : Hint). tells_of label hint.concern) told

-- the label that is named, where it stands for no packet's use (they are numbered from 1), and nothing tells of it yet
abbrev pub unbound_by : StandingValue → List Hint → Option Named → Option ℕ
unbound_by standing told (Some (Label label)) =
    then_some ((label_at standing.labels label).use_no == 0 && not (is_told told label)) label
unbound_by standing told other = None

abbrev pub unbound_in : StandingValue → List Hint → StepAct → Option ℕ
unbound_in standing told act = unbound_by standing told (named_by act)

-- ---- answers

-- the lock to which a seat gives back a reference
abbrev pub given_back : StepAct → Option LockNo
given_back (OnLock (Release lock tag)) = Some lock
given_back (OnLock (BeginRemove lock tag)) = Some lock
given_back (Hand hand) = Some hand.lock
given_back other = None

abbrev pub not_held : StepAct → ℕ → WordReply → Option Concern
not_held act seat words.NotHeld = option_map (NotHeld seat) (given_back act)
not_held act seat words.NoLock = option_map (NotHeld seat) (given_back act)
not_held act seat other = None

-- the packet is live, and has fewer locations than the stack has devices up to the target
abbrev pub too_short_by : DevicesValue → IrpRef → DeviceId → LivePacket → Option Concern
too_short_by devices irp target live =
    if live.use_no == irp.use_no && nat_lt target.0 (length devices.facts)
    && nat_lt (size_of live.packet) (stack_size_of devices target.0) then
    Some (TooShort (size_of live.packet) (stack_size_of devices target.0)) else None

abbrev pub too_short : StandingValue → StepAct → DeviceId → Option Concern
too_short standing act target =
    option_and_then (too_short_by standing.manager.state.devices (packet_of standing.labels act) target)
    (live_at standing.manager.state (packet_of standing.labels act).slot)

-- a dispatch passes the packet down, as it was asked, and no device is below
abbrev pub lacks_lower : ScriptParts → Asked → Bool
lacks_lower script (Dispatch id shown plan) =
    not shown.has_lower && option_map_or is_passing (slice_get script.dispatches id.0) false
lacks_lower script other = false

abbrev pub lower_lacked : Asked → Option Concern
lower_lacked (Dispatch id shown plan) = option_map (λ device. NoLower device id shown.major) shown.device
lower_lacked other = None

-- what was asked in the last call
abbrev pub asked_last : List Entry → List Asked
asked_last entries = option_map_or (λ (entry : Entry). entry.asked) (slice_get entries (length entries - 1)) []

abbrev pub no_lower : ScriptParts → List Entry → Option Concern
no_lower script entries = option_and_then lower_lacked (find (lacks_lower script) (asked_last entries))

-- a call was made in this run, and answered so
abbrev pub of_call : ScriptParts → RunValue → CallOf Named ℕ → Reply → Option Concern
of_call script run (call.SetRoutine party irp setting) reply = no_routine (known_of script) setting
of_call script run (call.SetCancelRoutine party irp (Some cancel)) reply = no_cancel (known_of script) cancel
of_call script run (call.Delete device) (Refused StillAttached) = Some Attached
of_call script run (call.CallDriver Originator irp target) (Refused refusal) =
    too_short run.standing (Call (call.CallDriver Originator irp target)) target
of_call script run (call.CallDriver party irp target) (Status status) =
    no_lower script run.entries
of_call script run other reply = None

abbrev pub of_reply : ScriptParts → RunValue → StepAct → Reply → Option Concern
of_reply script run (Call made) reply = of_call script run made reply
of_reply script run other reply = None

abbrev pub of_given : ScriptParts → RunValue → StepAct → ℕ → Answered → Option Concern
of_given script run act seat (Replied reply) = of_reply script run act reply
of_given script run act seat (Word reply) = not_held act seat reply

abbrev pub of_answer : ScriptParts → RunValue → List Hint → Step → Answered → Option Concern
of_answer script run told step answer =
    option_or (option_map Unbound (unbound_in run.standing told step.act))
    (of_given script run step.act step.seat answer)

-- What isn't meant in a step that was answered so, or passed over, where the run stands so behind it: it hangs on what is
-- never answered; or else, if it was made, it names a label that isn't bound, of which nothing told tells; or else its
-- answer shows it.
abbrev pub concern_of : ScriptParts → RunValue → List Hint → Step → Option Answered → Option Concern
concern_of script run told step answer =
    option_or (never_answered script step.condition) (option_and_then (of_answer script run told step) answer)
