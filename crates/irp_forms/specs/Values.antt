-- What a JSON value reads as: references, settings, plans, answers and tables. None where the value has another form.
use Rattle.std.specs.Prelude.{ℕ, List, codes, Option, Some, None, if◌then◌else◌}
use Rattle.std.specs.Bool.{then_some}
use Rattle.std.proofs.Common.{bytes_eq}
use Rattle.serde_json.specs.Data.{Data, string}
use Rattle.serde_json.specs.Find.{at, as_str}
use Rattle.irp_forms.specs.Parts.{◌>>=◌, has_items, of_items, u8_at, u32_at, u64_at, or_null_at}
use Rattle.irp_forms.specs.Names.{rule_at, flags_at}
use Rattle.irp_types.specs.declared.{answer.CancelAnswer.CancelAnswer, answer.Plan.Plan}
use Rattle.irp_types.specs.declared.{answer.Replacement.Replacement, call.Party.Party, names.CancelId.CancelId}
use Rattle.irp_types.specs.declared.{names.DeviceId.DeviceId, names.DispatchId.DispatchId, names.DriverId.DriverId}
use Rattle.irp_types.specs.declared.{names.IrpRef.IrpRef, names.LockNo.LockNo, routine.Known.Known}
use Rattle.irp_types.specs.declared.{routine.RoutineId.RoutineId, routine.Setting.Setting, status.Status.Status}
use Rattle.irp_types.specs.declared.answer.CancelAnswer.TheVariants as cancel_answers
use Rattle.irp_types.specs.declared.answer.Plan.TheVariants as plans
use Rattle.irp_types.specs.declared.call.Party.TheVariants as parties

-- ---- a device, a cancel routine, a dispatch routine, a driver, a remove lock and a status, each by its number

abbrev pub device_at : Data → Option DeviceId
device_at form = u32_at form >>= λ given. Some (record { 0 = given })

abbrev pub cancel_at : Data → Option CancelId
cancel_at form = u32_at form >>= λ given. Some (record { 0 = given })

abbrev pub dispatch_at : Data → Option DispatchId
dispatch_at form = u32_at form >>= λ given. Some (record { 0 = given })

abbrev pub driver_at : Data → Option DriverId
driver_at form = u32_at form >>= λ given. Some (record { 0 = given })

abbrev pub lock_at : Data → Option LockNo
lock_at form = u32_at form >>= λ given. Some (record { 0 = given })

abbrev pub status_at : Data → Option Status
status_at form = u32_at form >>= λ given. Some (record { 0 = given })

-- ---- all others

-- a packet by its slot and its use
unfoldable pub irp_at : Data → Option IrpRef
irp_at form = if has_items 2 form then (do
  slot ← at 0 form >>= u32_at
  use_no ← at 1 form >>= u64_at
  Some (record { slot = slot; use_no = use_no })) else None

-- a party: "o" for the originator, or the device's number
unfoldable pub party_at : Data → Option Party
party_at (string name) = if bytes_eq name (codes "o") then Some parties.Originator else None
party_at form = device_at form >>= λ device. Some (parties.Device device)

-- a completion routine by its rule and its number there
unfoldable pub routine_at : Data → Option RoutineId
routine_at form = if has_items 2 form then (do
  rule ← at 0 form >>= rule_at
  place ← at 1 form >>= u32_at
  Some (record { rule = rule; no = place })) else None

-- a setting: rule, number, context and flags
unfoldable pub setting_at : Data → Option Setting
setting_at form = if has_items 4 form then (do
  rule ← at 0 form >>= rule_at
  place ← at 1 form >>= u32_at
  context ← at 2 form >>= u64_at
  flags ← at 3 form >>= flags_at
  Some (record {
    routine = record { rule = rule; no = place };
    context = context;
    on_success = flags.on_success;
    on_error = flags.on_error;
    on_cancel = flags.on_cancel;
  })) else None

-- a replacement: status and information
unfoldable pub replacement_at : Data → Option Replacement
replacement_at form = if has_items 2 form then (do
  status ← at 0 form >>= status_at
  information ← at 1 form >>= u64_at
  Some (record { status = status; information = information })) else None

-- a plan by its name, with what it names
abbrev pub plan_named : List ℕ → Data → Option Plan
plan_named name form =
    if bytes_eq name (codes "finish") then (do
      three ← of_items 3 form
      status ← at 1 form >>= status_at
      information ← at 2 form >>= u64_at
      Some (plans.Finish status information)) else
    (if bytes_eq name (codes "hold") then (do
      two ← of_items 2 form
      cancel ← at 1 form >>= or_null_at cancel_at
      Some (plans.Hold cancel)) else
    (if bytes_eq name (codes "hold_slot") then then_some (has_items 1 form) plans.HoldSlot else
    (if bytes_eq name (codes "skip") then then_some (has_items 1 form) plans.Skip else
    (if bytes_eq name (codes "forward") then (do
      two ← of_items 2 form
      setting ← at 1 form >>= or_null_at setting_at
      Some (plans.Forward setting)) else
    (if bytes_eq name (codes "forward_pend") then (do
      two ← of_items 2 form
      setting ← at 1 form >>= or_null_at setting_at
      Some (plans.ForwardPend setting)) else None)))))

-- a plan, also the one that only form 2 has: its name, which stands first, and what it names
unfoldable pub plan_at : Data → Option Plan
plan_at form = at 0 form >>= λ first. as_str first >>= λ name. plan_named name form

-- a cancel routine's answer by its name, with what it names
abbrev pub cancel_answer_named : List ℕ → Data → Option CancelAnswer
cancel_answer_named name form =
    if bytes_eq name (codes "finish") then (do
      two ← of_items 2 form
      information ← at 1 form >>= u64_at
      Some (cancel_answers.Finish information)) else
    (if bytes_eq name (codes "leave") then then_some (has_items 1 form) cancel_answers.Leave else None)

-- a cancel routine's answer: its name, which stands first, and what it names
unfoldable pub cancel_answer_at : Data → Option CancelAnswer
cancel_answer_at form = at 0 form >>= λ first. as_str first >>= λ name. cancel_answer_named name form

-- how many completion routines of each rule, from the first five items
unfoldable pub first_counts_at : Data → Option Known
first_counts_at form = do
  watch ← at 0 form >>= u32_at
  change ← at 1 form >>= u32_at
  keeper ← at 2 form >>= u32_at
  keep_on_error ← at 3 form >>= u32_at
  free ← at 4 form >>= u32_at
  Some (record {
    watch = watch;
    change = change;
    keeper = keeper;
    keep_on_error = keep_on_error;
    free = free;
    cancel = 0;
  })

-- how many completion routines of each rule
unfoldable pub completions_at : Data → Option Known
completions_at form = if has_items 5 form then first_counts_at form else None

-- the same, and how many cancel routines
unfoldable pub known_at : Data → Option Known
known_at form = if has_items 6 form then (do
  counts ← first_counts_at form
  cancel ← at 5 form >>= u32_at
  Some (record counts { cancel = cancel })) else None

-- a major function code and its dispatch
unfoldable pub handler_at : Data → Option (ℕ × DispatchId)
handler_at form = if has_items 2 form then (do
  major ← at 0 form >>= u8_at
  dispatch ← at 1 form >>= dispatch_at
  Some (major, dispatch)) else None
