-- Why a seat doesn't make a step, and what is so then.
use Rattle.std.specs.Prelude.{⊤, ℕ, ◌≡◌, ◌<◌, Contains, List, map}
use Rattle.irp_types.specs.State.{Fixed}
use Rattle.irp_types.specs.declared.asked.Asked.{Asked}
use Rattle.irp_types.specs.declared.seat_act.SlotAct.{SlotAct}
use Rattle.irp_types.specs.declared.seat_act.SlotAct.TheVariants.{Publish, Withdraw, Request}
use Rattle.irp_manager.specs.declared.not_recorded.NotRecorded.{NotRecorded}
use Rattle.irp_manager.specs.declared.not_recorded.NotRecorded.TheVariants as not_recorded
use Rattle.irp_shared.specs.Sharing.{FindsFull}
use Rattle.irp_slots.specs.Models.{Publisher}
use Rattle.irp_script.specs.AtSlots.{AtSlots}
use Rattle.irp_steps.specs.declared.step_kind.StepKind.{StepKind}
use Rattle.irp_steps.specs.declared.step_kind.StepKind.TheVariants.{Calls, OnLock, Hands, OnSlot, Finishes}
use Rattle.irp_script.specs.declared.stop.StopReason.{StopReason}
use Rattle.irp_script.specs.declared.stop.StopReason.TheVariants as reason

-- why a call wasn't recorded, as a worker tells it
abbrev pub unrecorded : NotRecorded → StopReason
unrecorded not_recorded.Memory = reason.Memory
unrecorded (not_recorded.Behind length) = reason.Behind length
unrecorded not_recorded.HistoryFull = reason.HistoryFull

-- the terms of a session: what is fixed while it lasts, and how a question may be answered in it
pub record Terms : Type 1 where
  pub fixed : Fixed
  pub may : Asked → Type 0

abbrev pub terms_of : Fixed → (Asked → Type 0) → Terms
terms_of fixed may = record { fixed = fixed; may = may }

-- a call isn't recorded, in a session of these terms and of a seat that has seen so many entries: memory ran out; the
-- history is told to be shorter than what the seat has seen; or a history of such a session, with all that the seat has
-- seen, is full
abbrev pub IsUnrecorded : Terms → ℕ → StopReason → Type 0
IsUnrecorded terms seen reason.Memory = ⊤
IsUnrecorded terms seen (reason.Behind length) = length < seen
IsUnrecorded terms seen reason.HistoryFull = FindsFull terms.fixed terms.may seen
IsUnrecorded terms seen other = ⊥

-- the slots that a seat owns
abbrev pub slots_owned : AtSlots → List ℕ
slots_owned parties = map (λ (owner : Publisher). owner.owning.slot) parties.owners

-- an act of a slot's owner isn't made: the slot isn't the seat's own, or memory ran out
abbrev pub IsUnowned : ℕ → AtSlots → StopReason → Type 0
IsUnowned slot parties reason.Memory = ⊤
IsUnowned slot parties reason.NotOwner = ¬ Contains (slots_owned parties) slot
IsUnowned slot parties other = ⊥

-- an act on a slot isn't made
abbrev pub IsUnacted : SlotAct → AtSlots → StopReason → Type 0
IsUnacted (Publish slot) parties why = IsUnowned slot parties why
IsUnacted (Withdraw slot) parties why = IsUnowned slot parties why
IsUnacted (Request slot) parties why = why ≡ reason.Memory

-- a step of this kind, which is no hand, isn't made in a session of these terms, by a seat that has seen so many entries
-- and has this at the slots
abbrev pub IsUnmade : Terms → StepKind → ℕ → AtSlots → StopReason → Type 0
IsUnmade terms Calls seen parties why = IsUnrecorded terms seen why
IsUnmade terms (Finishes slot status information) seen parties why = IsUnrecorded terms seen why
IsUnmade terms (OnLock on) seen parties why = why ≡ reason.Memory
IsUnmade terms (OnSlot on) seen parties why = IsUnacted on parties why
IsUnmade terms (Hands hand) seen parties why = ⊥

-- a step of this kind is made by one seat alone: it is no hand
abbrev pub IsAlone : StepKind → Type 0
IsAlone Calls = ⊤
IsAlone (OnLock on) = ⊤
IsAlone (OnSlot on) = ⊤
IsAlone (Finishes slot status information) = ⊤
IsAlone (Hands hand) = ⊥
