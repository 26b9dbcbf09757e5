-- Steps that aren't at cancel slots leave the slots.
use Rattle.std.proofs.Common.{◌≡◌, ℕ, Bool, true, false, List, Option, Some, None, refl, ap, ◌∙◌}
use Rattle.std.specs.Prelude.{if◌then◌else◌, slice_get, length, position, nat_le, is_some, ◌==◌, ◌%◌}
use Rattle.std.specs.List.{list_any}
use Rattle.std.specs.Option.{option_map_or}
use Rattle.irp_types.specs.declared.names.IrpRef.{IrpRef}
use Rattle.irp_types.specs.declared.reply.Reply.{Reply}
use Rattle.irp_types.specs.declared.seat_act.Hand.{Hand}
use Rattle.irp_types.specs.declared.seat_act.LockAct.{LockAct}
use Rattle.irp_types.specs.declared.seat_act.LockAct.TheVariants.{Acquire, Release, BeginRemove, Drained as AsksDrained}
use Rattle.irp_script_reader.specs.declared.act.StepAct.{StepAct}
use Rattle.irp_plain.specs.declared.parts.After.TheVariants.{In, Told}
use Rattle.irp_plain.specs.declared.answered.Answered.TheVariants.{Word}
use Rattle.irp_transcript.specs.declared.word_line.WordReply.TheVariants.{AlreadyRemoving}
use Rattle.irp_machine.specs.declared.parts.Calling.{Calling}
use Rattle.irp_plain.specs.declared.parts.Change.{Change}
use Rattle.irp_plain.specs.declared.parts.NewLabel.{NewLabel}
use Rattle.irp_machine.specs.declared.parts.Next.{Next}
use Rattle.irp_machine.specs.declared.parts.Next.TheVariants.{Changes, Calls}
use Rattle.irp_machine.specs.declared.parts.Planned.{Planned}
use Rattle.irp_plain.specs.declared.parts.Stage.{Stage}
use Rattle.irp_plain.specs.declared.parts.Stage.TheVariants as stages
use Rattle.irp_plain.specs.Changes as change
use Rattle.irp_machine.specs.Machine.{RulesValue, IsNext}
use Rattle.irp_machine.specs.Next.{after_call, binding, called, calling, is_tokenless, naming_at, with_packet, with_token}
use Rattle.irp_plain.specs.Seats.{SeatValue, is_held, is_removed, stage_after}
use Rattle.irp_machine.specs.Standings.{StandingValue}

-- the stage is one of an act at a slot
abbrev pub is_at_slot : Stage → Bool
is_at_slot stages.Published = true
is_at_slot stages.FoundSet = true
is_at_slot stages.Flagged = true
is_at_slot other = false

-- a step writes no slot, and the seat is at none behind it
abbrev pub LeavesSlots : Change → Type 0
LeavesSlots step = (step.slot ≡ None) × (is_at_slot (stage_after step.after) ≡ false)

either : (test : Bool) (one other : Change) → LeavesSlots one → LeavesSlots other → LeavesSlots (if test then one else other)
either true one other first second = first
either false one other first second = second

each : {X : Type 0} (found : Option X) (of : X → Change) (other : Change) → ((item : X) → LeavesSlots (of item)) → LeavesSlots other → LeavesSlots (option_map_or of found other)
each None of other first second = second
each (Some item) of other first second = first item

acquiring_anew : (word : ℕ) (seat : SeatValue) (lock tag : ℕ) → LeavesSlots (change.acquiring_anew word seat lock tag)
acquiring_anew word seat lock tag =
    either (nat_le change.most_held (length seat.held)) _ _ (refl, refl)
    (either (list_any (is_removed lock) seat.learned) _ _ (refl, refl) (either (word % 2 == 0) _ _ (refl, refl) (refl, refl)))

acquiring : (stage : Stage) (word : ℕ) (seat : SeatValue) (lock tag : ℕ) → LeavesSlots (change.acquiring_at stage word seat lock tag)
acquiring stages.Tried word seat lock tag = (refl, refl)
acquiring other word seat lock tag = acquiring_anew word seat lock tag

releasing : (word : ℕ) (seat : SeatValue) (lock tag : ℕ) → LeavesSlots (change.releasing word seat lock tag)
releasing word seat lock tag = each (position (is_held lock tag) seat.held) (λ place. change.given_back word lock place) _ (λ place. (refl, refl)) (refl, refl)

begin_after : (test : Bool) → is_at_slot (stage_after (if test then In stages.Begun else Told (Word AlreadyRemoving))) ≡ false
begin_after true = refl
begin_after false = refl

beginning : (stage : Stage) (word : ℕ) (seat : SeatValue) (lock tag : ℕ) → LeavesSlots (change.beginning_at stage word seat lock tag)
beginning stages.Begun word seat lock tag = releasing word seat lock tag
beginning other word seat lock tag = either (is_some (position (is_held lock tag) seat.held)) _ _ (refl, begin_after (word % 2 == 0)) (refl, refl)

on_word : (word : ℕ) (seat : SeatValue) (act : LockAct) → LeavesSlots (change.on_word word seat act)
on_word word seat (Acquire lock tag) = acquiring seat.stage word seat lock.0 tag
on_word word seat (Release lock tag) = releasing word seat lock.0 tag
on_word word seat (BeginRemove lock tag) = beginning seat.stage word seat lock.0 tag
on_word word seat (AsksDrained lock) = either (word == 1) _ _ (refl, refl) (refl, refl)

pub lock_leaves : (words : List ℕ) (seat : SeatValue) (act : LockAct) → LeavesSlots (change.on_lock words seat act)
lock_leaves words seat act = each (slice_get words (change.lock_of act)) (λ word. change.on_word word seat act) _ (λ word. on_word word seat act) (refl, refl)

pub hand_leaves : (words : List ℕ) (seats : List SeatValue) (seat : SeatValue) (act : Hand) → LeavesSlots (change.hand words seats seat act)
hand_leaves words seats seat act =
    either (nat_le (length words) act.lock.0) _ _ (refl, refl)
    (each (position (is_held act.lock.0 act.tag) seat.held) (λ place. change.handing act place (change.count_held seats act.to)) _
    (λ place. either (nat_le change.most_held (change.count_held seats act.to)) _ _ (refl, refl) (refl, refl)) (refl, refl))

-- ---- calls, and what a seat does next

called_after : (alone : Bool) (bind : Option NewLabel) (reply : Reply) → is_at_slot (stage_after (after_call alone bind reply)) ≡ false
called_after true None reply = refl
called_after true (Some label) reply = refl
called_after false bind reply = refl

module _ (rules : RulesValue) (standing : StandingValue) (seat : ℕ) (planned : Planned) where
  -- what each step that may come next is
  abbrev pub NextIs : (Change → Type 0) → Next → Type 0
  NextIs kind next = (step : Change) → IsNext rules standing seat planned next step → kind step

  pub left : (one : Change) → LeavesSlots one → NextIs LeavesSlots (Changes one)
  left one leaves step is = (ap (λ (z : Change). z.slot) is ∙ leaves.0, ap (λ (z : Change). is_at_slot (stage_after z.after)) is ∙ leaves.1)

  calls_leave : (calling : Calling) → NextIs LeavesSlots (Calls calling)
  calls_leave calling step is =
      left (called planned calling is.reply) (refl, called_after planned.binds_alone (binding planned.act is.reply) is.reply) step is.changes

  -- the next step of an act is one kind where it is so of each case
  pub either_next : (kind : Change → Type 0) (test : Bool) (one other : Next) → NextIs kind one → NextIs kind other → NextIs kind (if test then one else other)
  either_next kind true one other first second = first
  either_next kind false one other first second = second

  naming_next : (stage : Stage) (own : SeatValue) → ((irp : IrpRef) → NextIs LeavesSlots (with_packet standing own planned.act irp)) → NextIs LeavesSlots (naming_at stage standing own planned)
  naming_next (stages.Answered irp) own next = left _ (refl, refl)
  naming_next (stages.Read irp) own next = next irp
  naming_next stages.Between own next = either_next LeavesSlots planned.reads_alone _ _ (left _ (refl, refl)) (next _)
  naming_next other own next = next _

  pub token_next : (own : SeatValue) → ((irp : IrpRef) → NextIs LeavesSlots (with_packet standing own planned.act irp)) → NextIs LeavesSlots (with_token standing own planned)
  token_next own next = either_next LeavesSlots (is_tokenless own.taken planned.act) _ _ (left _ (refl, refl)) (naming_next own.stage own next)

  pub call_next : (own : SeatValue) (act : StepAct) (irp : IrpRef) → NextIs LeavesSlots (calling own.taken act irp)
  call_next own act irp = calls_leave _
