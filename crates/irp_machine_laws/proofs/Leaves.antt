-- Steps that aren't at locks leave the locks.
use Rattle.std.proofs.Common.{◌≡◌, ℕ, Bool, true, false, List, Option, Some, None, refl, ap, ◌∙◌}
use Rattle.std.specs.Prelude.{if◌then◌else◌, slice_get, ◌==◌}
use Rattle.std.specs.Option.{option_map_or}
use Rattle.irp_types.specs.declared.names.IrpRef.{IrpRef}
use Rattle.irp_types.specs.declared.reply.Reply.{Reply}
use Rattle.irp_transcript.specs.declared.word_line.WordReply.{WordReply}
use Rattle.irp_script_reader.specs.declared.act.StepAct.{StepAct}
use Rattle.irp_script_reader.specs.declared.act.StepAct.TheVariants as does
use Rattle.irp_machine.specs.declared.parts.Calling.{Calling}
use Rattle.irp_plain.specs.declared.parts.Change.{Change}
use Rattle.irp_plain.specs.declared.parts.NewLabel.{NewLabel}
use Rattle.irp_machine.specs.declared.parts.Next.{Next}
use Rattle.irp_machine.specs.declared.parts.Next.TheVariants.{Changes, Calls}
use Rattle.irp_machine.specs.declared.parts.Planned.{Planned}
use Rattle.irp_plain.specs.declared.parts.Slot.{Slot}
use Rattle.irp_plain.specs.declared.parts.Stage.{Stage}
use Rattle.irp_plain.specs.declared.parts.Stage.TheVariants as stages
use Rattle.irp_plain.specs.Changes as change
use Rattle.irp_machine.specs.Machine.{RulesValue, IsNext}
use Rattle.irp_machine.specs.Next.{after_call, binding, called, is_tokenless, naming_at, with_packet, with_token}
use Rattle.irp_plain.specs.Seats.{SeatValue, stage_after}
use Rattle.irp_machine.specs.Standings.{StandingValue}

-- the stage is to try a lock
abbrev pub is_trying : Stage → Bool
is_trying stages.Tried = true
is_trying other = false

-- a step changes nothing of locks and references, and the seat tries no lock behind it
abbrev pub Leaves : Change → Type 0
Leaves step = (step.word ≡ None) × (step.drops ≡ None) × (step.holds ≡ None) × (step.gives ≡ None) × (step.learns ≡ None)
    × (is_trying (stage_after step.after) ≡ false)

pub told_leaves : (answer : WordReply) → Leaves (change.told answer)
told_leaves answer = (refl, refl, refl, refl, refl, refl)

either : (test : Bool) (one other : Change) → Leaves one → Leaves other → Leaves (if test then one else other)
either true one other first second = first
either false one other first second = second

each : {X : Type 0} (found : Option X) (of : X → Change) (other : Change) → ((item : X) → Leaves (of item)) → Leaves other → Leaves (option_map_or of found other)
each None of other first second = second
each (Some item) of other first second = first item

take_out : (number : ℕ) (slot : Slot) (missed : WordReply) → Leaves (change.take_out number slot missed)
take_out number slot missed =
    either (slot.content == 0) _ _ (refl, refl, refl, refl, refl, refl) (refl, refl, refl, refl, refl, refl)

publishing : (number : ℕ) (slot : Slot) (stage : Stage) (use_no : ℕ) → Leaves (change.publishing number slot stage use_no)
publishing number slot stages.Published use_no =
    either slot.flag _ _ (refl, refl, refl, refl, refl, refl) (refl, refl, refl, refl, refl, refl)
publishing number slot stages.FoundSet use_no = take_out number slot _
publishing number slot other use_no =
    either slot.used _ _ (refl, refl, refl, refl, refl, refl) (refl, refl, refl, refl, refl, refl)

publish : (slots : List Slot) (number : ℕ) (stage : Stage) (use_no : ℕ) → Leaves (change.publish slots number stage use_no)
publish slots number stage use_no =
    each (slice_get slots number) (λ (slot : Slot). change.publishing number slot stage use_no) _ (λ slot. publishing number slot stage use_no) (refl, refl, refl, refl, refl, refl)

pub withdraw_leaves : (slots : List Slot) (number : ℕ) → Leaves (change.withdraw slots number)
withdraw_leaves slots number =
    each (slice_get slots number) _ _ (λ (slot : Slot). either slot.stands _ _ (take_out number (record slot { stands = false }) _) (refl, refl, refl, refl, refl, refl)) (refl, refl, refl, refl, refl, refl)

requesting : (number : ℕ) (slot : Slot) (stage : Stage) → Leaves (change.requesting number slot stage)
requesting number slot stages.Flagged = take_out number slot _
requesting number slot other = (refl, refl, refl, refl, refl, refl)

pub request_leaves : (slots : List Slot) (number : ℕ) (stage : Stage) → Leaves (change.request slots number stage)
request_leaves slots number stage =
    each (slice_get slots number) (λ (slot : Slot). change.requesting number slot stage) _ (λ slot. requesting number slot stage) (refl, refl, refl, refl, refl, refl)

-- ---- calls

called_after : (alone : Bool) (bind : Option NewLabel) (reply : Reply) → is_trying (stage_after (after_call alone bind reply)) ≡ false
called_after true None reply = refl
called_after true (Some label) reply = refl
called_after false bind reply = refl

called_leaves : (planned : Planned) (calling : Calling) (reply : Reply) → Leaves (called planned calling reply)
called_leaves planned calling reply =
    (refl, refl, refl, refl, refl, called_after planned.binds_alone (binding planned.act reply) reply)

-- ---- what a seat does next

module _ (rules : RulesValue) (standing : StandingValue) (seat : ℕ) (planned : Planned) where
  -- each step that may come next leaves the locks
  abbrev NextLeaves : Next → Type 0
  NextLeaves next = (step : Change) → IsNext rules standing seat planned next step → Leaves step

  pub changes_leave : (one : Change) → Leaves one → NextLeaves (Changes one)
  changes_leave one leaves step is = (
    ap (λ (z : Change). z.word) is ∙ leaves.0,
    ap (λ (z : Change). z.drops) is ∙ leaves.1,
    ap (λ (z : Change). z.holds) is ∙ leaves.2,
    ap (λ (z : Change). z.gives) is ∙ leaves.3,
    ap (λ (z : Change). z.learns) is ∙ leaves.4,
    ap (λ (z : Change). is_trying (stage_after z.after)) is ∙ leaves.5,
  )

  calls_leave : (calling : Calling) → NextLeaves (Calls calling)
  calls_leave calling step is = changes_leave (called planned calling is.reply) (called_leaves planned calling is.reply) step is.changes

  either_next : (test : Bool) (one other : Next) → NextLeaves one → NextLeaves other → NextLeaves (if test then one else other)
  either_next true one other first second = first
  either_next false one other first second = second

  packet_next : (own : SeatValue) (act : StepAct) (irp : IrpRef) → NextLeaves (with_packet standing own act irp)
  packet_next own (does.Publish slot named) irp = changes_leave _ (publish standing.slots slot own.stage irp.use_no)
  packet_next own other irp = calls_leave _

  naming_next : (stage : Stage) (own : SeatValue) → NextLeaves (naming_at stage standing own planned)
  naming_next (stages.Answered irp) own = changes_leave _ (refl, refl, refl, refl, refl, refl)
  naming_next (stages.Read irp) own = packet_next own planned.act irp
  naming_next stages.Between own = either_next planned.reads_alone _ _ (changes_leave _ (refl, refl, refl, refl, refl, refl)) (packet_next own planned.act _)
  naming_next other own = packet_next own planned.act _

  pub token_next : (own : SeatValue) → NextLeaves (with_token standing own planned)
  token_next own = either_next (is_tokenless own.taken planned.act) _ _ (changes_leave _ (refl, refl, refl, refl, refl, refl)) (naming_next own.stage own)
