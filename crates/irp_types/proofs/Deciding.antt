-- The derived tests of equality decide it: each is true exactly where its two values are equal.
use Rattle.std.proofs.Common.{rules, ap, sym, ◌∙◌, ◌≡◌, ◌⊎◌, ◌&&◌, Bool, true, false, Some, None}
use mathlib.Core.Bool.{true≢false}
use mathlib.Core.Logic.{inl, inr, ⊎_elim}
use denote.Enum.Declared as enums
use denote.Struct.Record as structs
use denote.Struct.Values.{Values}
use Rattle.std.specs.Bool.{Decides}
use Rattle.std.specs.Cmp.{booleans_Decides, unsigned_Decides}
use Rattle.std.specs.Option.{option_eq}
use Rattle.std.proofs.lemmas.Bool.Decides.{Decides-and, Decides-like}
use Rattle.std.proofs.lemmas.Option.{same_Some}
use Rattle.irp_types.specs.contracts.names.IrpRef as irp_ref
use Rattle.irp_types.specs.contracts.names.DeviceId as device_id
use Rattle.irp_types.specs.contracts.names.LockNo as lock_no
use Rattle.irp_types.specs.contracts.names.DriverId as driver_id
use Rattle.irp_types.specs.contracts.names.DispatchId as dispatch_id
use Rattle.irp_types.specs.contracts.names.CancelId as cancel_id
use Rattle.irp_types.specs.contracts.status.Status as status_no
use Rattle.irp_types.specs.contracts.routine.RoutineId as routine_id
use Rattle.irp_types.specs.contracts.routine.Setting as a_setting
use Rattle.irp_types.specs.contracts.shown.Shown as what_is_shown
use Rattle.irp_types.specs.contracts.answer.Replacement as a_replacement
use Rattle.irp_types.specs.contracts.answer.Answer as an_answer
use Rattle.irp_types.specs.contracts.answer.CancelAnswer as a_cancel_answer
use Rattle.irp_types.specs.contracts.answer.Plan as a_plan
use Rattle.irp_types.specs.contracts.asked.Asked as a_question
use Rattle.irp_types.specs.contracts.call.Party as a_party
use Rattle.irp_types.specs.contracts.call.Call as a_call
use Rattle.irp_types.specs.contracts.location.Owner as an_owner
use Rattle.irp_types.specs.contracts.reply.Seen as what_is_seen
use Rattle.irp_types.specs.contracts.reply.Reply as a_reply
use Rattle.irp_types.specs.contracts.names.IrpRefPartialEq.TheImpl as irp_eq
use Rattle.irp_types.specs.contracts.names.DeviceIdPartialEq.TheImpl as device_eq
use Rattle.irp_types.specs.contracts.names.LockNoPartialEq.TheImpl as lock_eq
use Rattle.irp_types.specs.contracts.names.DriverIdPartialEq.TheImpl as driver_eq
use Rattle.irp_types.specs.contracts.names.DispatchIdPartialEq.TheImpl as dispatch_eq
use Rattle.irp_types.specs.contracts.names.CancelIdPartialEq.TheImpl as cancel_eq
use Rattle.irp_types.specs.contracts.status.StatusPartialEq.TheImpl as status_eq
use Rattle.irp_types.specs.contracts.routine.RulePartialEq.TheImpl as rule_eq
use Rattle.irp_types.specs.contracts.routine.RoutineIdPartialEq.TheImpl as routine_eq
use Rattle.irp_types.specs.contracts.routine.SettingPartialEq.TheImpl as setting_eq
use Rattle.irp_types.specs.contracts.shown.ShownPartialEq.TheImpl as shown_eq
use Rattle.irp_types.specs.contracts.answer.ReplacementPartialEq.TheImpl as replacement_eq
use Rattle.irp_types.specs.contracts.answer.AnswerPartialEq.TheImpl as answer_eq
use Rattle.irp_types.specs.contracts.answer.CancelAnswerPartialEq.TheImpl as cancel_answer_eq
use Rattle.irp_types.specs.contracts.answer.PlanPartialEq.TheImpl as plan_eq
use Rattle.irp_types.specs.contracts.asked.AskedPartialEq.TheImpl as asked_eq
use Rattle.irp_types.specs.contracts.call.PartyPartialEq.TheImpl as party_eq
use Rattle.irp_types.specs.contracts.call.CallPartialEq.TheImpl as call_eq
use Rattle.std.specs.contracts.prelude.U64PartialEq.TheImpl as u64_eq
use Rattle.irp_types.specs.Calls.{Call}
use denote.Builtin.{u64}
use Rattle.irp_types.specs.contracts.location.OwnerPartialEq.TheImpl as owner_eq
use Rattle.irp_types.specs.contracts.reply.SeenPartialEq.TheImpl as seen_eq
use Rattle.irp_types.specs.contracts.reply.ReplyPartialEq.TheImpl as reply_eq
use Rattle.irp_types.specs.contracts.refusal.RefusalPartialEq.TheImpl as refusal_eq

-- the test is true exactly where its two values are equal
abbrev Tells : {A : Type 0} → (A → A → Bool) → Type 0
Tells {A} E = (one other : A) → Decides (E one other) (one ≡ other)

-- ---- tests of the parts of a value

-- no field
pub empty : Tells (λ (one other : Unit {0}). true)
empty one other = (λ _ _. tt, λ _ _. true)

-- the last field
pub last : {A : Type 0} {E : A → A → Bool} → Tells E → Tells (λ (one other : A × Unit {0}). E one.0 other.0)
last e one other = Decides-like _ (λ p i. (p i, tt)) (ap (λ z. z.0)) (e one.0 other.0)

-- a field and those after it
pub also : {A B : Type 0} {E : A → A → Bool} {F : B → B → Bool} → Tells E → Tells F → Tells (λ (one other : A × B). E one.0 other.0 && F one.1 other.1)
also e f one other = Decides-like _ (λ p i. (p.0 i, p.1 i)) (λ p. (ap (λ z. z.0) p, ap (λ z. z.1) p)) (Decides-and _ _ (e one.0 other.0) (f one.1 other.1))

-- the values of a struct's fields
pub fields : (N : structs.Record) (own : structs.Propositions N) {E : Values N.parts → Values N.parts → Bool} → Tells E → Tells (λ (one other : N.D). E (N.as_values one) (N.as_values other))
fields N own e one other = Decides-like _ (structs.values_one N own one other) (ap N.as_values) (e (N.as_values one) (N.as_values other))

-- ---- tests of variants

-- the sides of a sum are apart
abbrev is_first : {A B : Type 0} → A ⊎ B → Bool
is_first (inl _) = true
is_first (inr _) = false

abbrev first_or : {A B : Type 0} → A → A ⊎ B → A
first_or a (inl x) = x
first_or a (inr y) = a

abbrev second_or : {A B : Type 0} → B → A ⊎ B → B
second_or b (inl x) = b
second_or b (inr y) = y

-- no variant is left
pub end : Tells (λ (one other : ⊥). absurd {A = Bool} one)
end one other = absurd one

-- a variant and those after it
pub or : {A B : Type 0} {E : A → A → Bool} {F : B → B → Bool} → Tells E → Tells F
    → Tells (λ (one other : A ⊎ B). ⊎_elim (λ x. ⊎_elim (λ y. E x y) (λ _. false) other) (λ x. ⊎_elim (λ _. false) (λ y. F x y) other) one)
or e f (inl x) (inl y) = Decides-like _ (ap inl) (ap (first_or x)) (e x y)
or e f (inl x) (inr y) = (λ p. absurd (true≢false (sym p)), λ p. absurd (true≢false (ap is_first p)))
or e f (inr x) (inl y) = (λ p. absurd (true≢false (sym p)), λ p. absurd (true≢false (sym (ap is_first p))))
or e f (inr x) (inr y) = Decides-like _ (ap inr) (ap (second_or x)) (f x y)

-- the variants of an enum
pub variants : (N : enums.Record) {E : enums.Choice N.parts → enums.Choice N.parts → Bool} → Tells E → Tells (λ (one other : N.D). E (N.as_values one) (N.as_values other))
variants N e one other = Decides-like _ (enums.values_one N one other) (ap N.as_values) (e (N.as_values one) (N.as_values other))

-- what may be none
pub option : {A : Type 0} {E : A → A → Bool} → Tells E → Tells (option_eq E)
option e None None = search rules
option e None (Some y) = search rules
option e (Some x) None = search rules
option e (Some x) (Some y) = Decides-like _ (ap Some) (same_Some x y) (e x y)

-- ---- names

pub irp : Tells irp_eq.eq-value.it
irp = fields irp_ref.struct irp_ref.the_propositions (also unsigned_Decides (last unsigned_Decides))

pub device : Tells device_eq.eq-value.it
device = fields device_id.struct device_id.the_propositions (last unsigned_Decides)

pub lock : Tells lock_eq.eq-value.it
lock = fields lock_no.struct lock_no.the_propositions (last unsigned_Decides)

pub driver : Tells driver_eq.eq-value.it
driver = fields driver_id.struct driver_id.the_propositions (last unsigned_Decides)

pub dispatch : Tells dispatch_eq.eq-value.it
dispatch = fields dispatch_id.struct dispatch_id.the_propositions (last unsigned_Decides)

pub cancel : Tells cancel_eq.eq-value.it
cancel = fields cancel_id.struct cancel_id.the_propositions (last unsigned_Decides)

pub status : Tells status_eq.eq-value.it
status = fields status_no.struct status_no.the_propositions (last unsigned_Decides)

pub rule : Tells rule_eq.eq-value.it
rule one other = search rules

pub refusal : Tells refusal_eq.eq-value.it
refusal one other = search rules

-- ---- questions

pub routine : Tells routine_eq.eq-value.it
routine = fields routine_id.struct routine_id.the_propositions (also rule (last unsigned_Decides))

pub setting : Tells setting_eq.eq-value.it
setting =
    fields a_setting.struct a_setting.the_propositions
    (also routine (also unsigned_Decides (also booleans_Decides (also booleans_Decides (last booleans_Decides)))))

shown : Tells shown_eq.eq-value.it
shown =
    fields what_is_shown.struct what_is_shown.the_propositions
    (also irp (also unsigned_Decides (also unsigned_Decides (also unsigned_Decides (also (option device) (also unsigned_Decides
    (also status (also unsigned_Decides (also booleans_Decides (also booleans_Decides (last booleans_Decides)))))))))))

replacement : Tells replacement_eq.eq-value.it
replacement = fields a_replacement.struct a_replacement.the_propositions (also status (last unsigned_Decides))

answer : Tells answer_eq.eq-value.it
answer = fields an_answer.struct an_answer.the_propositions (also booleans_Decides (also booleans_Decides (last (option replacement))))

cancel_answer : Tells cancel_answer_eq.eq-value.it
cancel_answer = variants a_cancel_answer.enum (or (last unsigned_Decides) (or empty end))

plan : Tells plan_eq.eq-value.it
plan =
    variants a_plan.enum
    (or (also status (last unsigned_Decides)) (or (last (option cancel)) (or empty (or empty (or (last (option setting)) (or (last (option setting)) end))))))

pub asked : Tells asked_eq.eq-value.it
asked =
    variants a_question.enum
    (or (also dispatch (also shown (last plan))) (or (also routine (also shown (last answer))) (or (also cancel (also shown (last cancel_answer))) end)))

-- ---- calls and replies

party : Tells party_eq.eq-value.it
party = variants a_party.enum (or empty (or (last device) end))

-- the test of two calls
abbrev pub same_call : Call → Call → Bool
same_call = (call_eq.eq-value irp_ref.the_row u64 irp_eq.ghosts irp_eq.dict u64_eq.ghosts u64_eq.dict).it

pub call : Tells same_call
call =
    variants (a_call.enum irp_ref.the_row u64)
    (or (also driver (last lock)) (or (also device (last device)) (or (last device) (or (last device) (or (last unsigned_Decides)
    (or (last irp) (or (also irp (last status)) (or (also party (also irp (also unsigned_Decides (last unsigned_Decides))))
    (or (also party (last irp)) (or (also party (last irp)) (or (also party (also irp (last setting))) (or (also party (last irp))
    (or (also party (also irp (last device))) (or (also party (also irp (also status (last unsigned_Decides))))
    (or (also irp (also unsigned_Decides (also status (last unsigned_Decides)))) (or (also party (also irp (last (option cancel)))) (or (last irp) (or (last irp) end))))))))))))))))))

owner : Tells owner_eq.eq-value.it
owner = variants an_owner.enum (or empty (or (last device) (or empty end)))

seen : Tells seen_eq.eq-value.it
seen =
    fields what_is_seen.struct what_is_seen.the_propositions
    (also owner (also unsigned_Decides (also status (also unsigned_Decides
    (also booleans_Decides (also (option cancel) (also booleans_Decides (last booleans_Decides))))))))

pub reply : Tells reply_eq.eq-value.it
reply =
    variants a_reply.enum
    (or empty (or (last device) (or (last irp) (or (last status) (or (last (option cancel)) (or (last booleans_Decides) (or (last seen) (or (last refusal) end))))))))

-- ---- tests that follow one another

-- a test that runs where the one before it is true
pub where_true : {P Q : Type 0} {before now both : Bool} → before ≡ true → both ≡ now → Decides before P → Decides now Q → Decides both (P × Q)
where_true is both_is p q = (λ e. (p.0 is, q.0 (sym both_is ∙ e)), λ h. both_is ∙ q.1 h.1)

-- a test that doesn't run, since the one before it is false
pub where_false : {P Q : Type 0} {before both : Bool} → before ≡ false → both ≡ before → Decides before P → Decides both (P × Q)
where_false is both_is p = (λ e. absurd (true≢false (sym e ∙ both_is ∙ is)), λ h. both_is ∙ p.1 h.0)
