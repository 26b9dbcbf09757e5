-- Steps that are added to those of a section, one after the other: those of a stack.
use Rattle.std.proofs.Common.{ℕ, ◌≡◌, ◌≤◌, ◌+◌, ◌-◌, ◌∙◌, suc, arith, Bool, true, false, List, [], ◌∷◌, ◌++◌, ap, refl, subst, append_assoc, Option}
use Rattle.irp_forms.specs.declared.step_names.ActKind.TheVariants as act
use Rattle.irp_script_reader.specs.declared.condition.Condition.{Condition}
use Rattle.irp_script_reader.specs.declared.refusal.Section.{Section}
use Rattle.irp_grammar.specs.Naming.{Given}
use Rattle.irp_grammar.specs.Reading.{CreatesDevice, Members, TakeDevices, TakesDevice, added, attachment, attachments, creation, is_setup, with_device, with_given, with_steps}
use Rattle.irp_grammar.specs.declared.step_line.StepLine.{StepLine}

both_added : (b : Bool) (one other : List StepLine) (first second : Given) (its : Members)
    → added b other (with_given second (added b one (with_given first its))) ≡ added b (one ++ other) (with_given second its)
both_added true one other first second its =
    ap (λ lines. record its { given = second; setup = lines }) (append_assoc its.setup one other)
both_added false one other first second its =
    ap (λ lines. record its { given = second; steps = lines }) (append_assoc its.steps one other)

added_twice : (b : Bool) (one other : List StepLine) (its : Members) → added b other (added b one its) ≡ added b (one ++ other) its
added_twice true one other its = ap (λ lines. record its { setup = lines }) (append_assoc its.setup one other)
added_twice false one other its = ap (λ lines. record its { steps = lines }) (append_assoc its.steps one other)

given_after : (b : Bool) (more : List StepLine) (its : Members) → (added b more its).given ≡ its.given
given_after true more its = refl
given_after false more its = refl

-- ---- devices that are attached

pub attached_more : (its : Section) (seat : ℕ) (condition : Option Condition) (first device : ℕ) (old between new : Members)
    → first ≤ device → between ≡ with_steps its (attachments (device - first) seat condition first) old
    → new ≡ with_steps its (attachment seat condition device ∷ []) between
    → new ≡ with_steps its (attachments ((device + 1) - first) seat condition first) old
attached_more its seat condition first device old between new above one other =
    let count = device - first in
    let this : device ≡ first + count = omega (arith, above) in
    let more : suc count ≡ (device + 1) - first = omega (arith, above) in
    let last = attachment seat condition device ∷ [] in
    let some = attachments count seat condition first in
    other ∙ ap (with_steps its last) one ∙ added_twice (is_setup its) some last old
    ∙ ap (λ (n : ℕ). with_steps its (some ++ attachment seat condition n ∷ []) old) this
    ∙ ap (λ (n : ℕ). with_steps its (attachments n seat condition first) old) more

-- ---- devices that are created

-- so many devices are created
pub record AreCreated (its : Section) (count seat : ℕ) (condition : Option Condition) (words rest : List (List ℕ)) (lock : ℕ)
    (old new : Members) : Type 0 where
  pub steps : List StepLine
  pub given : Given
  pub devices : TakeDevices count seat condition words rest lock steps old.given given
  pub is : new ≡ with_steps its steps (with_given given old)

pub created_more : (its : Section) (count seat : ℕ) (condition : Option Condition) (words behind rest : List (List ℕ))
    (below lock : ℕ) (old between new : Members) → AreCreated its count seat condition words behind below old between
    → CreatesDevice its seat condition behind rest below lock between new
    → AreCreated its (count + 1) seat condition words rest lock old new
created_more its count seat condition words behind rest below lock old between new some one =
    let more : suc count ≡ count + 1 = omega (arith) in
    let step = creation seat condition one.driver lock in
    let given = with_device act.CreateDevice one.named in
    let same = ap (λ (members : Members). members.given) some.is ∙ given_after (is_setup its) some.steps (with_given some.given old) in
    let device = subst (λ (given : Given). TakesDevice below behind rest one.driver lock given one.named) same one.device in
    record {
      steps = some.steps ++ step ∷ [];
      given = given;
      devices =
          subst (λ (n : ℕ). TakeDevices n seat condition words rest lock (some.steps ++ step ∷ []) old.given given) more
          (behind, below, one.driver, some.steps, some.given, one.named, some.devices, device, refl, refl);
      is = one.is ∙ ap (λ (members : Members). with_steps its (step ∷ []) (with_given given members)) some.is
          ∙ both_added (is_setup its) some.steps (step ∷ []) some.given given old;
    }
