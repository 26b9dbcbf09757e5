-- A guarded answer is allowed.
use Rattle.std.specs.Prelude.{◌≡◌, Bool, true, false, not, ◌&&◌, if◌then◌else◌, refl}
use mathlib.Core.Bool.{beq}
use Rattle.std.proofs.Common.{ap, ◌∙◌}
use Rattle.irp_types.specs.Status.{is_success}
use Rattle.irp_types.specs.Rules.{is_allowed, is_plan_allowed, is_cancel_allowed, right_mark}
use Rattle.irp_types.specs.declared.routine.Rule.{Rule}
use Rattle.irp_types.specs.declared.routine.Rule.TheVariants.{Watch, Change, Keeper, KeepOnError, Free}
use Rattle.irp_types.specs.declared.routine.CancelRule.{CancelRule}
use Rattle.irp_types.specs.declared.routine.CancelRule.TheVariants.{MustFinish, MustLeave, Either}
use Rattle.irp_types.specs.declared.routine.Known.{Known}
use Rattle.irp_types.specs.declared.shown.Shown.{Shown}
use Rattle.irp_types.specs.declared.answer.Answer.{Answer}
use Rattle.irp_types.specs.declared.answer.CancelAnswer.{CancelAnswer}
use Rattle.irp_types.specs.declared.answer.Plan.{Plan}
use Rattle.irp_routines.specs.Guarded.{fixed_answer, fixed_plan, fixed_cancel, guarded_answer, guarded_plan}
use Rattle.irp_routines.specs.Guarded.{guarded_cancel}

-- what passes a test, or else one that is known to pass it
pub chosen_passes : {T : Type 0} (test : T → Bool) (given fixed : T) (passes : Bool) → test given ≡ passes
    → test fixed ≡ true → test (if passes then given else fixed) ≡ true
chosen_passes test given fixed true is other = is
chosen_passes test given fixed false is other = other

same : (test : Bool) → beq test test ≡ true
same true = refl
same false = refl

both : (first second : Bool) → first ≡ true → second ≡ true → (first && second) ≡ true
both first second first_is second_is = ap (λ test. test && second) first_is ∙ second_is

pub fixed_allowed : (rule : Rule) (shown : Shown) → is_allowed rule shown (fixed_answer rule shown) ≡ true
fixed_allowed Watch shown = both _ _ (same (right_mark shown false)) refl
fixed_allowed Change shown = both _ _ (same (right_mark shown false)) refl
fixed_allowed Keeper shown = both _ _ (same (right_mark shown true)) refl
fixed_allowed KeepOnError shown =
    both _ _ (same (right_mark shown (not (is_success shown.status))))
    (both _ _ (same (not (is_success shown.status))) refl)
fixed_allowed Free shown = both _ _ (same (right_mark shown false)) refl

pub guarded_allowed : (rule : Rule) (shown : Shown) (answer : Answer)
    → is_allowed rule shown (guarded_answer rule shown answer) ≡ true
guarded_allowed rule shown answer =
    chosen_passes (is_allowed rule shown) answer (fixed_answer rule shown) (is_allowed rule shown answer) refl
    (fixed_allowed rule shown)

pub guarded_plan_allowed : (known : Known) (shown : Shown) (plan : Plan)
    → is_plan_allowed known shown (guarded_plan known shown plan) ≡ true
guarded_plan_allowed known shown plan =
    chosen_passes (is_plan_allowed known shown) plan fixed_plan (is_plan_allowed known shown plan) refl refl

fixed_cancel_allowed : (rule : CancelRule) → is_cancel_allowed rule (fixed_cancel rule) ≡ true
fixed_cancel_allowed MustFinish = refl
fixed_cancel_allowed MustLeave = refl
fixed_cancel_allowed Either = refl

pub guarded_cancel_allowed : (rule : CancelRule) (answer : CancelAnswer)
    → is_cancel_allowed rule (guarded_cancel rule answer) ≡ true
guarded_cancel_allowed rule answer =
    chosen_passes (is_cancel_allowed rule) answer (fixed_cancel rule) (is_cancel_allowed rule answer) refl
    (fixed_cancel_allowed rule)
