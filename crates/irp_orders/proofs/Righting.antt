-- How the program ends that was asked whether every order ends right.
use Rattle.std.proofs.Common.{◌≡◌, ◌≤◌, ℕ, zero, suc, Bool, true, false, List, Option, Some, None, get_or, refl, sym, subst, arith, All}
use Rattle.std.specs.Prelude.{◌↔◌, IsTrue, not}
use Rattle.std.proofs.lemmas.List.Elements.{All-map}
use Rattle.irp_types.specs.declared.entry.Entry.{Entry}
use Rattle.irp_machine.specs.Orders.{AreOutcomesOf}
use Rattle.irp_machine.specs.declared.outcome.End.{End}
use Rattle.irp_machine.specs.declared.outcome.Outcome.{Outcome}
use Rattle.irp_script_reader.specs.declared.act.Step.{Step}
use Rattle.irp_script_reader.specs.declared.script.ScriptParts.{ScriptParts}
use Rattle.irp_orders.specs.Facts.{answers_of}
use Rattle.irp_orders.specs.Founds.{outcomes_of}
use Rattle.irp_orders.specs.Judging.{IsExamined, IsVerdict, IsWrong, verdict_ending}
use Rattle.irp_orders.specs.Program.{Examines}
use Rattle.irp_orders.specs.Right.{IsAccepted, IsBack, IsEmpty, IsReleased, IsRight, IsSetup, IsTaken, IsWithoutRoutine}
use Rattle.irp_orders.specs.declared.asked.Order.{Order}
use Rattle.irp_orders.specs.declared.ending.Ending.{Ending}
use Rattle.irp_orders.specs.declared.found.Found.{Found}
use Rattle.irp_orders.proofs.Programs.{contained}

-- ---- what can't be wrong is right

all_stable : {X : Type 0} (P : X → Type 0) (xs : List X) → ((x : X) → ((P x → ⊥) → ⊥) → P x) → ((All P xs → ⊥) → ⊥) → All P xs
all_stable P xs stable held k d low = stable (get_or xs k d) (λ no. held (λ all. no (all k d low)))

false_stable : (test : Bool) → ((test ≡ false → ⊥) → ⊥) → test ≡ false
false_stable false held = refl
false_stable true held = absurd (held (λ same. cc))

none_stable : {X : Type 0} (routine : Option X) → ((routine ≡ None → ⊥) → ⊥) → routine ≡ None
none_stable None held = refl
none_stable (Some id) held = absurd (held (λ same. cc))

zero_stable : (n : ℕ) → ((n ≡ 0 → ⊥) → ⊥) → n ≡ 0
zero_stable zero held = refl
zero_stable (suc n) held = absurd (held (λ same. omega (arith, same)))

one_stable : (n : ℕ) → ((n ≤ 1 → ⊥) → ⊥) → n ≤ 1
one_stable zero held = omega arith
one_stable (suc zero) held = omega arith
one_stable (suc (suc n)) held = absurd (held (λ less. omega (arith, less)))

right_stable : (steps : List Step) (setup : List Entry) (end : End) → ((IsRight steps setup end → ⊥) → ⊥) → IsRight steps setup end
right_stable steps setup end held = record {
  setup_taken = all_stable IsTaken setup (λ entry. false_stable _) (λ no. held (λ right. no right.setup_taken));
  accepted = all_stable IsAccepted (answers_of steps end) (λ answer. false_stable _) (λ no. held (λ right. no right.accepted));
  back = all_stable IsBack end.packets (λ live. false_stable _) (λ no. held (λ right. no right.back));
  released = all_stable IsReleased end.locks (λ lock. one_stable lock.word) (λ no. held (λ right. no right.released));
  empty = all_stable IsEmpty end.slots (λ slot. zero_stable slot.content) (λ no. held (λ right. no right.empty));
  without_routine =
      all_stable IsWithoutRoutine end.packets (λ live. none_stable live.cancel_routine) (λ no. held (λ right. no right.without_routine));
}

-- a mark tells that an outcome isn't right
pub wrong_mark : (steps : List Step) (setup : List Entry) (found : Found) (right : Bool)
    → ((right ≡ true) ↔ IsRight steps setup found.outcome.end) → IsTrue (not right) ↔ IsWrong steps setup found
wrong_mark steps setup found true is = (λ no right. cc, λ wrong. absurd (wrong (is.0 refl)))
wrong_mark steps setup found false is = (λ yes right. let same = is.1 right in cc, λ wrong. refl)

-- ---- examining

examined_by : (script : ScriptParts) (order : Order) (founds : List Found) (setup : List Entry) (shown : Option ℕ)
    → AreOutcomesOf script true (outcomes_of founds) → IsSetup script setup
    → IsVerdict (IsWrong script.steps setup) founds shown → Examines script order (verdict_ending shown)
examined_by script order founds setup None are set none = (
  outcomes_of founds,
  setup,
  record { outcomes_are = are; set_up = set },
  All-map (λ (outcome : Outcome). IsRight script.steps setup outcome.end) (λ (found : Found). found.outcome) founds
      (λ k d low. right_stable script.steps setup (get_or founds k d).outcome.end (none k d low)),
)
examined_by script order founds setup (Some place) are set best = (
  outcomes_of founds,
  setup,
  best.0.outcome,
  record { outcomes_are = are; set_up = set },
  contained founds place best.0 best.1,
  best.2.breach,
)

pub examined_examines : (script : ScriptParts) (order : Order) (founds : List Found) (ending : Ending)
    → AreOutcomesOf script true (outcomes_of founds) → IsExamined script founds ending → Examines script order ending
examined_examines script order founds ending are examined =
    subst (λ (ending : Ending). Examines script order ending) (sym examined.judged.ends)
    (examined_by script order founds examined.setup examined.judged.shown are examined.set_up examined.judged.verdict)
