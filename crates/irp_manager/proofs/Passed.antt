-- A guarded plan is allowed by the tables, and is the asker's where the tables are its own.
use Rattle.std.proofs.Common.{◌≡◌, Bool, true, false, if◌then◌else◌, Some, refl, sym, ◌∙◌, ap, subst}
use Rattle.std.proofs.lemmas.Option.{same_Some}
use Rattle.irp_types.specs.Rules.{is_plan_allowed}
use Rattle.irp_types.specs.State.{Tables, known_of}
use Rattle.irp_types.specs.Allowed.{IsPlanAllowed}
use Rattle.irp_types.specs.declared.names.DispatchId.{DispatchId}
use Rattle.irp_types.specs.declared.routine.Known.{Known}
use Rattle.irp_types.specs.declared.shown.Shown.{Shown}
use Rattle.irp_types.specs.declared.answer.Plan.{Plan}
use Rattle.irp_routines.specs.Guarded.{fixed_plan, guarded_plan}
use Rattle.irp_routines.specs.GuardedFacts.{guarded_plan_allowed}
use Rattle.irp_manager.specs.Passing.{PassesPlan}

-- what passes the test is chosen
chosen : {T : Type 0} (passes : Bool) (given fixed : T) → passes ≡ true → (if passes then given else fixed) ≡ given
chosen true given fixed is = refl
chosen false given fixed is = absurd (cc)

pub plan_passes : (tables own : Tables) (may : DispatchId → Shown → Plan → Type 0) (id : DispatchId) (shown : Shown) (known : Known) (given plan : Plan)
    → known_of tables id ≡ Some known → plan ≡ guarded_plan known shown given
    → (own ≡ tables → may id shown given) → (may id shown given → IsPlanAllowed own id shown given)
    → PassesPlan tables (own ≡ tables) may id shown plan
plan_passes tables own may id shown known given plan there guarded asked law = record {
  allowed = record { known = known; there = there; allowed = subst (λ passed. is_plan_allowed known shown passed ≡ true) (sym guarded) (guarded_plan_allowed known shown given) };
  given = λ same.
      let told = asked same in
      let allowed = law told in
      let own_known : known_of own id ≡ Some known = ap (λ (found : Tables). known_of found id) same ∙ there in
      let is : allowed.known ≡ known = same_Some allowed.known known (sym allowed.there ∙ own_known) in
      let passes : is_plan_allowed known shown given ≡ true = subst (λ found. is_plan_allowed found shown given ≡ true) is allowed.allowed in
      subst (may id shown) (sym (guarded ∙ chosen (is_plan_allowed known shown given) given fixed_plan passes)) told;
}
