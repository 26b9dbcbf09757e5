-- The outcomes of a script, in another order.
use Rattle.std.proofs.Common.{◌≢◌, ◌≤◌, ◌*◌, ◌∙◌, ℕ, Bool, List, sym}
use Rattle.std.specs.List.Sorted.{IsPermutation}
use Rattle.std.proofs.lemmas.List.Sorted.{All-permutation, Contains-permutation, IsPermutation-map, sum_by-IsPermutation}
use Rattle.irp_explore.specs.Paths.{changes_of}
use Rattle.irp_explore.proofs.Permuting.{pairs_permuted}
use Rattle.irp_machine.specs.Machine.{RulesValue}
use Rattle.irp_machine.specs.Openings.{rules_of}
use Rattle.irp_machine.specs.Orders.{AreOutcomes, AreOutcomesOf, IsCounted, IsOrder, ends_of}
use Rattle.irp_machine.specs.Standings.{StandingValue}
use Rattle.irp_machine.specs.declared.outcome.Outcome.{Outcome}
use Rattle.irp_machine.specs.declared.place.Place.TheVariants.{Over}
use Rattle.irp_script_reader.specs.declared.script.ScriptParts.{ScriptParts}

whole_permuted : (rules : RulesValue) (start : StandingValue) (one other : List Outcome) → IsPermutation one other
    → AreOutcomes rules start one → AreOutcomes rules start other
whole_permuted rules start one other permuted whole = record {
  sound =
      All-permutation (λ (outcome : Outcome). IsOrder rules start outcome.path.items outcome.end) one other permuted whole.sound;
  fewest =
      All-permutation (λ (outcome : Outcome). (path : List ℕ) → IsOrder rules start path outcome.end
      → changes_of outcome.path.items ≤ changes_of path) one other permuted whole.fewest;
  complete = λ path end order.
      Contains-permutation (ends_of one) (ends_of other) end
      (IsPermutation-map (λ (outcome : Outcome). outcome.end) one other permuted) (whole.complete path end order);
  once =
      pairs_permuted (λ (one other : Outcome). one.end ≢ other.end) (λ one other differ same. differ (sym same)) one other permuted
      whole.once;
  counted = All-permutation (IsCounted rules start) one other permuted whole.counted;
  orders = λ number shared.
      sum_by-IsPermutation (λ (outcome : Outcome). outcome.orders * number (Over outcome.end)) one other permuted
      ∙ whole.orders number shared;
}

pub outcomes_permuted : (script : ScriptParts) (tells : Bool) (one other : List Outcome) → IsPermutation one other
    → AreOutcomesOf script tells one → AreOutcomesOf script tells other
outcomes_permuted script tells one other permuted are = record {
  header = are.header;
  headed = are.headed;
  accepted = are.accepted;
  start = are.start;
  opens = are.opens;
  whole =
      whole_permuted (rules_of are.header script script.steps script.steps tells) are.start one other permuted are.whole;
}
