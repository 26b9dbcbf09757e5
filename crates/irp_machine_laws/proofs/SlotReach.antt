-- What holds of each slot behind each order.
use Rattle.std.proofs.Common.{◌≡◌, ℕ, ◌<◌, Bool, true, false, not, ◌&&◌, refl, sym, ◌∙◌, subst, arith}
use Rattle.std.proofs.lemmas.Bool.{false≢true}
use Rattle.irp_slots.specs.declared.views.Stage.{Stage}
use Rattle.irp_slots.specs.declared.views.Stage.TheVariants.{Idle, Published, Standing, Done}
use Rattle.irp_slots.specs.declared.views.Parties.{Parties}
use Rattle.irp_slots.specs.Core.{content_of, is_resting, is_standing}
use Rattle.irp_slots.proofs.Lawful.{rest_law}
use Rattle.irp_machine.specs.Machine.{RulesValue}
use Rattle.irp_machine.specs.Openings.{rules_of}
use Rattle.irp_machine.specs.Standings.{StandingValue}
use Rattle.irp_machine_laws.specs.Seats.{one_if}
use Rattle.irp_machine_laws.specs.SlotLaws.{IsEmptyAtRest, SlotReachLaw}
use Rattle.irp_machine_laws.specs.SlotTables.{SlotTable, StandsFor, is_published, owner_no}
use Rattle.irp_machine_laws.proofs.SlotOpening.{slot_order_law}

-- an owner that neither stands nor is in its publication rests
rests : (stage : Stage) (found_set : Bool) → is_standing stage ≡ false → one_if (is_published stage && not found_set) ≡ 0 → one_if (is_published stage && found_set) ≡ 0 → is_resting stage ≡ true
rests Idle found_set down none_put none_found = refl
rests Published true down none_put none_found = absurd (omega arith)
rests Published false down none_put none_found = absurd (omega arith)
rests Standing found_set down none_put none_found = absurd (false≢true (sym down))
rests Done found_set down none_put none_found = refl

empty_at_rest : (rules : RulesValue) (standing : StandingValue) (key : Parties) (table : SlotTable) → StandsFor rules standing key table → (number : ℕ) → number < key.slots → IsEmptyAtRest rules.acts standing number
empty_at_rest rules standing key table r number inside down none_put none_found =
    let is = r.owned number inside in
    let o = is.owning in
    let resting = rests o.stage o.found_set (sym is.stands_is ∙ down) (sym is.puts_is ∙ none_put) (sym is.finds_is ∙ none_found) in
    let empty = rest_law key table (owner_no number) o (r.kept, is.at, subst (λ (n : ℕ). n < key.slots) (sym is.own) inside) resting in
    sym is.content_is ∙ subst (λ (n : ℕ). content_of table.words n ≡ 0) is.own empty

pub slot_reach_law : SlotReachLaw
slot_reach_law header script rivals steps tells start path new order number less =
    let done = slot_order_law header script rivals steps tells start path new order in
    empty_at_rest (rules_of header script rivals steps tells) new done.0 done.2 done.6 number (subst (λ (n : ℕ). number < n) (sym done.3) less)
