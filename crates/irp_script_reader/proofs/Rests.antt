-- A list from some place on is the item there and the list after it.
use Rattle.std.proofs.Common.{◌≡◌, ℕ, ◌+◌, ◌<◌, List, length, drop, get_or, Result, sym, ap, ◌∙◌}
use Rattle.std.proofs.lemmas.List.{at_drop_more}
use Rattle.serde_json.specs.Data.{Data}
use Rattle.serde_json.specs.View.{view, items_view}
use Rattle.serde_json.specs.declared.value.Value.{Value}
use Rattle.irp_script_reader.specs.Taking.{members_at, told}
use Rattle.irp_script_reader.specs.declared.{refusal.MemberFault.MemberFault, refusal.Section.Section}

-- the list with the next member taken
pub members_more : {L : Type 0} (takes : L → Data → Result L MemberFault) (section : Section) (values : List Value) (i : ℕ) (list : L) (value : Value)
    → i < length values → value ≡ get_or values i value
    → members_at takes section i list (items_view (drop i values))
    ≡ told section i (λ next. members_at takes section (i + 1) next (items_view (drop (i + 1) values))) (takes list (view value))
members_more takes section values i list value h e =
    at_drop_more (λ rest. members_at takes section i list (items_view rest)) values i value h
    ∙ ap (λ given. told section i (λ next. members_at takes section (i + 1) next (items_view (drop (i + 1) values))) (takes list (view given))) (sym e)
