use Rattle.std.proofs.Common.{◌≡◌, ap, ◌∙◌, sym, nat_eq}
use Rattle.serde_json.specs.View.{items_view}
use Rattle.serde_json.specs.Events.{items_len}
use Rattle.serde_json.proofs.Views.{view-Array, items_len-items_view}
use Rattle.irp_forms.proofs.parts.has_items.Goals as goal

pub returns-in-Array : goal.returns-in-Array
returns-in-Array c =
    let count : c.len.result ≡ items_len (items_view c.in-Array.items.items) = c.len.ensures ∙ c.in-Array.items.ok.0 ∙ sym (items_len-items_view c.in-Array.items.items) in
    rw (c.in-Array.is, view-Array c.in-Array.items) (ap (λ n. nat_eq n c.args.count) count)
