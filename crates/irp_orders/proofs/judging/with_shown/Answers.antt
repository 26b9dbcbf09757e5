-- Why an outcome isn't right stands behind its lines.
use Rattle.std.proofs.Common.{◌∙◌, Some, ap, subst, sym}
use Rattle.std.specs.Vec.{vec_items}
use Rattle.irp_orders.specs.Told.{Explains}
use Rattle.irp_orders.specs.declared.judging.Question.{Question}
use Rattle.irp_orders.proofs.Shown.{shown_wrong}
use Rattle.irp_orders.proofs.judging.with_shown.Goals as goal

pub returns-in_ok-put_such-in-Right-clause-shown : goal.returns-in_ok-put_such-in-Right-clause-shown
returns-in_ok-put_such-in-Right-clause-shown c =
    let columns = c.args.columns.now in
    let found = c.args.found.now in
    let whole = c.in_ok-finish-in-Right.ensures.ok ∙ ap (λ text. Some (vec_items text)) (sym c.into_bytes-text.ensures.value) in
    shown_wrong columns c.args.question c.in-Right.setup.now c.saturating_add.result c.args.place found c.args.out
    c.put_shown.new.out c.put_wrongs.new.out c.into_bytes-text.result.items c.put_such.new.out.items c.saturating_add.ensures
    (λ before after such. subst (λ (question : Question). Explains columns question found before after) (sym c.in-Right.is) such)
    c.in_ok-put_shown.ensures.puts c.put_wrongs.ensures whole c.in_ok-put_such-in-Right.ensures
