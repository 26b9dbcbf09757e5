-- The words of all rows are those of the table.
use Rattle.std.proofs.Common.{◌∙◌, ap, map}
use Rattle.std.proofs.lemmas.List.{take_all}
use Rattle.irp_names.specs.Statuses.{status_rows}
use Rattle.irp_orders.specs.Conditions.{word_of}
use Rattle.irp_orders.proofs.Naming.{lent_word, rows_are_words}
use Rattle.irp_orders.proofs.names.status_names.Goals as goal

pub returns : goal.returns
returns c =
    let rows = c.status_names-rows.result.now in
    rows_are_words rows status_rows (map word_of c.loop-row.names.items) c.status_names-rows.ensures
    (c.loop-row.invariant ∙ ap (map lent_word) (take_all c.loop-row.row-index rows c.loop-row-test.false))
