use Rattle.std.proofs.Common.{◌≡◌, ℕ, Global, List, Vec, subst, sym}
use Rattle.std.proofs.lemmas.Result.{err_from_is_err_and}
use Rattle.irp_machine.specs.declared.limits.NotMade.TheVariants as made
use Rattle.irp_script_reader.specs.declared.script.ScriptParts.{ScriptParts}
use Rattle.irp_orders.specs.Rows.{IsSomeStuck, all_orders}
use Rattle.irp_orders.specs.Table.{IsTable}
use Rattle.irp_orders.specs.declared.found.Found.{Found}
use Rattle.irp_orders.proofs.Showing.{unmade_table}
use Rattle.irp_orders.proofs.answering.table_of.Goals as goal

pub returns-in_err-table-clause-untold : goal.returns-in_err-table-clause-untold
returns-in_err-table-clause-untold c =
    let in_rows : c.in_err-table.field-0.0 ≡ made.NoStep → IsSomeStuck c.in_ok-columns.columns.script.now c.in_ok-rows.rows.items =
    subst (λ (rows : List Found). c.in_err-table.field-0.0 ≡ made.NoStep → IsSomeStuck c.in_ok-columns.columns.script.now rows) c.as_slice-2.ensures.value c.in_err-table.ensures.no_step in
    let stuck : c.in_err-table.field-0.0 ≡ made.NoStep → IsSomeStuck c.args.script.now c.in_ok-rows.rows.items =
    subst (λ (script : ScriptParts). c.in_err-table.field-0.0 ≡ made.NoStep → IsSomeStuck script c.in_ok-rows.rows.items) c.in_ok-columns.ensures.script in_rows in
    let passed = err_from_is_err_and c.from_residual-in_err-table.result c.from_residual-in_err-table.ensures.1 in
    rw (passed.1, passed.2)
    (unmade_table c.args.script.now c.args.order.now c.in_ok-rows.rows.items c.in_err-table.field-0.0
    c.in_ok-rows.ensures.rows stuck c.paths_can_be_made.ensures)

pub returns-clause-told : goal.returns-clause-told
returns-clause-told c =
    let rows = c.in_ok-rows.rows.items in
    let columns = c.in_ok-columns.columns in
    let table =
    subst (λ (some : List Found). IsTable columns some c.in_ok-table.field-0.bytes.items) c.as_slice-2.ensures.value c.in_ok-table.ensures.table in
    let orders = subst (λ (some : List Found). columns.orders ≡ all_orders 0 some) c.as_slice.ensures.value c.in_ok-columns.ensures.orders in (
      rows,
      columns,
      c.in_ok-rows.ensures.rows,
      record { script_is = c.in_ok-columns.ensures.script; labels = c.in_ok-columns.ensures.labels; orders = orders },
      subst (λ (bytes : Vec ℕ Global). IsTable columns rows bytes.items) (sym c.into_bytes.ensures.value) table,
    )
