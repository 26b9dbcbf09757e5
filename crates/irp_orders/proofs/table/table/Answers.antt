use Rattle.std.proofs.Common.{◌∙◌, length, refl, sym}
use Rattle.std.proofs.lemmas.Option.{slice_get_read}
use Rattle.std.proofs.lemmas.Result.{err_from_is_err_and}
use Rattle.irp_orders.proofs.Tabling.{tells_more, tells_none}
use Rattle.irp_orders.proofs.table.table.Goals as goal

pub returns-in_err-put_row : goal.returns-in_err-put_row
returns-in_err-put_row c =
    let rows = c.args.rows.now in
    let p = err_from_is_err_and c.from_residual.result c.from_residual.ensures.1 in
    rw p.1 (record {
      table = tt;
      no_step = λ same. (
        c.loop-place.place,
        c.index-rows-place.result,
        slice_get_read rows (length rows) c.loop-place.place c.index-rows-place.result refl c.loop-place-test.true c.index-rows-place.is,
        c.in_err-put_row.ensures.no_step (sym p.2 ∙ same),
      );
    })

pub loop-place-init : goal.loop-place-init
loop-place-init c = tells_none c.args.columns.now c.args.rows.now _ _ c.new-out.ensures c.put_table_head.ensures

pub loop-place-preserved : goal.loop-place-preserved
loop-place-preserved c =
    tells_more c.args.columns.now c.args.rows.now c.loop-place.place c.index-rows-place.result _ _ c.loop-place-test.true
    c.index-rows-place.is c.loop-place.invariant c.in_ok-put_row.ensures.puts
