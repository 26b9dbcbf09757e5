-- The rows were put one behind the other.
use Rattle.std.proofs.lemmas.Result.{on_ok_weaker}
use Rattle.irp_view.proofs.Rows.{all_rows}
use Rattle.irp_view.proofs.block.put_rows.Goals as goal

pub returns : goal.returns
returns c =
    on_ok_weaker c.put_broken.result
    (all_rows c.args.entry.now c.args.wrong.now _ _ _ _ _ _ _ c.in_ok-put_head.ensures c.in_ok-put_differs.ensures c.in_ok-put_says.ensures c.in_ok-put_says-2.ensures)
    c.put_broken.ensures
