use Rattle.std.proofs.Common.{ℕ, List, subst}
use Rattle.irp_orders.specs.Lines.{PutsDiffering}
use Rattle.irp_orders.proofs.Tabling.{puts_row}
use Rattle.irp_orders.proofs.table.put_row.Goals as goal

pub returns-clause-puts : goal.returns-clause-puts
returns-clause-puts c =
    puts_row c.args.columns.now c.args.number c.args.row.now c.args.out.now c.put_head.new.out c.put_differing_in_order.new.out
    c.put_end.new.out c.put_head.ensures
    (subst (λ (path : List ℕ). PutsDiffering c.args.columns.now path c.put_head.new.out c.put_differing_in_order.new.out)
    c.as_slice.ensures.value c.in_ok-put_differing_in_order.ensures.puts)
    c.put_end.ensures
