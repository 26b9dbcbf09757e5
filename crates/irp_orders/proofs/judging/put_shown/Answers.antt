use Rattle.std.proofs.Common.{ℕ, List, ◌++◌, subst}
use Rattle.irp_names.specs.Sinks.{Says}
use Rattle.irp_orders.specs.Lines.{PutsInOrder, told_lines}
use Rattle.irp_orders.specs.Table.{end_lines, head_line}
use Rattle.irp_orders.specs.Told.{seats_line}
use Rattle.irp_names.proofs.Saying.{says_both}
use Rattle.irp_orders.proofs.judging.put_shown.Goals as goal

pub returns-clause-puts : goal.returns-clause-puts
returns-clause-puts c =
    let columns = c.args.columns.now in
    let found = c.args.found.now in
    let puts =
    subst (λ (path : List ℕ). PutsInOrder columns path c.put_head.new.out c.put_in_order.new.out) c.as_slice-path.ensures.value
    c.in_ok-put_in_order.ensures.puts in
    let head = head_line columns.orders c.args.number found in
    let steps = told_lines columns.labels.now columns.script.now.steps puts.0 in
    let ends = end_lines columns found.outcome.end in
    let seats = seats_line found.outcome.path.items in (
      puts.0,
      puts.1,
      (says_both head (steps ++ (ends ++ (seats))) _ _ _ c.put_head.ensures
          (says_both steps (ends ++ (seats)) _ _ _ puts.2
          (says_both ends (seats) _ _ _ c.put_end.ensures
          (subst (λ (path : List ℕ). Says (seats_line path) c.put_end.new.out c.put_seats.new.out) c.as_slice-path.ensures.value c.put_seats.ensures)))),
    )
