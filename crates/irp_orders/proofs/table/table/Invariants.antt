use Rattle.irp_orders.proofs.Tabling.{TellsRows}
use Rattle.irp_orders.proofs.table.table.Given as goal

-- the head and the lines of the rows so far stand there
abbrev pub invariant-loop-place : goal.invariant-loop-place
invariant-loop-place l = TellsRows l.columns l.rows l.place l.out
