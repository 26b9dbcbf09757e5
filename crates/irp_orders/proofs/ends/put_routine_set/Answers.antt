use Rattle.std.proofs.Common.{Option, codes, subst, sym}
use Rattle.std.specs.Fmt.{decimal}
use Rattle.irp_types.specs.declared.names.CancelId.{CancelId}
use Rattle.irp_names.specs.Sinks.{Says}
use Rattle.irp_orders.specs.Ends.{routine_set_text}
use Rattle.irp_orders.proofs.Putting.{says_told}
use Rattle.irp_orders.proofs.ends.put_routine_set.Goals as goal

pub returns-in-Some : goal.returns-in-Some
returns-in-Some c =
    let number = decimal c.in-Some.id.0 in
    subst (λ (routine : Option CancelId). Says (routine_set_text routine) c.args.out.now c.put.new.self) (sym c.in-Some.is)
    (says_told (codes ", cancel routine ") number (codes " set") _ _ _ c.tell.ensures
    c.put.ensures)
