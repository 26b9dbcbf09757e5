use Rattle.std.proofs.Common.{codes, ◌++◌}
use Rattle.std.specs.Prelude.{◌&&◌}
use Rattle.irp_names.specs.Small.{hex_text, told_if}
use Rattle.irp_orders.specs.Ends.{preparation_text, routine_set_text}
use Rattle.irp_names.proofs.Saying.{says_both}
use Rattle.irp_orders.proofs.ends.put_facts.Goals as goal

pub returns : goal.returns
returns c =
    let facts = c.args.facts in
    let live = c.args.live.now in
    let information = told_if facts.information (codes ", information " ++ hex_text live.information) in
    let cancelled = told_if (facts.cancel && live.cancel) (codes ", cancelled") in
    let routine = told_if facts.cancel_routine (routine_set_text live.cancel_routine) in
    let pending = told_if (facts.pending_returned && live.pending_returned) (codes ", PendingReturned") in
    let held = told_if (facts.slot_held && live.slot_held) (codes ", in a cancel slot") in
    let prepared = told_if facts.preparation (preparation_text live.preparation) in
    says_both information (cancelled ++ (routine ++ (pending ++ (held ++ (prepared))))) _ _ _ c.put_information.ensures
    (says_both cancelled (routine ++ (pending ++ (held ++ (prepared)))) _ _ _ c.put_if.ensures
    (says_both routine (pending ++ (held ++ (prepared))) _ _ _ c.put_routine.ensures
    (says_both pending (held ++ (prepared)) _ _ _ c.put_if-2.ensures
    (says_both held (prepared) _ _ _ c.put_if-3.ensures
    c.put_preparation.ensures))))
