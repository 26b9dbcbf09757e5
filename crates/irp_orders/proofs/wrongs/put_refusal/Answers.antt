use Rattle.std.proofs.Common.{codes, ◌++◌}
use Rattle.std.specs.Fmt.{decimal}
use Rattle.irp_orders.specs.Wrongs.{reason_of}
use Rattle.irp_names.proofs.Saying.{says_both}
use Rattle.irp_orders.proofs.Putting.{says_told}
use Rattle.irp_orders.proofs.wrongs.put_refusal.Goals as goal

pub returns : goal.returns
returns c =
    let place = decimal c.args.place in
    let of = c.args.of.now in
    let reason = reason_of c.args.answer in
    says_both (codes "wrong: step " ++ (place ++ (of ++ (codes " was refused: " ++ (reason))))) (codes "\n") _ _ _
    (says_told (codes "wrong: step ") place (of ++ (codes " was refused: " ++ (reason))) _ _ _ c.tell.ensures
    (says_both of (codes " was refused: " ++ (reason)) _ _ _ c.put.ensures
    (says_both (codes " was refused: ") (reason) _ _ _ c.put-2.ensures
    c.put_reason.ensures)))
    c.put-3.ensures
