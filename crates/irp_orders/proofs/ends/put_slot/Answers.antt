use Rattle.std.proofs.Common.{codes, ◌++◌}
use Rattle.std.specs.Fmt.{decimal}
use Rattle.irp_orders.specs.Ends.{asked_text, content_text}
use Rattle.irp_names.proofs.Saying.{says_both}
use Rattle.irp_orders.proofs.Putting.{says_told}
use Rattle.irp_orders.proofs.ends.put_slot.Goals as goal

pub returns : goal.returns
returns c =
    let slot = c.args.slot in
    let number = decimal c.args.number in
    let content = content_text slot.content in
    let asked = asked_text slot.flag in
    says_both (codes "    cancel slot " ++ (number ++ (content ++ (asked)))) (codes "\n") _ _ _
    (says_told (codes "    cancel slot ") number (content ++ (asked)) _ _ _ c.tell.ensures
    (says_both content (asked) _ _ _ c.put_content.ensures
    c.put_asked.ensures))
    c.put.ensures
