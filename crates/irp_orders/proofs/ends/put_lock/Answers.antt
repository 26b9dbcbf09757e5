use Rattle.std.proofs.Common.{codes, ◌++◌}
use Rattle.std.specs.Fmt.{decimal}
use Rattle.irp_names.specs.Small.{hex_text}
use Rattle.irp_orders.specs.Ends.{holders_text, removal_text}
use Rattle.irp_names.proofs.Saying.{says_both}
use Rattle.irp_orders.proofs.Putting.{says_told}
use Rattle.irp_orders.proofs.ends.put_lock.Goals as goal

pub returns : goal.returns
returns c =
    let lock = c.args.lock.now in
    let number = decimal c.args.number in
    let word = hex_text lock.word in
    let removal = removal_text lock.word in
    let holders = holders_text (codes ", held by seat ") lock in
    says_both (codes "    remove lock " ++ (number ++ (codes ": word " ++ (word ++ (removal ++ (holders)))))) (codes "\n") _ _ _
    (says_told (codes "    remove lock ") number (codes ": word " ++ (word ++ (removal ++ (holders)))) _ _ _ c.tell.ensures
    (says_told (codes ": word ") word (removal ++ (holders)) _ _ _ c.tell_hexadecimal.ensures
    (says_both removal (holders) _ _ _ c.put_removal.ensures
    c.put_holders.ensures)))
    c.put.ensures
