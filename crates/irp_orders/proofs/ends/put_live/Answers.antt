use Rattle.std.proofs.Common.{codes, ◌++◌}
use Rattle.std.specs.Fmt.{decimal}
use Rattle.irp_names.specs.Small.{owner_text, packet_text}
use Rattle.irp_names.specs.Statuses.{status_text}
use Rattle.irp_orders.specs.Ends.{facts_text, names_text, reference_of}
use Rattle.irp_names.proofs.Saying.{says_both}
use Rattle.irp_orders.proofs.Putting.{says_told}
use Rattle.irp_orders.proofs.ends.put_live.Goals as goal

pub returns : goal.returns
returns c =
    let live = c.args.live.now in
    let names = names_text live c.args.labels.now c.args.named.now in
    let use_text = packet_text (reference_of live) in
    let owner = owner_text live.owner in
    let current = decimal live.current in
    let status = status_text live.status in
    let facts = facts_text c.args.facts live in
    says_both (codes "    " ++ (names ++ (use_text ++ (codes ": " ++ (owner ++ (codes ", current location " ++ (current ++ (codes ", " ++ (status ++ (facts)))))))))) (codes "\n") _ _ _
    (says_both (codes "    ") (names ++ (use_text ++ (codes ": " ++ (owner ++ (codes ", current location " ++ (current ++ (codes ", " ++ (status ++ (facts))))))))) _ _ _ c.put.ensures
    (says_both names (use_text ++ (codes ": " ++ (owner ++ (codes ", current location " ++ (current ++ (codes ", " ++ (status ++ (facts)))))))) _ _ _ c.put_names.ensures
    (says_both use_text (codes ": " ++ (owner ++ (codes ", current location " ++ (current ++ (codes ", " ++ (status ++ (facts))))))) _ _ _ c.put_use.ensures
    (says_told (codes ": ") owner (codes ", current location " ++ (current ++ (codes ", " ++ (status ++ (facts))))) _ _ _ c.tell.ensures
    (says_told (codes ", current location ") current (codes ", " ++ (status ++ (facts))) _ _ _ c.tell-2.ensures
    (says_told (codes ", ") status (facts) _ _ _ c.tell-3.ensures
    c.put_facts.ensures))))))
    c.put-2.ensures
