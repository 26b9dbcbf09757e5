use Rattle.std.proofs.Common.{codes, ◌++◌}
use Rattle.std.proofs.Common.{length}
use Rattle.irp_orders.specs.Counts.{orders_text, outcomes_text}
use Rattle.irp_orders.specs.Rows.{all_orders}
use Rattle.irp_orders.specs.Told.{kept_words}
use Rattle.irp_names.proofs.Saying.{says_both}
use Rattle.irp_orders.proofs.judging.put_kept.Goals as goal

pub returns : goal.returns
returns c =
    let founds = c.args.founds.now in
    let words = kept_words c.args.question in
    let orders = orders_text (all_orders 0 founds) in
    let outcomes = outcomes_text (length founds) in
    says_both (words ++ (orders ++ (codes ", " ++ (outcomes)))) (codes "\n") _ _ _
    (says_both words (orders ++ (codes ", " ++ (outcomes))) _ _ _ c.put_kept_words.ensures
    (says_both orders (codes ", " ++ (outcomes)) _ _ _ c.put_orders_of.ensures
    (says_both (codes ", ") (outcomes) _ _ _ c.put.ensures
    c.put_outcomes.ensures)))
    c.put-2.ensures
