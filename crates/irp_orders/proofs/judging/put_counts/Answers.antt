use Rattle.std.proofs.Common.{codes, ◌++◌}
use Rattle.std.proofs.Common.{Bool, length}
use Rattle.std.specs.List.{count_by}
use Rattle.std.specs.Fmt.{decimal}
use Rattle.irp_orders.specs.Counts.{orders_text, outcomes_text}
use Rattle.irp_orders.specs.Rows.{all_orders}
use Rattle.irp_orders.specs.Told.{broken_words, marked}
use Rattle.irp_names.proofs.Saying.{says_both}
use Rattle.irp_orders.proofs.judging.put_counts.Goals as goal

pub returns : goal.returns
returns c =
    let founds = c.args.founds.now in
    let marks = c.args.marks.now in
    let words = broken_words c.args.question in
    let broken = decimal (all_orders 0 (marked founds marks)) in
    let orders = orders_text (all_orders 0 founds) in
    let those = decimal (count_by (λ (mark : Bool). mark) marks) in
    let outcomes = outcomes_text (length founds) in
    says_both (words ++ (broken ++ (codes " of " ++ (orders ++ (codes ", " ++ (those ++ (codes " of " ++ (outcomes ++ (codes "; one of them:"))))))))) (codes "\n") _ _ _
    (says_both words (broken ++ (codes " of " ++ (orders ++ (codes ", " ++ (those ++ (codes " of " ++ (outcomes ++ (codes "; one of them:")))))))) _ _ _ c.put_broken_words.ensures
    (says_both broken (codes " of " ++ (orders ++ (codes ", " ++ (those ++ (codes " of " ++ (outcomes ++ (codes "; one of them:"))))))) _ _ _ c.put_marked_orders.ensures
    (says_both (codes " of ") (orders ++ (codes ", " ++ (those ++ (codes " of " ++ (outcomes ++ (codes "; one of them:")))))) _ _ _ c.put.ensures
    (says_both orders (codes ", " ++ (those ++ (codes " of " ++ (outcomes ++ (codes "; one of them:"))))) _ _ _ c.put_orders_of.ensures
    (says_both (codes ", ") (those ++ (codes " of " ++ (outcomes ++ (codes "; one of them:")))) _ _ _ c.put-2.ensures
    (says_both those (codes " of " ++ (outcomes ++ (codes "; one of them:"))) _ _ _ c.put_marked_outcomes.ensures
    (says_both (codes " of ") (outcomes ++ (codes "; one of them:")) _ _ _ c.put-3.ensures
    (says_both outcomes (codes "; one of them:") _ _ _ c.put_outcomes.ensures
    c.put-4.ensures))))))))
    c.put-5.ensures
