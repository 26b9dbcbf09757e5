use Rattle.std.proofs.Common.{ℕ, Bool, List, Option, subst, sym}
use Rattle.irp_orders.specs.Told.{IsBrokenText, IsToldText}
use Rattle.irp_orders.proofs.judging.told.Goals as goal

pub returns-in_ok-text-in-Some-clause-text : goal.returns-in_ok-text-in-Some-clause-text
returns-in_ok-text-in-Some-clause-text c =
    let columns = c.args.columns.now in
    let founds = c.args.founds.now in
    let question = c.args.question in
    let text = c.in_ok-text-in-Some.text.items in
    subst (λ (shown : Option ℕ). IsToldText columns founds question c.args.judged.now.marks.items shown text) (sym c.in-Some.is)
    (subst (λ (marks : List Bool). IsBrokenText columns founds question marks c.in-Some.place text) c.as_slice-marks.ensures.value
    c.in_ok-text-in-Some.ensures.text)
