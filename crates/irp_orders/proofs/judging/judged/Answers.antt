use Rattle.std.proofs.Common.{◌↔◌, ◌∙◌, Bool, length, ap, List, subst, sym}
use Rattle.std.specs.Prelude.{IsTrue}
use Rattle.std.proofs.lemmas.Slice.Zip.{AllZip-long}
use Rattle.irp_orders.specs.Judging.{AreMarks, Breaks}
use Rattle.irp_orders.specs.declared.found.Found.{Found}
use Rattle.irp_orders.proofs.Verdicts.{verdict_from}
use Rattle.irp_orders.proofs.judging.judged.Goals as goal

pub shortest-shown-requires : goal.shortest-shown-requires
shortest-shown-requires c =
    ap (λ (marks : List Bool). length marks) c.as_slice.ensures.value
    ∙ AllZip-long (λ (found : Found) (mark : Bool). IsTrue mark ↔ Breaks c.args.steps.now c.args.question found)
    c.args.founds.now c.in_ok-marks.marks.items c.in_ok-marks.ensures

pub returns-clause-verdict : goal.returns-clause-verdict
returns-clause-verdict c =
    verdict_from (Breaks c.args.steps.now c.args.question) c.args.founds.now c.as_slice.result.now c.shortest-shown.result
    (subst (λ (marks : List Bool). AreMarks (Breaks c.args.steps.now c.args.question) c.args.founds.now marks)
    (sym c.as_slice.ensures.value) c.in_ok-marks.ensures)
    c.shortest-shown.ensures
