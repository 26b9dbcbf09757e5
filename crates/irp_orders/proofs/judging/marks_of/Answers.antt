use Rattle.std.proofs.Common.{◌+◌, Bool, List, sym, subst, take}
use Rattle.irp_orders.specs.Judging.{AreMarks, Breaks}
use Rattle.irp_orders.proofs.Verdicts.{marks_more}
use Rattle.irp_orders.proofs.judging.marks_of.Goals as goal

pub loop-found-preserved : goal.loop-found-preserved
loop-found-preserved c =
    subst (λ (marks : List Bool). AreMarks (Breaks c.args.steps.now c.args.question)
    (take (c.loop-found.found-index + 1) c.args.founds.now) marks) (sym c.in_ok-push.ensures.items)
    (marks_more (Breaks c.args.steps.now c.args.question) c.args.founds.now c.loop-found.marks.items c.loop-found.found-index
    c.in_ok-is_broken.is_broken c.found-item.result c.loop-found-test.true c.found-item.is c.loop-found.invariant c.in_ok-is_broken.ensures)
