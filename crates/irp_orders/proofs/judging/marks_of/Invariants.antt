use Rattle.std.proofs.Common.{take}
use Rattle.irp_orders.specs.Judging.{AreMarks, Breaks}
use Rattle.irp_orders.proofs.judging.marks_of.Given as goal

abbrev pub invariant-loop-found : goal.invariant-loop-found
invariant-loop-found l = AreMarks (Breaks l.steps l.question) (take l.found-index l.founds) l.marks.items
