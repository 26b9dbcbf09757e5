use Rattle.std.proofs.Common.{◌≡◌, take}
use Rattle.std.specs.List.{fold}
use Rattle.irp_machine.proofs.marks.mark_behind_all.Given as goal

abbrev pub invariant-loop-item : goal.invariant-loop-item
invariant-loop-item g l = l.after ≡ fold g.T.Marked.marked l.mark (take l.item-index l.items)
