use Rattle.std.proofs.Common.{take}
use Rattle.std.specs.List.{AllZip}
use Rattle.irp_orders.specs.Alike.{SayTheSame}
use Rattle.irp_orders.proofs.alike.are_same_answers.Given as goal

abbrev pub invariant-loop-place : goal.invariant-loop-place
invariant-loop-place l = AllZip SayTheSame (take l.place l.ones) (take l.place l.others)
