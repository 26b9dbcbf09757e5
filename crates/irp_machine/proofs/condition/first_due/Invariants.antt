use Rattle.std.proofs.Common.{◌≡◌, drop}
use Rattle.std.specs.List.{find}
use Rattle.irp_machine.specs.Conditions.{is_due}
use Rattle.irp_machine.proofs.condition.first_due.Given as goal

-- the seat makes none of the acts so far
abbrev pub invariant-loop-act : goal.invariant-loop-act
invariant-loop-act l = find (is_due l.heard) (drop l.act-index l.acts) ≡ find (is_due l.heard) l.acts
