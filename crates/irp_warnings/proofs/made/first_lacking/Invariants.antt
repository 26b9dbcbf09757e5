use Rattle.std.proofs.Common.{◌≡◌, drop}
use Rattle.std.specs.List.{find}
use Rattle.irp_warnings.specs.Concerns.{lacks_lower}
use Rattle.irp_warnings.proofs.made.first_lacking.Given as goal

-- none of those so far does
abbrev pub invariant-loop-one : goal.invariant-loop-one
invariant-loop-one l = find (lacks_lower l.script) (drop l.one-index l.asked) ≡ find (lacks_lower l.script) l.asked
