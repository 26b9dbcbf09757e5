use Rattle.irp_names.specs.Majors.{NoneIsNamed}
use Rattle.irp_names.proofs.majors.major_named.Given as goal

-- no major so far has the name
abbrev pub invariant-loop-major : goal.invariant-loop-major
invariant-loop-major l = NoneIsNamed l.name l.major
