use Rattle.std.proofs.Common.{◌≡◌, drop}
use Rattle.irp_forms.specs.Names.{first_named}
use Rattle.irp_forms.proofs.names.named.Given as goal

abbrev pub invariant-loop-one : goal.invariant-loop-one
invariant-loop-one g l = first_named g.T.HasName.name g.T.HasName.all l.given ≡ first_named g.T.HasName.name (drop l.one-index g.T.HasName.all) l.given
