use Rattle.std.proofs.Common.{All, take}
use Rattle.irp_condition.specs.declared.value.Named.{Named}
use Rattle.irp_condition.specs.Writing.{ReadsAs}
use Rattle.irp_condition.proofs.writing.name_in.Given as goal

-- none of the names so far is read as the value
abbrev pub invariant-loop-one : goal.invariant-loop-one
invariant-loop-one l = All (λ (one : Named). ReadsAs l.scope l.sort one.name.now l.value → ⊥) (take l.one-index l.table)
