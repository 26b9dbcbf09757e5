use Rattle.std.proofs.Common.{◌≡◌, ℕ, ◌<◌, List, get_or}
use Rattle.irp_types.specs.declared.names.DispatchId.{DispatchId}
use Rattle.irp_grammar.proofs.same.are_drivers.Given as goal

abbrev pub invariant-loop-place : goal.invariant-loop-place
invariant-loop-place l = (k : ℕ) (d : List (ℕ × DispatchId)) → k < l.place → get_or l.one k d ≡ get_or l.other k d
