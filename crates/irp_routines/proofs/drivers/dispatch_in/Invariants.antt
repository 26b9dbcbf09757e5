use Rattle.std.proofs.Common.{◌≡◌, drop}
use Rattle.irp_types.specs.State.{dispatch_in}
use Rattle.irp_routines.proofs.drivers.dispatch_in.Given as goal

-- none of the pairs so far is for the major function code
abbrev pub invariant-loop-pair : goal.invariant-loop-pair
invariant-loop-pair l = dispatch_in l.pairs l.major ≡ dispatch_in (drop l.pair-index l.pairs) l.major
