use Rattle.std.proofs.Common.{◌≡◌, take, []}
use Rattle.std.specs.List.{fold}
use Rattle.irp_machine.specs.Endings.{with_hold}
use Rattle.irp_machine.proofs.ending.holds_of.Given as goal

-- the references of those so far
abbrev pub invariant-loop-one : goal.invariant-loop-one
invariant-loop-one l = l.own.items ≡ fold (with_hold l.seat l.lock) [] (take l.one-index l.held)
