use Rattle.std.proofs.Common.{◌≡◌, ◌+◌, Bool, vec_len}
use Rattle.std.specs.List.{count_by}
use Rattle.irp_manager.specs.Seats.{Seated}
use Rattle.irp_script.specs.Seats.{seats_of}
use Rattle.irpx.proofs.running.seats_of.Given as goal

-- the seats of those left and those taken are the seats of all
abbrev pub invariant-loop-pair : goal.invariant-loop-pair
invariant-loop-pair g l = (test : Seated → Bool) → count_by test (seats_of l.pairs.items) + count_by test l.seats.items ≡ count_by test (seats_of l.fn.pairs.items)

abbrev pub decreases-loop-pair : goal.decreases-loop-pair
decreases-loop-pair g l = vec_len l.pairs
