use Rattle.std.proofs.Common.{◌≡◌, ◌+◌, ℕ, Some}
use Rattle.std.specs.Prelude.{All, IfNone, IfSome, slice_get, sum_by, vec_len}
use Rattle.irp_manager.specs.Seats.{Seated}
use Rattle.irp_shared.specs.Closing.{count_of, IsKept, Differs}
use Rattle.irp_shared.proofs.closing.gather.Given as goal

-- what is left and what was merged make up all seats; where no difference was found, all seats are kept if those left are;
-- a difference that was found is one of a seat that was given; and those left stand at their places
abbrev pub invariant-loop-seat : goal.invariant-loop-seat
invariant-loop-seat g l =
    (l.all.parts + vec_len l.left ≡ vec_len l.fn.seats)
    × (l.all.amount + sum_by count_of l.left.items ≡ sum_by count_of l.fn.seats.items)
    × IfNone l.difference (All (IsKept l.history) l.left.items → All (IsKept l.history) l.fn.seats.items)
    × IfSome l.difference (Differs l.fn.seats.items l.history)
    × ((place : ℕ) (seat : Seated) → slice_get l.left.items place ≡ Some seat → slice_get l.fn.seats.items place ≡ Some seat)

abbrev pub decreases-loop-seat : goal.decreases-loop-seat
decreases-loop-seat g l = vec_len l.left
