use Rattle.std.proofs.Common.{◌≡◌, ℕ, ◌<◌, get_or}
use Rattle.irp_plain.proofs.same.are_same.Given as goal

abbrev pub invariant-loop-place : goal.invariant-loop-place
invariant-loop-place g l =
    (k : ℕ) (d : g.row.T.Denot) → k < l.place → get_or l.one k d ≡ get_or l.other k d
