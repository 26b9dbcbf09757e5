use Rattle.std.proofs.Common.{◌≡◌, ◌++◌, All, vec_len}
use Rattle.irp_remove.specs.Pairing.{IsSeatOf}
use Rattle.irp_slots.specs.Pairing.{IsCancellerOf}
use Rattle.irp_script.specs.Seats.{IsFreshAt, cancellers_of, removes_of, seats_of}
use Rattle.irp_script.proofs.run.pair_up.Given as goal

-- those left fit, and those paired stand behind them in order
abbrev pub invariant-loop-seat : goal.invariant-loop-seat
invariant-loop-seat g l = record {
  fit : All (IsSeatOf l.locks) l.removes.items;
  ask : All (IsCancellerOf l.slots) l.cancellers.items;
  len : (vec_len l.removes ≡ vec_len l.seats) × (vec_len l.cancellers ≡ vec_len l.seats);
  seats : l.seats.items ++ seats_of l.pairs.items ≡ l.fn.seats.items;
  removes : l.removes.items ++ removes_of l.pairs.items ≡ l.fn.removes.items;
  cancellers : l.cancellers.items ++ cancellers_of l.pairs.items ≡ l.fn.cancellers.items;
  fresh : All (IsFreshAt l.slots) l.pairs.items;
}

abbrev pub decreases-loop-seat : goal.decreases-loop-seat
decreases-loop-seat g l = vec_len l.seats
