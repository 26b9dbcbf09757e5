use Rattle.std.proofs.Common.{◌≡◌, ◌<◌, ◌+◌, ◌%◌, ℕ, All, Bool, get_or, vec_len}
use Rattle.std.specs.List.{count_by}
use Rattle.irp_slots.specs.Pairing.{IsOwnerOf}
use Rattle.irp_script.specs.Seats.{HasAllSlots, HasTakenNothing, cancellers_of, owners_of, removes_of, seats_of}
use Rattle.irp_script.proofs.run.script_seats.Given as goal

-- the seats stay in their order, each has owners of its own slots alone, and those left and those dealt are all
abbrev pub invariant-loop-owner : goal.invariant-loop-owner
invariant-loop-owner g l = record {
  len : vec_len l.pairs ≡ l.count;
  left : All (IsOwnerOf l.slots) l.owners.items;
  seats : seats_of l.pairs.items ≡ l.fn.seats.items;
  removes : removes_of l.pairs.items ≡ l.fn.removes.items;
  cancellers : cancellers_of l.pairs.items ≡ l.fn.cancellers.items;
  own : (place : ℕ) (one : _) → place < l.count → All (λ owner. owner.owning.slot % l.count ≡ place) (get_or l.pairs.items place one).parties.owners;
  all : (test : _ → Bool) → count_by test l.owners.items + count_by test (owners_of l.pairs.items) ≡ count_by test l.fn.owners.items;
  taken : All HasTakenNothing l.pairs.items;
  counted : All (HasAllSlots l.slots) l.pairs.items;
}

abbrev pub decreases-loop-owner : goal.decreases-loop-owner
decreases-loop-owner g l = vec_len l.owners
