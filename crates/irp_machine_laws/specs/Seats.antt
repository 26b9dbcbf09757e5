-- What is added up over all seats.
use Rattle.std.specs.Prelude.{ℕ, ◌+◌, Bool, true, false, List, [], ◌∷◌}
use Rattle.irp_machine.specs.declared.parts.Planned.{Planned}
use Rattle.irp_plain.specs.Seats.{SeatValue}

-- a truth value as a number
abbrev pub one_if : Bool → ℕ
one_if true = 1
one_if false = 0

-- a number that each seat gives with its acts, added up over all seats; seats past the lists of acts have none
abbrev pub over_seats : (List Planned → SeatValue → ℕ) → List (List Planned) → List SeatValue → ℕ
over_seats measure acts [] = 0
over_seats measure [] (seat ∷ seats) = measure [] seat + over_seats measure [] seats
over_seats measure (own ∷ acts) (seat ∷ seats) = measure own seat + over_seats measure acts seats
