-- Sums over views and over seats.
use Rattle.std.proofs.Common.{◌≡◌, ℕ, zero, suc, ◌+◌, ◌*◌, ◌<◌, ◌≤◌, List, [], ◌∷◌, length, get_or, set, Option, Some, None, refl, arith}
use Rattle.std.specs.Option.{option_map_or}
use mathlib.Core.Logic.{dite}
use mathlib.Core.Option.{some}
use native.Mathlib.Decide.{dec_le}
use lib.ListN.{get_elem?}
use Rattle.irp_remove.specs.declared.views.Stage.TheVariants.{Idle, Trying, Held}
use Rattle.irp_remove.specs.declared.views.View.{View}
use Rattle.irp_remove.specs.declared.views.View.TheVariants.{First, Observer, Stake}
use Rattle.irp_remove.specs.Core.{total}
use Rattle.irp_machine.specs.declared.parts.Planned.{Planned}
use Rattle.irp_plain.specs.Seats.{SeatValue, new_seat}
use Rattle.irp_machine_laws.specs.Seats.{over_seats}
use Rattle.irp_machine_laws.specs.LockTables.{of_stake, one_each, busy, keeps_busy, tried}

-- a view that gives something, where the sum is something
pub some_view : (f : View → ℕ) (views : List View) → 0 < total f views → (party : ℕ) × (view : View) × (get_elem? views party ≡ some view) × (0 < f view)
some_view f [] less = absurd (omega arith)
some_view f (view ∷ views) less = dite (dec_le (f view) 0)
    (λ none. let rest = some_view f views (omega arith) in (suc rest.0, rest.1, rest.2, rest.3))
    (λ some_here. (zero, view, refl, omega arith))

-- a stake that is idle, where not all are busy
pub idle_stake : (views : List View) → busy views < total (of_stake one_each) views → (party : ℕ) × (seen : List ℕ) × (get_elem? views party ≡ some (Stake Idle seen))
idle_stake [] less = absurd (omega arith)
idle_stake (Stake Idle seen ∷ views) less = (zero, seen, refl)
idle_stake (Stake (Trying lock) seen ∷ views) less = let rest = idle_stake views (omega arith) in (suc rest.0, rest.1, rest.2)
idle_stake (Stake (Held lock tag) seen ∷ views) less = let rest = idle_stake views (omega arith) in (suc rest.0, rest.1, rest.2)
idle_stake (First observers_left stakes_left ∷ views) less = let rest = idle_stake views (omega arith) in (suc rest.0, rest.1, rest.2)
idle_stake (Observer watch ∷ views) less = let rest = idle_stake views (omega arith) in (suc rest.0, rest.1, rest.2)

-- the sum after one seat has changed
pub over_set : (f : List Planned → SeatValue → ℕ) (acts : List (List Planned)) (seats : List SeatValue) (seat : ℕ) (new : SeatValue) → seat < length seats
    → over_seats f acts (set seats seat new) + f (get_or acts seat []) (get_or seats seat new_seat) ≡ over_seats f acts seats + f (get_or acts seat []) new
over_set f acts [] seat new less = absurd (omega arith)
over_set f [] (own ∷ seats) zero new less = omega arith
over_set f [] (own ∷ seats) (suc seat) new less = let rest = over_set f [] seats seat new (omega arith) in omega arith
over_set f (one ∷ acts) (own ∷ seats) zero new less = omega arith
over_set f (one ∷ acts) (own ∷ seats) (suc seat) new less = let rest = over_set f acts seats seat new (omega arith) in omega arith

-- a seat gives no more than the sum
pub part_of_seats : (f : List Planned → SeatValue → ℕ) (acts : List (List Planned)) (seats : List SeatValue) (seat : ℕ) → seat < length seats
    → f (get_or acts seat []) (get_or seats seat new_seat) ≤ over_seats f acts seats
part_of_seats f acts [] seat less = absurd (omega arith)
part_of_seats f [] (own ∷ seats) zero less = omega arith
part_of_seats f [] (own ∷ seats) (suc seat) less = let rest = part_of_seats f [] seats seat (omega arith) in omega arith
part_of_seats f (one ∷ acts) (own ∷ seats) zero less = omega arith
part_of_seats f (one ∷ acts) (own ∷ seats) (suc seat) less = let rest = part_of_seats f acts seats seat (omega arith) in omega arith

one_at_most : {X : Type 0} (found : Option X) → option_map_or (λ one. 1) found 0 ≤ 1
one_at_most None = omega arith
one_at_most (Some one) = omega arith

-- seats that hold 64 references each at most keep 65 stakes busy each at most
pub busy_bound : (acts : List (List Planned)) (seats : List SeatValue) → ((seat : ℕ) → length (get_or seats seat new_seat).held ≤ 64) → over_seats keeps_busy acts seats ≤ 65 * length seats
busy_bound acts [] few = omega arith
busy_bound [] (own ∷ seats) few =
    let rest = busy_bound [] seats (λ seat. few (suc seat)) in
    let here = few zero in
    let one = one_at_most (tried [] own) in
    omega arith
busy_bound (one ∷ acts) (own ∷ seats) few =
    let rest = busy_bound acts seats (λ seat. few (suc seat)) in
    let here = few zero in
    let most = one_at_most (tried one own) in
    omega arith
