-- What follows where tables agree with each other.
use Rattle.std.specs.Prelude.{ℕ, ◌≡◌, ◌<◌, ◌==◌, Bool, true, false, List, [], ◌∷◌, length, find, slice_index_or, Some}
use Rattle.std.specs.Option.{option_map}
use Rattle.std.specs.List.{All}
use Rattle.std.proofs.Common.{cond, subst, zero, suc}
use Rattle.std.proofs.lemmas.List.Elements.{All-nil, All-head, All-tail}
use Rattle.std.proofs.lemmas.Option.{none-some}
use Rattle.irp_types.specs.State.{Tables, Entrance, AreTables, dispatch_in, dispatch_for}
use Rattle.irp_types.specs.declared.names.DispatchId.{DispatchId}
use Rattle.irp_types.specs.declared.names.DriverId.{DriverId}

-- what is true of each dispatch is true of the one that is found
pub found_dispatch : (P : DispatchId → Type 0) (major : ℕ) (driver : List Entrance) (dispatch : DispatchId)
    → All (λ (entrance : Entrance). P entrance.1) driver → dispatch_in driver major ≡ Some dispatch → P dispatch
found_dispatch P major [] dispatch all found = absurd (none-some dispatch found)
found_dispatch P major (first ∷ others) dispatch all found =
    by_test (first.0 == major) (All-head Q first others all)
    (found_dispatch P major others dispatch (All-tail Q first others all)) found
  where
    Q : Entrance → Type 0
    Q entrance = P entrance.1

    by_test : (here : Bool) → P first.1 → (dispatch_in others major ≡ Some dispatch → P dispatch)
        → option_map (λ (entrance : Entrance). entrance.1)
        (cond here (Some first) (find (λ (entrance : Entrance). entrance.0 == major) others)) ≡ Some dispatch
        → P dispatch
    by_test true head later is = let same : first.1 ≡ dispatch = cc in subst P same head
    by_test false head later is = later is

-- a driver by its number has what each driver has
pub each_driver : (P : List Entrance → Type 0) (drivers : List (List Entrance)) (number : ℕ) → P [] → All P drivers
    → P (slice_index_or drivers number [])
each_driver P [] number none all = none
each_driver P (first ∷ others) zero none all = All-head P first others all
each_driver P (first ∷ others) (suc number) none all = each_driver P others number none (All-tail P first others all)

-- the dispatch of a driver is there
pub dispatch_there : (tables : Tables) (driver : DriverId) (major : ℕ) (dispatch : DispatchId)
    → AreTables tables → dispatch_for tables driver major ≡ Some dispatch → dispatch.0 < length tables.dispatches
dispatch_there tables driver major dispatch agree found =
    let Q =
    λ (entrances : List Entrance).
    All (λ (entrance : Entrance). entrance.1.0 < length tables.dispatches) entrances in
    let named =
    each_driver Q tables.drivers driver.0
    (All-nil (λ (entrance : Entrance). entrance.1.0 < length tables.dispatches))
    (λ place default within. (agree.drivers place default within).named) in
    found_dispatch (λ (given : DispatchId). given.0 < length tables.dispatches) major
    (slice_index_or tables.drivers driver.0 []) dispatch named found
