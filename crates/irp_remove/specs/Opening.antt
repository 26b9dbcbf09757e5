-- What opening gives.
use Rattle.std.specs.Prelude.{◌≡◌, ◌⊎◌, ℕ, zero, suc, ◌*◌, ◌<◌, ◌≤◌, List, [], ◌∷◌, ◌++◌, map, All, replicate}
use Rattle.std.specs.Prelude.{slice_index}
use Rattle.irp_types.specs.Limits.{most_locks, most_seats, most_held}
use Rattle.atomic_table.specs.Table.{State}
use Rattle.atomic_table.specs.Seated.{TableId}
use Rattle.irp_remove.specs.Core.{total, began, staked, saw, knows_drained, Kept, new_watch, new_stake}
use Rattle.irp_remove.specs.declared.views.View.{View}
use Rattle.irp_remove.specs.declared.views.View.TheVariants.{Observer}
use Rattle.irp_remove.specs.declared.views.Parties.{Parties}
use Rattle.irp_remove.specs.Seats.{Holder}
use Rattle.irp_remove.specs.declared.refusal.OpenRefusal.{OpenRefusal}
use Rattle.irp_remove.specs.declared.refusal.OpenRefusal.TheVariants as refusal

-- there are none of either, or too many
abbrev pub IsBadCount : ℕ → ℕ → Type 0
IsBadCount locks seats = ((locks ≡ 0) ⊎ (most_locks < locks)) ⊎ ((seats ≡ 0) ⊎ (most_seats < seats))

-- there is one of each at least, and not too many
abbrev pub IsGoodCount : ℕ → ℕ → Type 0
IsGoodCount locks seats = (0 < locks) × (locks ≤ most_locks) × (0 < seats) × (seats ≤ most_seats)

-- when an opening is refused
abbrev pub OpenRefused : ℕ → ℕ → OpenRefusal → Type 0
OpenRefused locks seats refusal.BadCount = IsBadCount locks seats
OpenRefused locks seats refusal.Memory = IsGoodCount locks seats

-- a remove seat as it is made, whatever its number
abbrev pub IsFresh : TableId → Holder → Type 0
IsFresh table holder =
    (holder.table ≡ table) × (holder.watch ≡ new_watch) × (holder.held ≡ []) × (holder.held_views ≡ [])
    × (holder.idle_views ≡ replicate most_held new_stake)

-- a remove seat's number
abbrev pub number_of : Holder → ℕ
number_of holder = holder.number

-- the numbers below one
abbrev pub numbers_below : ℕ → List ℕ
numbers_below zero = []
numbers_below (suc count) = numbers_below count ++ count ∷ []

-- so many fresh seats of one table, numbered from 0 in their order
abbrev pub AreFresh : TableId → ℕ → List Holder → Type 0
AreFresh table count holders = All (IsFresh table) holders × (map number_of holders ≡ numbers_below count)

-- the parties of a table of so many locks and seats: one observer a seat, and a stake for each reference that it may
-- hold
abbrev pub parties_of : ℕ → ℕ → Parties
parties_of locks seats = record { locks = locks; observers = seats; stakes = seats * most_held }

-- the views of a seat's parties
abbrev pub views_of : Holder → List View
views_of holder = Observer holder.watch ∷ holder.held_views ++ holder.idle_views

-- the views of the parties of all these seats
abbrev pub views_of_all : List Holder → List View
views_of_all [] = []
views_of_all (holder ∷ holders) = views_of holder ++ views_of_all holders

-- these are the views of so many different ones of all parties
abbrev pub AreAmong : List View → List View → Type 0
AreAmong [] parties = Unit {0}
AreAmong (view ∷ views) parties =
    (before : List View) × (after : List View) × (parties ≡ before ++ view ∷ after) × AreAmong views (before ++ after)

-- In each state that keeps the rule, and among whose parties are those of these seats, every word is 0. So no party at
-- all has begun a removal, holds or tries a lock, saw one removed or knows one drained, whether or not it is one of
-- these
abbrev pub IsAllIdle : Parties → List Holder → Type 0
IsAllIdle key holders =
    (state : State (Unit {0}) View) → Kept key state → AreAmong (views_of_all holders) state.views → (lock : ℕ)
    → (slice_index state.words lock ≡ 0) × (total (began lock) state.views ≡ 0) × (total (staked lock) state.views ≡ 0)
    × (total (saw lock) state.views ≡ 0) × (total (knows_drained lock) state.views ≡ 0)
