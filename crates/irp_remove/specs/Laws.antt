-- What holds in each state that keeps the rule.
use Rattle.std.specs.Prelude.{◌≡◌, ◌≢◌, ℕ, ◌+◌, ◌*◌, ◌<◌, ◌≤◌, List, slice_index, slice_set}
use mathlib.Core.Option.{some}
use lib.ListN.{get_elem?}
use Rattle.atomic_table.specs.Table.{State}
use Rattle.irp_remove.specs.declared.views.View.{View}
use Rattle.irp_remove.specs.declared.views.Parties.{Parties}
use Rattle.irp_remove.specs.Core.{total, began, staked, held, saw, knows_drained, Kept, at_first, acquired, given_back}
use Rattle.irp_remove.specs.Core.{begun, looked}

-- a table under this rule keeps `Kept`
abbrev pub Keeps : (Parties → State (Unit {0}) View → Type 0) → Type 0
Keeps rule = (key : Parties) (state : State (Unit {0}) View) → rule key state → Kept key state

-- a table whose first party has this view begins with a party that has yet to make all the others
abbrev pub BeginsAsFirst : (Parties → View) → Type 0
BeginsAsFirst first = (key : Parties) → first key ≡ at_first key

-- The word of a lock is the removed bit plus twice the number of stakes that hold it or try it, and 8,193 at most. The
-- bit is set exactly where an observer began the removal, and whoever found it set found it rightly
abbrev pub WordLaw : Type 0
WordLaw =
    (key : Parties) (state : State (Unit {0}) View) (lock : ℕ) → Kept key state → lock < key.locks
    → (slice_index state.words lock ≡ total (began lock) state.views + 2 * total (staked lock) state.views)
    × (total (began lock) state.views ≤ 1) × (slice_index state.words lock ≤ 8193)
    × ((party : ℕ) (view : View) → get_elem? state.views party ≡ some view → 0 < saw lock view
    → total (began lock) state.views ≡ 1)

-- where some observer knows a lock drained, its removal has begun and no stake holds it
abbrev pub IsHeldByNobody : Type 0
IsHeldByNobody =
    (key : Parties) (state : State (Unit {0}) View) (lock : ℕ) → Kept key state
    → (party : ℕ) (view : View) → get_elem? state.views party ≡ some view → 0 < knows_drained lock view
    → (total (began lock) state.views ≡ 1)
    × ((other : ℕ) (other_view : View) → get_elem? state.views other ≡ some other_view → held lock other_view ≡ 0)

-- what a party knows drained, it knows after each kind of step of its own, at any lock and whatever word it finds
abbrev pub IsKnownForGood : Type 0
IsKnownForGood =
    (lock : ℕ) (view : View) → 0 < knows_drained lock view → (tag other word : ℕ)
    → (0 < knows_drained lock (acquired tag other word view)) × (0 < knows_drained lock (given_back view))
    × (0 < knows_drained lock (begun other word view)) × (0 < knows_drained lock (looked other word view))

-- a step of another party leaves a party's view as it was, whatever the step makes of the other's
abbrev pub IsOwnView : Type 0
IsOwnView =
    (views : List View) (party other : ℕ) (view_after : View) → party ≢ other
    → get_elem? (slice_set views other view_after) party ≡ get_elem? views party

-- a lock that some observer knows drained is held by nobody, and it knows so for good, whoever makes a step
abbrev pub DrainedLaw : Type 0
DrainedLaw = IsHeldByNobody × IsKnownForGood × IsOwnView
