-- What holds in each state that keeps the rule.
use Rattle.std.specs.Prelude.{◌≡◌, ◌≢◌, ℕ, ◌+◌, ◌%◌, ◌<◌, ◌≤◌, true, List, nat_eq, slice_set}
use mathlib.Core.Logic.{◌↔◌}
use mathlib.Core.Option.{some}
use lib.ListN.{get_elem?}
use Rattle.atomic_table.specs.Table.{State}
use Rattle.irp_slots.specs.declared.views.Stage.TheVariants.{Standing, Done}
use Rattle.irp_slots.specs.declared.views.Owning.{Owning}
use Rattle.irp_slots.specs.declared.views.Asking.{Asking}
use Rattle.irp_slots.specs.declared.views.View.{View}
use Rattle.irp_slots.specs.declared.views.View.TheVariants.{Owner, Canceller}
use Rattle.irp_slots.specs.declared.views.Parties.{Parties}
use Rattle.irp_slots.specs.Core.{total, one_if, flag, times, times_of, is_begun, is_resting, published, taken, flagged}
use Rattle.irp_slots.specs.Core.{ended, found_flagged, flag_of, content_of, IsInOrder, Kept, at_first, owner_published}
use Rattle.irp_slots.specs.Core.{owner_checked, owner_done, slot_flagged, slot_ended}

-- a table under this rule keeps `Kept`
abbrev pub Keeps : (Parties → State (Unit {0}) View → Type 0) → Type 0
Keeps rule = (key : Parties) (state : State (Unit {0}) View) → rule key state → Kept key state

-- a table whose first party has this view begins with a party that has yet to make all the others
abbrev pub BeginsAsFirst : (Parties → View) → Type 0
BeginsAsFirst first = (key : Parties) → first key ≡ at_first key

-- a state that keeps the rule, and in it the owner of a slot
abbrev pub HasOwner : Parties → State (Unit {0}) View → ℕ → Owning → Type 0
HasOwner key s party owning =
    Kept key s × (get_elem? s.views party ≡ some (Owner owning)) × (owning.slot < key.slots)

-- The publication of an owner is the content of its slot or in one party's list: once in all
abbrev pub IsPublicationOnce : Type 0
IsPublicationOnce =
    (key : Parties) (s : State (Unit {0}) View) (party : ℕ) (owning : Owning) → HasOwner key s party owning
    → is_begun owning.stage ≡ true → 0 < owning.published
    → one_if (nat_eq (content_of s.words owning.slot) owning.published)
    + total (taken owning.slot owning.published) s.views ≡ 1

-- A use is the content or in a list only where an owner published it, and no slot has two publications
abbrev pub IsNothingElse : Type 0
IsNothingElse =
    (key : Parties) (s : State (Unit {0}) View) (slot number : ℕ) → Kept key s → slot < key.slots → 0 < number
    → (one_if (nat_eq (content_of s.words slot) number) + total (taken slot number) s.views
    ≡ total (published slot number) s.views)
    × (total (published slot number) s.views ≤ 1)

-- Each publication is taken by exactly one party or still stands, and nothing else is taken or stands
abbrev pub OnceLaw : Type 0
OnceLaw = IsPublicationOnce × IsNothingElse

-- The slot of an owner that is idle or done is empty
abbrev pub RestLaw : Type 0
RestLaw =
    (key : Parties) (s : State (Unit {0}) View) (party : ℕ) (owning : Owning) → HasOwner key s party owning
    → is_resting owning.stage ≡ true → content_of s.words owning.slot ≡ 0

-- Once an owner stands and a canceller has ended its request, the slot is empty
abbrev pub IsEmptyOnceAsked : Type 0
IsEmptyOnceAsked =
    (key : Parties) (s : State (Unit {0}) View) (party : ℕ) (owning : Owning) → HasOwner key s party owning
    → owning.stage ≡ Standing
    → (other : ℕ) (asking : Asking) → get_elem? s.views other ≡ some (Canceller asking)
    → flag asking.ended owning.slot ≡ true → content_of s.words owning.slot ≡ 0

-- a request that a party has ended it has ended after each kind of step of its own, at any slot and whatever it finds
abbrev pub IsEndedForGood : Type 0
IsEndedForGood =
    (slot : ℕ) (view : View) → 0 < ended slot view → (other found : ℕ)
    → (0 < ended slot (owner_published other view)) × (0 < ended slot (owner_checked found view))
    × (0 < ended slot (owner_done found view))
    × (0 < ended slot (slot_flagged other view)) × (0 < ended slot (slot_ended other found view))

-- a step of another party leaves a party's view as it was, whatever the step makes of the other's
abbrev pub IsOwnView : Type 0
IsOwnView =
    (views : List View) (party other : ℕ) (view_after : View) → party ≢ other
    → get_elem? (slice_set views other view_after) party ≡ get_elem? views party

-- the slot of an owner that stands is empty once a canceller has ended a request on it, and the request has ended for
-- good, whoever makes a step
abbrev pub EmptyLaw : Type 0
EmptyLaw = IsEmptyOnceAsked × IsEndedForGood × IsOwnView

-- some canceller has taken this use out of this slot, and has it once
abbrev pub IsTakenByCanceller : State (Unit {0}) View → ℕ → ℕ → Type 0
IsTakenByCanceller s slot number =
    (other : ℕ) × (asking : Asking) × (get_elem? s.views other ≡ some (Canceller asking))
    × (times_of slot number asking.taken ≡ 1)

-- Where an owner is done and has not taken its use, exactly one party has it: a canceller. It is not in the slot
abbrev pub LostLaw : Type 0
LostLaw =
    (key : Parties) (s : State (Unit {0}) View) (party : ℕ) (owning : Owning) → HasOwner key s party owning
    → owning.stage ≡ Done → 0 < owning.published → times owning.published owning.taken ≡ 0
    → (total (taken owning.slot owning.published) s.views ≡ 1) × IsTakenByCanceller s owning.slot owning.published
    × (content_of s.words owning.slot ≡ 0)

-- The flag of a slot is set exactly where a canceller has set it. It is set where a canceller has ended a request, and
-- where the owner has found it set
abbrev pub FlagLaw : Type 0
FlagLaw =
    (key : Parties) (s : State (Unit {0}) View) (slot : ℕ) → Kept key s → slot < key.slots
    → ((flag_of s.words slot % 2 ≡ 1) ↔ (0 < total (flagged slot) s.views))
    × (0 < total (ended slot) s.views → flag_of s.words slot % 2 ≡ 1)
    × (0 < total (found_flagged slot) s.views → flag_of s.words slot % 2 ≡ 1)

-- what each party knows comes of its steps in their order
abbrev pub OrderLaw : Type 0
OrderLaw =
    (key : Parties) (s : State (Unit {0}) View) (party : ℕ) (view : View) → Kept key s
    → get_elem? s.views party ≡ some view → IsInOrder view
