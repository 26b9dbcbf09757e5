-- What opening gives.
use Rattle.std.specs.Prelude.{◌≡◌, ◌⊎◌, ℕ, zero, suc, ◌<◌, ◌≤◌, List, [], ◌∷◌, ◌++◌, map, All, ◌%◌}
use Rattle.irp_types.specs.Limits.{most_seats, most_slots}
use Rattle.atomic_table.specs.Table.{State}
use Rattle.atomic_table.specs.Seated.{TableId}
use Rattle.irp_slots.specs.declared.views.Owning.{Owning}
use Rattle.irp_slots.specs.declared.views.View.{View}
use Rattle.irp_slots.specs.declared.views.View.TheVariants.{Owner, Canceller}
use Rattle.irp_slots.specs.declared.views.Parties.{Parties}
use Rattle.irp_slots.specs.Core.{new_owning, new_asking, Kept, flag_of, content_of}
use Rattle.irp_slots.specs.Models.{Publisher, Asker}
use Rattle.irp_slots.specs.declared.answers.OpenRefusal.{OpenRefusal}
use Rattle.irp_slots.specs.declared.answers.OpenRefusal.TheVariants as refusal

-- there are too many slots, or no canceller or too many
abbrev pub IsBadCount : ℕ → ℕ → Type 0
IsBadCount slots cancellers = (most_slots < slots) ⊎ ((cancellers ≡ 0) ⊎ (most_seats < cancellers))

-- there are as many slots and cancellers as there may be, and one canceller at least
abbrev pub IsGoodCount : ℕ → ℕ → Type 0
IsGoodCount slots cancellers = (slots ≤ most_slots) × (0 < cancellers) × (cancellers ≤ most_seats)

-- when an opening is refused
abbrev pub OpenRefused : ℕ → ℕ → OpenRefusal → Type 0
OpenRefused slots cancellers refusal.BadCount = IsBadCount slots cancellers
OpenRefused slots cancellers refusal.Memory = IsGoodCount slots cancellers

-- the parties of a table of so many slots and cancellers
abbrev pub parties_of : ℕ → ℕ → Parties
parties_of slots cancellers = record { slots = slots; cancellers = cancellers }

-- an owner of this table
abbrev pub IsOfTable : TableId → Publisher → Type 0
IsOfTable table publisher = publisher.table ≡ table

-- what an owner knows
abbrev pub owning_in : Publisher → Owning
owning_in publisher = publisher.owning

-- what the owners of so many slots know when they are made
abbrev pub new_ownings : ℕ → List Owning
new_ownings zero = []
new_ownings (suc count) = new_ownings count ++ new_owning count ∷ []

-- the idle owners of so many slots of one table, in the order of the slots
abbrev pub AreFreshOwners : TableId → ℕ → List Publisher → Type 0
AreFreshOwners table count publishers =
    All (IsOfTable table) publishers × (map owning_in publishers ≡ new_ownings count)

-- a canceller that has asked nothing
abbrev pub IsFreshCanceller : TableId → Asker → Type 0
IsFreshCanceller table asker = (asker.table ≡ table) × (asker.asking ≡ new_asking)

-- the views of owners that know this
abbrev pub owner_views : List Owning → List View
owner_views [] = []
owner_views (owning ∷ ownings) = Owner owning ∷ owner_views ownings

-- the views of these cancellers
abbrev pub canceller_views : List Asker → List View
canceller_views [] = []
canceller_views (asker ∷ askers) = Canceller asker.asking ∷ canceller_views askers

-- the views of these owners and cancellers
abbrev pub views_of : List Publisher → List Asker → List View
views_of publishers askers = owner_views (map owning_in publishers) ++ canceller_views askers

-- these are the views of so many different ones of all parties
abbrev pub AreAmong : List View → List View → Type 0
AreAmong [] parties = Unit {0}
AreAmong (view ∷ views) parties =
    (before : List View) × (after : List View) × (parties ≡ before ++ view ∷ after) × AreAmong views (before ++ after)

-- In each state that keeps the rule, and among whose parties are these owners and cancellers, each slot is empty and
-- its flag is clear. So no party at all has published or asked, whether or not it is one of these
abbrev pub IsAllEmpty : Parties → List Publisher → List Asker → Type 0
IsAllEmpty key publishers askers =
    (state : State (Unit {0}) View) → Kept key state → AreAmong (views_of publishers askers) state.views
    → (slot : ℕ) → slot < key.slots → (content_of state.words slot ≡ 0) × (flag_of state.words slot % 2 ≡ 0)
