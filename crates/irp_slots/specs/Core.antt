-- The core of the cancel slots: two words for each slot, what each party knows, and what each step does. Slot k has
-- its flag in word 2 k and its content in word 2 k + 1; one spare word stands behind them, so that a table always has
-- a word. The flag is set by the first canceller that asks. The content is the use that stands in the slot, or 0.
use Rattle.std.specs.Prelude.{◌≡◌, ◌⊎◌, replicate, ℕ, zero, suc, ◌+◌, ◌-◌, ◌*◌, ◌/◌, ◌%◌, ◌<◌, ◌≤◌, Bool, true, false}
use Rattle.std.specs.Prelude.{not, ◌&&◌, ◌||◌, List, [], ◌∷◌, length, All, slice_index, slice_index_or, slice_set}
use Rattle.std.specs.Prelude.{if◌then◌else◌, nat_eq, bit_or}
use Rattle.irp_types.specs.Limits.{most_seats, most_slots}
use mathlib.Core.Option.{some}
use lib.ListN.{get_elem?}
use Rattle.atomic_table.specs.Table.{State, Me, Step}
use Rattle.irp_slots.specs.declared.views.Stage.{Stage}
use Rattle.irp_slots.specs.declared.views.Stage.TheVariants.{Idle, Published, Standing, Done}
use Rattle.irp_slots.specs.declared.views.Owning.{Owning}
use Rattle.irp_slots.specs.declared.views.Asking.{Asking}
use Rattle.irp_slots.specs.declared.views.View.{View}
use Rattle.irp_slots.specs.declared.views.View.TheVariants.{First, Owner, Canceller}
use Rattle.irp_slots.specs.declared.views.Parties.{Parties}

-- a number that each view gives, added up over all views
abbrev pub total : (View → ℕ) → List View → ℕ
total measure [] = 0
total measure (view ∷ views) = measure view + total measure views

-- a truth value as a number
abbrev pub one_if : Bool → ℕ
one_if true = 1
one_if false = 0

-- the flag of a slot, false where there is none
abbrev pub flag : List Bool → ℕ → Bool
flag flags slot = slice_index_or flags slot false

-- how often a number is listed
abbrev pub times : ℕ → List ℕ → ℕ
times number [] = 0
times number (first ∷ rest) = one_if (nat_eq first number) + times number rest

-- how often a use is listed as taken out of a slot
abbrev pub times_of : ℕ → ℕ → List (ℕ × ℕ) → ℕ
times_of slot number [] = 0
times_of slot number (first ∷ rest) =
    one_if (nat_eq first.0 slot && nat_eq first.1 number) + times_of slot number rest

-- the owner has published
abbrev pub is_begun : Stage → Bool
is_begun Idle = false
is_begun Published = true
is_begun Standing = true
is_begun Done = true

-- nothing of the owner is in its slot
abbrev pub is_resting : Stage → Bool
is_resting Idle = true
is_resting Published = false
is_resting Standing = false
is_resting Done = true

-- the owner's publish has found the flag clear, and it hasn't withdrawn since
abbrev pub is_standing : Stage → Bool
is_standing Idle = false
is_standing Published = false
is_standing Standing = true
is_standing Done = false

-- the owner has taken out what was in its slot
abbrev pub is_done : Stage → Bool
is_done Idle = false
is_done Published = false
is_done Standing = false
is_done Done = true

-- 1 where the view is that of the slot's owner, or of the first party while that owner is not yet made
abbrev pub owns : ℕ → View → ℕ
owns slot (First owners_left cancellers_left) = times slot owners_left
owns slot (Owner owning) = one_if (nat_eq owning.slot slot)
owns slot (Canceller asking) = 0

-- 1 where the view is that of the slot's owner, which has published this use
abbrev pub published : ℕ → ℕ → View → ℕ
published slot number (First owners_left cancellers_left) = 0
published slot number (Owner owning) =
    one_if (is_begun owning.stage && (nat_eq owning.slot slot && nat_eq owning.published number))
published slot number (Canceller asking) = 0

-- how often the party has taken this use out of this slot
abbrev pub taken : ℕ → ℕ → View → ℕ
taken slot number (First owners_left cancellers_left) = 0
taken slot number (Owner owning) = if nat_eq owning.slot slot then times number owning.taken else 0
taken slot number (Canceller asking) = times_of slot number asking.taken

-- 1 where the owner of the slot is idle or done, or not yet made
abbrev pub resting : ℕ → View → ℕ
resting slot (First owners_left cancellers_left) = times slot owners_left
resting slot (Owner owning) = one_if (is_resting owning.stage && nat_eq owning.slot slot)
resting slot (Canceller asking) = 0

-- 1 where the owner of the slot stands
abbrev pub standing : ℕ → View → ℕ
standing slot (First owners_left cancellers_left) = 0
standing slot (Owner owning) = one_if (is_standing owning.stage && nat_eq owning.slot slot)
standing slot (Canceller asking) = 0

-- 1 where the view is that of a canceller that has set the slot's flag
abbrev pub flagged : ℕ → View → ℕ
flagged slot (First owners_left cancellers_left) = 0
flagged slot (Owner owning) = 0
flagged slot (Canceller asking) = one_if (flag asking.flagged slot)

-- 1 where the view is that of the slot's owner, which has found the flag set
abbrev pub found_flagged : ℕ → View → ℕ
found_flagged slot (First owners_left cancellers_left) = 0
found_flagged slot (Owner owning) = one_if (owning.found_set && nat_eq owning.slot slot)
found_flagged slot (Canceller asking) = 0

-- 1 where the view is that of a canceller that has ended a request on the slot
abbrev pub ended : ℕ → View → ℕ
ended slot (First owners_left cancellers_left) = 0
ended slot (Owner owning) = 0
ended slot (Canceller asking) = one_if (flag asking.ended slot)

-- the cancellers that are made, and those that are not yet made
abbrev pub canceller_count : View → ℕ
canceller_count (First owners_left cancellers_left) = cancellers_left
canceller_count (Owner owning) = 0
canceller_count (Canceller asking) = 1

-- the number of the word that has a slot's flag
abbrev pub flag_word : ℕ → ℕ
flag_word slot = 2 * slot

-- the number of the word that has a slot's content
abbrev pub content_word : ℕ → ℕ
content_word slot = 2 * slot + 1

-- the word that has the flag: it is set where the word is odd
abbrev pub flag_of : List ℕ → ℕ → ℕ
flag_of words slot = slice_index words (flag_word slot)

-- the use that stands in a slot, or 0
abbrev pub content_of : List ℕ → ℕ → ℕ
content_of words slot = slice_index words (content_word slot)

-- an owner knows nothing when it is made
abbrev pub new_owning : ℕ → Owning
new_owning slot = record { slot = slot; stage = Idle; published = 0; stood = false; found_set = false; taken = [] }

-- What an owner knows at each stage. An idle one knows nothing; a done one stood or found the flag set, and not both
abbrev pub OwnerInOrder : Stage → Owning → Type 0
OwnerInOrder Idle owning = owning ≡ new_owning owning.slot
OwnerInOrder Published owning = (owning.stood ≡ false) × (owning.taken ≡ [])
OwnerInOrder Standing owning = (owning.stood ≡ true) × (owning.found_set ≡ false) × (owning.taken ≡ [])
OwnerInOrder Done owning = owning.found_set ≡ not owning.stood

-- a canceller has set a slot's flag before it ends a request on it, and takes a use out only as it ends one
abbrev pub CancellerInOrder : Asking → Type 0
CancellerInOrder asking =
    (slot : ℕ) → (flag asking.ended slot ≡ true → flag asking.flagged slot ≡ true)
    × ((number : ℕ) → 0 < times_of slot number asking.taken → flag asking.ended slot ≡ true)

-- What a party knows is what its steps in their order can make it know. When an owner read the flag no state tells
abbrev pub IsInOrder : View → Type 0
IsInOrder (First owners_left cancellers_left) = Unit {0}
IsInOrder (Owner owning) = OwnerInOrder owning.stage owning
IsInOrder (Canceller asking) = CancellerInOrder asking

-- What holds between any two steps. Each slot has one owner. `places`: a publication is the content or in one party's
-- list, and nothing else is in either. `rests`: a slot whose owner is idle or done is empty. A flag is set exactly
-- where a canceller has set it. `in_order`: a canceller that has ended a request on the slot, or has taken a use out of
-- it, has set the flag; an owner that has taken its use out stood or found the flag set. `stands`: a slot whose owner
-- stands is empty once a request on it has ended. The cancellers, made and not yet made, are as many as the key tells,
-- so that there are no others
pub record Kept (key : Parties) (s : State (Unit {0}) View) : Type 0 where
  pub wide : length s.words ≡ 2 * key.slots + 1
  pub one_owner : (slot : ℕ) → slot < key.slots → total (owns slot) s.views ≡ 1
  pub places : (slot number : ℕ) → slot < key.slots → 0 < number
      → one_if (nat_eq (content_of s.words slot) number) + total (taken slot number) s.views
      ≡ total (published slot number) s.views
  pub rests : (slot : ℕ) → slot < key.slots → 0 < total (resting slot) s.views → content_of s.words slot ≡ 0
  pub flag_set : (slot : ℕ) → slot < key.slots → 0 < total (flagged slot) s.views → flag_of s.words slot % 2 ≡ 1
  pub flag_only : (slot : ℕ) → slot < key.slots → flag_of s.words slot % 2 ≡ 1 → 0 < total (flagged slot) s.views
  pub in_order : All IsInOrder s.views
  pub found : (slot : ℕ) → slot < key.slots → 0 < total (found_flagged slot) s.views → flag_of s.words slot % 2 ≡ 1
  pub stands : (slot : ℕ) → slot < key.slots → 0 < total (standing slot) s.views → 0 < total (ended slot) s.views
      → content_of s.words slot ≡ 0
  pub all_cancellers : total canceller_count s.views ≡ key.cancellers
  pub few_slots : key.slots ≤ most_slots
  pub few_cancellers : key.cancellers ≤ most_seats

-- so many numbers from this one on
abbrev pub span : ℕ → ℕ → List ℕ
span start zero = []
span start (suc count) = start ∷ span (start + 1) count

-- the view of the first party, which makes the others
abbrev pub at_first : Parties → View
at_first key = First (span 0 key.slots) key.cancellers

-- the view of the first party once it has made the owners below this slot
abbrev pub first_from : ℕ → ℕ → View → View
first_from slot count before = First (span slot (count - slot)) (canceller_count before)

-- the view of the first party once it has made all owners
abbrev pub no_owner_left : View → View
no_owner_left before = First [] (canceller_count before)

-- what an owner with this view knows
abbrev pub owning_of : View → Owning
owning_of (First owners_left cancellers_left) = new_owning 0
owning_of (Owner owning) = owning
owning_of (Canceller asking) = new_owning 0

-- a canceller knows nothing when it is made
abbrev pub new_asking : Asking
new_asking = record { flagged = replicate most_slots false; ended = replicate most_slots false; taken = [] }

-- what a canceller with this view knows
abbrev pub asking_of : View → Asking
asking_of (First owners_left cancellers_left) = new_asking
asking_of (Owner owning) = new_asking
asking_of (Canceller asking) = asking

-- the first party has made the owner of the first slot in its list
abbrev pub one_owner_less : View → View
one_owner_less (First [] cancellers_left) = First [] cancellers_left
one_owner_less (First (slot ∷ owners_left) cancellers_left) = First owners_left cancellers_left
one_owner_less (Owner owning) = Owner owning
one_owner_less (Canceller asking) = Canceller asking

-- the view of that owner
abbrev pub next_owner : View → View
next_owner (First [] cancellers_left) = First [] 0
next_owner (First (slot ∷ owners_left) cancellers_left) = Owner (new_owning slot)
next_owner (Owner owning) = First [] 0
next_owner (Canceller asking) = First [] 0

-- the first party has made a canceller
abbrev pub one_canceller_less : View → View
one_canceller_less (First owners_left cancellers_left) = First owners_left (cancellers_left - 1)
one_canceller_less (Owner owning) = Owner owning
one_canceller_less (Canceller asking) = Canceller asking

-- the view of that canceller
abbrev pub new_canceller : View
new_canceller = Canceller new_asking

-- a list with what came out of the content, if that is a use
abbrev pub out_of : ℕ → List ℕ → List ℕ
out_of found taken = if nat_eq found 0 then taken else found ∷ taken

-- an owner has swapped its use into the content
abbrev pub owning_published : ℕ → Owning → Owning
owning_published number owning =
    record owning { stage = Published; published = number; stood = false; found_set = false }

-- the same, of a view
abbrev pub owner_published : ℕ → View → View
owner_published number (First owners_left cancellers_left) = First owners_left cancellers_left
owner_published number (Owner owning) = Owner (owning_published number owning)
owner_published number (Canceller asking) = Canceller asking

-- an owner has read the flag: it stands where the flag is clear, and knows it where the flag is set
abbrev pub owning_checked : Bool → Owning → Owning
owning_checked clear owning =
    if clear then record owning { stage = Standing; stood = true } else record owning { found_set = true }

-- an owner may take its use out once it has read the flag: it stands, or has found it set
abbrev pub may_take_back : Owning → Bool
may_take_back owning = is_standing owning.stage || owning.found_set

-- an owner has swapped its use in, and has found the flag set then
abbrev pub owning_found_set : ℕ → Owning → Owning
owning_found_set number owning = owning_checked false (owning_published number owning)

-- the same as a check, of a view
abbrev pub owner_checked : ℕ → View → View
owner_checked found (First owners_left cancellers_left) = First owners_left cancellers_left
owner_checked found (Owner owning) = Owner (owning_checked (nat_eq (found % 2) 0) owning)
owner_checked found (Canceller asking) = Canceller asking

-- an owner has swapped 0 into the content, and has taken what came out
abbrev pub owner_done : ℕ → View → View
owner_done found (First owners_left cancellers_left) = First owners_left cancellers_left
owner_done found (Owner owning) = Owner (record owning { stage = Done; taken = out_of found owning.taken })
owner_done found (Canceller asking) = Canceller asking

-- a canceller has set the flag of a slot
abbrev pub asking_flagged : ℕ → Asking → Asking
asking_flagged slot asking = record asking { flagged = slice_set asking.flagged slot true }

-- the same, of a view
abbrev pub slot_flagged : ℕ → View → View
slot_flagged slot (First owners_left cancellers_left) = First owners_left cancellers_left
slot_flagged slot (Owner owning) = Owner owning
slot_flagged slot (Canceller asking) = Canceller (asking_flagged slot asking)

-- a canceller has swapped 0 into the content of a slot, and has taken what came out
abbrev pub slot_ended : ℕ → ℕ → View → View
slot_ended slot found (First owners_left cancellers_left) = First owners_left cancellers_left
slot_ended slot found (Owner owning) = Owner owning
slot_ended slot found (Canceller asking) = Canceller (record asking {
  ended = slice_set asking.ended slot true;
  taken = if nat_eq found 0 then asking.taken else (slot, found) ∷ asking.taken;
})

-- One step that the rule allows: there is a state that keeps it, in which some party has the view and a word is as
-- found. The word and the party's view become what is given behind each, nothing else changes, and the rule is kept
abbrev pub IsEvent : ℕ → ℕ → ℕ → View → View → Type 0
IsEvent word found left view view_after =
    (key : Parties) × (state : State (Unit {0}) View) × (party : ℕ)
    × Kept key state × (word < 2 * key.slots)
    × (get_elem? state.views party ≡ some view) × (slice_index state.words word ≡ found)
    × Kept key (record {
      words = slice_set state.words word left;
      homes = state.homes;
      views = slice_set state.views party view_after;
    })

-- a party of the table, in a step
abbrev pub Party : Type 0
Party = Me (Unit {0}) View

-- the operands of a step
abbrev pub At : Type 0
At = Step (Unit {0})

-- what an owner learns that swaps its use in: the use is the step's first operand, and nothing was in the slot
abbrev pub publishes : At → Party → ℕ → Party → Type 0
publishes at party found after =
    (after ≡ (owner_published at.first party.0, party.1)) × (found ≡ 0) × IsEvent at.word found at.first party.0 after.0

-- what an owner learns that reads the flag
abbrev pub checks : At → Party → ℕ → Party → Type 0
checks at party found after =
    (after ≡ (owner_checked found party.0, party.1)) × IsEvent at.word found found party.0 after.0

-- what an owner learns that swaps 0 in: what was in the slot is its own publication, or nothing
abbrev pub takes_back : At → Party → ℕ → Party → Type 0
takes_back at party found after =
    (after ≡ (owner_done found party.0, party.1)) × ((found ≡ 0) ⊎ (found ≡ (owning_of party.0).published))
    × IsEvent at.word found 0 party.0 after.0

-- what a canceller learns that sets the flag. The slot is half the word's number
abbrev pub flags : At → Party → ℕ → Party → Type 0
flags at party found after =
    (after ≡ (slot_flagged (at.word / 2) party.0, party.1)) × IsEvent at.word found (bit_or found 1) party.0 after.0

-- what a canceller learns that swaps 0 in
abbrev pub takes_out : At → Party → ℕ → Party → Type 0
takes_out at party found after =
    (after ≡ (slot_ended (at.word / 2) found party.0, party.1)) × IsEvent at.word found 0 party.0 after.0
