-- Which owners and cancellers belong to which slots.
use Rattle.std.specs.Prelude.{◌≡◌, ℕ}
use Rattle.atomic_table.specs.Seated.{TableId}
use Rattle.irp_slots.specs.declared.table.Slots.{Slots}
use Rattle.irp_slots.specs.declared.views.Parties.{Parties}
use Rattle.irp_slots.specs.Models.{Publisher, Asker}

-- the table of the slots' words
abbrev pub table_of : Slots → TableId
table_of slots = slots.table.shared.table_id

-- how many slots there are, and how many cancellers
abbrev pub key_of : Slots → Parties
key_of slots = slots.table.shared.key

-- how many slots there are
abbrev pub slot_count : Slots → ℕ
slot_count slots = (key_of slots).slots

-- the owner was opened with these slots
abbrev pub IsOwnerOf : Slots → Publisher → Type 0
IsOwnerOf slots publisher = publisher.table ≡ table_of slots

-- the canceller was opened with these slots
abbrev pub IsCancellerOf : Slots → Asker → Type 0
IsCancellerOf slots asker = asker.table ≡ table_of slots
