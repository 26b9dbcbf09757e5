-- What a JSON value reads as: numbers, keys, items and lists. None where the value has another form.
use Rattle.std.specs.Prelude.{◌≡◌, ℕ, ◌^◌, ◌-◌, ◌==◌, ◌&&◌, List, [], ◌∷◌, length, map, nat_le, Bool, true, false}
use Rattle.std.specs.Prelude.{is_some, Option, Some, None, Result, Ok, Err, if◌then◌else◌}
use Rattle.std.specs.Bool.{then_some}
use Rattle.std.specs.Borrow.{Bor}
use Rattle.serde_json.specs.Data.{Data, null, array, object, Items, no_items, item}
use Rattle.serde_json.specs.Find.{get, as_number, as_u64, as_array}
use Rattle.serde_json.specs.Events.{items_len, members_len}
use Rattle.irp_forms.specs.declared.unread.Unread.{Unread}
use Rattle.irp_forms.specs.declared.unread.Unread.TheVariants.{Form, NoMemory}

-- read the one, and then what is read from it
infixl 10 ◌>>=◌
abbrev pub ◌>>=◌ : {A B : Type 0} → Option A → (A → Option B) → Option B
(Some value) >>= next = next value
None >>= next = None

-- the one, or else the other
abbrev pub or_else : {T : Type 0} → Option T → Option T → Option T
or_else (Some value) other = Some value
or_else None other = other

-- what was answered is what is read, unless memory ran out
abbrev pub Gives : {T : Type 0} → Result T Unread → Option T → Type 0
Gives (Ok value) read = read ≡ Some value
Gives (Err Form) read = read ≡ None
Gives (Err NoMemory) read = Unit {0}

-- a number up to the greatest one
abbrev pub up_to : ℕ → ℕ → Option ℕ
up_to greatest count = if nat_le count greatest then Some count else None

-- a whole number up to the greatest one
unfoldable pub number_at : ℕ → Data → Option ℕ
number_at greatest form = as_number form >>= λ given. as_u64 given >>= up_to greatest

-- a whole number in 8 bits
unfoldable pub u8_at : Data → Option ℕ
u8_at form = number_at 255 form

-- a whole number in 32 bits
unfoldable pub u32_at : Data → Option ℕ
u32_at form = number_at (2 ^ 32 - 1) form

-- a whole number in 64 bits
unfoldable pub u64_at : Data → Option ℕ
u64_at form = number_at (2 ^ 64 - 1) form

-- what is read so, or null
abbrev pub or_null_at : {T : Type 0} → (Data → Option T) → Data → Option (Option T)
or_null_at reads null = Some None
or_null_at reads form = reads form >>= λ value. Some (Some value)

-- an array of so many items
abbrev pub has_items : ℕ → Data → Bool
has_items count (array items) = items_len items == count
has_items count form = false

-- how many members an object has
abbrev pub count_members : Data → ℕ
count_members (object members) = members_len members
count_members form = 0

-- the keys that a list of text slices names
abbrev pub keys_in : List (Bor (List ℕ)) → List (List ℕ)
keys_in slices = map (λ slice. slice.now) slices

-- each of these keys is there
abbrev pub each_key : List (List ℕ) → Data → Bool
each_key [] form = true
each_key (key ∷ keys) form = is_some (get key form) && each_key keys form

-- an object with exactly these keys, which differ: as many members, and each key
unfoldable pub has_keys : List (List ℕ) → Data → Bool
has_keys keys form = (count_members form == length keys) && each_key keys form

-- some where it is an object with exactly these keys, which differ
abbrev pub only_keys : List (List ℕ) → Data → Option (Unit {0})
only_keys keys form = then_some (has_keys keys form) tt

-- some where it is an array of so many items
abbrev pub of_items : ℕ → Data → Option (Unit {0})
of_items count form = then_some (has_items count form) tt

-- what each item reads as
abbrev pub each : {T : Type 0} → (Data → Option T) → Items → Option (List T)
each reads no_items = Some []
each reads (item first others) = reads first >>= λ value. each reads others >>= λ values. Some (value ∷ values)

-- a list, by what each item reads as
unfoldable pub list_at : {T : Type 0} → (Data → Option T) → Data → Option (List T)
list_at reads form = as_array form >>= each reads
