-- Numbers, options and lists are read as they were written, and their forms stand.
use Rattle.std.proofs.Common.{◌≡◌, ℕ, ◌-◌, ◌^◌, ◌<◌, ◌≤◌, List, [], ◌∷◌, map, Option, Some, None, refl, arith, le-leb}
use Rattle.std.specs.Prelude.{IfSome}
use Rattle.std.specs.List.{All}
use Rattle.std.proofs.lemmas.List.Elements.{All-head, All-tail}
use Rattle.serde_json.specs.Data.{Data}
use Rattle.serde_json.specs.View.{items_of}
use Rattle.irp_forms.specs.Parts.{number_at, u8_at, u32_at, u64_at, each, list_at}
use Rattle.irp_transcript_writer.specs.Json.{natural, list, or_null}
use Rattle.irp_fast_reader.proofs.Stands.{Stands, ItemsStand}

number_back : (greatest count : ℕ) → count ≤ greatest → number_at greatest (natural count) ≡ Some count
unfolding number_at
number_back greatest count h = rw (le-leb count greatest h)

pub u8_back : (count : ℕ) → count < 2 ^ 8 → u8_at (natural count) ≡ Some count
unfolding u8_at
u8_back count h = number_back 255 count (omega arith)

pub u32_back : (count : ℕ) → count < 2 ^ 32 → u32_at (natural count) ≡ Some count
unfolding u32_at
u32_back count h = number_back (2 ^ 32 - 1) count (omega arith)

pub u64_back : (count : ℕ) → count < 2 ^ 64 → u64_at (natural count) ≡ Some count
unfolding u64_at
u64_back count h = number_back (2 ^ 64 - 1) count (omega arith)

pub wide : (count : ℕ) → count < 2 ^ 32 → count < 2 ^ 64
wide count h = omega arith

pub byte_wide : (count : ℕ) → count < 2 ^ 8 → count < 2 ^ 64
byte_wide count h = omega arith

pub or_null_stands : {T : Type 0} (form : T → Data) (Fits : T → Type 0) (levels : ℕ) → ((value : T) → Fits value → Stands (form value) levels)
    → (option : Option T) → IfSome option Fits → Stands (or_null form option) levels
or_null_stands form Fits levels each_stands None h = tt
or_null_stands form Fits levels each_stands (Some value) h = each_stands value h

items_back : {T : Type 0} (form : T → Data) (reads : Data → Option T) (Fits : T → Type 0) → ((value : T) → Fits value → reads (form value) ≡ Some value)
    → (values : List T) → All Fits values → each reads (items_of (map form values)) ≡ Some values
items_back form reads Fits each_back [] h = refl
items_back form reads Fits each_back (first ∷ others) h =
    rw (each_back first (All-head Fits first others h), items_back form reads Fits each_back others (All-tail Fits first others h))

-- a list of forms is read as the list of their values
pub list_back : {T : Type 0} (form : T → Data) (reads : Data → Option T) (Fits : T → Type 0) → ((value : T) → Fits value → reads (form value) ≡ Some value)
    → (values : List T) → All Fits values → list_at reads (list (map form values)) ≡ Some values
unfolding list_at
list_back form reads Fits each_back values h = items_back form reads Fits each_back values h

-- the forms of a list stand
pub items_stand : {T : Type 0} (form : T → Data) (Fits : T → Type 0) (levels : ℕ) → ((value : T) → Fits value → Stands (form value) levels)
    → (values : List T) → All Fits values → ItemsStand (items_of (map form values)) levels
items_stand form Fits levels each_stands [] h = tt
items_stand form Fits levels each_stands (first ∷ others) h =
    (each_stands first (All-head Fits first others h), items_stand form Fits levels each_stands others (All-tail Fits first others h))
