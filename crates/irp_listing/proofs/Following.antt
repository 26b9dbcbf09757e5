-- One more entry is followed.
use Rattle.std.proofs.Common.{◌≡◌, ◌≢◌, ℕ, zero, suc, ◌==◌, nat_lt, List, [], ◌∷◌, ◌++◌, length, get_or, Bool, true, false, Option, Some, None, refl, sym, ap, ◌∙◌, arith}
use Rattle.std.specs.Prelude.{replicate, slice_set, if◌then◌else◌}
use Rattle.std.specs.Option.{option_flatten, option_or}
use Rattle.std.specs.Cmp.{unsigned_Decides}
use Rattle.std.proofs.lemmas.Bool.Decides.{nat_tests}
use Rattle.std.proofs.lemmas.Grind.{common_steps, get_or-set_at}
use Rattle.std.proofs.lemmas.List.{get_or-set_other, get_or_past}
use mathlib.Core.Bool.{true≢false}
use Rattle.irp_types.specs.declared.entry.Entry.{Entry}
use Rattle.irp_types.specs.declared.names.DeviceId.{DeviceId}
use Rattle.irp_listing.specs.Stacks.{held, last_of, last_told, told_of, with_told}

-- ---- what is told last

or_none : {T : Type 0} (told : Option T) → told ≡ option_or told None
or_none None = refl
or_none (Some value) = refl

or_assoc : {T : Type 0} (one two three : Option T) → option_or (option_or one two) three ≡ option_or one (option_or two three)
or_assoc None two three = refl
or_assoc (Some value) two three = refl

last_more : {T : Type 0} (tells : Entry → Option T) (entries : List Entry) (entry : Entry) → last_of tells (entries ++ entry ∷ []) ≡ option_or (tells entry) (last_of tells entries)
last_more tells [] entry = or_none (tells entry)
last_more tells (first ∷ entries) entry =
    ap (λ told. option_or told (tells first)) (last_more tells entries entry) ∙ or_assoc (tells entry) (last_of tells entries) (tells first)

-- ---- what is kept

abbrev none_of : (T : Type 0) → Option T
none_of T = None

all_none : {T : Type 0} (count place : ℕ) → get_or (replicate count (none_of T)) place None ≡ None
all_none zero place = refl
all_none (suc count) zero = refl
all_none (suc count) (suc place) = all_none count place

-- nothing is, where nothing is told yet
pub none_kept : {T : Type 0} (tells : Entry → Option (DeviceId × Option T)) (device : DeviceId) → held (replicate 64 (none_of T)) device ≡ last_told tells [] device
none_kept {T = T} tells device = all_none 64 device.0 ∙ by (nat_lt device.0 64)
  where
    by : (low : Bool) → none_of T ≡ (if low then option_flatten {T = T} None else None)
    by true = refl
    by false = refl

same_device : (of device : DeviceId) → (of.0 == device.0) ≡ true → device.0 ≡ of.0
same_device of device same = sym ((unsigned_Decides _ _).0 same)

other_device : (of device : DeviceId) → (of.0 == device.0) ≡ false → device.0 ≢ of.0
other_device of device other same = true≢false (sym ((unsigned_Decides _ _).1 (sym same)) ∙ other)

kept_one : {T : Type 0} (of device : DeviceId) (value : Option T) (old : List (Option T)) (before : Option (Option T)) (same low : Bool)
    → (of.0 == device.0) ≡ same → nat_lt device.0 64 ≡ low → length old ≡ 64 → held old device ≡ (if low then option_flatten before else None)
    → held (slice_set old of.0 value) device ≡ (if low then option_flatten (option_or (if same then Some value else None) before) else None)
kept_one of device value old before true true same low size is =
    let is_same = same_device of device same in
    get_or-set_at old of.0 device.0 value None is_same (grind (arith, nat_tests, is_same, low, size))
kept_one of device value old before true false same low size is =
    get_or_past (slice_set old of.0 value) device.0 None (grind (arith, nat_tests, common_steps, low, size))
kept_one of device value old before false true same low size is = get_or-set_other old of.0 device.0 value None (other_device of device same) ∙ is
kept_one of device value old before false false same low size is = get_or-set_other old of.0 device.0 value None (other_device of device same) ∙ is

-- what is kept after one more entry is what the entries then tell
pub follows : {T : Type 0} (tells : Entry → Option (DeviceId × Option T)) (so_far : List Entry) (entry : Entry) (old : List (Option T)) (device : DeviceId)
    → length old ≡ 64 → held old device ≡ last_told tells so_far device → held (with_told old (tells entry)) device ≡ last_told tells (so_far ++ entry ∷ []) device
follows {T = T} tells so_far entry old device size is = by (tells entry) refl
  where
    more : (told : Option (DeviceId × Option T)) → tells entry ≡ told
        → option_or (told_of device told) (last_of (λ one. told_of device (tells one)) so_far) ≡ last_of (λ one. told_of device (tells one)) (so_far ++ entry ∷ [])
    more told e =
        ap (λ told. option_or (told_of device told) (last_of (λ one. told_of device (tells one)) so_far)) (sym e)
        ∙ sym (last_more (λ one. told_of device (tells one)) so_far entry)

    by : (told : Option (DeviceId × Option T)) → tells entry ≡ told → held (with_told old told) device ≡ last_told tells (so_far ++ entry ∷ []) device
    by None e = is ∙ ap (λ last. if nat_lt device.0 64 then option_flatten last else None) (more None e)
    by (Some told) e =
        kept_one told.0 device told.1 old (last_of (λ one. told_of device (tells one)) so_far) (told.0.0 == device.0) (nat_lt device.0 64) refl refl size is
        ∙ ap (λ last. if nat_lt device.0 64 then option_flatten last else None) (more (Some told) e)

-- as many devices are kept
pub as_many : {T : Type 0} (old : List (Option T)) (told : Option (DeviceId × Option T)) → length old ≡ 64 → length (with_told old told) ≡ 64
as_many old None size = size
as_many old (Some told) size = grind (arith, common_steps, size)
