-- What an object tells under the keys of an act is what was written there: one law for all acts, over their keys.
use Rattle.std.proofs.Common.{◌≡◌, List, [], ◌∷◌, Option, Some, map, option_map, refl, ap, ◌∙◌}
use Rattle.serde_json.specs.Data.{Data}
use Rattle.irp_forms.specs.Parts.{◌>>=◌, or_null_at, u8_at, u32_at, u64_at}
use Rattle.irp_forms.specs.Steps.{ActKey}
use Rattle.irp_forms.specs.Told.{each_told, part_under}
use Rattle.irp_forms.specs.Values.{cancel_at, device_at, driver_at, irp_at, lock_at, party_at, setting_at, status_at}
use Rattle.irp_forms.specs.declared.told.Told.{Told}
use Rattle.irp_forms.specs.declared.told.Told.TheVariants as told
use Rattle.irp_types.specs.declared.names.IrpRef.{IrpRef}
use Rattle.irp_transcript_writer.specs.Json.{natural, or_null}
use Rattle.irp_transcript_writer.specs.Lines.{cancel_json, device_json, irp_json, lock_json, party_json, setting_json, status_json}
use Rattle.irp_fast_reader.proofs.Numbers.{u8_back, u32_back, u64_back}
use Rattle.irp_fast_reader.proofs.Values.{cancel_or_null_back, device_back, irp_back, lock_back, party_back, setting_back, status_back}
use Rattle.irp_fast_reader.specs.Parts.{EachFits, ToldFits}

-- what is read where this was written
abbrev pub read_again : Told IrpRef → Option (Told IrpRef)
read_again (told.Driver driver) = option_map told.Driver (driver_at (natural driver.0))
read_again (told.Device device) = option_map told.Device (device_at (device_json device))
read_again (told.Lock lock) = option_map told.Lock (lock_at (lock_json lock))
read_again (told.Status status) = option_map told.Status (status_at (status_json status))
read_again (told.Party party) = option_map told.Party (party_at (party_json party))
read_again (told.Packet irp) = option_map told.Packet (irp_at (irp_json irp))
read_again (told.Setting setting) = option_map told.Setting (setting_at (setting_json setting))
read_again (told.Cancel cancel) = option_map told.Cancel (or_null_at cancel_at (or_null cancel_json cancel))
read_again (told.Byte number) = option_map told.Byte (u8_at (natural number))
read_again (told.Number number) = option_map told.Number (u32_at (natural number))
read_again (told.Long number) = option_map told.Long (u64_at (natural number))
read_again told.Other = Some told.Other

part_back : (part : Told IrpRef) → ToldFits part → read_again part ≡ Some part
part_back (told.Driver driver) h = rw (u32_back driver.0 h)
part_back (told.Device device) h = rw (device_back device h)
part_back (told.Lock lock) h = rw (lock_back lock h)
part_back (told.Status status) h = rw (status_back status h)
part_back (told.Party party) h = rw (party_back party h)
part_back (told.Packet irp) h = rw (irp_back irp h)
part_back (told.Setting setting) h = rw (setting_back setting h)
part_back (told.Cancel cancel) h = rw (cancel_or_null_back cancel h)
part_back (told.Byte number) h = rw (u8_back number h)
part_back (told.Number number) h = rw (u32_back number h)
part_back (told.Long number) h = rw (u64_back number h)
part_back told.Other h = refl

-- what is there of each, where each is there
abbrev all_of : {T : Type 0} → List (Option T) → Option (List T)
all_of [] = Some []
all_of (one ∷ others) = one >>= λ first. all_of others >>= λ more. Some (first ∷ more)

each_as_all : (keys : List ActKey) (packet : Option IrpRef) (form : Data) → each_told keys packet form ≡ all_of (map (λ key. part_under key packet form) keys)
unfolding each_told
each_as_all [] packet form = refl
each_as_all (key ∷ keys) packet form =
    ap (λ others. part_under key packet form >>= λ first. others >>= λ more. Some (first ∷ more)) (each_as_all keys packet form)

all_back : (parts : List (Told IrpRef)) → EachFits parts → all_of (map read_again parts) ≡ Some parts
all_back [] h = refl
all_back (part ∷ []) h = rw (part_back part h) refl
all_back (part ∷ next ∷ parts) h = rw (part_back part h.0, all_back (next ∷ parts) h.1) refl

-- where these parts were written under the keys, these are read
pub parts_back : (keys : List ActKey) (parts : List (Told IrpRef)) (packet : Option IrpRef) (form : Data)
    → map (λ key. part_under key packet form) keys ≡ map read_again parts → EachFits parts → each_told keys packet form ≡ Some parts
parts_back keys parts packet form written h = each_as_all keys packet form ∙ ap all_of written ∙ all_back parts h
