-- Minor function codes in words.
use Rattle.std.specs.Prelude.{ℕ, ◌==◌, ◌&&◌, List, [], ◌∷◌, codes, Option}
use Rattle.std.specs.List.{find, slice_get}
use Rattle.std.specs.Option.{option_map}
use Rattle.std.proofs.Common.{bytes_eq}

-- a minor function code: its major, its number and its name
abbrev pub Minor : Type 0
Minor = ℕ × ℕ × List ℕ

-- the majors that have minors here: IRP_MJ_PNP and IRP_MJ_POWER
abbrev pub pnp : ℕ
pnp = 0x1b

abbrev pub power : ℕ
power = 0x16

-- each minor function code
unfoldable pub minor_rows : List Minor
minor_rows =
    (pnp, 0x00, codes "IRP_MN_START_DEVICE")
    ∷ (pnp, 0x01, codes "IRP_MN_QUERY_REMOVE_DEVICE")
    ∷ (pnp, 0x02, codes "IRP_MN_REMOVE_DEVICE")
    ∷ (pnp, 0x03, codes "IRP_MN_CANCEL_REMOVE_DEVICE")
    ∷ (pnp, 0x04, codes "IRP_MN_STOP_DEVICE")
    ∷ (pnp, 0x05, codes "IRP_MN_QUERY_STOP_DEVICE")
    ∷ (pnp, 0x06, codes "IRP_MN_CANCEL_STOP_DEVICE")
    ∷ (pnp, 0x07, codes "IRP_MN_QUERY_DEVICE_RELATIONS")
    ∷ (pnp, 0x08, codes "IRP_MN_QUERY_INTERFACE")
    ∷ (pnp, 0x09, codes "IRP_MN_QUERY_CAPABILITIES")
    ∷ (pnp, 0x0a, codes "IRP_MN_QUERY_RESOURCES")
    ∷ (pnp, 0x0b, codes "IRP_MN_QUERY_RESOURCE_REQUIREMENTS")
    ∷ (pnp, 0x0c, codes "IRP_MN_QUERY_DEVICE_TEXT")
    ∷ (pnp, 0x0d, codes "IRP_MN_FILTER_RESOURCE_REQUIREMENTS")
    ∷ (pnp, 0x0f, codes "IRP_MN_READ_CONFIG")
    ∷ (pnp, 0x10, codes "IRP_MN_WRITE_CONFIG")
    ∷ (pnp, 0x11, codes "IRP_MN_EJECT")
    ∷ (pnp, 0x12, codes "IRP_MN_SET_LOCK")
    ∷ (pnp, 0x13, codes "IRP_MN_QUERY_ID")
    ∷ (pnp, 0x14, codes "IRP_MN_QUERY_PNP_DEVICE_STATE")
    ∷ (pnp, 0x15, codes "IRP_MN_QUERY_BUS_INFORMATION")
    ∷ (pnp, 0x16, codes "IRP_MN_DEVICE_USAGE_NOTIFICATION")
    ∷ (pnp, 0x17, codes "IRP_MN_SURPRISE_REMOVAL")
    ∷ (power, 0x00, codes "IRP_MN_WAIT_WAKE")
    ∷ (power, 0x01, codes "IRP_MN_POWER_SEQUENCE")
    ∷ (power, 0x02, codes "IRP_MN_SET_POWER")
    ∷ (power, 0x03, codes "IRP_MN_QUERY_POWER")
    ∷ []

-- the name at a place of these rows, the number of the first with a name, and the name of the first with these numbers
abbrev pub name_at : ℕ → List Minor → Option (List ℕ)
name_at place rows = option_map (λ row. row.2) (slice_get rows place)

abbrev pub number_of : List ℕ → List Minor → Option ℕ
number_of name rows = option_map (λ row. row.1) (find (λ row. bytes_eq row.2 name) rows)

abbrev pub name_of : ℕ → ℕ → List Minor → Option (List ℕ)
name_of major number rows = option_map (λ row. row.2) (find (λ row. row.0 == major && row.1 == number) rows)
