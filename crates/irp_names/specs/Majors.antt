-- Major function codes in words.
use Rattle.std.specs.Prelude.{ℕ, ◌≢◌, ◌<◌, List, [], ◌∷◌, ◌++◌, codes, false, Some}
use Rattle.std.specs.Option.{option_map_or}
use Rattle.irp_names.specs.Rows.{Row, named}
use Rattle.irp_names.specs.Small.{wide_hex}

-- each major function code, and its name
abbrev pub major_rows : List Row
major_rows =
    (0x00, codes "IRP_MJ_CREATE")
    ∷ (0x01, codes "IRP_MJ_CREATE_NAMED_PIPE")
    ∷ (0x02, codes "IRP_MJ_CLOSE")
    ∷ (0x03, codes "IRP_MJ_READ")
    ∷ (0x04, codes "IRP_MJ_WRITE")
    ∷ (0x05, codes "IRP_MJ_QUERY_INFORMATION")
    ∷ (0x06, codes "IRP_MJ_SET_INFORMATION")
    ∷ (0x07, codes "IRP_MJ_QUERY_EA")
    ∷ (0x08, codes "IRP_MJ_SET_EA")
    ∷ (0x09, codes "IRP_MJ_FLUSH_BUFFERS")
    ∷ (0x0a, codes "IRP_MJ_QUERY_VOLUME_INFORMATION")
    ∷ (0x0b, codes "IRP_MJ_SET_VOLUME_INFORMATION")
    ∷ (0x0c, codes "IRP_MJ_DIRECTORY_CONTROL")
    ∷ (0x0d, codes "IRP_MJ_FILE_SYSTEM_CONTROL")
    ∷ (0x0e, codes "IRP_MJ_DEVICE_CONTROL")
    ∷ (0x0f, codes "IRP_MJ_INTERNAL_DEVICE_CONTROL")
    ∷ (0x10, codes "IRP_MJ_SHUTDOWN")
    ∷ (0x11, codes "IRP_MJ_LOCK_CONTROL")
    ∷ (0x12, codes "IRP_MJ_CLEANUP")
    ∷ (0x13, codes "IRP_MJ_CREATE_MAILSLOT")
    ∷ (0x14, codes "IRP_MJ_QUERY_SECURITY")
    ∷ (0x15, codes "IRP_MJ_SET_SECURITY")
    ∷ (0x16, codes "IRP_MJ_POWER")
    ∷ (0x17, codes "IRP_MJ_SYSTEM_CONTROL")
    ∷ (0x18, codes "IRP_MJ_DEVICE_CHANGE")
    ∷ (0x19, codes "IRP_MJ_QUERY_QUOTA")
    ∷ (0x1a, codes "IRP_MJ_SET_QUOTA")
    ∷ (0x1b, codes "IRP_MJ_PNP")
    ∷ []

-- no major below this one has the name
abbrev pub NoneIsNamed : List ℕ → ℕ → Type 0
NoneIsNamed name next = (major : ℕ) → major < next → named major_rows major ≢ Some name

-- a major by its name, or by its number
abbrev pub major_text : ℕ → List ℕ
major_text major =
    option_map_or (λ (name : List ℕ). name) (named major_rows major) (codes "major " ++ wide_hex 2 false major)
