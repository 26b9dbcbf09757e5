-- Statuses in words.
use Rattle.std.specs.Prelude.{ℕ, List, [], ◌∷◌, ◌++◌, codes, true, Option}
use Rattle.std.specs.Option.{option_map_or}
use Rattle.irp_types.specs.declared.status.Status.{Status}
use Rattle.irp_names.specs.Rows.{Row, named, numbered}
use Rattle.irp_names.specs.Small.{hex_text, wide_hex}

-- the statuses that drivers give often
abbrev pub status_rows : List Row
status_rows =
    (0x00000000, codes "STATUS_SUCCESS")
    ∷ (0x00000102, codes "STATUS_TIMEOUT")
    ∷ (0x00000103, codes "STATUS_PENDING")
    ∷ (0x00000104, codes "STATUS_REPARSE")
    ∷ (0x80000005, codes "STATUS_BUFFER_OVERFLOW")
    ∷ (0x80000006, codes "STATUS_NO_MORE_FILES")
    ∷ (0x80000011, codes "STATUS_DEVICE_BUSY")
    ∷ (0x8000001A, codes "STATUS_NO_MORE_ENTRIES")
    ∷ (0xC0000001, codes "STATUS_UNSUCCESSFUL")
    ∷ (0xC0000002, codes "STATUS_NOT_IMPLEMENTED")
    ∷ (0xC0000004, codes "STATUS_INFO_LENGTH_MISMATCH")
    ∷ (0xC0000005, codes "STATUS_ACCESS_VIOLATION")
    ∷ (0xC0000008, codes "STATUS_INVALID_HANDLE")
    ∷ (0xC000000D, codes "STATUS_INVALID_PARAMETER")
    ∷ (0xC000000E, codes "STATUS_NO_SUCH_DEVICE")
    ∷ (0xC000000F, codes "STATUS_NO_SUCH_FILE")
    ∷ (0xC0000010, codes "STATUS_INVALID_DEVICE_REQUEST")
    ∷ (0xC0000011, codes "STATUS_END_OF_FILE")
    ∷ (0xC0000016, codes "STATUS_MORE_PROCESSING_REQUIRED")
    ∷ (0xC0000017, codes "STATUS_NO_MEMORY")
    ∷ (0xC0000022, codes "STATUS_ACCESS_DENIED")
    ∷ (0xC0000023, codes "STATUS_BUFFER_TOO_SMALL")
    ∷ (0xC0000034, codes "STATUS_OBJECT_NAME_NOT_FOUND")
    ∷ (0xC0000035, codes "STATUS_OBJECT_NAME_COLLISION")
    ∷ (0xC0000043, codes "STATUS_SHARING_VIOLATION")
    ∷ (0xC0000056, codes "STATUS_DELETE_PENDING")
    ∷ (0xC000007F, codes "STATUS_DISK_FULL")
    ∷ (0xC000009A, codes "STATUS_INSUFFICIENT_RESOURCES")
    ∷ (0xC000009D, codes "STATUS_DEVICE_NOT_CONNECTED")
    ∷ (0xC00000A3, codes "STATUS_DEVICE_NOT_READY")
    ∷ (0xC00000B5, codes "STATUS_IO_TIMEOUT")
    ∷ (0xC00000BB, codes "STATUS_NOT_SUPPORTED")
    ∷ (0xC0000120, codes "STATUS_CANCELLED")
    ∷ (0xC0000184, codes "STATUS_INVALID_DEVICE_STATE")
    ∷ (0xC0000185, codes "STATUS_IO_DEVICE_ERROR")
    ∷ []

-- the name of a status, where it is one of these
abbrev pub status_name : ℕ → Option (List ℕ)
status_name number = named status_rows number

-- the number of the status that has this name, if one has it
abbrev pub status_named : List ℕ → Option ℕ
status_named name = numbered status_rows name

-- a status by its name, or by its number
abbrev pub status_text : Status → List ℕ
status_text status =
    option_map_or (λ (name : List ℕ). name) (status_name status.0) (codes "status " ++ wide_hex 8 true status.0)

-- a status and information
abbrev pub result_text : Status → ℕ → List ℕ
result_text status information = status_text status ++ (codes ", information " ++ hex_text information)
