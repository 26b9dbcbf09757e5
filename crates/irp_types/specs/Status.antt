-- Statuses and their classes.
use Rattle.std.specs.Prelude.{Bool, nat_lt, ◌==◌, not, ◌&&◌}
use Rattle.irp_types.specs.declared.status.Status.{Status}

-- STATUS_SUCCESS
abbrev pub success : Status
success = record { 0 = 0 }

-- STATUS_PENDING: the answer to a sender where a device on the way down answered so; no packet is completed with it
abbrev pub pending : Status
pending = record { 0 = 0x103 }

-- STATUS_INVALID_DEVICE_REQUEST: the driver has no dispatch for the major function code
abbrev pub invalid_device_request : Status
invalid_device_request = record { 0 = 0xC0000010 }

-- STATUS_MORE_PROCESSING_REQUIRED: what a routine that keeps a packet answers; no packet is completed with it
abbrev pub more_processing_required : Status
more_processing_required = record { 0 = 0xC0000016 }

-- STATUS_CANCELLED: the outcome of a packet that a cancel routine finished
abbrev pub cancelled : Status
cancelled = record { 0 = 0xC0000120 }

-- NT_SUCCESS: the number is below 0x80000000
abbrev pub is_success : Status → Bool
is_success status = nat_lt status.0 0x80000000

-- a packet may be completed with it: neither PENDING nor MORE_PROCESSING_REQUIRED
abbrev pub is_completable : Status → Bool
is_completable status = not (status.0 == pending.0) && not (status.0 == more_processing_required.0)
