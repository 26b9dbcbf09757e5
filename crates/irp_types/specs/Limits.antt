-- How many there may be.
use Rattle.std.specs.Prelude.{ℕ, ◌^◌}
use Rattle.irp_types.specs.declared.limit.Limit.{Limit}
use Rattle.irp_types.specs.declared.limit.Limit.TheVariants.{Sixteen, ThirtyTwo}

-- locations of a packet, and devices of a stack, whatever the limit
abbrev pub most_locations : ℕ
most_locations = 32

-- locations of a packet, and devices of a stack, under a limit
abbrev pub most_under : Limit → ℕ
most_under Sixteen = 16
most_under ThirtyTwo = 32

-- devices that were ever created
abbrev pub most_devices : ℕ
most_devices = 64

-- live packets
abbrev pub most_live : ℕ
most_live = 4096

-- drivers
abbrev pub most_drivers : ℕ
most_drivers = 64

-- remove locks
abbrev pub most_locks : ℕ
most_locks = 64

-- references that a seat holds
abbrev pub most_held : ℕ
most_held = 64

-- seats
abbrev pub most_seats : ℕ
most_seats = 64

-- cancel slots
abbrev pub most_slots : ℕ
most_slots = 64

-- completion routines of one rule, and cancel routines
abbrev pub most_routines : ℕ
most_routines = 256

-- dispatches
abbrev pub most_dispatches : ℕ
most_dispatches = 256

-- use numbers are below this; the first is 1
abbrev pub use_limit : ℕ
use_limit = 2 ^ 63

-- the greatest major function code
abbrev pub last_major : ℕ
last_major = 0x1b
