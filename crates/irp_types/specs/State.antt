-- The manager's state, and what is fixed while a manager lives.
use Rattle.std.specs.Prelude.{ℕ, ◌≡◌, ◌<◌, ◌≤◌, ◌==◌, List, [], map, length, find, slice_get, slice_index_or, All}
use Rattle.std.specs.Prelude.{Option, unwrap_or}
use Rattle.std.specs.List.Sorted.{IsStrictlyIncreasing}
use Rattle.std.specs.Ordering.{nat_cmp}
use Rattle.std.specs.Option.{option_map}
use Rattle.std.specs.FinMap as fin
use Rattle.irp_types.specs.Limits.{last_major, most_drivers, most_routines, most_dispatches}
use Rattle.irp_types.specs.Rules.{IsWithin}
use Rattle.irp_types.specs.Packet.{PacketValue, new_packet}
use Rattle.irp_types.specs.Stacks.{DevicesValue, no_devices}
use Rattle.irp_types.specs.declared.limit.Limit.{Limit}
use Rattle.irp_types.specs.declared.routine.Known.{Known}
use Rattle.irp_types.specs.declared.routine.CancelRule.{CancelRule}
use Rattle.irp_types.specs.declared.names.IrpRef.{IrpRef}
use Rattle.irp_types.specs.declared.names.DispatchId.{DispatchId}
use Rattle.irp_types.specs.declared.names.DriverId.{DriverId}

-- a live packet, and the number of its use
pub record LivePacket : Type 0 where
  pub packet : PacketValue
  pub use_no : ℕ

-- the live packets by slot, the devices, and the number of the next use
pub record StateValue : Type 0 where
  pub live : fin.FinMap nat_cmp LivePacket
  pub devices : DevicesValue
  pub next_use : ℕ

-- no packets, no devices, and the first use number
abbrev pub opening_state : StateValue
opening_state = record { live = fin.empty; devices = no_devices; next_use = 1 }

-- a major function code, and the dispatch for it
abbrev pub Entrance : Type 0
Entrance = ℕ × DispatchId

-- the dispatch for a major function code among these
abbrev pub dispatch_in : List Entrance → ℕ → Option DispatchId
dispatch_in entrances major =
    option_map (λ (entrance : Entrance). entrance.1) (find (λ (entrance : Entrance). entrance.0 == major) entrances)

-- the store's tables: how many routines there are, each driver's dispatches by major function code, which routines
-- each dispatch may name, and the rules of the cancel routines
pub record Tables : Type 0 where
  pub counts : Known
  pub drivers : List (List Entrance)
  pub dispatches : List Known
  pub cancel_rules : List CancelRule

-- a driver's majors are major function codes and rise, and each of its dispatches is there
pub record IsDriver (tables : Tables) (driver : List Entrance) : Type 0 where
  pub rising : IsStrictlyIncreasing (map (λ (entrance : Entrance). entrance.0) driver)
  pub majors : All (λ (entrance : Entrance). entrance.0 ≤ last_major) driver
  pub named : All (λ (entrance : Entrance). entrance.1.0 < length tables.dispatches) driver

-- no routines of any kind
abbrev pub no_routines : Known
no_routines = record { watch = 0; change = 0; keeper = 0; keep_on_error = 0; free = 0; cancel = 0 }

-- as many routines of each kind as there may be
abbrev pub most_known : Known
most_known = record {
  watch = most_routines;
  change = most_routines;
  keeper = most_routines;
  keep_on_error = most_routines;
  free = most_routines;
  cancel = most_routines;
}

-- the tables agree with each other, and are within the limits
pub record AreTables (tables : Tables) : Type 0 where
  pub cancels : tables.counts.cancel ≡ length tables.cancel_rules
  pub known : All (λ known. IsWithin known tables.counts) tables.dispatches
  pub drivers : All (IsDriver tables) tables.drivers
  pub few_routines : IsWithin tables.counts most_known
  pub few_dispatches : length tables.dispatches ≤ most_dispatches
  pub few_drivers : length tables.drivers ≤ most_drivers

-- what is fixed while a manager lives: the number of remove locks, the tables, and the limit
pub record Fixed : Type 0 where
  pub locks : ℕ
  pub tables : Tables
  pub limit : Limit

-- the dispatch of a driver for a major function code
abbrev pub dispatch_for : Tables → DriverId → ℕ → Option DispatchId
dispatch_for tables driver major = dispatch_in (slice_index_or tables.drivers driver.0 []) major

-- which routines a dispatch may name, where there is such a dispatch
abbrev pub known_of : Tables → DispatchId → Option Known
known_of tables dispatch = slice_get tables.dispatches dispatch.0

-- the packet at a slot, where there is one
abbrev pub live_at : StateValue → ℕ → Option LivePacket
live_at state slot = fin.get state.live slot

-- the packet at a slot; a new one of use 0, which is never drawn, where there is none
abbrev pub packet_at : StateValue → ℕ → LivePacket
packet_at state slot = unwrap_or (live_at state slot) (record { packet = new_packet 1; use_no = 0 })

-- the packet that a reference names by its slot
abbrev pub packet_of : StateValue → IrpRef → PacketValue
packet_of state irp = (packet_at state irp.slot).packet

-- the state with another packet at a slot, of the same use
abbrev pub with_packet : StateValue → ℕ → PacketValue → StateValue
with_packet state slot packet =
    record state {
      live = fin.insert state.live slot (record { packet = packet; use_no = (packet_at state slot).use_no });
    }
