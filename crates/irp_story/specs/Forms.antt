-- Where a packet is, and what the manager keeps of it, as JSON.
use Rattle.std.specs.Prelude.{[], ◌∷◌, codes, map, if◌then◌else◌}
use Rattle.serde_json.specs.Data.{Data, boolean, null, string}
use Rattle.irp_types.specs.Packet.{PacketValue}
use Rattle.irp_types.specs.Steps.{seen_of}
use Rattle.irp_types.specs.declared.entry.Entry.{Entry}
use Rattle.irp_types.specs.declared.location.Location.{Location}
use Rattle.irp_types.specs.declared.location.Preparation.{Preparation}
use Rattle.irp_types.specs.declared.location.Preparation.TheVariants.{Nothing, Filled, Skipped}
use Rattle.irp_types.specs.declared.names.IrpRef.{IrpRef}
use Rattle.irp_types.specs.declared.reply.Seen.{Seen}
use Rattle.irp_listing.specs.Heads.{moves}
use Rattle.irp_listing.specs.Outcomes.{outcome_of}
use Rattle.irp_listing.specs.declared.outcome.Outcome.{Outcome}
use Rattle.irp_listing.specs.declared.outcome.Outcome.TheVariants.{Held, Kept, Stays, Completed}
use Rattle.irp_transcript_writer.specs.Json.{fields, list, natural, or_null}
use Rattle.irp_transcript_writer.specs.Lines.{cancel_json, device_json, irp_json, owner_json, setting_json, status_json}

-- where a packet is after a call that moved it: a device holds it; a routine kept it for a device, or for the originator;
-- it stays with its device; or it has completed
abbrev pub outcome_json : Outcome → Data
outcome_json (Held device) = list (string (codes "held") ∷ or_null device_json device ∷ [])
outcome_json (Kept device status information) =
    list (string (codes "kept") ∷ or_null device_json device ∷ status_json status ∷ natural information ∷ [])
outcome_json Stays = list (string (codes "stays") ∷ [])
outcome_json (Completed status information) =
    list (string (codes "completed") ∷ status_json status ∷ natural information ∷ [])

-- the same of an entry, and null where its call moved no packet
abbrev pub moved_json : Entry → Data
moved_json entry = if moves entry entry.reply then outcome_json (outcome_of entry.call entry.asked) else null

-- a stack location, with the completion routine that is set there
abbrev pub location_json : Location → Data
location_json location =
    fields ((codes "device", or_null device_json location.device)
    ∷ (codes "major", natural location.major)
    ∷ (codes "pending", boolean location.pending)
    ∷ (codes "routine", or_null setting_json location.setting)
    ∷ (codes "word", natural location.word)
    ∷ [])

-- what was prepared for the next lower device
abbrev pub prepared_json : Preparation → Data
prepared_json Nothing = string (codes "nothing")
prepared_json Filled = string (codes "filled")
prepared_json Skipped = string (codes "skipped")

-- what Look shows of a packet, by names
abbrev pub seen_by_name : Seen → Data
seen_by_name seen =
    fields ((codes "cancel", boolean seen.cancel)
    ∷ (codes "cancel_routine", or_null cancel_json seen.cancel_routine)
    ∷ (codes "current", natural seen.current)
    ∷ (codes "information", natural seen.information)
    ∷ (codes "marked", boolean seen.marked)
    ∷ (codes "owner", owner_json seen.owner)
    ∷ (codes "pending_returned", boolean seen.pending_returned)
    ∷ (codes "status", status_json seen.status)
    ∷ [])

-- a packet, as the manager keeps it: its locations, location 1 first, and what stands beside them
abbrev pub packet_json : IrpRef → PacketValue → Data
packet_json irp packet =
    fields ((codes "irp", irp_json irp)
    ∷ (codes "locations", list (map location_json packet.locations))
    ∷ (codes "prepared", prepared_json packet.preparation)
    ∷ (codes "seen", seen_by_name (seen_of packet))
    ∷ (codes "slot_held", boolean packet.slot_held)
    ∷ [])
