-- What is written and the rest of the locations are the whole.
use Rattle.std.proofs.Common.{◌≡◌, ◌++◌, nat_lt, drop, map}
use Rattle.serde_json.specs.View.{items_of}
use Rattle.serde_json.specs.Written.{compact_text, items_text}
use Rattle.irp_transcript_writer.specs.Json.{list}
use Rattle.irp_story.specs.Forms.{location_json}
use Rattle.irp_story.proofs.packets.put_locations.Given as goal

abbrev pub invariant-loop-below : goal.invariant-loop-below
invariant-loop-below l =
    l.out.items ++ items_text (nat_lt 0 l.below) (items_of (map location_json (drop l.below l.packet.locations)))
    ≡ l.fn.out.items ++ compact_text (list (map location_json l.packet.locations))
