-- The label's place is as many as there are before here, and its place from here on.
use Rattle.std.proofs.Common.{◌≡◌, ◌+◌, drop, map, string_bytes}
use Rattle.irp_script_reader.specs.Labels.{place_of}
use Rattle.irp_script_reader.proofs.labels.Labels.place_of.Given as goal

abbrev pub invariant-loop-place : goal.invariant-loop-place
invariant-loop-place l = place_of l.label (map string_bytes l.text-items) ≡ l.place + place_of l.label (map string_bytes (drop l.place l.text-items))
