use Rattle.std.proofs.Common.{◌≡◌, drop, length}
use Rattle.serde_json.specs.View.{view}
use Rattle.irp_forms.specs.Steps.{keys_named}
use Rattle.irp_forms.specs.Told.{each_told}
use Rattle.irp_forms.proofs.Lists.{prepend}
use Rattle.irp_forms.proofs.told.each_told.Given as goal

abbrev pub invariant-loop-key : goal.invariant-loop-key
invariant-loop-key g l =
    (length l.told.items ≡ l.key-index)
    × (each_told (keys_named l.keys) l.packet (view l.value)
    ≡ prepend l.told.items (each_told (keys_named (drop l.key-index l.keys)) l.packet (view l.value)))
