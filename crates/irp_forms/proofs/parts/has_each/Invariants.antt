use Rattle.std.proofs.Common.{◌≡◌, map, drop}
use Rattle.serde_json.specs.View.{view}
use Rattle.irp_forms.specs.Parts.{each_key}
use Rattle.irp_forms.proofs.parts.has_each.Given as goal

abbrev pub invariant-loop-key : goal.invariant-loop-key
invariant-loop-key l = each_key (map (λ k. k.now) l.keys) (view l.value) ≡ each_key (map (λ k. k.now) (drop l.key-index l.keys)) (view l.value)
