use Rattle.std.proofs.Common.{take}
use Rattle.std.specs.List.{flat_map}
use Rattle.irp_forms.specs.Steps.{keys_named}
use Rattle.irp_names.specs.Sinks.{Says}
use Rattle.irp_grammar.specs.Faults.{key_said}
use Rattle.irp_grammar.proofs.wanted.put_each.Given as goal

-- the keys so far stand there
abbrev pub invariant-loop-key : goal.invariant-loop-key
invariant-loop-key l = Says (flat_map key_said (take l.key-index (keys_named l.keys))) l.fn.text l.text
