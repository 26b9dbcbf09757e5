use Rattle.std.proofs.Common.{ℕ, ◌<◌, get_or}
use Rattle.irp_grammar.specs.Naming.{IsNameOf, naming_of}
use Rattle.irp_grammar.specs.declared.names.Name.{Name}
use Rattle.irp_grammar.proofs.names.Names.find.Given as goal

-- no name so far is it
abbrev pub invariant-loop-name : goal.invariant-loop-name
invariant-loop-name l =
    (k : ℕ) (d : Name) → k < l.name-index → ¬ (IsNameOf l.part l.text (naming_of (get_or l.self.names.items k d)))
