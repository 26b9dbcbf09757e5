use Rattle.std.proofs.Common.{ℕ, ◌≢◌, ◌<◌, Bor, List, get_or}
use Rattle.irp_grammar.proofs.names.Names.place_of.Given as goal

-- no label so far is it
abbrev pub invariant-loop-place : goal.invariant-loop-place
invariant-loop-place l = (k : ℕ) (d : Bor (List ℕ)) → k < l.place → (get_or l.self.labels.items k d).now ≢ l.text
