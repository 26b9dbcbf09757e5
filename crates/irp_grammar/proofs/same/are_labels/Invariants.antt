use Rattle.std.proofs.Common.{◌≡◌, ℕ, ◌<◌, Bor, Global, List, String, get_or, string_bytes}
use Rattle.irp_grammar.proofs.same.are_labels.Given as goal

abbrev pub invariant-loop-place : goal.invariant-loop-place
invariant-loop-place l =
    (k : ℕ) (d : String Global) (e : Bor (List ℕ)) → k < l.place
    → string_bytes (get_or l.texts k d) ≡ (get_or l.labels k e).now
