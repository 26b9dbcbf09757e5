use Rattle.std.proofs.Common.{ℕ, List, ◌++◌, map, drop, false, string_bytes}
use Rattle.irp_view.specs.Joined.{ArePut}
use Rattle.irp_view.proofs.joined.with_uses.Given as goal

abbrev pub invariant-loop-word : goal.invariant-loop-word
invariant-loop-word l =
    (rest : List (List ℕ)) → ArePut l.may_name (map string_bytes (drop l.word-index l.words)) rest
    → ArePut false (map string_bytes l.words) (map string_bytes l.parted.items ++ rest)
