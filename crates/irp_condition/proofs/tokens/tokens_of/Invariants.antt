use Rattle.std.proofs.Common.{◌≡◌, ◌≤◌}
use Rattle.irp_condition.specs.Tokens.{tokens_below, begin_of}
use Rattle.irp_condition.proofs.tokens.tokens_of.Given as goal

abbrev pub invariant-loop-place : goal.invariant-loop-place
invariant-loop-place l = record {
  tokens : l.tokens.items ≡ tokens_below l.text l.place;
  begin : l.begin ≡ begin_of l.text l.place;
  low : l.begin ≤ l.place;
}
