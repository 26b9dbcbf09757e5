use Rattle.std.proofs.Common.{◌≡◌}
use Rattle.irp_explore.proofs.path.add_path.Given as goal

abbrev pub invariant-loop-place : goal.invariant-loop-place
invariant-loop-place l = record {
  paths : l.paths ≡ l.fn.paths;
  path : l.path ≡ l.fn.path;
}
