use Rattle.std.proofs.Common.{◌≡◌, ◌≤◌}
use Rattle.std.specs.FinMap as fin
use Rattle.irp_manager.specs.Slots.{kept}
use Rattle.irp_plain.proofs.keep.PlainKeepKeep.len.Given as goal

-- so many packets are live in the places so far
abbrev pub invariant-loop-place : goal.invariant-loop-place
invariant-loop-place l = record {
  counted : l.count ≡ fin.len (kept l.self l.place-index);
  few : l.count ≤ l.place-index;
}
