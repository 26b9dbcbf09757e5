use Rattle.std.proofs.Common.{◌≡◌}
use Rattle.std.specs.Prelude.{codes, string_bytes}
use Rattle.std.specs.List.{repeat}
use Rattle.irp_listing.proofs.blocks.indent.Given as goal

-- so many steps stand there
abbrev pub invariant-loop-step : goal.invariant-loop-step
invariant-loop-step l = string_bytes l.words ≡ repeat l._step (codes "  ")
