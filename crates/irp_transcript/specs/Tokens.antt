-- Calls that not everyone may make.
use Rattle.std.specs.Prelude.{Bool, true, false}
use Rattle.irp_types.specs.Calls.{Call}
use Rattle.irp_types.specs.declared.call.Call.TheVariants.{FinishTaken}

-- a call that only who has a token may make
abbrev pub needs_token : Call → Bool
needs_token (FinishTaken irp token status information) = true
needs_token other = false
