-- What there is, or else a refusal.
use Rattle.std.proofs.Common.{◌≡◌, Option, Some, None, Result, refl}
use Rattle.std.specs.Option.{ok_or}
use Rattle.irp_script_reader.specs.Taking.{Tells}
use Rattle.irp_script_reader.specs.declared.refusal.{ScriptFault.ScriptFault, ScriptRefusal.ScriptRefusal}
use Rattle.irp_script_reader.specs.declared.refusal.ScriptFault.TheVariants.{Refused}

tells_each : {T : Type 0} (given : Option T) (refusal : ScriptRefusal) → Tells (ok_or given (Refused refusal)) (ok_or given refusal)
tells_each None refusal = refl
tells_each (Some value) refusal = refl

pub tells_or : {T : Type 0} {given other : Option T} {refusal : ScriptRefusal} {fault : ScriptFault} {result : Result T ScriptFault}
    → result ≡ ok_or given fault → fault ≡ Refused refusal → given ≡ other → Tells result (ok_or other refusal)
tells_or {other = other} {refusal = refusal} is same kept = rw (is, same, kept) (tells_each other refusal)
