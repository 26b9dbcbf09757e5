-- What follows of a text whose first fault is told.
use Rattle.std.specs.Prelude.{ℕ, List, [], ◌∷◌, Err}
use Rattle.std.proofs.Common.{sym, subst}
use Rattle.irp_text_faults.specs.Advice.{BeginsWith, IsAdviceOn}
use Rattle.irp_text_faults.specs.declared.message.FaultMessage.{FaultMessage}
use Rattle.irp_script_reader.specs.Scripts.{ReadsScript}
use Rattle.irp_script_reader.specs.declared.refusal.ScriptRefusal.{ScriptRefusal}
use Rattle.irp_script_reader.specs.declared.refusal.ScriptFault.TheVariants.{Refused}

-- faults that begin with that of the refusal are advice on the text
pub begins_advice : (refusal : ScriptRefusal) (found : List FaultMessage) (text : List ℕ)
    → ReadsScript (Err (Refused refusal)) text → BeginsWith refusal found → IsAdviceOn found text
begins_advice refusal [] text reads begins = absurd begins
begins_advice refusal (first ∷ others) text reads begins =
    subst (λ (it : ScriptRefusal). ReadsScript (Err (Refused it)) text) (sym begins) reads
