-- What is said of a text that is meant as a script.
use Rattle.std.specs.Prelude.{◌≡◌, ℕ, List, [], ◌∷◌, Ok, Err}
use Rattle.irp_text_faults.specs.declared.message.FaultMessage.{FaultMessage}
use Rattle.irp_script_reader.specs.Scripts.{ReadsScript}
use Rattle.irp_script_reader.specs.declared.refusal.ScriptRefusal.{ScriptRefusal}
use Rattle.irp_script_reader.specs.declared.refusal.ScriptFault.TheVariants.{Refused}
use Rattle.irp_script_reader.specs.declared.script.Script.{Script}

-- nothing is said of a script that is read; else the first fault is the one for which it is refused
abbrev pub IsAdviceOn : List FaultMessage → List ℕ → Type 0
IsAdviceOn [] text = (script : Script) × ReadsScript (Ok script) text
IsAdviceOn (first ∷ others) text = ReadsScript (Err (Refused first.refusal)) text

-- faults, of which the first is the one for this refusal
abbrev pub BeginsWith : ScriptRefusal → List FaultMessage → Type 0
BeginsWith refusal [] = ⊥
BeginsWith refusal (first ∷ others) = first.refusal ≡ refusal
