-- What the lines of completion routines, cancel routines and drivers say behind their names.
use Rattle.std.specs.Prelude.{ℕ, ◌≡◌, ◌≢◌, ◌⊎◌, List, [], ◌∷◌, ◌++◌, codes, drop, length, Option, Some, None}
use Rattle.irp_types.specs.declared.answer.{CancelAnswer.CancelAnswer, Replacement.Replacement}
use Rattle.irp_types.specs.declared.answer.CancelAnswer.TheVariants as cancel
use Rattle.irp_types.specs.declared.{names.DispatchId.DispatchId, routine.Rule.Rule}
use Rattle.irp_types.specs.declared.routine.Rule.TheVariants as rule
use Rattle.irp_forms.specs.declared.key_parts.Part.TheVariants as part
use Rattle.irp_script_reader.specs.declared.script.Behaviour.{Behaviour}
use Rattle.irp_script_reader.specs.declared.script.Behaviour.TheVariants as behaviour
use Rattle.irp_grammar.specs.Lines.{next_of}
use Rattle.irp_grammar.specs.Naming.{Naming, TakesNumber}

-- what a completion routine does: it continues, keeps, or replaces status and information
pub record TakesReplacement (names : List Naming) (words rest : List (List ℕ)) (replacement : Replacement) : Type 0 where
  pub behind : List (List ℕ)
  pub status : TakesNumber names part.Status words behind replacement.status.0
  pub information : TakesNumber names part.Information behind rest replacement.information

abbrev pub TakesBehaviour : List Naming → List (List ℕ) → List (List ℕ) → Behaviour → Type 0
TakesBehaviour names words rest behaviour.Continue = (next_of words ≡ codes "continue") × (rest ≡ drop 1 words)
TakesBehaviour names words rest behaviour.Keep = (next_of words ≡ codes "keep") × (rest ≡ drop 1 words)
TakesBehaviour names words rest (behaviour.Replace replacement) =
    (next_of words ≡ codes "replace") × TakesReplacement names (drop 1 words) rest replacement

-- what it does of a success and of an error; a rule that leaves no choice may be written alone
abbrev pub only_behaviours : Rule → Option (Behaviour × Behaviour)
only_behaviours rule.Watch = Some (behaviour.Continue, behaviour.Continue)
only_behaviours rule.Keeper = Some (behaviour.Keep, behaviour.Keep)
only_behaviours rule.KeepOnError = Some (behaviour.Continue, behaviour.Keep)
only_behaviours others = None

abbrev pub TakesBoth : List Naming → List (List ℕ) → List (List ℕ) → Behaviour → Behaviour → Type 0
TakesBoth names words rest on_ok on_err =
    (behind : List (List ℕ)) × TakesBehaviour names words behind on_ok × TakesBehaviour names behind rest on_err

abbrev pub TakesBehaviours : List Naming → Rule → List (List ℕ) → List (List ℕ) → Behaviour → Behaviour → Type 0
TakesBehaviours names its words rest on_ok on_err =
    ((length words ≡ 0) × (only_behaviours its ≡ Some (on_ok, on_err)) × (rest ≡ words))
    ⊎ TakesBoth names words rest on_ok on_err

-- what a cancel routine does: it finishes the packet with this information, or leaves it
abbrev pub TakesCancel : List Naming → List (List ℕ) → List (List ℕ) → CancelAnswer → Type 0
TakesCancel names words rest (cancel.Finish information) =
    (next_of words ≡ codes "finish") × TakesNumber names part.Information (drop 1 words) rest information
TakesCancel names words rest cancel.Leave = (next_of words ≡ codes "leave") × (rest ≡ drop 1 words)

-- an entry of a driver's table: a major function code, and the dispatch behind it
pub record TakesEntry (names : List Naming) (words rest : List (List ℕ)) (entry : ℕ × DispatchId) : Type 0 where
  pub behind : List (List ℕ)
  pub major : TakesNumber names part.Major words behind entry.0
  pub dispatch : TakesNumber names part.Dispatch behind rest entry.1.0

-- entries, up to the line's end
abbrev pub TakeEntries : List Naming → List (List ℕ) → List (List ℕ) → List (ℕ × DispatchId) → Type 0
TakeEntries names words rest [] = rest ≡ words
TakeEntries names words rest (entry ∷ entries) =
    (behind : List (List ℕ)) × TakesEntry names words behind entry × TakeEntries names behind rest entries

pub record TakesTable (names : List Naming) (words rest : List (List ℕ)) (table : List (ℕ × DispatchId)) : Type 0 where
  pub says : ((next_of words ≡ codes "nothing") × (table ≡ []) × (rest ≡ drop 1 words))
      ⊎ ((next_of words ≢ codes "nothing") × TakeEntries names words rest table)

-- entries behind those that are there
abbrev pub TakesMore :
    List Naming → List (List ℕ) → List (List ℕ) → List (ℕ × DispatchId) → List (ℕ × DispatchId) → Type 0
TakesMore names words rest before after =
    (more : List (ℕ × DispatchId)) × TakeEntries names words rest more × (after ≡ before ++ more)
