-- The condition that a text says of a script.
use Rattle.std.specs.Prelude.{ℕ, ◌≡◌, Bool, List, length, map, string_bytes}
use Rattle.irp_names.specs.Rows.{Row}
use Rattle.irp_names.specs.Statuses.{status_rows}
use Rattle.irp_types.specs.Refusal.{refusal_name, refusals}
use Rattle.irp_types.specs.declared.refusal.Refusal.{Refusal}
use Rattle.irp_condition.specs.Formulas.{Formula, formula_of}
use Rattle.irp_condition.specs.Grammar.{TextSays}
use Rattle.irp_condition.specs.declared.condition.Condition.{Condition}
use Rattle.irp_condition.specs.declared.scope.Scope.{Scope}
use Rattle.irp_condition.specs.declared.value.Named.{Named}
use Rattle.irp_condition.specs.declared.value.Value.{Value}
use Rattle.irp_condition.specs.declared.value.Value.TheVariants.{Number, Refused}
use Rattle.irp_script_reader.specs.declared.script.ScriptParts.{ScriptParts}

-- a word, and the value that it stands for
abbrev pub word_of : Named → List ℕ × Value
word_of named = (named.name.now, named.value)

-- the names of statuses, each of which stands for its number
abbrev pub status_words : List (List ℕ × Value)
status_words = map (λ (row : Row). (row.1, Number row.0)) status_rows

-- the names of refusals, each of which stands for its refusal
abbrev pub refusal_words : List (List ℕ × Value)
refusal_words = map (λ (refusal : Refusal). (refusal_name refusal, Refused refusal)) refusals

-- what conditions on a script may speak of: its labels, steps and locks, what its steps were answered where that is
-- kept, and all names of statuses and of refusals
pub record IsScopeOf (script : ScriptParts) (tells : Bool) (scope : Scope) : Type 0 where
  pub labels : map string_bytes scope.labels.now ≡ script.labels
  pub steps : scope.steps ≡ length script.steps
  pub locks : scope.locks ≡ script.locks
  pub replies : scope.knows_replies ≡ tells
  pub statuses : map word_of scope.statuses.now ≡ status_words
  pub refusals : map word_of scope.refusals.now ≡ refusal_words

-- a text says this condition of a script
pub record Says (script : ScriptParts) (tells : Bool) (text : List ℕ) (condition : Condition) : Type 0 where
  pub scope : Scope
  pub of_script : IsScopeOf script tells scope
  pub said : TextSays scope text (formula_of condition)

-- a text says no condition of a script
pub record SaysNothing (script : ScriptParts) (tells : Bool) (text : List ℕ) : Type 0 where
  pub scope : Scope
  pub of_script : IsScopeOf script tells scope
  pub nothing : (formula : Formula) → TextSays scope text formula → ⊥
