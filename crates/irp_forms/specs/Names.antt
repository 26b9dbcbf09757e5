-- Values that texts have by their names: rules, flags and refusals. None where the name is no value's.
use Rattle.std.specs.Prelude.{ℕ, List, [], ◌∷◌, ◌++◌, codes, Bool, true, false, Option}
use Rattle.std.specs.List.{find}
use Rattle.std.proofs.Common.{bytes_eq}
use Rattle.serde_json.specs.Data.{Data}
use Rattle.serde_json.specs.Find.{as_str}
use Rattle.irp_forms.specs.Parts.{◌>>=◌}
use Rattle.irp_forms.specs.declared.names.Flags.{Flags}
pub use Rattle.irp_types.specs.Refusal.{refusal_name}
unfoldable pub use Rattle.irp_types.specs.Refusal.{refusals}
use Rattle.irp_types.specs.declared.{refusal.Refusal.Refusal, routine.CancelRule.CancelRule, routine.Rule.Rule}
use Rattle.irp_types.specs.declared.routine.CancelRule.TheVariants as cancel_rule
use Rattle.irp_types.specs.declared.routine.Rule.TheVariants as rule

-- the first of these values that has the given name
abbrev pub first_named : {T : Type 0} → (T → List ℕ) → List T → List ℕ → Option T
first_named name values given = find (λ value. bytes_eq given (name value)) values

-- the first of these values whose name the text is
abbrev pub value_at : {T : Type 0} → (T → List ℕ) → List T → Data → Option T
value_at name values form = as_str form >>= first_named name values

-- the name of a completion routine's rule
abbrev pub rule_name : Rule → List ℕ
rule_name rule.Watch = codes "watch"
rule_name rule.Change = codes "change"
rule_name rule.Keeper = codes "keeper"
rule_name rule.KeepOnError = codes "keep_on_error"
rule_name rule.Free = codes "free"

-- every rule of a completion routine
unfoldable pub rules : List Rule
rules = rule.Watch ∷ rule.Change ∷ rule.Keeper ∷ rule.KeepOnError ∷ rule.Free ∷ []

-- a completion routine's rule by its name
abbrev pub rule_at : Data → Option Rule
rule_at = value_at rule_name rules

-- the name of a cancel routine's rule
abbrev pub cancel_rule_name : CancelRule → List ℕ
cancel_rule_name cancel_rule.MustFinish = codes "must_finish"
cancel_rule_name cancel_rule.MustLeave = codes "must_leave"
cancel_rule_name cancel_rule.Either = codes "either"

-- every rule of a cancel routine
unfoldable pub cancel_rules : List CancelRule
cancel_rules = cancel_rule.MustFinish ∷ cancel_rule.MustLeave ∷ cancel_rule.Either ∷ []

-- a cancel routine's rule by its name
abbrev pub cancel_rule_at : Data → Option CancelRule
cancel_rule_at = value_at cancel_rule_name cancel_rules

-- flags: on success, on error, on cancel
abbrev pub flagged : Bool → Bool → Bool → Flags
flagged on_success on_error on_cancel = record { on_success = on_success; on_error = on_error; on_cancel = on_cancel }

-- the text where the flag is set
abbrev pub text_if : Bool → List ℕ → List ℕ
text_if true text = text
text_if false text = []

-- the letters of the flags that are set, in this order
abbrev pub flags_name : Flags → List ℕ
flags_name flags =
    text_if flags.on_success (codes "s") ++ (text_if flags.on_error (codes "e") ++ text_if flags.on_cancel (codes "c"))

-- every choice of flags
unfoldable pub every_flags : List Flags
every_flags =
    flagged false false false ∷ flagged false false true ∷ flagged false true false ∷ flagged false true true
    ∷ flagged true false false
    ∷ flagged true false true ∷ flagged true true false ∷ flagged true true true ∷ []

-- flags by their letters
unfoldable pub flags_at : Data → Option Flags
flags_at form = as_str form >>= first_named flags_name every_flags

-- the name of an answer of a completion routine that keeps the packet or continues
abbrev pub answer_name : Bool → List ℕ
answer_name true = codes "keep"
answer_name false = codes "continue"

-- a refusal by its name
abbrev pub refusal_at : Data → Option Refusal
refusal_at = value_at refusal_name refusals
