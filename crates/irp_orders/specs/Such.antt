-- A condition that an end meets that isn't right, and no right end does.
use Rattle.std.specs.Prelude.{ℕ, ◌≡◌, ◌⊎◌, ◌++◌, Bool, true, false, nat_lt, codes, List}
use Rattle.irp_types.specs.declared.entry.Entry.{Entry}
use Rattle.irp_types.specs.declared.location.Owner.TheVariants as owner
use Rattle.irp_condition.specs.Formulas.{Formula, compares, formula_of}
use Rattle.irp_condition.specs.Grammar.{TextSays}
use Rattle.irp_condition.specs.Holding.{value_of}
use Rattle.irp_condition.specs.declared.condition.Comparison.TheVariants.{Equal}
use Rattle.irp_condition.specs.declared.condition.Condition.{Condition}
use Rattle.irp_condition.specs.declared.condition.Fact.{Fact}
use Rattle.irp_condition.specs.declared.condition.Fact.TheVariants as fact
use Rattle.irp_condition.specs.declared.condition.Term.TheVariants as term
use Rattle.irp_condition.specs.declared.facts.Facts.{Facts}
use Rattle.irp_condition.specs.declared.scope.Scope.{Scope}
use Rattle.irp_condition.specs.declared.value.Answer.{Answer}
use Rattle.irp_condition.specs.declared.value.Answer.TheVariants as answer
use Rattle.irp_condition.specs.declared.value.Value.{Value}
use Rattle.irp_condition.specs.declared.value.Value.TheVariants as value
use Rattle.irp_listing.specs.Lines.{line_of}
use Rattle.irp_machine.specs.declared.outcome.End.{End}
use Rattle.irp_script_reader.specs.declared.act.Step.{Step}
use Rattle.irp_script_reader.specs.declared.script.ScriptParts.{ScriptParts}
use Rattle.irp_orders.specs.Conditions.{IsScopeOf, Says}
use Rattle.irp_orders.specs.Facts.{Meets, facts_of}
use Rattle.irp_orders.specs.Right.{IsRight}
use Rattle.irp_orders.specs.declared.such.Topic.{Topic}
use Rattle.irp_orders.specs.declared.such.Topic.TheVariants as topic

-- ---- facts that no right end has

-- a remove lock or a cancel slot refuses a step by this answer
abbrev pub is_refusal : Answer → Bool
is_refusal answer.SeatFull = true
is_refusal answer.NotHeld = true
is_refusal answer.AlreadyRemoving = true
is_refusal answer.NoLock = true
is_refusal answer.Used = true
is_refusal answer.NotStanding = true
is_refusal answer.NoSlot = true
is_refusal answer.NoToken = true
is_refusal other = false

-- no right end has this fact: a step was refused so, a device has the packet of a label, or a remove lock is held
abbrev pub is_wrong : Fact → Value → Bool
is_wrong (fact.Reply step) (value.Refused refusal) = true
is_wrong (fact.Reply step) (value.Answer answer) = is_refusal answer
is_wrong (fact.Owner label) (value.Owner (owner.Device device)) = true
is_wrong (fact.Held lock) (value.Number count) = nat_lt 0 count
is_wrong fact value = false

-- a condition says what one fact is, which is so here, and at no right end
abbrev pub IsOfWrong : Facts → Formula → Type 0
IsOfWrong facts (compares (term.Fact fact) Equal (term.Constant value)) =
    (is_wrong fact value ≡ true) × (value_of facts fact ≡ value)
IsOfWrong facts other = ⊥

-- the fact of a topic at a place
abbrev pub fact_of : Topic → ℕ → Fact
fact_of topic.Reply place = fact.Reply place
fact_of topic.Owner place = fact.Owner place
fact_of topic.Held place = fact.Held place

-- that fact is one that a right end may have
abbrev pub IsRightAt : Facts → Topic → ℕ → Type 0
IsRightAt facts topic place = is_wrong (fact_of topic place) (value_of facts (fact_of topic place)) ≡ false

-- ---- what is told

-- a text says such a condition
pub record IsSaid (scope : Scope) (facts : Facts) (text : List ℕ) : Type 0 where
  pub condition : Condition
  pub said : TextSays scope text (formula_of condition)
  pub wrong : IsOfWrong facts (formula_of condition)

-- no right end of a script with these steps meets a condition
abbrev pub TellsWrong : List Step → Condition → Type 0
TellsWrong steps condition = (setup : List Entry) (end : End) → Meets steps condition end → IsRight steps setup end → ⊥

-- a text says a condition of a script that this end meets, and no right end does
pub record IsSuch (script : ScriptParts) (end : End) (text : List ℕ) : Type 0 where
  pub condition : Condition
  pub says : Says script true text condition
  pub met : Meets script.steps condition end
  pub wrong : TellsWrong script.steps condition

-- no step was refused, no device has the packet of a label, and no remove lock is held
abbrev pub HasNoWrong : Facts → Type 0
HasNoWrong facts = (topic : Topic) (place : ℕ) → IsRightAt facts topic place

-- some such fact is there, and no text says it
pub record IsUnsayable (script : ScriptParts) (facts : Facts) : Type 0 where
  pub scope : Scope
  pub of_script : IsScopeOf script true scope
  pub formula : Formula
  pub wrong : IsOfWrong facts formula
  pub unsaid : (text : List ℕ) → TextSays scope text formula → ⊥

-- why nothing is told of an end
abbrev pub HasNoSuch : ScriptParts → End → Type 0
HasNoSuch script end =
    HasNoWrong (facts_of script.steps end) ⊎ IsUnsayable script (facts_of script.steps end)

-- the line of such a condition
abbrev pub such_line : List ℕ → List ℕ
such_line text = line_of ((codes "such orders: --never '" ++ text) ++ codes "'")

-- behind what was there stands the line of such a condition, or nothing where there is none
abbrev pub PutsSuch : ScriptParts → End → List ℕ → List ℕ → Type 0
PutsSuch script end old new =
    ((text : List ℕ) × IsSuch script end text × (new ≡ old ++ such_line text))
    ⊎ (HasNoSuch script end × (new ≡ old))
