-- Each value that has a name is the first of all that has it: the law of the trait, for each of its types.
use Rattle.std.proofs.Common.{◌≡◌, Some, refl}
use Rattle.irp_forms.specs.Names.{cancel_rule_name, cancel_rules, first_named, rule_name, rules}
pub use Rattle.irp_types.specs.Refusal.{refusal_found}
use Rattle.irp_types.specs.declared.{routine.CancelRule.CancelRule, routine.Rule.Rule}
use Rattle.irp_types.specs.declared.routine.CancelRule.TheVariants as cancel_rule
use Rattle.irp_types.specs.declared.routine.Rule.TheVariants as rule

pub rule_found : (one : Rule) → first_named rule_name rules (rule_name one) ≡ Some one
unfolding rules
rule_found rule.Watch = refl
rule_found rule.Change = refl
rule_found rule.Keeper = refl
rule_found rule.KeepOnError = refl
rule_found rule.Free = refl

pub cancel_rule_found : (one : CancelRule) → first_named cancel_rule_name cancel_rules (cancel_rule_name one) ≡ Some one
unfolding cancel_rules
cancel_rule_found cancel_rule.MustFinish = refl
cancel_rule_found cancel_rule.MustLeave = refl
cancel_rule_found cancel_rule.Either = refl
