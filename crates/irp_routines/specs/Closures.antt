-- What a closure has to keep beside its rule.
use Rattle.std.specs.Prelude.{List}
use Rattle.std.specs.Coded.{coded_list}
use base.Stored.{Coded-set}
use Rattle.irp_types.specs.declared.routine.Rule.{Rule}
use Rattle.irp_types.specs.declared.routine.CancelRule.{CancelRule}
use Rattle.irp_types.specs.declared.routine.Known.{Known}
use Rattle.irp_types.specs.contracts.routine.Rule as rule
use Rattle.irp_types.specs.contracts.routine.CancelRule as cancel_rule
use Rattle.irp_types.specs.contracts.routine.Known as known

-- an equation between lists of rules, or of what dispatches may name, has one proof at most
pub rules_set : IsSet (List Rule)
rules_set = Coded-set (coded_list rule.the_row.coded)

pub cancel_rules_set : IsSet (List CancelRule)
cancel_rules_set = Coded-set (coded_list cancel_rule.the_row.coded)

pub known_set : IsSet (List Known)
known_set = Coded-set (coded_list known.the_row.coded)
