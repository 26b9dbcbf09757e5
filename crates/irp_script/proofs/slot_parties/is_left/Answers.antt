use Rattle.std.proofs.Common.{rules}
use Rattle.irp_script.proofs.Tokens.{taken_left}
use Rattle.irp_script.proofs.slot_parties.is_left.Goals as goal

pub returns-then-taken-slot-clause-left : goal.returns-then-taken-slot-clause-left
returns-then-taken-slot-clause-left c = λ is. taken_left c.args.taken.now c.args.slot (search rules) (search rules)
