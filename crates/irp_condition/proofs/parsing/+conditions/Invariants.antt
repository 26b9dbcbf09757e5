use Rattle.std.proofs.Common.{◌+◌, ◌*◌, ◌<◌, length, List}
use Rattle.irp_condition.specs.declared.tokens.Token.{Token}
use Rattle.irp_condition.specs.Formulas.{Formula, formula_of}
use Rattle.irp_condition.specs.Grammar.{Says, Stops, joined, inside}
use Rattle.irp_condition.proofs.Chains.{Chain, rank_of}
use Rattle.irp_condition.proofs.parsing.+conditions.Given as goal

abbrev pub decreases-single_at : goal.decreases-single_at
decreases-single_at l = 5 * l.depth

abbrev pub decreases-inside_at : goal.decreases-inside_at
decreases-inside_at l = 5 * l.depth + rank_of l.joint

abbrev pub decreases-joined_at : goal.decreases-joined_at
decreases-joined_at l = 5 * l.depth + rank_of l.joint + 1

abbrev pub invariant-joined_at-loop-next : goal.invariant-joined_at-loop-next
invariant-joined_at-loop-next l = record {
  said : Says l.reader (joined l.joint) l.depth l.tokens (formula_of l.so_far) l.rest;
  whole : (formula : Formula) (end : List Token) → Says l.reader (joined l.joint) l.depth l.tokens formula end
      → Stops (joined l.joint) end → Chain l.reader l.joint l.depth (formula_of l.so_far) l.rest formula end;
  stops : Stops (inside l.joint) l.rest;
  shorter : length l.rest < length l.tokens;
}

abbrev pub decreases-joined_at-loop-next : goal.decreases-joined_at-loop-next
decreases-joined_at-loop-next l = length l.rest
