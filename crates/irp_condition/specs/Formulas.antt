-- Conditions without where they lie in memory.
use Rattle.irp_condition.specs.declared.condition.Comparison.{Comparison}
use Rattle.irp_condition.specs.declared.condition.Condition.{Condition}
use Rattle.irp_condition.specs.declared.condition.Condition.TheVariants.{Or', And', Not', Is, Compare}
use Rattle.irp_condition.specs.declared.naming.Joint.{Joint}
use Rattle.irp_condition.specs.declared.naming.Joint.TheVariants.{And, Or}
use Rattle.irp_condition.specs.declared.condition.Term.{Term}

pub data Formula : Type 0 where
  joins : Joint → Formula → Formula → Formula
  no : Formula → Formula
  true_of : Term → Formula
  compares : Term → Comparison → Term → Formula

-- what a condition says
abbrev pub formula_of : Condition → Formula
formula_of (Or' p left q right) = joins Or (formula_of left) (formula_of right)
formula_of (And' p left q right) = joins And (formula_of left) (formula_of right)
formula_of (Not' p inner) = no (formula_of inner)
formula_of (Is term) = true_of term
formula_of (Compare left by right) = compares left by right
