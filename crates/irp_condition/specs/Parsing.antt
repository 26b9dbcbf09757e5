-- What a reader of conditions answers.
use Rattle.std.specs.Prelude.{ℕ, List, Result, IfOk}
use Rattle.std.specs.Borrow.{Bor}
use Rattle.irp_condition.specs.Faults.{Gives, IfFault, found}
use Rattle.irp_condition.specs.Formulas.{Formula, formula_of}
use Rattle.irp_condition.specs.Grammar.{Level, Says, Stops, Breaks}
use Rattle.irp_condition.specs.declared.condition.Condition.{Condition}
use Rattle.irp_condition.specs.declared.fault.Unread.{Unread}
use Rattle.irp_condition.specs.declared.reading.Reader.{Reader}
use Rattle.irp_condition.specs.declared.tokens.Token.{Token}

-- a condition that was read, and the tokens behind it
abbrev pub seen : Condition × Bor (List Token) → Formula × List Token
seen read = (formula_of read.0, read.1.now)

-- What was read is what the tokens say, and it stops where conditions of this level do; whatever they say as far as that
-- is read, unless memory runs out; a fault is where they break
pub record Reads (reader : Reader) (level : Level) (depth : ℕ) (tokens : List Token)
    (result : Result (Condition × Bor (List Token)) Unread) : Type 0 where
  pub said : IfOk result (λ read. Says reader level depth tokens (formula_of read.0) read.1.now)
  pub stops : IfOk result (λ read. Stops level read.1.now)
  pub whole : (formula : Formula) (rest : List Token) → Says reader level depth tokens formula rest → Stops level rest
      → Gives seen result (found (formula, rest))
  pub broken : IfFault result (λ fault. Breaks reader level depth tokens fault)
