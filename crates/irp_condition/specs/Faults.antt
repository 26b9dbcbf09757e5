-- What a reader finds at the front of a condition's tokens, or where it finds something else.
use Rattle.std.specs.Prelude.{ℕ, ◌≡◌, List, [], ◌∷◌, Option, Some, None, Result, Ok, Err}
use Rattle.irp_condition.specs.declared.fault.Expected.{Expected}
use Rattle.irp_condition.specs.declared.fault.ConditionFault.{ConditionFault}
use Rattle.irp_condition.specs.declared.fault.Unread.{Unread}
use Rattle.irp_condition.specs.declared.fault.Unread.TheVariants as unread
use Rattle.irp_condition.specs.declared.reading.Reader.{Reader}
use Rattle.irp_condition.specs.declared.tokens.Token.{Token}

-- where the first of these tokens begins, else the column behind the text's end
abbrev pub column_of : ℕ → List Token → ℕ
column_of end [] = end
column_of end (token ∷ rest) = token.column

-- something else was expected where these tokens begin
abbrev pub fault_at : Reader → Expected → List Token → ConditionFault
fault_at reader expected tokens = record { column = column_of reader.end tokens; expected = expected }

-- what was looked for, or where it is missing
pub data Found (A : Type 0) : Type 0 where
  found : A → Found A
  missing : ConditionFault → Found A

-- find the one, and then what follows from it; what is missing first is missing
infixl 10 ◌>>◌
abbrev pub ◌>>◌ : {A B : Type 0} → Found A → (A → Found B) → Found B
(found value) >> next = next value
(missing fault) >> next = missing fault

-- what stands where these tokens begin, if something does; else it was expected there
abbrev pub expect : {A : Type 0} → Reader → Expected → List Token → Option A → Found A
expect reader expected tokens (Some value) = found value
expect reader expected tokens None = missing (fault_at reader expected tokens)

-- the one, or else the other
abbrev pub or_found : {A : Type 0} → Option A → Found A → Found A
or_found (Some value) other = found value
or_found None other = other

-- what was answered, so viewed, is what is found, and a fault is the one found, unless memory ran out
abbrev pub Gives : {A B : Type 0} → (A → B) → Result A Unread → Found B → Type 0
Gives view (Ok answer) read = read ≡ found (view answer)
Gives view (Err (unread.Fault fault)) read = read ≡ missing fault
Gives view (Err unread.NoMemory) read = Unit {0}

-- this holds of the fault, if one was answered
abbrev pub IfFault : {A : Type 0} → Result A Unread → (ConditionFault → Type 0) → Type 0
IfFault (Ok answer) holds = Unit {0}
IfFault (Err (unread.Fault fault)) holds = holds fault
IfFault (Err unread.NoMemory) holds = Unit {0}
