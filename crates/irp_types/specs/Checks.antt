-- Checks in order, and what a call does with the first that fails.
use Rattle.std.specs.Prelude.{Bool, if◌then◌else◌, List, [], ◌∷◌, Option, Some, None, Result, Ok, Err}
use Rattle.irp_types.specs.declared.refusal.Refusal.{Refusal}

-- a check: true where it fails, and the refusal that it gives then
abbrev pub Check : Type 0
Check = Bool × Refusal

-- the refusal of the first check that fails
abbrev pub first_failing : List Check → Option Refusal
first_failing [] = None
first_failing (check ∷ others) = if check.0 then Some check.1 else first_failing others

-- the first refusal of two groups of checks
abbrev pub or_else : Option Refusal → Option Refusal → Option Refusal
or_else None later = later
or_else (Some refusal) later = Some refusal

-- the refusal, or this answer where there is none
abbrev pub answer_unless : {A : Type 0} → Option Refusal → A → Result A Refusal
answer_unless None answer = Ok answer
answer_unless (Some refusal) answer = Err refusal

-- the old value where a call is refused, else the new one
abbrev pub value_unless : {A : Type 0} → Option Refusal → A → A → A
value_unless None old new = new
value_unless (Some refusal) old new = old
