-- What the program takes of its input, and puts into its output.
use Rattle.std.specs.Prelude.{ℕ, ◌≡◌, ◌++◌, ◌∷◌, ◌⊎◌, [], List, Bool, true, false, IfSome}
use Rattle.std.specs.Io.{StopsAt}
use Rattle.std.specs.Io.BufRead.{take_through}
use Rattle.std.specs.Io.KnownBytes.{Consumes}
use Rattle.irp_streams.specs.Streams.{Bytes, Output}
use Rattle.irp_streams.specs.Writing.{BreaksOff, Written}
use Rattle.irp_streams.specs.declared.reading.StreamFault.TheVariants.{Failed}

-- what was taken of an input is all up to its first newline, or to its end
abbrev pub IsUpToNewline : Bytes → List ℕ → Type 0
IsUpToNewline old taken = IfSome old (λ left. taken ≡ take_through 10 left)

-- no newline ends it
abbrev pub IsEndless : List ℕ → Type 0
IsEndless rest = (front : List ℕ) → rest ≡ front ++ 10 ∷ [] → ⊥

-- this line was taken with its newline, which is its only one; or there is no newline any more, and what was left was
-- taken
abbrev pub IsRead : Bytes → Bytes → List ℕ → Bool → Type 0
IsRead old new line true =
    StopsAt (line ++ 10 ∷ []) 10 × IsUpToNewline old (line ++ 10 ∷ []) × Consumes old new (line ++ 10 ∷ [])
IsRead old new line false = (rest : List ℕ) × IsEndless rest × IsUpToNewline old rest × Consumes old new rest

-- some of the input was taken
abbrev pub TakesSome : Bytes → Bytes → Type 0
TakesSome old new = (taken : List ℕ) × Consumes old new taken

-- all of the text went out, and nothing failed
abbrev pub Puts : List ℕ → Output → Output → Type 0
Puts text old new = Written text old.gone new.gone old.failures new.failures

-- a beginning of the text went out, which isn't the whole, and the output failed
abbrev pub Breaks : List ℕ → Output → Output → Type 0
Breaks text old new = BreaksOff text old.gone new.gone old.failures new.failures Failed

-- nothing of the text went out, or it broke off
abbrev pub IsCut : List ℕ → Output → Output → Type 0
IsCut text old new = (new ≡ old) ⊎ Breaks text old new
