-- The streams of a program: its input and its output, before and after some work.
use Rattle.std.specs.Prelude.{ℕ, ◌≡◌, ◌≤◌, List, length, Option}
use Rattle.std.specs.Io.KnownBytes.{Consumes, Keeps}

-- what is left of an input, or what went out, where that is known
abbrev pub Bytes : Type 0
Bytes = Option (List ℕ)

-- what went out, and how often the output failed
pub record Output : Type 0 where
  pub gone : Bytes
  pub failures : ℕ

abbrev pub output_of : Bytes → ℕ → Output
output_of gone failures = record { gone = gone; failures = failures }

-- what is left of the input, and the output
pub record Streams : Type 0 where
  pub left : Bytes
  pub output : Output

abbrev pub streams_of : Bytes → Bytes → ℕ → Streams
streams_of left gone failures = record { left = left; output = output_of gone failures }

-- at most so many bytes are taken of the input, where that is known
abbrev pub TakesAtMost : ℕ → Bytes → Bytes → Type 0
TakesAtMost limit old new = (taken : List ℕ) × (length taken ≤ limit) × Consumes old new taken

-- nothing went out, and nothing failed
abbrev pub IsQuiet : Output → Output → Type 0
IsQuiet before after = Keeps before.gone after.gone × (after.failures ≡ before.failures)
