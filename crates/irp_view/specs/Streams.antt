-- The streams of the program: its input and its output, before and after some work.
use Rattle.std.specs.Prelude.{ℕ}
use Rattle.irp_feed.specs.Input.{Bytes}

-- what went out, and how often the output failed
pub record Output : Type 0 where
  pub gone : Bytes
  pub failures : ℕ

abbrev pub output_of : Bytes → ℕ → Output
output_of gone failures = record { gone = gone; failures = failures }

-- what is left of the input, and the output
pub record Streams : Type 0 where
  pub left : Bytes
  pub output : Output

abbrev pub streams_of : Bytes → Output → Streams
streams_of left output = record { left = left; output = output }
