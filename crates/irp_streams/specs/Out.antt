-- What goes out, and what counts as a failure.
use Rattle.std.specs.Prelude.{ℕ, ◌+◌, ◌%◌, ◌^◌, ◌==◌, ◌&&◌, List, length, nat_lt, Result, Ok, Err, if◌then◌else◌}
use Rattle.irp_streams.specs.declared.out.Failed.{Failed}

-- one more, in 64 bits
abbrev pub risen : ℕ → ℕ
risen count = (count + 1) % 2 ^ 64

-- the count of failures after a put of this piece: an error, or nothing taken of a piece that isn't empty, is one more
abbrev pub counted : Result ℕ Failed → List ℕ → ℕ → ℕ
counted (Ok taken) piece count = if taken == 0 && nat_lt 0 (length piece) then risen count else count
counted (Err failed) piece count = risen count
