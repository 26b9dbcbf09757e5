-- Why an input holds no transcript.
use Rattle.std.specs.Prelude.{ℕ, Option, Some, None}
use Rattle.irp_view.specs.declared.reading.Unread.{Unread}
use Rattle.irp_view.specs.declared.reading.Unread.TheVariants.{Refused}

-- the number of the first line that is refused, from 1, where that is why
abbrev pub line_of : Unread → Option ℕ
line_of (Refused line expected) = Some line
line_of other = None
