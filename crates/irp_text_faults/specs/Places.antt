-- Lines and columns.
use Rattle.std.specs.Prelude.{ℕ, ◌+◌, ◌-◌, ◌==◌, ◌&&◌, if◌then◌else◌, nat_le, List, [], take, drop, length}
use Rattle.std.specs.List.{fold}
use Rattle.irp_text_faults.specs.declared.places.Place.{Place}

-- what stands in a text from one byte up to another; nothing where there are no such
abbrev pub cut : List ℕ → ℕ → ℕ → List ℕ
cut text start end = if nat_le start end && nat_le end (length text) then take (end - start) (drop start text) else []

abbrev pub at_line_and_column : ℕ → ℕ → Place
at_line_and_column line column = record { line = line; column = column }

-- the place behind a byte: a column further, and behind a newline where the next line begins
abbrev pub step_over : Place → ℕ → Place
step_over place byte =
    if byte == 10 then at_line_and_column (place.line + 1) 1 else at_line_and_column place.line (place.column + 1)

-- the place behind the bytes with which a text begins
abbrev pub place_behind : List ℕ → Place
place_behind front = fold step_over (at_line_and_column 1 1) front

-- the place of a byte of a text, or of its end
abbrev pub place_of : List ℕ → ℕ → Place
place_of text at = place_behind (take at text)
