-- How a word of letters of ASCII is written in a text of JSON.
use Rattle.std.specs.Prelude.{ℕ, ◌/◌, ◌%◌, ◌==◌, ◌&&◌, if◌then◌else◌, Bool, false, List, [], ◌∷◌, codes, take, drop, length}
use Rattle.std.specs.Prelude.{Option, Some, None, option_map, unwrap_or, slice_index}
use Rattle.std.specs.Char.{digit_value}
use Rattle.std.proofs.Common.{bytes_eq}

-- whether a word begins with this letter written as `\u0061`
abbrev pub begins_escaped : List ℕ → ℕ → Bool
begins_escaped word letter =
    bytes_eq (take 4 word) (codes "\\u00")
    && (digit_value (slice_index word 4) == letter / 16 && digit_value (slice_index word 5) == letter % 16)

-- what stands behind this letter, with which a word begins, as it stands or so; none where it doesn't
abbrev pub behind_letter : List ℕ → ℕ → Option (List ℕ)
behind_letter [] letter = None
behind_letter (byte ∷ rest) letter =
    if byte == letter then Some rest
    else (if begins_escaped (byte ∷ rest) letter then Some (drop 5 rest) else None)

-- whether what is written says these letters
abbrev pub says : List ℕ → List ℕ → Bool
says [] word = length word == 0
says (letter ∷ others) word = unwrap_or (option_map (says others) (behind_letter word letter)) false
