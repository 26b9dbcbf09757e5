-- Numbers as words have them: in decimal digits, or in hexadecimal ones behind `0x`.
use Rattle.std.specs.Prelude.{ℕ, ◌==◌, ◌&&◌, Bool, false, drop, if◌then◌else◌, List, slice_get}
use Rattle.std.specs.Char.{is_ascii_digit}
use Rattle.std.specs.Option.{option_map_or}
use Rattle.std.specs.Str.Parse.{digits_value, without_leading_plus}

-- a word is meant as a number: it begins with a digit
abbrev pub begins_with_digit : List ℕ → Bool
begins_with_digit word = option_map_or is_ascii_digit (slice_get word 0) false

-- the byte at a place is this one
abbrev pub has_byte : List ℕ → ℕ → ℕ → Bool
has_byte word place byte = option_map_or (λ one. one == byte) (slice_get word place) false

-- the number that a word's digits write
abbrev pub numeral : ℕ → List ℕ → ℕ
numeral radix digits = digits_value radix (without_leading_plus digits)

abbrev pub number_in : List ℕ → ℕ
number_in word =
    if has_byte word 0 48 && has_byte word 1 120 then numeral 16 (drop 2 word) else numeral 10 word
