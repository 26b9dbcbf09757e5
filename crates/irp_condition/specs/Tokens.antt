-- The words and signs of a condition's text.
use Rattle.std.specs.Prelude.{ℕ, zero, suc, ◌+◌, ◌==◌, ◌&&◌, ◌||◌, Bool, true, false, not, if◌then◌else◌, nat_le, List, [], ◌∷◌, ◌++◌, length, slice_index_or, slice_range}
use Rattle.irp_condition.specs.declared.tokens.Kind.{Kind}
use Rattle.irp_condition.specs.declared.tokens.Kind.TheVariants.{Word, Sign, Open, Close, Blank, Other}
use Rattle.irp_condition.specs.declared.tokens.Token.{Token}

abbrev pub is_within : ℕ → ℕ → ℕ → Bool
is_within low high byte = nat_le low byte && nat_le byte high

-- a letter, a digit or an underscore
abbrev pub is_of_word : ℕ → Bool
is_of_word byte = is_within 48 57 byte || is_within 65 90 byte || is_within 97 122 byte || (byte == 95)

-- one of = ! < >
abbrev pub is_of_sign : ℕ → Bool
is_of_sign byte = (byte == 61) || (byte == 33) || (byte == 60) || (byte == 62)

-- a space, a tab or the end of a line
abbrev pub is_blank : ℕ → Bool
is_blank byte = (byte == 32) || (byte == 9) || (byte == 10) || (byte == 13)

-- what a byte is; 40 and 41 are the parentheses
abbrev pub kind_of : ℕ → Kind
kind_of byte =
    if byte == 40 then Open else
    (if byte == 41 then Close else
    (if is_of_sign byte then Sign else
    (if is_blank byte then Blank else
    (if is_of_word byte then Word else Other))))

-- bytes of one kind go on with one another; parentheses stand alone
abbrev pub goes_on : Kind → Kind → Bool
goes_on Word Word = true
goes_on Sign Sign = true
goes_on Blank Blank = true
goes_on Other Other = true
goes_on before behind = false

-- a token ends behind the byte of this place: it is the last, or the next one doesn't go on
abbrev pub ends_behind : List ℕ → ℕ → Bool
ends_behind text place =
    if place + 1 == length text then true
    else not (goes_on (kind_of (slice_index_or text place 0)) (kind_of (slice_index_or text (place + 1) 0)))

-- where the token begins that has the byte before this place, or the next one where that token ends there
abbrev pub begin_of : List ℕ → ℕ → ℕ
begin_of text zero = 0
begin_of text (suc place) = if ends_behind text place then place + 1 else begin_of text place

-- what stands from one place to another
abbrev pub token_of : List ℕ → ℕ → ℕ → Token
token_of text begin end = record {
  kind = kind_of (slice_index_or text begin 0);
  text = slice_range text begin end;
  column = begin + 1;
}

abbrev pub is_blank_kind : Kind → Bool
is_blank_kind Blank = true
is_blank_kind _ = false

-- one more token, where it is no blank
abbrev pub with_token : Token → List Token → List Token
with_token token tokens = if is_blank_kind token.kind then tokens else tokens ++ token ∷ []

-- the tokens of a text that end before this place
abbrev pub tokens_below : List ℕ → ℕ → List Token
tokens_below text zero = []
tokens_below text (suc place) =
    if ends_behind text place
    then with_token (token_of text (begin_of text place) (place + 1)) (tokens_below text place)
    else tokens_below text place
