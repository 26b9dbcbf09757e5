-- What is written says the condition again.
use Rattle.std.proofs.Common.{ℕ, zero, suc, ◌≡◌, ◌⊎◌, inl, inr, refl, sym, ◌∙◌, ap, subst, ◌+◌, ◌-◌, ◌^◌, ◌<◌, ◌≤◌, ◌==◌, ◌&&◌, nat_lt, List, [], ◌∷◌, ◌++◌, length, get_or, Bool, true, false, not, Option, Some, None, arith, bytes_eq, decimal, append_assoc}
use Rattle.std.proofs.lemmas.List.{append-nil}
use Rattle.std.proofs.Common.{String, Global}
use Rattle.std.proofs.lemmas.List.Folds.{find_at}
use Rattle.std.proofs.lemmas.Slice.Eq.{bytes_eq-Decides}
use Rattle.std.specs.List.{find, position, position_or_len}
use Rattle.std.specs.Prelude.{codes, if◌then◌else◌, slice_get, string_bytes}
use Rattle.irp_condition.specs.declared.condition.Comparison.{Comparison}
use Rattle.irp_condition.specs.declared.condition.Comparison.TheVariants as of_sign
use Rattle.irp_condition.specs.declared.condition.Fact.{Fact}
use Rattle.irp_condition.specs.declared.fault.Expected.{Expected}
use Rattle.irp_condition.specs.declared.condition.Term.TheVariants as term
use Rattle.irp_condition.specs.declared.naming.Joint.{Joint}
use Rattle.irp_condition.specs.declared.naming.Joint.TheVariants.{And, Or}
use Rattle.irp_condition.specs.declared.naming.Name.{Name}
use Rattle.irp_condition.specs.declared.naming.Name.TheVariants as of_name
use Rattle.irp_condition.specs.declared.naming.Sort.{Sort}
use Rattle.irp_condition.specs.declared.naming.Sort.TheVariants as of_sort
use Rattle.irp_condition.specs.declared.reading.Reader.{Reader}
use Rattle.irp_condition.specs.declared.scope.Scope.{Scope}
use Rattle.irp_condition.specs.declared.tokens.Kind.{Kind}
use Rattle.irp_condition.specs.declared.tokens.Kind.TheVariants as of_kind
use Rattle.irp_condition.specs.declared.tokens.Token.{Token}
use Rattle.irp_condition.specs.declared.value.Value.{Value}
use Rattle.irp_condition.specs.declared.value.Value.TheVariants as of_value
use Rattle.irp_types.specs.declared.location.Owner.TheVariants as owner
use Rattle.irp_condition.specs.Faults.{Found, found}
use Rattle.irp_condition.specs.Formulas.{Formula, joins, no, true_of, compares}
use Rattle.irp_condition.specs.Grammar.{Level, single, joined, inside, Says, compared as says_compared, negated as says_negated, enclosed as says_enclosed, alone as says_alone, more as says_more, reader_of, TextSays}
use Rattle.irp_condition.specs.Naming.{word_of, sort_of, needs_replies}
use Rattle.irp_condition.specs.Reading.{place_of, label_at, number_below, device_at, subject_at, fact_of, name_at, fact_at, behind_noun, behind_word, behind_close, sign_at, is_truth, compared_at, value_at}
use Rattle.irp_condition.specs.Tokens.{kind_of, goes_on, is_blank_kind, tokens_below}
use Rattle.irp_condition.specs.Writing.{TellsBack, is_noun, Piece, bytes_of, word, sign, opening, closing, blank, name_of_fact, word_of_name, sign_of, label_text, subject_text, fact_pieces, all_of_word, is_word_text, ReadsAs, WritesValue, stands, joined_pieces, compared_pieces, Writes, bare, enclosed, negated, alone, compared, other_truth, other_left, other_right}
use Rattle.irp_condition.proofs.Lexing.{IsPiece, Lexes, nothing, put, both_lex, Spells, done, passed, stood, spelled_apart, tokens_of_pieces}
use Rattle.irp_condition.proofs.Sayable.{Proper, CanName, CanTell, CanWrite, by_word, by_noun, Fits, bare as fits_bare, deeper, negation, truth, comparison, kept, said_fits, proper_text}
use Rattle.irp_condition.specs.Words.{◌>>=◌, below, number_in, device_named}
use Rattle.irp_condition.proofs.Spelling.{AreDigits, Spelled, digits_are_words, spelled, decimal_read, device_read, bind_link, below_is}

-- ---- pieces are tokens

word_kind : (kind : Kind) → goes_on of_kind.Word kind ≡ true → kind ≡ of_kind.Word
word_kind of_kind.Word is = refl
word_kind kind is = cc

both_true : (one two : Bool) → (one && two) ≡ true → (one ≡ true) × (two ≡ true)
both_true true true is = (refl, refl)
both_true one two is = cc

word_kinds : (bytes : List ℕ) → all_of_word bytes ≡ true → (at : ℕ) → at < length bytes → kind_of (get_or bytes at 0) ≡ of_kind.Word
word_kinds [] all at less = absurd (omega (arith, less))
word_kinds (byte ∷ bytes) all zero less = word_kind (kind_of byte) (both_true _ _ all).0
word_kinds (byte ∷ bytes) all (suc at) less = word_kinds bytes (both_true _ _ all).1 at (omega (arith, less))

pub word_piece : (text : List ℕ) → is_word_text text ≡ true → IsPiece (word text)
word_piece [] is = cc
word_piece (byte ∷ bytes) is = record { some = omega arith; kinds = word_kinds (byte ∷ bytes) is; goes = λ long. refl }

lone_piece : (kind : Kind) (byte : ℕ) → kind_of byte ≡ kind → IsPiece (record { kind = kind; text = byte ∷ [] })
lone_piece kind byte is = record {
  some = omega arith;
  kinds = λ at less. let first : at ≡ 0 = omega (arith, less) in subst (λ n. kind_of (get_or (byte ∷ []) n 0) ≡ kind) (sym first) is;
  goes = λ long. absurd (omega (arith, long));
}

two_signs : (one two : ℕ) → kind_of one ≡ of_kind.Sign → kind_of two ≡ of_kind.Sign → IsPiece (sign (one ∷ two ∷ []))
two_signs one two first second = record { some = omega arith; kinds = by; goes = λ long. refl } where
  by : (at : ℕ) → at < 2 → kind_of (get_or (one ∷ two ∷ []) at 0) ≡ of_kind.Sign
  by zero less = first
  by (suc zero) less = second
  by (suc (suc at)) less = absurd (omega (arith, less))

sign_piece : (comparison : Comparison) → IsPiece (sign (sign_of comparison))
sign_piece of_sign.Equal = two_signs 61 61 refl refl
sign_piece of_sign.Other = two_signs 33 61 refl refl
sign_piece of_sign.Below = lone_piece of_kind.Sign 60 refl
sign_piece of_sign.AtMost = two_signs 60 61 refl refl
sign_piece of_sign.Above = lone_piece of_kind.Sign 62 refl
sign_piece of_sign.AtLeast = two_signs 62 61 refl refl

opening_piece : IsPiece opening
opening_piece = lone_piece of_kind.Open 40 refl

closing_piece : IsPiece closing
closing_piece = lone_piece of_kind.Close 41 refl

blank_piece : IsPiece blank
blank_piece = lone_piece of_kind.Blank 32 refl

name_piece : (name : Name) → is_word_text (word_of_name name) ≡ true
name_piece of_name.Reply = refl
name_piece of_name.Made = refl
name_piece of_name.Owner = refl
name_piece of_name.Status = refl
name_piece of_name.Information = refl
name_piece of_name.Current = refl
name_piece of_name.Live = refl
name_piece of_name.Cancel = refl
name_piece of_name.Deleted = refl
name_piece of_name.Held = refl
name_piece of_name.Removing = refl

joint_piece : (joint : Joint) → is_word_text (word_of joint) ≡ true
joint_piece And = refl
joint_piece Or = refl

-- ---- what a fact is of

abbrev test : List ℕ → String Global → Bool
test text label = bytes_eq (string_bytes label) text

found_label : (labels : List (String Global)) (text : List ℕ) → nat_lt (position_or_len (test text) labels) (length labels) ≡ true
    → label_text (find (test text) labels) ≡ text
found_label [] text less = cc
found_label (label ∷ labels) text less = by (test text label) refl (λ behind. found_label labels text behind) where
  by : (here : Bool) → test text label ≡ here
      → (nat_lt (position_or_len (test text) labels) (length labels) ≡ true → label_text (find (test text) labels) ≡ text)
      → label_text (find (test text) (label ∷ labels)) ≡ text
  by true is rest = rw is ((bytes_eq-Decides (string_bytes label) text).0 is)
  by false is rest =
      let longer : position_or_len (test text) (label ∷ labels) ≡ 1 + position_or_len (test text) labels = rw is refl in
      rw is (rest (grind (arith, less, longer)))

label_is : (labels : List (String Global)) (text : List ℕ) (place : ℕ) → place_of labels text ≡ Some place
    → label_text (slice_get labels place) ≡ text
label_is labels text place is =
    let one = bind_link (position (test text) labels) (below 4096) place is in
    let two = kept (nat_lt (position_or_len (test text) labels) (length labels)) (position_or_len (test text) labels) one.0 one.1 in
    let low = below_is 4096 one.0 place one.2 in
    subst (λ n. label_text (slice_get labels n) ≡ text) (two.1 ∙ low.0)
    (subst (λ (found : Option (String Global)). label_text found ≡ text) (find_at (test text) labels) (found_label labels text two.0))

-- a word that stands for what a fact is of
record Stands (scope : Scope) (name : Name) (place : ℕ) (text : List ℕ) : Type 0 where
  is : subject_text scope (fact_of name place) ≡ text
  whole : is_word_text text ≡ true
  read : (reader : Reader) (column : ℕ) (rest : List Token) → reader.scope ≡ scope
      → subject_at reader name (record { kind = of_kind.Word; text = text; column = column } ∷ rest) ≡ found (place, rest)

-- digits are no word that begins with a letter
no_digits : (bytes : List ℕ) (first : ℕ) (word : List ℕ) → 0 < length bytes → AreDigits bytes → 57 < first → bytes_eq bytes (first ∷ word) ≡ false
no_digits [] first word some are high = absurd (omega (arith, some))
no_digits (byte ∷ bytes) first word some are high =
    let other : (byte == first) ≡ false = grind (arith, are.1, high) in rw other refl

digits_word : (bytes : List ℕ) → 0 < length bytes → AreDigits bytes → is_word_text bytes ≡ true
digits_word [] some are = absurd (omega (arith, some))
digits_word (byte ∷ bytes) some are = digits_are_words (byte ∷ bytes) are

no_device : (bytes : List ℕ) → 0 < length bytes → AreDigits bytes → device_named bytes ≡ None
no_device [] some are = absurd (omega (arith, some))
no_device (byte ∷ bytes) some are =
    let other : (byte == 68) ≡ false = grind (arith, are.1) in rw other (by (nat_lt 0 (length (byte ∷ bytes))))
  where
    by : (test : Bool) → (if test && false then number_in 10 bytes >>= below 64 else None) ≡ None
    by true = refl
    by false = refl

-- a number below a bound, written in decimal, is read, with the noun left out
number_read : (reader : Reader) (first : ℕ) (noun : List ℕ) (bound place column : ℕ) (expected : Expected) (rest : List Token) → 57 < first
    → place < bound → place < 2 ^ 64
    → number_below reader (first ∷ noun) bound expected (record { kind = of_kind.Word; text = decimal place; column = column } ∷ rest) ≡ found (place, rest)
number_read reader first noun bound place column expected rest high less fits =
    let is = spelled place fits in
    let other = no_digits (decimal place) first noun is.some is.digits high in
    let low : nat_lt place bound ≡ true = grind (arith, less) in
    rw (other, decimal_read place fits, low) refl

numbered : (scope : Scope) (name : Name) (place : ℕ) → place < 2 ^ 64 → subject_text scope (fact_of name place) ≡ decimal place
    → ((reader : Reader) (column : ℕ) (rest : List Token) → reader.scope ≡ scope
    → subject_at reader name (record { kind = of_kind.Word; text = decimal place; column = column } ∷ rest) ≡ found (place, rest))
    → Stands scope name place (decimal place)
numbered scope name place fits is read =
    let digits = spelled place fits in
    record { is = is; whole = digits_word (decimal place) digits.some digits.digits; read = read }

labelled : (scope : Scope) (name : Name) (place : ℕ) (text : List ℕ) → is_word_text text ≡ true → place_of scope.labels.now text ≡ Some place
    → subject_text scope (fact_of name place) ≡ label_text (slice_get scope.labels.now place)
    → ((reader : Reader) (tokens : List Token) → subject_at reader name tokens ≡ label_at reader tokens) → Stands scope name place text
labelled scope name place text whole at is reads = record {
  is = is ∙ label_is scope.labels.now text place at;
  whole = whole;
  read = λ reader column rest same.
      reads reader (record { kind = of_kind.Word; text = text; column = column } ∷ rest)
      ∙ rw (subst (λ (scope : Scope). place_of scope.labels.now text ≡ Some place) (sym same) at) refl;
}

device_stands : (scope : Scope) (place : ℕ) → place < 64 → Stands scope of_name.Deleted place (decimal place)
device_stands scope place less =
    numbered scope of_name.Deleted place (omega (arith, less)) refl
    (λ reader column rest same.
    let digits = spelled place (omega (arith, less)) in
    rw (no_device (decimal place) digits.some digits.digits) (number_read reader 100 (codes "evice") 64 place column _ rest (omega arith) less (omega (arith, less))))

subject_stands : (scope : Scope) (name : Name) (place : ℕ) → CanName scope name place → (text : List ℕ) × Stands scope name place text
subject_stands scope of_name.Reply place can = (
  decimal place,
  numbered scope of_name.Reply place can.1 refl
      (λ reader column rest same. number_read reader 115 (codes "tep") reader.scope.steps place column _ rest (omega arith) (subst (λ (scope : Scope). place < scope.steps) (sym same) can.0) can.1),
)
subject_stands scope of_name.Made place can = (
  decimal place,
  numbered scope of_name.Made place can.1 refl
      (λ reader column rest same. number_read reader 115 (codes "tep") reader.scope.steps place column _ rest (omega arith) (subst (λ (scope : Scope). place < scope.steps) (sym same) can.0) can.1),
)
subject_stands scope of_name.Held place can = (
  decimal place,
  numbered scope of_name.Held place can.1 refl
      (λ reader column rest same. number_read reader 108 (codes "ock") reader.scope.locks place column _ rest (omega arith) (subst (λ (scope : Scope). place < scope.locks) (sym same) can.0) can.1),
)
subject_stands scope of_name.Removing place can = (
  decimal place,
  numbered scope of_name.Removing place can.1 refl
      (λ reader column rest same. number_read reader 108 (codes "ock") reader.scope.locks place column _ rest (omega arith) (subst (λ (scope : Scope). place < scope.locks) (sym same) can.0) can.1),
)
subject_stands scope of_name.Deleted place can = (decimal place, device_stands scope place can)
subject_stands scope of_name.Owner place can = (can.0, labelled scope of_name.Owner place can.0 can.1 can.2 refl (λ reader tokens. refl))
subject_stands scope of_name.Status place can = (can.0, labelled scope of_name.Status place can.0 can.1 can.2 refl (λ reader tokens. refl))
subject_stands scope of_name.Information place can = (can.0, labelled scope of_name.Information place can.0 can.1 can.2 refl (λ reader tokens. refl))
subject_stands scope of_name.Current place can = (can.0, labelled scope of_name.Current place can.0 can.1 can.2 refl (λ reader tokens. refl))
subject_stands scope of_name.Live place can = (can.0, labelled scope of_name.Live place can.0 can.1 can.2 refl (λ reader tokens. refl))
subject_stands scope of_name.Cancel place can = (can.0, labelled scope of_name.Cancel place can.0 can.1 can.2 refl (λ reader tokens. refl))

-- ---- facts

name_found : (reader : Reader) (name : Name) (column : ℕ) (rest : List Token) → (needs_replies name && not reader.scope.knows_replies) ≡ false
    → name_at reader (record { kind = of_kind.Word; text = word_of_name name; column = column } ∷ rest) ≡ found (name, rest)
name_found reader of_name.Reply column rest told = rw told refl
name_found reader of_name.Deleted column rest told = rw told refl
name_found reader of_name.Made column rest told = rw told refl
name_found reader of_name.Owner column rest told = refl
name_found reader of_name.Status column rest told = refl
name_found reader of_name.Information column rest told = refl
name_found reader of_name.Current column rest told = refl
name_found reader of_name.Live column rest told = refl
name_found reader of_name.Cancel column rest told = refl
name_found reader of_name.Held column rest told = refl
name_found reader of_name.Removing column rest told = refl

-- the tokens of a fact
abbrev fact_tokens : Name → List ℕ → ℕ → ℕ → ℕ → ℕ → List Token → List Token
fact_tokens name text one two three four rest =
    record { kind = of_kind.Word; text = word_of_name name; column = one } ∷ record { kind = of_kind.Open; text = codes "("; column = two }
    ∷ record { kind = of_kind.Word; text = text; column = three } ∷ record { kind = of_kind.Close; text = codes ")"; column = four } ∷ rest

fact_found : (reader : Reader) (name : Name) (place : ℕ) (text : List ℕ) (one two three four : ℕ) (rest : List Token)
    → (needs_replies name && not reader.scope.knows_replies) ≡ false
    → ((column : ℕ) (rest : List Token) → subject_at reader name (record { kind = of_kind.Word; text = text; column = column } ∷ rest) ≡ found (place, rest))
    → fact_at reader (fact_tokens name text one two three four rest) ≡ found ((name, fact_of name place), rest)
fact_found reader name place text one two three four rest told read =
    let named = name_found reader name one (record { kind = of_kind.Open; text = codes "("; column = two }
    ∷ record { kind = of_kind.Word; text = text; column = three } ∷ record { kind = of_kind.Close; text = codes ")"; column = four } ∷ rest) told in
    let subject = read three (record { kind = of_kind.Close; text = codes ")"; column = four } ∷ rest) in
    rw (named, subject) refl

-- ---- values

no_noun_at : (sort : Sort) (text : List ℕ) (column : ℕ) (rest : List Token) → is_noun sort text ≡ false
    → behind_noun sort (record { kind = of_kind.Word; text = text; column = column } ∷ rest) ≡ None
no_noun_at of_sort.Reply text column rest is = rw is refl
no_noun_at of_sort.Owner text column rest is = rw is refl
no_noun_at of_sort.Number text column rest is = refl
no_noun_at of_sort.Truth text column rest is = refl

value_found : (reader : Reader) (sort : Sort) (text : List ℕ) (value : Value) (column : ℕ) (rest : List Token) → ReadsAs reader.scope sort text value
    → value_at reader sort (record { kind = of_kind.Word; text = text; column = column } ∷ rest) ≡ found (value, rest)
value_found reader sort text value column rest reads =
    rw (no_noun_at sort text column rest reads.bare, reads.named) refl

sign_found : (comparison : Comparison) (column : ℕ) (rest : List Token)
    → sign_at (record { kind = of_kind.Sign; text = sign_of comparison; column = column } ∷ rest) ≡ Some (comparison, rest)
sign_found of_sign.Equal column rest = refl
sign_found of_sign.Other column rest = refl
sign_found of_sign.Below column rest = refl
sign_found of_sign.AtMost column rest = refl
sign_found of_sign.Above column rest = refl
sign_found of_sign.AtLeast column rest = refl

name_is : (name : Name) (place : ℕ) → name_of_fact (fact_of name place) ≡ name
name_is of_name.Reply place = refl
name_is of_name.Deleted place = refl
name_is of_name.Made place = refl
name_is of_name.Owner place = refl
name_is of_name.Status place = refl
name_is of_name.Information place = refl
name_is of_name.Current place = refl
name_is of_name.Live place = refl
name_is of_name.Cancel place = refl
name_is of_name.Held place = refl
name_is of_name.Removing place = refl

-- a value that a text can write is written by a word that does if any does
value_reads : (scope : Scope) (sort : Sort) (value : Value) (text : List ℕ) → CanWrite scope sort value → WritesValue scope sort value text
    → ReadsAs scope sort text value
value_reads scope sort value text (by_word other reads) writes = writes other reads
value_reads scope sort value text (by_noun device less which) writes = writes (codes "D" ++ decimal device) (by which) where
  digits : Spelled device (decimal device)
  digits = spelled device (omega (arith, less))

  by : (sort ≡ of_sort.Reply) ⊎ (sort ≡ of_sort.Owner) → ReadsAs scope sort (codes "D" ++ decimal device) (of_value.Owner (owner.Device (record { 0 = device })))
  by (inl is) = subst (λ (sort : Sort). ReadsAs scope sort (codes "D" ++ decimal device) (of_value.Owner (owner.Device (record { 0 = device })))) (sym is)
      (record { whole = digits_are_words (decimal device) digits.digits; bare = refl; named = rw (device_read device less) refl })
  by (inr is) = subst (λ (sort : Sort). ReadsAs scope sort (codes "D" ++ decimal device) (of_value.Owner (owner.Device (record { 0 = device })))) (sym is)
      (record { whole = digits_are_words (decimal device) digits.digits; bare = refl; named = rw (device_read device less) refl })

-- ---- the tokens of pieces

past_blank : {pieces : List Piece} {tokens rest : List Token} → Spells (blank ∷ pieces) tokens rest → Spells pieces tokens rest
past_blank (passed is more) = more
past_blank (stood column is more) = cc

-- the first token, and what is behind it
record First (piece : Piece) (pieces : List Piece) (tokens rest : List Token) : Type 0 where
  column : ℕ
  behind : List Token
  is : tokens ≡ record { kind = piece.kind; text = piece.text; column = column } ∷ behind
  more : Spells pieces behind rest

first_of : {piece : Piece} {pieces : List Piece} {tokens rest : List Token} → is_blank_kind piece.kind ≡ false → Spells (piece ∷ pieces) tokens rest
    → First piece pieces tokens rest
first_of none (passed is more) = cc
first_of none (stood {tokens = behind} column is more) = record { column = column; behind = behind; is = refl; more = more }

spelled_none : {tokens rest : List Token} → Spells [] tokens rest → tokens ≡ rest
spelled_none done = refl

-- the tokens of a fact's pieces
record FactFirst (scope : Scope) (fact : Fact) (pieces : List Piece) (tokens rest : List Token) : Type 0 where
  one : ℕ
  two : ℕ
  three : ℕ
  four : ℕ
  behind : List Token
  is : tokens ≡ fact_tokens (name_of_fact fact) (subject_text scope fact) one two three four behind
  more : Spells pieces behind rest

fact_first : {scope : Scope} {fact : Fact} {pieces : List Piece} {tokens rest : List Token} → Spells (fact_pieces scope fact pieces) tokens rest
    → FactFirst scope fact pieces tokens rest
fact_first {scope} {fact} spells =
    let one = first_of refl spells in
    let two = first_of refl one.more in
    let three = first_of refl two.more in
    let four = first_of refl three.more in
    record {
      one = one.column;
      two = two.column;
      three = three.column;
      four = four.column;
      behind = four.behind;
      is = one.is ∙ ap (λ (tokens : List Token). record { kind = of_kind.Word; text = word_of_name (name_of_fact fact); column = one.column } ∷ tokens)
          (two.is ∙ ap (λ (tokens : List Token). record { kind = of_kind.Open; text = codes "("; column = two.column } ∷ tokens)
          (three.is ∙ ap (λ (tokens : List Token). record { kind = of_kind.Word; text = subject_text scope fact; column = three.column } ∷ tokens) four.is));
      more = four.more;
    }

-- a fact that a text can name is read from its pieces
fact_read : (reader : Reader) (fact : Fact) (name : Name) (place one two three four : ℕ) (rest : List Token) → CanTell reader.scope fact name place
    → fact_at reader (fact_tokens (name_of_fact fact) (subject_text reader.scope fact) one two three four rest) ≡ found ((name, fact), rest)
fact_read reader fact name place one two three four rest tells =
    subst (λ (fact : Fact). fact_at reader (fact_tokens (name_of_fact fact) (subject_text reader.scope fact) one two three four rest) ≡ found ((name, fact), rest))
    (sym tells.is)
    (subst (λ (other : Name). fact_at reader (fact_tokens other (subject_text reader.scope (fact_of name place)) one two three four rest) ≡ found ((name, fact_of name place), rest))
    (sym (name_is name place))
    (subst (λ (text : List ℕ). fact_at reader (fact_tokens name text one two three four rest) ≡ found ((name, fact_of name place), rest)) (sym stands.1.is)
    (fact_found reader name place stands.0 one two three four rest tells.told (λ column rest. stands.1.read reader column rest refl))))
  where
    stands : (text : List ℕ) × Stands reader.scope name place text
    stands = subject_stands reader.scope name place tells.named

-- ---- conditions

from_single : {reader : Reader} {depth : ℕ} {tokens rest : List Token} {formula : Formula} (level : Level) → Says reader single depth tokens formula rest
    → Says reader level depth tokens formula rest
from_single single says = says
from_single (joined And) says = says_alone says
from_single (joined Or) says = says_alone (says_alone says)

lifted : {reader : Reader} {depth : ℕ} {tokens rest : List Token} {formula : Formula} (level : Level) (joint : Joint) → stands level joint ≡ true
    → Says reader (joined joint) depth tokens formula rest → Says reader level depth tokens formula rest
lifted single joint is says = cc
lifted (joined And) And is says = says
lifted (joined And) Or is says = cc
lifted (joined Or) And is says = says_alone says
lifted (joined Or) Or is says = says

no_single_word : (column : ℕ) (text : List ℕ) (tokens : List Token) → sign_at (record { kind = of_kind.Word; text = text; column = column } ∷ tokens) ≡ None
no_single_word column text tokens = refl

word_behind : (joint : Joint) (column : ℕ) (tokens : List Token)
    → behind_word (word_of joint) (record { kind = of_kind.Word; text = word_of joint; column = column } ∷ tokens) ≡ Some tokens
word_behind And column tokens = refl
word_behind Or column tokens = refl

-- two conditions, and the joint's word between them
says_joined : {reader : Reader} {joint : Joint} {depth : ℕ} {left right : Formula} (lefts rights : List Piece) {tokens rest : List Token}
    → ((tokens rest : List Token) → Spells lefts tokens rest → sign_at rest ≡ None → Says reader (joined joint) depth tokens left rest)
    → ((tokens rest : List Token) → Spells rights tokens rest → sign_at rest ≡ None → Says reader (inside joint) depth tokens right rest)
    → Spells (joined_pieces joint lefts rights) tokens rest → sign_at rest ≡ None
    → Says reader (joined joint) depth tokens (joins joint left right) rest
says_joined {reader} {joint} {depth} {left} lefts rights {tokens} {rest} first second spells none =
    let parts = spelled_apart lefts spells in
    let middle = first_of refl (past_blank parts.2) in
    let after = past_blank middle.more in
    says_more
    (subst (λ (behind : List Token). Says reader (joined joint) depth tokens left behind) middle.is
    (first tokens parts.0 parts.1 (subst (λ (behind : List Token). sign_at behind ≡ None) (sym middle.is) refl)))
    (word_behind joint middle.column middle.behind) (second middle.behind rest after none)

-- what is written says the condition, where a text can say it and no sign follows
says : {reader : Reader} {level : Level} {depth : ℕ} {formula : Formula} {pieces : List Piece} {tokens rest : List Token} → Fits reader.scope level depth formula
    → Writes reader.scope level formula pieces → Spells pieces tokens rest → sign_at rest ≡ None → Says reader level depth tokens formula rest
says {level = level} (fits_bare {joint = joint} is left right) (bare {lefts = lefts} {rights = rights} stand one two) spells none =
    lifted level joint is (says_joined lefts rights (λ tokens rest spells none. says left one spells none) (λ tokens rest spells none. says right two spells none) spells none)
says (fits_bare is left right) (enclosed stand one two) spells none = cc
says (deeper is left right) (bare stand one two) spells none = cc
says {reader} {level} {tokens = tokens} {rest} (deeper {joint = joint} {depth = less} {left = left} {right = right} is left_fits right_fits) (enclosed {lefts = lefts} {rights = rights} stand one two) spells none =
    let begins = first_of refl spells in
    let parts = spelled_apart (joined_pieces joint lefts rights) begins.more in
    let ends = first_of refl parts.2 in
    let end : ends.behind ≡ rest = spelled_none ends.more in
    let inner : Says reader (joined joint) less begins.behind (joins joint left right) parts.0 =
    says_joined lefts rights (λ tokens rest spells none. says left_fits one spells none) (λ tokens rest spells none. says right_fits two spells none) parts.1
    (subst (λ (behind : List Token). sign_at behind ≡ None) (sym ends.is) refl) in
    from_single level
    (subst (λ (tokens : List Token). Says reader single (suc less) tokens (joins joint left right) rest) (sym begins.is)
    (says_enclosed refl (lifted (joined Or) joint (stands_or joint) inner)
    (subst (λ (behind : List Token). behind_close behind ≡ Some rest) (sym ends.is) (ap Some end))))
  where
    stands_or : (joint : Joint) → stands (joined Or) joint ≡ true
    stands_or And = refl
    stands_or Or = refl
says {reader} {level} {tokens = tokens} {rest} (negation {depth = less} {part = part} fits) (negated writes) spells none =
    let begins = first_of refl spells in
    from_single level
    (subst (λ (tokens : List Token). Says reader single (suc less) tokens (no part) rest) (sym begins.is)
    (says_negated refl (says fits writes (past_blank begins.more) none)))
says {reader} {level} {depth} {tokens = tokens} {rest} (truth {fact = fact} name place tells is) alone spells none =
    let at = fact_first {scope = reader.scope} {fact = fact} spells in
    let end : at.behind ≡ rest = spelled_none at.more in
    let told = fact_read reader fact name place at.one at.two at.three at.four at.behind tells in
    let sign : sign_at at.behind ≡ None = subst (λ (behind : List Token). sign_at behind ≡ None) (sym end) none in
    from_single level
    (subst (λ (tokens : List Token). Says reader single depth tokens (true_of (term.Fact fact)) rest) (sym at.is)
    (subst (λ (rest : List Token). Says reader single depth (fact_tokens (name_of_fact fact) (subject_text reader.scope fact) at.one at.two at.three at.four at.behind) (true_of (term.Fact fact)) rest) end
    (says_compared (rw (told, sign, is) refl))))
says {reader} {level} {depth} {tokens = tokens} {rest} (comparison {fact = fact} {sign = by} {value = value} name place tells writes) (compared {word = text} chosen) spells none =
    let at = fact_first {scope = reader.scope} {fact = fact} spells in
    let told = fact_read reader fact name place at.one at.two at.three at.four at.behind tells in
    let signed = first_of refl (past_blank at.more) in
    let written = first_of refl (past_blank signed.more) in
    let end : written.behind ≡ rest = spelled_none written.more in
    let named : name_of_fact fact ≡ name = ap name_of_fact tells.is ∙ name_is name place in
    let reads = value_reads reader.scope (sort_of name) value text writes (subst (λ (name : Name). WritesValue reader.scope (sort_of name) value text) named chosen) in
    let behind : at.behind ≡ record { kind = of_kind.Sign; text = sign_of by; column = signed.column } ∷ record { kind = of_kind.Word; text = text; column = written.column } ∷ rest =
    signed.is ∙ ap (λ (tokens : List Token). record { kind = of_kind.Sign; text = sign_of by; column = signed.column } ∷ tokens)
    (written.is ∙ ap (λ (tokens : List Token). record { kind = of_kind.Word; text = text; column = written.column } ∷ tokens) end) in
    let sign = sign_found by signed.column (record { kind = of_kind.Word; text = text; column = written.column } ∷ rest) in
    let read = value_found reader (sort_of name) text value written.column rest reads in
    from_single level
    (subst (λ (tokens : List Token). Says reader single depth tokens (compares (term.Fact fact) by (term.Constant value)) rest) (sym at.is)
    (says_compared (rw (told, behind, sign, read) refl)))

-- ---- written pieces are tokens

any_open : (kind : Kind) → goes_on kind of_kind.Open ≡ false
any_open of_kind.Word = refl
any_open of_kind.Sign = refl
any_open of_kind.Open = refl
any_open of_kind.Close = refl
any_open of_kind.Blank = refl
any_open of_kind.Other = refl

any_close : (kind : Kind) → goes_on kind of_kind.Close ≡ false
any_close of_kind.Word = refl
any_close of_kind.Sign = refl
any_close of_kind.Open = refl
any_close of_kind.Close = refl
any_close of_kind.Blank = refl
any_close of_kind.Other = refl

-- pieces that are tokens behind a byte where words may begin, up to one where a blank may follow
abbrev Lexed : List Piece → Type 0
Lexed pieces =
    (before : Kind) → goes_on before of_kind.Word ≡ false → (last : Kind) × Lexes before pieces last × (goes_on last of_kind.Blank ≡ false)

joined_lexed : (joint : Joint) (lefts rights : List Piece) → Lexed lefts → Lexed rights → Lexed (joined_pieces joint lefts rights)
joined_lexed joint lefts rights left right before starts =
    let one = left before starts in
    let two = right of_kind.Blank refl in
    (two.0, both_lex one.1 (put blank_piece one.2 (put (word_piece (word_of joint) (joint_piece joint)) refl (put blank_piece refl two.1))), two.2)

subject_piece : {scope : Scope} {fact : Fact} (name : Name) (place : ℕ) → CanTell scope fact name place → IsPiece (word (subject_text scope fact))
subject_piece {scope} {fact} name place tells =
    let stands = subject_stands scope name place tells.named in
    let text : subject_text scope fact ≡ stands.0 = ap (subject_text scope) tells.is ∙ stands.1.is in
    word_piece (subject_text scope fact) (subst (λ (text : List ℕ). is_word_text text ≡ true) (sym text) stands.1.whole)

fact_lexed : {scope : Scope} {fact : Fact} {pieces : List Piece} {last : Kind} (before : Kind) (name : Name) (place : ℕ) → CanTell scope fact name place
    → goes_on before of_kind.Word ≡ false → Lexes of_kind.Close pieces last → Lexes before (fact_pieces scope fact pieces) last
fact_lexed {fact = fact} before name place tells starts behind =
    put (word_piece (word_of_name (name_of_fact fact)) (name_piece (name_of_fact fact))) starts
    (put opening_piece refl (put (subject_piece name place tells) refl (put closing_piece refl behind)))

lexed : {scope : Scope} {level : Level} {depth : ℕ} {formula : Formula} {pieces : List Piece} → Fits scope level depth formula
    → Writes scope level formula pieces → Lexed pieces
lexed (fits_bare {joint = joint} is left right) (bare {lefts = lefts} {rights = rights} stand one two) =
    joined_lexed joint lefts rights (lexed left one) (lexed right two)
lexed (fits_bare is left right) (enclosed stand one two) = cc
lexed (deeper is left right) (bare stand one two) = cc
lexed (deeper {joint = joint} is left right) (enclosed {lefts = lefts} {rights = rights} stand one two) = λ before starts.
    let inner = joined_lexed joint lefts rights (lexed left one) (lexed right two) of_kind.Open refl in
    (of_kind.Close, put opening_piece (any_open before) (both_lex inner.1 (put closing_piece (any_close inner.0) nothing)), refl)
lexed (negation part) (negated writes) = λ before starts.
    let inner = lexed part writes of_kind.Blank refl in
    (inner.0, put (word_piece (codes "not") refl) starts (put blank_piece refl inner.1), inner.2)
lexed (truth name place tells is) alone = λ before starts. (of_kind.Close, fact_lexed before name place tells starts nothing, refl)
lexed {scope} (comparison {fact = fact} {sign = by} {value = value} name place tells writes) (compared {word = text} chosen) = λ before starts.
    let named : name_of_fact fact ≡ name = ap name_of_fact tells.is ∙ name_is name place in
    let reads = value_reads scope (sort_of name) value text writes (subst (λ (name : Name). WritesValue scope (sort_of name) value text) named chosen) in (
      of_kind.Word,
      fact_lexed before name place tells starts (put blank_piece refl (put (sign_piece by) refl (put blank_piece refl (put (word_piece text reads.whole) refl nothing)))),
      refl,
    )

-- the pieces that write a condition make a text that says it, if any text does
pub tells_back : (scope : Scope) (formula : Formula) (pieces : List Piece) (text : List ℕ) → text ≡ bytes_of pieces
    → Writes scope (joined Or) formula pieces → TellsBack scope formula text
tells_back scope formula pieces text is writes other said =
    let fits = (said_fits (reader_of scope other) (proper_text other) said).0 in
    let whole = lexed fits writes of_kind.Blank refl in
    subst (λ (text : List ℕ). TextSays scope text formula) (sym is)
    (says {reader = reader_of scope (bytes_of pieces)} fits writes (tokens_of_pieces pieces whole.1) refl)
