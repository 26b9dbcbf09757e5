-- What stands at the front of a condition's tokens, with the tokens behind it: facts, values and comparisons.
use Rattle.std.specs.Prelude.{ℕ, ◌&&◌, Bool, true, false, not, if◌then◌else◌, List, [], ◌∷◌, Option, Some, None, codes, string_bytes, String}
use Rattle.std.specs.Borrow.{Bor}
use Rattle.std.specs.List.{position}
use Rattle.std.specs.Option.{unwrap_or}
use Rattle.std.proofs.Common.{bytes_eq}
use Rattle.irp_condition.specs.declared.condition.Comparison.{Comparison}
use Rattle.irp_condition.specs.declared.condition.Fact.{Fact}
use Rattle.irp_condition.specs.declared.condition.Fact.TheVariants as fact
use Rattle.irp_condition.specs.declared.condition.Term.TheVariants as term
use Rattle.irp_condition.specs.declared.fault.Expected.{Expected}
use Rattle.irp_condition.specs.declared.fault.Expected.TheVariants as expected
use Rattle.irp_condition.specs.declared.naming.Name.{Name}
use Rattle.irp_condition.specs.declared.naming.Name.TheVariants as name
use Rattle.irp_condition.specs.declared.naming.Sort.{Sort}
use Rattle.irp_condition.specs.declared.naming.Sort.TheVariants as sort
use Rattle.irp_condition.specs.declared.reading.Reader.{Reader}
use Rattle.irp_condition.specs.declared.tokens.Kind.{Kind}
use Rattle.irp_condition.specs.declared.tokens.Kind.TheVariants.{Word, Sign, Open, Close}
use Rattle.irp_condition.specs.declared.tokens.Token.{Token}
use Rattle.irp_condition.specs.declared.value.Value.{Value}
use Rattle.irp_condition.specs.declared.value.Value.TheVariants as value
use Rattle.irp_types.specs.declared.location.Owner.TheVariants as owner
use Rattle.irp_condition.specs.Faults.{Found, found, missing, ◌>>◌, expect, or_found, fault_at}
use Rattle.irp_condition.specs.Formulas.{Formula, true_of, compares}
use Rattle.irp_condition.specs.Naming.{name_of, comparison_of, sort_of, needs_replies}
use Rattle.irp_condition.specs.Words.{◌>>=◌, below, number_of, device_named, value_named}

-- what was read, and the tokens behind it
abbrev pub with_rest : {A : Type 0} → A × Bor (List Token) → A × List Token
with_rest read = (read.0, read.1.now)

abbrev pub is_word : Kind → Bool
is_word Word = true
is_word kind = false

abbrev pub is_sign : Kind → Bool
is_sign Sign = true
is_sign kind = false

abbrev pub is_open : Kind → Bool
is_open Open = true
is_open kind = false

abbrev pub is_close : Kind → Bool
is_close Close = true
is_close kind = false

-- a word
abbrev pub word_at : List Token → Option (List ℕ × List Token)
word_at [] = None
word_at (token ∷ rest) = if is_word token.kind then Some (token.text, rest) else None

-- behind this word
abbrev pub behind_word : List ℕ → List Token → Option (List Token)
behind_word word tokens = word_at tokens >>= λ found. if bytes_eq found.0 word then Some found.1 else None

-- behind an opening parenthesis
abbrev pub behind_open : List Token → Option (List Token)
behind_open [] = None
behind_open (token ∷ rest) = if is_open token.kind then Some rest else None

-- behind a closing parenthesis
abbrev pub behind_close : List Token → Option (List Token)
behind_close [] = None
behind_close (token ∷ rest) = if is_close token.kind then Some rest else None

-- behind this word, where it stands here, or else here
abbrev pub past_word : List ℕ → List Token → List Token
past_word word tokens = unwrap_or (behind_word word tokens) tokens

-- ---- what a fact is of

-- a number below this one
abbrev pub number_at : Reader → ℕ → Expected → List Token → Found (ℕ × List Token)
number_at reader bound expected tokens =
    expect reader expected tokens
    (word_at tokens >>= λ read. number_of read.0 >>= below bound >>= λ number. Some (number, read.1))

-- the same, with a noun before it or without
abbrev pub number_below : Reader → List ℕ → ℕ → Expected → List Token → Found (ℕ × List Token)
number_below reader noun bound expected tokens = number_at reader bound expected (past_word noun tokens)

-- a device, as D2, device 2 or 2
abbrev pub device_at : Reader → List Token → Found (ℕ × List Token)
device_at reader tokens =
    or_found (word_at tokens >>= λ read. device_named read.0 >>= λ device. Some (device, read.1))
    (number_below reader (codes "device") 64 expected.Device tokens)

-- the place of a label, of which a script has at most 4096
abbrev pub place_of : {Z : Type 0} → List (String Z) → List ℕ → Option ℕ
place_of labels word = position (λ label. bytes_eq (string_bytes label) word) labels >>= below 4096

-- a label: its place
abbrev pub label_at : Reader → List Token → Found (ℕ × List Token)
label_at reader tokens =
    expect reader expected.Label tokens
    (word_at tokens >>= λ read. place_of reader.scope.labels.now read.0 >>= λ place. Some (place, read.1))

-- what a fact of this name is of, as it stands between the parentheses
abbrev pub subject_at : Reader → Name → List Token → Found (ℕ × List Token)
subject_at reader name.Reply tokens = number_below reader (codes "step") reader.scope.steps expected.Step tokens
subject_at reader name.Made tokens = number_below reader (codes "step") reader.scope.steps expected.Step tokens
subject_at reader name.Owner tokens = label_at reader tokens
subject_at reader name.Status tokens = label_at reader tokens
subject_at reader name.Information tokens = label_at reader tokens
subject_at reader name.Current tokens = label_at reader tokens
subject_at reader name.Live tokens = label_at reader tokens
subject_at reader name.Cancel tokens = label_at reader tokens
subject_at reader name.Deleted tokens = device_at reader tokens
subject_at reader name.Held tokens = number_below reader (codes "lock") reader.scope.locks expected.Lock tokens
subject_at reader name.Removing tokens = number_below reader (codes "lock") reader.scope.locks expected.Lock tokens

-- the fact of this name
abbrev pub fact_of : Name → ℕ → Fact
fact_of name.Reply place = fact.Reply place
fact_of name.Made place = fact.Made place
fact_of name.Owner place = fact.Owner place
fact_of name.Status place = fact.Status place
fact_of name.Information place = fact.Information place
fact_of name.Current place = fact.Current place
fact_of name.Live place = fact.Live place
fact_of name.Cancel place = fact.Cancel place
fact_of name.Deleted place = fact.Deleted place
fact_of name.Held place = fact.Held place
fact_of name.Removing place = fact.Removing place

-- the name that a fact begins with; without the replies none is expected of what only they tell
abbrev pub name_at : Reader → List Token → Found (Name × List Token)
name_at reader tokens =
    expect reader expected.Condition tokens (word_at tokens >>= λ read. name_of read.0 >>= λ name. Some (name, read.1))
    >> λ named. if needs_replies named.0 && not reader.scope.knows_replies
    then missing (fault_at reader expected.End tokens) else found named

-- a fact with its name, as owner(a)
abbrev pub fact_at : Reader → List Token → Found ((Name × Fact) × List Token)
fact_at reader tokens =
    name_at reader tokens
    >> λ named. expect reader expected.Open named.1 (behind_open named.1)
    >> λ inside. subject_at reader named.0 inside
    >> λ read. expect reader expected.Close read.1 (behind_close read.1)
    >> λ rest. found ((named.0, fact_of named.0 read.0), rest)

-- ---- what it is compared with

-- behind the noun of a device, where a value of this sort may be one
abbrev pub behind_noun : Sort → List Token → Option (List Token)
behind_noun sort.Reply tokens = behind_word (codes "device") tokens
behind_noun sort.Owner tokens = behind_word (codes "device") tokens
behind_noun sort.Number tokens = None
behind_noun sort.Truth tokens = None

-- what is expected where no value of this sort stands
abbrev pub expected_of : Sort → Expected
expected_of sort.Reply = expected.Reply
expected_of sort.Owner = expected.Owner
expected_of sort.Number = expected.Number
expected_of sort.Truth = expected.Truth

-- a device behind its noun, where the noun stands; else a word
abbrev pub value_behind : Reader → Sort → List Token → Option (List Token) → Found (Value × List Token)
value_behind reader sort tokens (Some rest) =
    number_at reader 64 expected.Device rest
    >> λ read. found (value.Owner (owner.Device (record { 0 = read.0 })), read.1)
value_behind reader sort tokens None =
    expect reader (expected_of sort) tokens
    (word_at tokens >>= λ read. value_named reader.scope sort read.0 >>= λ value. Some (value, read.1))

-- a value of this sort: a word, or a device behind its noun
abbrev pub value_at : Reader → Sort → List Token → Found (Value × List Token)
value_at reader sort tokens = value_behind reader sort tokens (behind_noun sort tokens)

-- the sign of a comparison
abbrev pub sign_at : List Token → Option (Comparison × List Token)
sign_at [] = None
sign_at (token ∷ rest) =
    if is_sign token.kind then (comparison_of token.text >>= λ comparison. Some (comparison, rest)) else None

abbrev pub is_truth : Sort → Bool
is_truth sort.Truth = true
is_truth sort = false

-- behind a fact: a sign and a value, or nothing where the fact is true or false
abbrev pub compared_by : Reader → Name → Fact → List Token → Option (Comparison × List Token)
    → Found (Formula × List Token)
compared_by reader name fact tokens (Some signed) =
    value_at reader (sort_of name) signed.1
    >> λ read. found (compares (term.Fact fact) signed.0 (term.Constant read.0), read.1)
compared_by reader name fact tokens None =
    if is_truth (sort_of name) then found (true_of (term.Fact fact), tokens)
    else missing (fault_at reader expected.Comparison tokens)

-- a fact that is true or false alone, or one with what it is compared with
abbrev pub compared_at : Reader → List Token → Found (Formula × List Token)
compared_at reader tokens =
    fact_at reader tokens >> λ read. compared_by reader read.0.0 read.0.1 read.1 (sign_at read.1)
