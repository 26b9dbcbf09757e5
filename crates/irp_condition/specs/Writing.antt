-- How conditions are written: the words, signs, parentheses and blanks of their texts.
use Rattle.std.specs.Prelude.{ℕ, ◌≡◌, ◌<◌, ◌&&◌, Bool, true, false, List, [], ◌∷◌, ◌++◌, length, Option, Some, None, Contains, codes, slice_get, string_bytes, String, decimal}
use Rattle.std.proofs.Common.{bytes_eq}
use Rattle.irp_condition.specs.declared.condition.Comparison.{Comparison}
use Rattle.irp_condition.specs.declared.condition.Comparison.TheVariants.{Equal, Other, Below, AtMost, Above, AtLeast}
use Rattle.irp_condition.specs.declared.condition.Fact.{Fact}
use Rattle.irp_condition.specs.declared.condition.Fact.TheVariants as fact
use Rattle.irp_condition.specs.declared.condition.Term.TheVariants as term
use Rattle.irp_condition.specs.declared.naming.Joint.{Joint}
use Rattle.irp_condition.specs.declared.naming.Joint.TheVariants.{And, Or}
use Rattle.irp_condition.specs.declared.naming.Name.{Name}
use Rattle.irp_condition.specs.declared.naming.Name.TheVariants as name
use Rattle.irp_condition.specs.declared.naming.Sort.{Sort}
use Rattle.irp_condition.specs.declared.naming.Sort.TheVariants as sort
use Rattle.irp_condition.specs.declared.condition.Term.{Term}
use Rattle.irp_condition.specs.declared.scope.Scope.{Scope}
use Rattle.irp_condition.specs.declared.tokens.Kind.{Kind}
use Rattle.irp_condition.specs.declared.tokens.Kind.TheVariants as kind
use Rattle.irp_condition.specs.declared.value.Answer.{Answer}
use Rattle.irp_condition.specs.declared.value.Answer.TheVariants as answer
use Rattle.irp_condition.specs.declared.value.Value.{Value}
use Rattle.irp_condition.specs.declared.value.Value.TheVariants as value
use Rattle.irp_types.specs.declared.location.Owner.TheVariants as owner
use Rattle.irp_condition.specs.Formulas.{Formula, joins, no, true_of, compares}
use Rattle.irp_condition.specs.Grammar.{Level, single, joined, inside, TextSays}
use Rattle.irp_condition.specs.Naming.{word_of, sort_of}
use Rattle.irp_condition.specs.Tokens.{kind_of, goes_on}
use Rattle.irp_condition.specs.Words.{value_named}

-- ---- what is put one after the other

-- a word, a sign, a parenthesis or a blank
pub record Piece : Type 0 where
  pub kind : Kind
  pub text : List ℕ

-- the text that pieces make
abbrev pub bytes_of : List Piece → List ℕ
bytes_of [] = []
bytes_of (piece ∷ pieces) = piece.text ++ bytes_of pieces

abbrev pub word : List ℕ → Piece
word text = record { kind = kind.Word; text = text }

abbrev pub sign : List ℕ → Piece
sign text = record { kind = kind.Sign; text = text }

abbrev pub opening : Piece
opening = record { kind = kind.Open; text = codes "(" }

abbrev pub closing : Piece
closing = record { kind = kind.Close; text = codes ")" }

abbrev pub blank : Piece
blank = record { kind = kind.Blank; text = codes " " }

-- ---- facts and comparisons

-- the name of a fact
abbrev pub name_of_fact : Fact → Name
name_of_fact (fact.Reply place) = name.Reply
name_of_fact (fact.Made place) = name.Made
name_of_fact (fact.Owner place) = name.Owner
name_of_fact (fact.Status place) = name.Status
name_of_fact (fact.Information place) = name.Information
name_of_fact (fact.Current place) = name.Current
name_of_fact (fact.Cancel place) = name.Cancel
name_of_fact (fact.Live place) = name.Live
name_of_fact (fact.Deleted place) = name.Deleted
name_of_fact (fact.Held place) = name.Held
name_of_fact (fact.Removing place) = name.Removing

-- the word of a name
abbrev pub word_of_name : Name → List ℕ
word_of_name name.Reply = codes "reply"
word_of_name name.Made = codes "made"
word_of_name name.Owner = codes "owner"
word_of_name name.Status = codes "status"
word_of_name name.Information = codes "information"
word_of_name name.Current = codes "current"
word_of_name name.Live = codes "live"
word_of_name name.Cancel = codes "cancel"
word_of_name name.Deleted = codes "deleted"
word_of_name name.Held = codes "held"
word_of_name name.Removing = codes "removing"

-- the sign of a comparison
abbrev pub sign_of : Comparison → List ℕ
sign_of Equal = codes "=="
sign_of Other = codes "!="
sign_of Below = codes "<"
sign_of AtMost = codes "<="
sign_of Above = codes ">"
sign_of AtLeast = codes ">="

-- the text of the label in this place; none where there is none
abbrev pub label_text : {Z : Type 0} → Option (String Z) → List ℕ
label_text (Some label) = string_bytes label
label_text None = []

-- what a fact is of: the text of a label, or a number
abbrev pub subject_text : Scope → Fact → List ℕ
subject_text scope (fact.Reply place) = decimal place
subject_text scope (fact.Made place) = decimal place
subject_text scope (fact.Owner place) = label_text (slice_get scope.labels.now place)
subject_text scope (fact.Status place) = label_text (slice_get scope.labels.now place)
subject_text scope (fact.Information place) = label_text (slice_get scope.labels.now place)
subject_text scope (fact.Current place) = label_text (slice_get scope.labels.now place)
subject_text scope (fact.Cancel place) = label_text (slice_get scope.labels.now place)
subject_text scope (fact.Live place) = label_text (slice_get scope.labels.now place)
subject_text scope (fact.Deleted place) = decimal place
subject_text scope (fact.Held place) = decimal place
subject_text scope (fact.Removing place) = decimal place

-- a fact, as owner(a), and what stands behind it
abbrev pub fact_pieces : Scope → Fact → List Piece → List Piece
fact_pieces scope fact behind =
    word (word_of_name (name_of_fact fact)) ∷ opening ∷ word (subject_text scope fact) ∷ closing ∷ behind

-- ---- values

-- all bytes are of words
abbrev pub all_of_word : List ℕ → Bool
all_of_word [] = true
all_of_word (byte ∷ bytes) = goes_on kind.Word (kind_of byte) && all_of_word bytes

-- it is a word
abbrev pub is_word_text : List ℕ → Bool
is_word_text [] = false
is_word_text (byte ∷ bytes) = all_of_word (byte ∷ bytes)

-- the noun of a device, where a value of this sort may be one
abbrev pub is_noun : Sort → List ℕ → Bool
is_noun sort.Reply word = bytes_eq word (codes "device")
is_noun sort.Owner word = bytes_eq word (codes "device")
is_noun sort.Number word = false
is_noun sort.Truth word = false

-- the word alone is read as this value, where one of this sort stands
pub record ReadsAs (scope : Scope) (sort : Sort) (word : List ℕ) (value : Value) : Type 0 where
  pub whole : is_word_text word ≡ true
  pub bare : is_noun sort word ≡ false
  pub named : value_named scope sort word ≡ Some value

-- the word that an answer is written by
abbrev pub word_of_answer : Answer → List ℕ
word_of_answer answer.Done = codes "done"
word_of_answer answer.SeatFull = codes "seat_full"
word_of_answer answer.NotHeld = codes "not_held"
word_of_answer answer.AlreadyRemoving = codes "already_removing"
word_of_answer answer.NoLock = codes "no_lock"
word_of_answer answer.Yes = codes "yes"
word_of_answer answer.Busy = codes "busy"
word_of_answer answer.Standing = codes "standing"
word_of_answer answer.Taken = codes "taken"
word_of_answer answer.Lost = codes "lost"
word_of_answer answer.Nothing = codes "nothing"
word_of_answer answer.Used = codes "used"
word_of_answer answer.NotStanding = codes "not_standing"
word_of_answer answer.NoSlot = codes "no_slot"
word_of_answer answer.NoToken = codes "no_token"

-- the word that a value is written by without the names of statuses and refusals
abbrev pub own_word : Value → List ℕ
own_word value.Missing = codes "none"
own_word (value.Truth true) = codes "true"
own_word (value.Truth false) = codes "false"
own_word (value.Number number) = decimal number
own_word (value.Owner owner.Originator) = codes "originator"
own_word (value.Owner owner.Ended) = codes "ended"
own_word (value.Owner (owner.Device device)) = codes "D" ++ decimal device.0
own_word (value.Refused refusal) = []
own_word (value.Answer answer) = word_of_answer answer

-- the word writes this value, if any word does
abbrev pub WritesValue : Scope → Sort → Value → List ℕ → Type 0
WritesValue scope sort value word = (other : List ℕ) → ReadsAs scope sort other value → ReadsAs scope sort word value

-- ---- conditions

-- what this joint joins may stand here without parentheses
abbrev pub stands : Level → Joint → Bool
stands single joint = false
stands (joined And) And = true
stands (joined And) Or = false
stands (joined Or) joint = true

-- the two conditions that a joint joins
abbrev pub joined_pieces : Joint → List Piece → List Piece → List Piece
joined_pieces joint left right = left ++ blank ∷ word (word_of joint) ∷ blank ∷ right

-- a comparison with a value that is written out
abbrev pub compared_pieces : Scope → Fact → Comparison → List ℕ → List Piece
compared_pieces scope fact comparison value =
    fact_pieces scope fact (blank ∷ sign (sign_of comparison) ∷ blank ∷ word value ∷ [])

-- The pieces write the condition, where one of this level stands. `bare`, `enclosed`: what a joint joins, without and
-- with parentheses. `negated`: `not`. `alone`: a fact that is true. `compared`: a fact and a value. `other_truth`,
-- `other_left`, `other_right`: what no text says; it has a value where a fact stands, or a fact where a value does
pub data Writes (scope : Scope) : Level → Formula → List Piece → Type 0 where
  bare : {level : Level} {joint : Joint} {left right : Formula} {lefts rights : List Piece}
      → stands level joint ≡ true → Writes scope (joined joint) left lefts → Writes scope (inside joint) right rights
      → Writes scope level (joins joint left right) (joined_pieces joint lefts rights)
  enclosed : {level : Level} {joint : Joint} {left right : Formula} {lefts rights : List Piece}
      → stands level joint ≡ false → Writes scope (joined joint) left lefts → Writes scope (inside joint) right rights
      → Writes scope level (joins joint left right) (opening ∷ joined_pieces joint lefts rights ++ closing ∷ [])
  negated : {level : Level} {part : Formula} {pieces : List Piece}
      → Writes scope single part pieces → Writes scope level (no part) (word (codes "not") ∷ blank ∷ pieces)
  alone : {level : Level} {fact : Fact} → Writes scope level (true_of (term.Fact fact)) (fact_pieces scope fact [])
  compared : {level : Level} {fact : Fact} {comparison : Comparison} {value : Value} {word : List ℕ}
      → WritesValue scope (sort_of (name_of_fact fact)) value word
      → Writes scope level (compares (term.Fact fact) comparison (term.Constant value))
      (compared_pieces scope fact comparison word)
  other_truth : {level : Level} {value : Value} → Writes scope level (true_of (term.Constant value)) []
  other_left : {level : Level} {value : Value} {comparison : Comparison} {right : Term}
      → Writes scope level (compares (term.Constant value) comparison right) []
  other_right : {level : Level} {left right : Fact} {comparison : Comparison}
      → Writes scope level (compares (term.Fact left) comparison (term.Fact right)) []

-- the level of a part beside this joint; no joint stands for a single condition
abbrev pub level_of : Option Joint → Level
level_of None = single
level_of (Some joint) = joined joint

-- a fact, a sign and a word were put behind a text, and the word writes the value
abbrev pub PutsCompared : Scope → Fact → Comparison → Value → List ℕ → List ℕ → Type 0
PutsCompared scope fact comparison value before behind =
    (word : List ℕ) × (behind ≡ before ++ bytes_of (compared_pieces scope fact comparison word))
    × WritesValue scope (sort_of (name_of_fact fact)) value word

-- these pieces were put behind a text, and they write the condition
abbrev pub Puts : Scope → Level → Formula → List ℕ → List ℕ → Type 0
Puts scope level formula before behind =
    (pieces : List Piece) × (behind ≡ before ++ bytes_of pieces) × Writes scope level formula pieces

-- the text says the condition, if any text does
abbrev pub TellsBack : Scope → Formula → List ℕ → Type 0
TellsBack scope formula text = (other : List ℕ) → TextSays scope other formula → TextSays scope text formula
