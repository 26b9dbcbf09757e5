-- The grammar of conditions: what tokens say.
use Rattle.std.specs.Prelude.{ℕ, suc, ◌+◌, ◌≡◌, List, [], ◌∷◌, length, Some, None, codes}
use Rattle.irp_condition.specs.Faults.{found, missing, fault_at}
use Rattle.irp_condition.specs.Formulas.{Formula, joins, no}
use Rattle.irp_condition.specs.Naming.{word_of}
use Rattle.irp_condition.specs.Reading.{behind_word, behind_open, behind_close, compared_at}
use Rattle.irp_condition.specs.Tokens.{tokens_below}
use Rattle.irp_condition.specs.declared.fault.Expected.TheVariants.{Close, Shallower, Joint as Joint'}
use Rattle.irp_condition.specs.declared.fault.ConditionFault.{ConditionFault}
use Rattle.irp_condition.specs.declared.naming.Joint.{Joint}
use Rattle.irp_condition.specs.declared.naming.Joint.TheVariants.{And, Or}
use Rattle.irp_condition.specs.declared.reading.Reader.{Reader}
use Rattle.irp_condition.specs.declared.scope.Scope.{Scope}
use Rattle.irp_condition.specs.declared.tokens.Token.{Token}

-- a condition that nothing joins to another, or conditions that this joins
pub data Level : Type 0 where
  single : Level
  joined : Joint → Level

-- what `and` joins stands single; what `or` joins may be joined by `and`, which binds closer
abbrev pub inside : Joint → Level
inside And = single
inside Or = joined And

-- The tokens that stand before the rest say this. `compared`: a comparison. `negated`: `not`, and a single condition.
-- `enclosed`: a condition in parentheses; so many more parentheses and nots may stand within each other. `alone`: one
-- condition, which nothing joins to another. `more`: conditions, the joint's word, and one more, so that they are
-- joined from the left
pub data Says (reader : Reader) : Level → ℕ → List Token → Formula → List Token → Type 0 where
  compared : {depth : ℕ} {tokens rest : List Token} {formula : Formula}
      → compared_at reader tokens ≡ found (formula, rest) → Says reader single depth tokens formula rest
  negated : {depth : ℕ} {tokens inner rest : List Token} {formula : Formula}
      → behind_word (codes "not") tokens ≡ Some inner → Says reader single depth inner formula rest
      → Says reader single (suc depth) tokens (no formula) rest
  enclosed : {depth : ℕ} {tokens inner behind rest : List Token} {formula : Formula}
      → behind_open tokens ≡ Some inner → Says reader (joined Or) depth inner formula behind
      → behind_close behind ≡ Some rest → Says reader single (suc depth) tokens formula rest
  alone : {joint : Joint} {depth : ℕ} {tokens rest : List Token} {formula : Formula}
      → Says reader (inside joint) depth tokens formula rest → Says reader (joined joint) depth tokens formula rest
  more : {joint : Joint} {depth : ℕ} {tokens behind next rest : List Token} {left right : Formula}
      → Says reader (joined joint) depth tokens left behind → behind_word (word_of joint) behind ≡ Some next
      → Says reader (inside joint) depth next right rest
      → Says reader (joined joint) depth tokens (joins joint left right) rest

-- conditions of this level don't go on here
abbrev pub Stops : Level → List Token → Type 0
Stops single rest = Unit {0}
Stops (joined And) rest = behind_word (codes "and") rest ≡ None
Stops (joined Or) rest = (behind_word (codes "and") rest ≡ None) × (behind_word (codes "or") rest ≡ None)

-- The tokens begin no condition of this level: something else is expected where this fault names. `not_compared`: the
-- first part of a comparison that is missing. `deep_not`, `deep_open`: a `not` or a parenthesis, where no more may stand
-- within each other. `in_not`, `in_parentheses`: what stands within. `unclosed`: the closing parenthesis, behind all the
-- conditions within. `in_first`: the first condition of several. `in_next`: the one behind a joint's word
pub data Breaks (reader : Reader) : Level → ℕ → List Token → ConditionFault → Type 0 where
  not_compared : {depth : ℕ} {tokens : List Token} {fault : ConditionFault}
      → behind_word (codes "not") tokens ≡ None → behind_open tokens ≡ None → compared_at reader tokens ≡ missing fault
      → Breaks reader single depth tokens fault
  deep_not : {tokens inner : List Token}
      → behind_word (codes "not") tokens ≡ Some inner → Breaks reader single 0 tokens (fault_at reader Shallower tokens)
  deep_open : {tokens inner : List Token}
      → behind_open tokens ≡ Some inner → Breaks reader single 0 tokens (fault_at reader Shallower tokens)
  in_not : {depth : ℕ} {tokens inner : List Token} {fault : ConditionFault}
      → behind_word (codes "not") tokens ≡ Some inner → Breaks reader single depth inner fault
      → Breaks reader single (suc depth) tokens fault
  in_parentheses : {depth : ℕ} {tokens inner : List Token} {fault : ConditionFault}
      → behind_open tokens ≡ Some inner → Breaks reader (joined Or) depth inner fault
      → Breaks reader single (suc depth) tokens fault
  unclosed : {depth : ℕ} {tokens inner behind : List Token} {formula : Formula}
      → behind_open tokens ≡ Some inner → Says reader (joined Or) depth inner formula behind
      → Stops (joined Or) behind → behind_close behind ≡ None
      → Breaks reader single (suc depth) tokens (fault_at reader Close behind)
  in_first : {joint : Joint} {depth : ℕ} {tokens : List Token} {fault : ConditionFault}
      → Breaks reader (inside joint) depth tokens fault → Breaks reader (joined joint) depth tokens fault
  in_next : {joint : Joint} {depth : ℕ} {tokens behind next : List Token} {left : Formula} {fault : ConditionFault}
      → Says reader (joined joint) depth tokens left behind → behind_word (word_of joint) behind ≡ Some next
      → Breaks reader (inside joint) depth next fault → Breaks reader (joined joint) depth tokens fault

-- who reads this text in this scope: its end is the column behind the text
abbrev pub reader_of : Scope → List ℕ → Reader
reader_of scope text = record { scope = scope; end = length text + 1 }

-- the whole text says this: at most 32 parentheses and nots stand within each other
abbrev pub TextSays : Scope → List ℕ → Formula → Type 0
TextSays scope text formula =
    Says (reader_of scope text) (joined Or) 32 (tokens_below text (length text)) formula []

-- The text stops being a condition at this fault: in its conditions, or behind them, where `and`, `or` or the end is
-- expected
pub data TextBreaks (scope : Scope) (text : List ℕ) : ConditionFault → Type 0 where
  within : {fault : ConditionFault}
      → Breaks (reader_of scope text) (joined Or) 32 (tokens_below text (length text)) fault
      → TextBreaks scope text fault
  behind : {token : Token} {rest : List Token} {formula : Formula}
      → Says (reader_of scope text) (joined Or) 32 (tokens_below text (length text)) formula (token ∷ rest)
      → Stops (joined Or) (token ∷ rest)
      → TextBreaks scope text (fault_at (reader_of scope text) Joint' (token ∷ rest))
