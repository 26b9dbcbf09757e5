-- Which conditions a text can say, whatever its blanks and parentheses.
use Rattle.std.proofs.Common.{ℕ, zero, suc, ◌≡◌, ◌⊎◌, inl, inr, refl, sym, ◌∙◌, ap, subst, ◌+◌, ◌-◌, ◌^◌, ◌<◌, ◌≤◌, ◌==◌, ◌&&◌, nat_lt, List, [], ◌∷◌, ◌++◌, length, get_or, Bool, true, false, not, Option, Some, None, arith, bytes_eq}
use Rattle.std.proofs.lemmas.Slice.Eq.{bytes_eq-Decides}
use Rattle.std.proofs.Common.{rules}
use Rattle.std.proofs.lemmas.List.{places}
use Rattle.std.specs.Prelude.{codes, if◌then◌else◌, slice_range}
use Rattle.std.specs.Option.{unwrap_or}
use Rattle.irp_condition.specs.declared.condition.Comparison.{Comparison}
use Rattle.irp_condition.specs.declared.condition.Fact.{Fact}
use Rattle.irp_condition.specs.declared.condition.Fact.TheVariants as fact
use Rattle.irp_condition.specs.declared.condition.Term.TheVariants as term
use Rattle.irp_condition.specs.declared.fault.Expected.{Expected}
use Rattle.irp_condition.specs.declared.fault.ConditionFault.{ConditionFault}
use Rattle.irp_condition.specs.declared.naming.Joint.{Joint}
use Rattle.irp_condition.specs.declared.naming.Joint.TheVariants.{And, Or}
use Rattle.irp_condition.specs.declared.naming.Name.{Name}
use Rattle.irp_condition.specs.declared.naming.Name.TheVariants as of_name
use Rattle.irp_condition.specs.declared.naming.Sort.{Sort}
use Rattle.irp_condition.specs.declared.naming.Sort.TheVariants as of_sort
use Rattle.irp_condition.specs.declared.reading.Reader.{Reader}
use Rattle.irp_condition.specs.declared.scope.Scope.{Scope}
use Rattle.irp_condition.specs.declared.tokens.Kind.{Kind}
use Rattle.irp_condition.specs.declared.tokens.Kind.TheVariants as of_kind
use Rattle.irp_condition.specs.declared.tokens.Token.{Token}
use Rattle.irp_condition.specs.declared.value.Value.{Value}
use Rattle.irp_condition.specs.declared.value.Value.TheVariants as of_value
use Rattle.irp_types.specs.declared.location.Owner.TheVariants as owner
use Rattle.irp_condition.specs.Faults.{Found, found, missing, fault_at, expect, or_found, ◌>>◌}
use Rattle.irp_condition.specs.Formulas.{Formula, joins, no, true_of, compares}
use Rattle.irp_condition.specs.Grammar.{Level, single, joined, inside, Says, compared, negated, enclosed, alone, more}
use Rattle.irp_condition.specs.Naming.{name_of, sort_of, needs_replies, comparison_of}
use Rattle.irp_condition.specs.Reading.{is_word, word_at, behind_word, behind_open, behind_close, past_word, number_at, number_below, device_at, place_of, label_at, subject_at, fact_of, name_at, fact_at, behind_noun, value_behind, value_at, sign_at, is_truth, compared_by, compared_at}
use Rattle.irp_condition.specs.Tokens.{kind_of, goes_on, ends_behind, begin_of, token_of, with_token, is_blank_kind, tokens_below}
use Rattle.irp_condition.specs.Words.{◌>>=◌, below, number_of, device_named, value_named}
use Rattle.irp_condition.specs.Writing.{all_of_word, is_word_text, is_noun, ReadsAs, name_of_fact, stands}
use Rattle.irp_condition.proofs.Chains.{some_one, found_one}
use Rattle.irp_condition.proofs.Spelling.{was_met, bind_link, below_is, number_bound, device_bound}

-- ---- tokens

-- each word of these tokens has bytes of words alone
abbrev pub Proper : List Token → Type 0
Proper [] = Unit {0}
Proper (token ∷ tokens) = (is_word token.kind ≡ true → is_word_text token.text ≡ true) × Proper tokens

-- ---- facts

-- a label's place, a number of a step, a device or a lock that a text can name
abbrev pub CanName : Scope → Name → ℕ → Type 0
CanName scope of_name.Reply place = (place < scope.steps) × (place < 2 ^ 64)
CanName scope of_name.Made place = (place < scope.steps) × (place < 2 ^ 64)
CanName scope of_name.Deleted place = place < 64
CanName scope of_name.Held place = (place < scope.locks) × (place < 2 ^ 64)
CanName scope of_name.Removing place = (place < scope.locks) × (place < 2 ^ 64)
CanName scope name place = (word : List ℕ) × (is_word_text word ≡ true) × (place_of scope.labels.now word ≡ Some place)

-- a fact that a text can name
pub record CanTell (scope : Scope) (fact : Fact) (name : Name) (place : ℕ) : Type 0 where
  pub is : fact ≡ fact_of name place
  pub told : (needs_replies name && not scope.knows_replies) ≡ false
  pub named : CanName scope name place

-- a value that a text can write where one of this sort stands
pub data CanWrite (scope : Scope) (sort : Sort) : Value → Type 0 where
  by_word : {value : Value} (word : List ℕ) → ReadsAs scope sort word value → CanWrite scope sort value
  by_noun : (device : ℕ) → device < 64 → (sort ≡ of_sort.Reply) ⊎ (sort ≡ of_sort.Owner)
      → CanWrite scope sort (of_value.Owner (owner.Device (record { 0 = device })))

-- a text can say this, where one of this level stands, with so many parentheses and nots within each other
pub data Fits (scope : Scope) : Level → ℕ → Formula → Type 0 where
  bare : {level : Level} {joint : Joint} {depth : ℕ} {left right : Formula} → stands level joint ≡ true
      → Fits scope (joined joint) depth left → Fits scope (inside joint) depth right → Fits scope level depth (joins joint left right)
  deeper : {level : Level} {joint : Joint} {depth : ℕ} {left right : Formula} → stands level joint ≡ false
      → Fits scope (joined joint) depth left → Fits scope (inside joint) depth right → Fits scope level (suc depth) (joins joint left right)
  negation : {level : Level} {depth : ℕ} {part : Formula} → Fits scope single depth part → Fits scope level (suc depth) (no part)
  truth : {level : Level} {depth : ℕ} {fact : Fact} (name : Name) (place : ℕ) → CanTell scope fact name place → is_truth (sort_of name) ≡ true
      → Fits scope level depth (true_of (term.Fact fact))
  comparison : {level : Level} {depth : ℕ} {fact : Fact} {sign : Comparison} {value : Value} (name : Name) (place : ℕ) → CanTell scope fact name place
      → CanWrite scope (sort_of name) value → Fits scope level depth (compares (term.Fact fact) sign (term.Constant value))

weaker : {scope : Scope} {level : Level} {depth : ℕ} {formula : Formula} → Fits scope level depth formula → Fits scope level (suc depth) formula
weaker (bare is left right) = bare is (weaker left) (weaker right)
weaker (deeper is left right) = deeper is (weaker left) (weaker right)
weaker (negation part) = negation (weaker part)
weaker (truth name place tells is) = truth name place tells is
weaker (comparison name place tells writes) = comparison name place tells writes

-- what stands in parentheses
in_parentheses : {scope : Scope} {depth : ℕ} {formula : Formula} → Fits scope (joined Or) depth formula → Fits scope single (suc depth) formula
in_parentheses (bare is left right) = deeper refl left right
in_parentheses (deeper is left right) = cc
in_parentheses (negation part) = negation (weaker part)
in_parentheses (truth name place tells is) = truth name place tells is
in_parentheses (comparison name place tells writes) = comparison name place tells writes

-- what may stand beside a joint may stand where that joins
outside : {scope : Scope} {joint : Joint} {depth : ℕ} {formula : Formula} → Fits scope (inside joint) depth formula → Fits scope (joined joint) depth formula
outside {joint = And} (bare is left right) = cc
outside {joint = And} (deeper {joint = And} is left right) = bare refl (weaker left) (weaker right)
outside {joint = And} (deeper {joint = Or} is left right) = deeper refl left right
outside {joint = Or} (bare is left right) = bare refl left right
outside {joint = Or} (deeper is left right) = bare refl (weaker left) (weaker right)
outside (negation part) = negation part
outside (truth name place tells is) = truth name place tells is
outside (comparison name place tells writes) = comparison name place tells writes

-- ---- what was read from tokens

then_link : {A B : Type 0} (first : Found A) (next : A → Found B) (answer : B) → (first >> next) ≡ found answer
    → (here : A) × (first ≡ found here) × (next here ≡ found answer)
then_link (found here) next answer is = (here, refl, is)
then_link (missing fault) next answer is = cc

expect_link : {A : Type 0} (reader : Reader) (expected : Expected) (tokens : List Token) (read : Option A) (answer : A)
    → expect reader expected tokens read ≡ found answer → read ≡ Some answer
expect_link reader expected tokens (Some here) answer is = ap Some (found_one is)
expect_link reader expected tokens None answer is = cc

pub kept : {A : Type 0} (test : Bool) (read answer : A) → (if test then Some read else None) ≡ Some answer → (test ≡ true) × (read ≡ answer)
kept true read answer is = (refl, some_one is)
kept false read answer is = cc

proper_word : (tokens : List Token) (read : List ℕ × List Token) → Proper tokens → word_at tokens ≡ Some read
    → (is_word_text read.0 ≡ true) × Proper read.1
proper_word [] read proper is = cc
proper_word (token ∷ tokens) read proper is =
    let was = kept (is_word token.kind) (token.text, tokens) read is in
    subst (λ (read : List ℕ × List Token). (is_word_text read.0 ≡ true) × Proper read.1) was.1 (proper.0 was.0, proper.1)

proper_behind : (word : List ℕ) (tokens rest : List Token) → Proper tokens → behind_word word tokens ≡ Some rest → Proper rest
proper_behind word tokens rest proper is =
    let read = bind_link (word_at tokens) (λ found. if bytes_eq found.0 word then Some found.1 else None) rest is in
    let was = kept (bytes_eq read.0.0 word) read.0.1 rest read.2 in
    subst Proper was.1 (proper_word tokens read.0 proper read.1).1

pub proper_open : (tokens rest : List Token) → Proper tokens → behind_open tokens ≡ Some rest → Proper rest
proper_open [] rest proper is = cc
proper_open (token ∷ tokens) rest proper is = subst Proper (kept _ tokens rest is).1 proper.1

pub proper_close : (tokens rest : List Token) → Proper tokens → behind_close tokens ≡ Some rest → Proper rest
proper_close [] rest proper is = cc
proper_close (token ∷ tokens) rest proper is = subst Proper (kept _ tokens rest is).1 proper.1

proper_past : (word : List ℕ) (tokens : List Token) → Proper tokens → Proper (past_word word tokens)
proper_past word tokens proper = by (behind_word word tokens) (λ rest is. proper_behind word tokens rest proper is) where
  by : (read : Option (List Token)) → ((rest : List Token) → read ≡ Some rest → Proper rest) → Proper (unwrap_or read tokens)
  by (Some rest) is = is rest refl
  by None is = proper

read_number : (reader : Reader) (bound : ℕ) (expected : Expected) (tokens : List Token) (read : ℕ × List Token) → Proper tokens
    → number_at reader bound expected tokens ≡ found read → (read.0 < bound) × (read.0 < 2 ^ 64) × Proper read.1
read_number reader bound expected tokens read proper is =
    let one = bind_link (word_at tokens) _ read (expect_link reader expected tokens _ read is) in
    let two = bind_link (number_of one.0.0 >>= below bound) (λ number. Some (number, one.0.1)) read one.2 in
    let three = bind_link (number_of one.0.0) (below bound) two.0 two.1 in
    let low = below_is bound three.0 two.0 three.2 in
    subst (λ (read : ℕ × List Token). (read.0 < bound) × (read.0 < 2 ^ 64) × Proper read.1) (some_one two.2)
    (subst (λ n. n < bound) low.0 low.1, subst (λ n. n < 2 ^ 64) low.0 (number_bound one.0.0 three.0 three.1), (proper_word tokens one.0 proper one.1).1)

read_below : (reader : Reader) (noun : List ℕ) (bound : ℕ) (expected : Expected) (tokens : List Token) (read : ℕ × List Token) → Proper tokens
    → number_below reader noun bound expected tokens ≡ found read → (read.0 < bound) × (read.0 < 2 ^ 64) × Proper read.1
read_below reader noun bound expected tokens read proper is =
    read_number reader bound expected (past_word noun tokens) read (proper_past noun tokens proper) is

or_found_link : {A : Type 0} (first : Option A) (second : Found A) (answer : A) (P : Type 0) → (first ≡ Some answer → P) → (second ≡ found answer → P)
    → or_found first second ≡ found answer → P
or_found_link (Some here) second answer P this other is = this (ap Some (found_one is))
or_found_link None second answer P this other is = other is

read_device : (reader : Reader) (tokens : List Token) (read : ℕ × List Token) → Proper tokens
    → device_at reader tokens ≡ found read → (read.0 < 64) × Proper read.1
read_device reader tokens read proper =
    or_found_link _ _ read ((read.0 < 64) × Proper read.1)
    (λ is.
    let one = bind_link (word_at tokens) _ read is in
    let two = bind_link (device_named one.0.0) (λ device. Some (device, one.0.1)) read one.2 in
    subst (λ (read : ℕ × List Token). (read.0 < 64) × Proper read.1) (some_one two.2)
    (device_bound one.0.0 two.0 two.1, (proper_word tokens one.0 proper one.1).1))
    (λ is. let low = read_below reader (codes "device") 64 _ tokens read proper is in (low.0, low.2))

read_label : (reader : Reader) (tokens : List Token) (read : ℕ × List Token) → Proper tokens → label_at reader tokens ≡ found read
    → ((word : List ℕ) × (is_word_text word ≡ true) × (place_of reader.scope.labels.now word ≡ Some read.0)) × Proper read.1
read_label reader tokens read proper is =
    let one = bind_link (word_at tokens) _ read (expect_link reader _ tokens _ read is) in
    let two = bind_link (place_of reader.scope.labels.now one.0.0) (λ place. Some (place, one.0.1)) read one.2 in
    let word = proper_word tokens one.0 proper one.1 in
    subst (λ (read : ℕ × List Token). ((word : List ℕ) × (is_word_text word ≡ true) × (place_of reader.scope.labels.now word ≡ Some read.0)) × Proper read.1)
    (some_one two.2) ((one.0.0, word.0, two.1), word.1)

read_subject : (reader : Reader) (name : Name) (tokens : List Token) (read : ℕ × List Token) → Proper tokens
    → subject_at reader name tokens ≡ found read → CanName reader.scope name read.0 × Proper read.1
read_subject reader of_name.Reply tokens read proper is = let low = read_below reader (codes "step") reader.scope.steps _ tokens read proper is in ((low.0, low.1), low.2)
read_subject reader of_name.Made tokens read proper is = let low = read_below reader (codes "step") reader.scope.steps _ tokens read proper is in ((low.0, low.1), low.2)
read_subject reader of_name.Owner tokens read proper is = read_label reader tokens read proper is
read_subject reader of_name.Status tokens read proper is = read_label reader tokens read proper is
read_subject reader of_name.Information tokens read proper is = read_label reader tokens read proper is
read_subject reader of_name.Current tokens read proper is = read_label reader tokens read proper is
read_subject reader of_name.Live tokens read proper is = read_label reader tokens read proper is
read_subject reader of_name.Cancel tokens read proper is = read_label reader tokens read proper is
read_subject reader of_name.Deleted tokens read proper is = read_device reader tokens read proper is
read_subject reader of_name.Held tokens read proper is = let low = read_below reader (codes "lock") reader.scope.locks _ tokens read proper is in ((low.0, low.1), low.2)
read_subject reader of_name.Removing tokens read proper is = let low = read_below reader (codes "lock") reader.scope.locks _ tokens read proper is in ((low.0, low.1), low.2)

chosen : {A : Type 0} (test : Bool) (fault : ConditionFault) (read answer : A) → (if test then missing fault else found read) ≡ found answer → (test ≡ false) × (read ≡ answer)
chosen true fault read answer is = cc
chosen false fault read answer is = (refl, found_one is)

read_name : (reader : Reader) (tokens : List Token) (read : Name × List Token) → Proper tokens → name_at reader tokens ≡ found read
    → ((needs_replies read.0 && not reader.scope.knows_replies) ≡ false) × Proper read.1
read_name reader tokens read proper is =
    let one = then_link _ _ read is in
    let two = chosen (needs_replies one.0.0 && not reader.scope.knows_replies) _ one.0 read one.2 in
    let three = bind_link (word_at tokens) _ one.0 (expect_link reader _ tokens _ one.0 one.1) in
    let four = bind_link (name_of three.0.0) (λ name. Some (name, three.0.1)) one.0 three.2 in
    let same : one.0.1 ≡ three.0.1 = ap (λ (read : Name × List Token). read.1) (sym (some_one four.2)) in
    subst (λ (read : Name × List Token). ((needs_replies read.0 && not reader.scope.knows_replies) ≡ false) × Proper read.1) two.1
    (two.0, subst Proper (sym same) (proper_word tokens three.0 proper three.1).1)

read_fact : (reader : Reader) (tokens : List Token) (read : (Name × Fact) × List Token) → Proper tokens → fact_at reader tokens ≡ found read
    → (place : ℕ) × CanTell reader.scope read.0.1 read.0.0 place × Proper read.1
read_fact reader tokens read proper is =
    let one = then_link (name_at reader tokens) _ read is in
    let two = then_link (expect reader _ one.0.1 (behind_open one.0.1)) _ read one.2 in
    let three = then_link (subject_at reader one.0.0 two.0) _ read two.2 in
    let four = then_link (expect reader _ three.0.1 (behind_close three.0.1)) _ read three.2 in
    let name = read_name reader tokens one.0 proper one.1 in
    let inner = proper_open one.0.1 two.0 name.1 (expect_link reader _ one.0.1 (behind_open one.0.1) two.0 two.1) in
    let subject = read_subject reader one.0.0 two.0 three.0 inner three.1 in
    let rest = proper_close three.0.1 four.0 subject.1 (expect_link reader _ three.0.1 (behind_close three.0.1) four.0 four.1) in
    subst (λ (read : (Name × Fact) × List Token). (place : ℕ) × CanTell reader.scope read.0.1 read.0.0 place × Proper read.1) (found_one four.2)
    (three.0.0, record { is = refl; told = name.0; named = subject.0 }, rest)

no_word : (word : List ℕ) (tokens : List Token) (read : List ℕ × List Token) → word_at tokens ≡ Some read → behind_word word tokens ≡ None
    → bytes_eq read.0 word ≡ false
no_word word tokens read is none =
    by (bytes_eq read.0 word) (subst (λ (found : Option (List ℕ × List Token)). (found >>= λ found. if bytes_eq found.0 word then Some found.1 else None) ≡ None) is none)
  where
    by : (test : Bool) → (if test then Some read.1 else None) ≡ None → test ≡ false
    by true is = cc
    by false is = refl

-- the noun of a device stands where a value of these sorts may
not_noun : (scope : Scope) (sort : Sort) (tokens : List Token) (read : List ℕ × List Token) → word_at tokens ≡ Some read → behind_noun sort tokens ≡ None
    → is_noun sort read.0 ≡ false
not_noun scope of_sort.Reply tokens read is none = no_word (codes "device") tokens read is none
not_noun scope of_sort.Owner tokens read is none = no_word (codes "device") tokens read is none
not_noun scope of_sort.Number tokens read is none = refl
not_noun scope of_sort.Truth tokens read is none = refl

read_value : (reader : Reader) (sort : Sort) (tokens : List Token) (read : Value × List Token) → Proper tokens → value_at reader sort tokens ≡ found read
    → CanWrite reader.scope sort read.0 × Proper read.1
read_value reader sort tokens read proper is = by (behind_noun sort tokens) (noun sort) (λ none found is. not_noun reader.scope sort tokens found is none) is where
  noun : (sort : Sort) → (rest : List Token) → behind_noun sort tokens ≡ Some rest → ((sort ≡ of_sort.Reply) ⊎ (sort ≡ of_sort.Owner)) × Proper rest
  noun of_sort.Reply rest is = (inl refl, proper_behind (codes "device") tokens rest proper is)
  noun of_sort.Owner rest is = (inr refl, proper_behind (codes "device") tokens rest proper is)
  noun of_sort.Number rest is = cc
  noun of_sort.Truth rest is = cc

  by : (stands : Option (List Token)) → ((rest : List Token) → stands ≡ Some rest → ((sort ≡ of_sort.Reply) ⊎ (sort ≡ of_sort.Owner)) × Proper rest)
      → (stands ≡ None → (word : List ℕ × List Token) → word_at tokens ≡ Some word → is_noun sort word.0 ≡ false)
      → value_behind reader sort tokens stands ≡ found read → CanWrite reader.scope sort read.0 × Proper read.1
  by (Some rest) which no_noun is =
      let one = then_link (number_at reader 64 _ rest) _ read is in
      let at = which rest refl in
      let number = read_number reader 64 _ rest one.0 at.1 one.1 in
      subst (λ (read : Value × List Token). CanWrite reader.scope sort read.0 × Proper read.1) (found_one one.2)
      (by_noun one.0.0 number.0 at.0, number.2)
  by None which no_noun is =
      let one = bind_link (word_at tokens) _ read (expect_link reader _ tokens _ read is) in
      let two = bind_link (value_named reader.scope sort one.0.0) (λ value. Some (value, one.0.1)) read one.2 in
      let word = proper_word tokens one.0 proper one.1 in
      subst (λ (read : Value × List Token). CanWrite reader.scope sort read.0 × Proper read.1) (some_one two.2)
      (by_word one.0.0 (record { whole = word.0; bare = no_noun refl one.0 one.1; named = two.1 }), word.1)

read_sign : (tokens : List Token) (read : Comparison × List Token) → Proper tokens → sign_at tokens ≡ Some read → Proper read.1
read_sign [] read proper is = cc
read_sign (token ∷ tokens) read proper is =
    let one = bind_link (comparison_of token.text) (λ comparison. Some (comparison, tokens)) read (kept_read _ _ read is) in
    subst (λ (read : Comparison × List Token). Proper read.1) (some_one one.2) proper.1
  where
    kept_read : {A : Type 0} (test : Bool) (read : Option A) (answer : A) → (if test then read else None) ≡ Some answer → read ≡ Some answer
    kept_read true read answer is = is
    kept_read false read answer is = cc

whether : (test : Bool) (here answer : Formula × List Token) (fault : ConditionFault) → (if test then found here else missing fault) ≡ found answer → (test ≡ true) × (here ≡ answer)
whether true here answer fault is = (refl, found_one is)
whether false here answer fault is = cc

-- what a comparison says
read_compared : (reader : Reader) (level : Level) (depth : ℕ) (tokens : List Token) (read : Formula × List Token) → Proper tokens → compared_at reader tokens ≡ found read
    → Fits reader.scope level depth read.0 × Proper read.1
read_compared reader level depth tokens read proper is =
    let one = then_link (fact_at reader tokens) _ read is in
    let told = read_fact reader tokens one.0 proper one.1 in
    by one.0.0.0 one.0.0.1 one.0.1 told.0 told.1 (sign_at one.0.1) (λ found is. read_sign one.0.1 found told.2 is) told.2 one.2
  where
    by : (name : Name) (fact : Fact) (rest : List Token) (place : ℕ) → CanTell reader.scope fact name place → (sign : Option (Comparison × List Token))
        → ((found : Comparison × List Token) → sign ≡ Some found → Proper found.1) → Proper rest
        → compared_by reader name fact rest sign ≡ found read → Fits reader.scope level depth read.0 × Proper read.1
    by name fact rest place tells (Some sign) proper_sign proper_rest is =
        let one = then_link (value_at reader (sort_of name) sign.1) _ read is in
        let value = read_value reader (sort_of name) sign.1 one.0 (proper_sign sign refl) one.1 in
        subst (λ (read : Formula × List Token). Fits reader.scope level depth read.0 × Proper read.1) (found_one one.2)
        (comparison name place tells value.0, value.1)
    by name fact rest place tells None proper_sign proper_rest is =
        let one = whether (is_truth (sort_of name)) (true_of (term.Fact fact), rest) read _ is in
        subst (λ (read : Formula × List Token). Fits reader.scope level depth read.0 × Proper read.1) one.1 (truth name place tells one.0, proper_rest)

-- what tokens say fits, and no word behind it is other than a word
pub said_fits : (reader : Reader) {level : Level} {depth : ℕ} {tokens rest : List Token} {formula : Formula} → Proper tokens
    → Says reader level depth tokens formula rest → Fits reader.scope level depth formula × Proper rest
said_fits reader {level} {depth} {tokens} {rest} {formula} proper (compared is) = read_compared reader level depth tokens (formula, rest) proper is
said_fits reader {tokens = tokens} proper (negated {inner = inner} is says) =
    let part = said_fits reader (proper_behind (codes "not") tokens inner proper is) says in (negation part.0, part.1)
said_fits reader {tokens = tokens} {rest} proper (enclosed {inner = inner} {behind = behind} is says closes) =
    let part = said_fits reader (proper_open tokens inner proper is) says in
    (in_parentheses part.0, proper_close behind rest part.1 closes)
said_fits reader proper (alone says) = let part = said_fits reader proper says in (outside part.0, part.1)
said_fits reader proper (more {joint = joint} {behind = behind} {next = next} says word item) =
    let left = said_fits reader proper says in
    let right = said_fits reader (proper_behind _ behind next left.1 word) item in
    (bare (joins_itself joint) left.0 right.0, right.1)
  where
    joins_itself : (joint : Joint) → stands (joined joint) joint ≡ true
    joins_itself And = refl
    joins_itself Or = refl

-- ---- the tokens of a text

begins_before : (text : List ℕ) (place : ℕ) → begin_of text place ≤ place
begins_before text zero = omega arith
begins_before text (suc place) = by (ends_behind text place) (begins_before text place) where
  by : (test : Bool) → begin_of text place ≤ place → (if test then place + 1 else begin_of text place) ≤ suc place
  by true less = omega arith
  by false less = omega (arith, less)

-- within a token none ends
goes_within : (text : List ℕ) (place at : ℕ) → begin_of text place ≤ at → at < place → ends_behind text at ≡ false
goes_within text zero at low high = absurd (omega (arith, high))
goes_within text (suc place) at low high = by (ends_behind text place) refl low (goes_within text place at) where
  by : (test : Bool) → ends_behind text place ≡ test → (if test then place + 1 else begin_of text place) ≤ at
      → (begin_of text place ≤ at → at < place → ends_behind text at ≡ false) → ends_behind text at ≡ false
  by true is low before = absurd (omega (arith, low, high))
  by false is low before = either (nat_lt at place) refl where
    either : (less : Bool) → nat_lt at place ≡ less → ends_behind text at ≡ false
    either true is_less = before low (grind (arith, is_less))
    either false is_less =
        let same : place ≡ at = grind (arith, is_less, high) in
        subst (λ n. ends_behind text n ≡ false) same is

next_goes : (text : List ℕ) (at : ℕ) → ends_behind text at ≡ false → goes_on (kind_of (get_or text at 0)) (kind_of (get_or text (at + 1) 0)) ≡ true
next_goes text at is = by (at + 1 == length text) (goes_on (kind_of (get_or text at 0)) (kind_of (get_or text (at + 1) 0))) is where
  by : (last goes : Bool) → (if last then true else not goes) ≡ false → goes ≡ true
  by true goes is = cc
  by false true is = refl
  by false false is = cc

word_kind : (kind : Kind) → goes_on of_kind.Word kind ≡ true → kind ≡ of_kind.Word
word_kind of_kind.Word is = refl
word_kind kind is = cc

all_words : (text : List ℕ) (place at : ℕ) → kind_of (get_or text (begin_of text place) 0) ≡ of_kind.Word → begin_of text place + at ≤ place
    → kind_of (get_or text (begin_of text place + at) 0) ≡ of_kind.Word
all_words text place zero is less =
    let same : begin_of text place + 0 ≡ begin_of text place = omega arith in rw same is
all_words text place (suc at) is less =
    let before = all_words text place at is (omega (arith, less)) in
    let goes = next_goes text (begin_of text place + at) (goes_within text place (begin_of text place + at) (omega arith) (omega (arith, less))) in
    let next : begin_of text place + at + 1 ≡ begin_of text place + suc at = omega arith in
    word_kind (kind_of (get_or text (begin_of text place + suc at) 0))
    (subst (λ n. goes_on of_kind.Word (kind_of (get_or text n 0)) ≡ true) next
    (subst (λ (kind : Kind). goes_on kind (kind_of (get_or text (begin_of text place + at + 1) 0)) ≡ true) before goes))

all_by_place : (bytes : List ℕ) → ((at : ℕ) → at < length bytes → kind_of (get_or bytes at 0) ≡ of_kind.Word) → all_of_word bytes ≡ true
all_by_place [] are = refl
all_by_place (byte ∷ bytes) are =
    let here : kind_of byte ≡ of_kind.Word = are 0 (omega arith) in
    rw (here, all_by_place bytes (λ at less. are (suc at) (omega (arith, less)))) refl

some_words : (bytes : List ℕ) → 0 < length bytes → all_of_word bytes ≡ true → is_word_text bytes ≡ true
some_words [] some all = absurd (omega (arith, some))
some_words (byte ∷ bytes) some all = all

is_word_kind : (kind : Kind) → is_word kind ≡ true → kind ≡ of_kind.Word
is_word_kind of_kind.Word is = refl
is_word_kind kind is = cc

-- a token of a text is a word throughout, where it begins as one
proper_token : (text : List ℕ) (place : ℕ) → place < length text → is_word (token_of text (begin_of text place) (place + 1)).kind ≡ true
    → is_word_text (token_of text (begin_of text place) (place + 1)).text ≡ true
proper_token text place less is =
    let first = is_word_kind (kind_of (get_or text (begin_of text place) 0)) is in
    let low = begins_before text place in
    let long : length (slice_range text (begin_of text place) (place + 1)) ≡ place + 1 - begin_of text place = slice_length text (begin_of text place) (place + 1) (omega (arith, less)) in
    some_words (slice_range text (begin_of text place) (place + 1)) (omega (arith, long, low))
    (all_by_place (slice_range text (begin_of text place) (place + 1))
    (λ at within. ap kind_of (slice_at text (begin_of text place) (place + 1) at (omega (arith, within, long)))
    ∙ all_words text place at first (omega (arith, within, long, low))))
  where
    slice_length : (text : List ℕ) (begin end : ℕ) → end ≤ length text → length (slice_range text begin end) ≡ end - begin
    slice_length text begin end less = search (rules, places)

    slice_at : (text : List ℕ) (begin end at : ℕ) → at < end - begin → get_or (slice_range text begin end) at 0 ≡ get_or text (begin + at) 0
    slice_at text begin end at less = grind (arith, places)

proper_put : (tokens : List Token) (token : Token) → Proper tokens → (is_word token.kind ≡ true → is_word_text token.text ≡ true) → Proper (tokens ++ token ∷ [])
proper_put [] token proper word = (word, tt)
proper_put (first ∷ tokens) token proper word = (proper.0, proper_put tokens token proper.1 word)

proper_below : (text : List ℕ) (place : ℕ) → place ≤ length text → Proper (tokens_below text place)
proper_below text zero less = tt
proper_below text (suc place) less =
    by (ends_behind text place) (is_blank_kind (token_of text (begin_of text place) (place + 1)).kind) (proper_below text place (omega (arith, less)))
  where
    by : (test blank : Bool) → Proper (tokens_below text place)
        → Proper (if test then (if blank then tokens_below text place else tokens_below text place ++ token_of text (begin_of text place) (place + 1) ∷ []) else tokens_below text place)
    by true true before = before
    by true false before = proper_put (tokens_below text place) (token_of text (begin_of text place) (place + 1)) before (proper_token text place (omega (arith, less)))
    by false blank before = before

-- each word of a text's tokens has bytes of words alone
pub proper_text : (text : List ℕ) → Proper (tokens_below text (length text))
proper_text text = proper_below text (length text) (omega arith)
