-- A text says one condition, or breaks in one place.
use Rattle.std.proofs.Common.{ℕ, suc, ◌≡◌, ◌⊎◌, inl, inr, refl, sym, ◌∙◌, ap, subst, List, [], ◌∷◌, length, Some, None, arith}
use Rattle.std.specs.Prelude.{Result, Ok, Err, IfOk, codes}
use Rattle.irp_condition.specs.declared.condition.Condition.{Condition}
use Rattle.irp_condition.specs.declared.fault.Expected.TheVariants.{Close, Shallower, Joint as Joint'}
use Rattle.irp_condition.specs.declared.fault.ConditionFault.{ConditionFault}
use Rattle.irp_condition.specs.declared.fault.Unread.{Unread}
use Rattle.irp_condition.specs.declared.fault.Unread.TheVariants as unread
use Rattle.irp_condition.specs.declared.naming.Joint.{Joint}
use Rattle.irp_condition.specs.declared.naming.Joint.TheVariants.{And, Or}
use Rattle.irp_condition.specs.declared.reading.Reader.{Reader}
use Rattle.irp_condition.specs.declared.scope.Scope.{Scope}
use Rattle.irp_condition.specs.declared.tokens.Token.{Token}
use Rattle.irp_condition.specs.Faults.{Found, found, missing, fault_at, Gives, IfFault}
use Rattle.irp_condition.specs.Formulas.{Formula, formula_of, joins, no}
use Rattle.irp_condition.specs.Grammar.{Level, single, joined, inside, Says, compared, negated, enclosed, alone, more, Stops, Breaks, not_compared, deep_not, deep_open, in_not, in_parentheses, unclosed, in_first, in_next, reader_of, TextSays, TextBreaks, within, behind as more_stands}
use Rattle.irp_condition.specs.Naming.{word_of}
use Rattle.irp_condition.specs.Reading.{behind_word, behind_open, behind_close, compared_at}
use Rattle.irp_condition.specs.Tokens.{tokens_below}
use Rattle.irp_condition.proofs.Chains.{closed, or_not_and, not_compared as word_not_compared, open_not_compared, not_open, some_one, found_one}

-- where a reader stands: before a condition of a level, or behind what a joint joined so far
data Stage : Type 0 where
  at : Level → Stage
  after : Joint → Formula → Stage

-- what tokens say, from the left
data Parse (reader : Reader) : Stage → ℕ → List Token → Formula → List Token → Type 0 where
  one_compared : {depth : ℕ} {tokens rest : List Token} {formula : Formula}
      → compared_at reader tokens ≡ found (formula, rest) → Parse reader (at single) depth tokens formula rest
  one_negated : {depth : ℕ} {tokens inner rest : List Token} {formula : Formula}
      → behind_word (codes "not") tokens ≡ Some inner → Parse reader (at single) depth inner formula rest
      → Parse reader (at single) (suc depth) tokens (no formula) rest
  one_enclosed : {depth : ℕ} {tokens inner behind rest : List Token} {formula : Formula}
      → behind_open tokens ≡ Some inner → Parse reader (at (joined Or)) depth inner formula behind
      → behind_close behind ≡ Some rest → Parse reader (at single) (suc depth) tokens formula rest
  first : {joint : Joint} {depth : ℕ} {tokens behind rest : List Token} {one formula : Formula}
      → Parse reader (at (inside joint)) depth tokens one behind → Parse reader (after joint one) depth behind formula rest
      → Parse reader (at (joined joint)) depth tokens formula rest
  ends : {joint : Joint} {depth : ℕ} {rest : List Token} {so_far : Formula} → Parse reader (after joint so_far) depth rest so_far rest
  goes : {joint : Joint} {depth : ℕ} {tokens next behind rest : List Token} {so_far right formula : Formula}
      → behind_word (word_of joint) tokens ≡ Some next → Parse reader (at (inside joint)) depth next right behind
      → Parse reader (after joint (joins joint so_far right)) depth behind formula rest → Parse reader (after joint so_far) depth tokens formula rest

put : {reader : Reader} {joint : Joint} {depth : ℕ} {so_far left right : Formula} {start behind next rest : List Token}
    → Parse reader (after joint so_far) depth start left behind → behind_word (word_of joint) behind ≡ Some next
    → Parse reader (at (inside joint)) depth next right rest → Parse reader (after joint so_far) depth start (joins joint left right) rest
put ends word item = goes word item ends
put (goes word item chain) next last = goes word item (put chain next last)

put_last : {reader : Reader} {joint : Joint} {depth : ℕ} {left right : Formula} {tokens behind next rest : List Token}
    → Parse reader (at (joined joint)) depth tokens left behind → behind_word (word_of joint) behind ≡ Some next
    → Parse reader (at (inside joint)) depth next right rest → Parse reader (at (joined joint)) depth tokens (joins joint left right) rest
put_last (first one chain) word item = first one (put chain word item)

parsed : {reader : Reader} {level : Level} {depth : ℕ} {tokens rest : List Token} {formula : Formula} → Says reader level depth tokens formula rest
    → Parse reader (at level) depth tokens formula rest
parsed (compared is) = one_compared is
parsed (negated is says) = one_negated is (parsed says)
parsed (enclosed is says closes) = one_enclosed is (parsed says) closes
parsed (alone says) = first (parsed says) ends
parsed (more says word item) = put_last (parsed says) word (parsed item)

-- a stage doesn't go on here
abbrev Ends : Stage → List Token → Type 0
Ends (at level) rest = Stops level rest
Ends (after joint so_far) rest = Stops (joined joint) rest

no_end : (joint : Joint) (rest next : List Token) → Stops (joined joint) rest → behind_word (word_of joint) rest ≡ Some next → ⊥
no_end And rest next stops word = cc
no_end Or rest next stops word = let none = stops.1 in cc

-- one of the conditions stops where the joint's word stands
stops_before : (joint : Joint) (rest next : List Token) → behind_word (word_of joint) rest ≡ Some next → Stops (inside joint) rest
stops_before And rest next word = tt
stops_before Or rest next word = or_not_and rest next word

stops_alike : (joint : Joint) (rest : List Token) → Stops (joined joint) rest → Stops (inside joint) rest
stops_alike And rest stops = tt
stops_alike Or rest stops = stops.0

-- and where what follows it ends
stops_inside : {reader : Reader} {joint : Joint} {depth : ℕ} {so_far formula : Formula} {tokens rest : List Token}
    → Parse reader (after joint so_far) depth tokens formula rest → Stops (joined joint) rest → Stops (inside joint) tokens
stops_inside {joint = joint} {rest = rest} ends stops = stops_alike joint rest stops
stops_inside {joint = joint} {tokens = tokens} (goes {next = next} word item chain) stops = stops_before joint tokens next word

-- the same, where the joint's word follows it
stops_within : {reader : Reader} {joint : Joint} {depth : ℕ} {so_far formula : Formula} {tokens rest next : List Token}
    → Parse reader (after joint so_far) depth tokens formula rest → behind_word (word_of joint) rest ≡ Some next → Stops (inside joint) tokens
stops_within {joint = joint} {rest = rest} {next} ends last = stops_before joint rest next last
stops_within {joint = joint} {tokens = tokens} (goes {next = next} word item chain) last = stops_before joint tokens next word

closed_stops : (rest inner : List Token) → behind_close rest ≡ Some inner → Stops (joined Or) rest
closed_stops rest inner closes = (closed (codes "and") rest inner closes, closed (codes "or") rest inner closes)

pair : {one two : Formula} {rest end : List Token} → one ≡ two → rest ≡ end → ◌≡◌ {A = Formula × List Token} (one, rest) (two, end)
pair same alike = cc

-- what is said as far as it goes is one condition
once : {reader : Reader} {stage : Stage} {depth : ℕ} {tokens rest end : List Token} {one two : Formula} → Parse reader stage depth tokens one rest → Ends stage rest
    → Parse reader stage depth tokens two end → Ends stage end → ◌≡◌ {A = Formula × List Token} (one, rest) (two, end)
once (one_compared is) stops (one_compared also) halts = found_one (sym is ∙ also)
once {reader} {tokens = tokens} (one_compared is) stops (one_negated {inner = inner} word part) halts = absurd (let none = word_not_compared reader tokens inner word in cc)
once {reader} {tokens = tokens} (one_compared is) stops (one_enclosed {inner = inner} opens part closes) halts = absurd (let none = open_not_compared reader tokens inner opens in cc)
once {reader} {tokens = tokens} (one_negated {inner = inner} word part) stops (one_compared is) halts = absurd (let none = word_not_compared reader tokens inner word in cc)
once {reader} {end = end} {two = two} (one_negated {depth = less} word part) stops (one_negated {inner = other} {formula = formula} also rest) halts =
    ap (λ (read : Formula × List Token). (no read.0, read.1))
    (once part tt (subst (λ (inner : List Token). Parse reader (at single) less inner formula end) (some_one (sym also ∙ word)) rest) tt)
once (one_negated word part) stops (one_enclosed opens rest closes) halts = absurd (not_open _ _ _ _ word opens)
once {reader} {tokens = tokens} (one_enclosed {inner = inner} opens part closes) stops (one_compared is) halts = absurd (let none = open_not_compared reader tokens inner opens in cc)
once (one_enclosed opens part closes) stops (one_negated word rest) halts = absurd (not_open _ _ _ _ word opens)
once {reader} {rest = rest} {end = end} (one_enclosed {depth = less} {behind = behind} opens part closes) stops (one_enclosed {inner = other} {behind = beyond} {formula = formula} also last shuts) halts =
    let same = once part (closed_stops behind rest closes)
    (subst (λ (inner : List Token). Parse reader (at (joined Or)) less inner formula beyond) (some_one (sym also ∙ opens)) last) (closed_stops beyond end shuts) in
    pair (ap (λ (read : Formula × List Token). read.0) same)
    (some_one (sym closes ∙ ap (λ (read : Formula × List Token). behind_close read.1) same ∙ shuts))
once {reader} {end = end} {two = two} (first {joint = joint} {depth = depth} item chain) stops (first other more_chain) halts =
    let same = once item (stops_inside chain stops) other (stops_inside more_chain halts) in
    once chain stops (subst (λ (read : Formula × List Token). Parse reader (after joint read.0) depth read.1 two end) (sym same) more_chain) halts
once ends stops ends halts = refl
once {tokens = tokens} ends stops (goes {joint = joint} {next = next} word item chain) halts = absurd (no_end joint tokens next stops word)
once {tokens = tokens} (goes {joint = joint} {next = next} word item chain) stops ends halts = absurd (no_end joint tokens next halts word)
once {reader} {end = end} {two = two} (goes {joint = joint} {depth = depth} {so_far = so_far} word item chain) stops (goes {behind = beyond} {right = right} also other last) halts =
    let same = once item (stops_inside chain stops)
    (subst (λ (next : List Token). Parse reader (at (inside joint)) depth next right beyond) (some_one (sym also ∙ word)) other) (stops_inside last halts) in
    once chain stops (subst (λ (read : Formula × List Token). Parse reader (after joint (joins joint so_far read.0)) depth read.1 two end) (sym same) last) halts

-- the part of a chain that ends before the joint's word is the begin of any chain that goes as far as it can
record Continues (reader : Reader) (joint : Joint) (depth : ℕ) (next : List Token) : Type 0 where
  right : Formula
  behind : List Token
  item : Parse reader (at (inside joint)) depth next right behind
  stops : Stops (inside joint) behind

continues : {reader : Reader} {joint : Joint} {depth : ℕ} {so_far left formula : Formula} {tokens middle next rest : List Token}
    → Parse reader (after joint so_far) depth tokens left middle → behind_word (word_of joint) middle ≡ Some next
    → Parse reader (after joint so_far) depth tokens formula rest → Stops (joined joint) rest → Continues reader joint depth next
continues {joint = joint} {middle = middle} {next} ends word ends stops = absurd (no_end joint middle next stops word)
continues {reader} {joint} {depth} ends word (goes {behind = behind} {right = right} also item chain) stops =
    record {
      right = right;
      behind = behind;
      item = subst (λ (next : List Token). Parse reader (at (inside joint)) depth next right behind) (some_one (sym also ∙ word)) item;
      stops = stops_inside chain stops;
    }
continues {joint = joint} {tokens = tokens} (goes {next = next} word item chain) last ends stops = absurd (no_end joint tokens next stops word)
continues {reader} {joint} {depth} {so_far} {formula = formula} {rest = rest} (goes word item chain) last (goes {behind = beyond} {right = right} also other end) stops =
    let same = once item (stops_within chain last)
    (subst (λ (next : List Token). Parse reader (at (inside joint)) depth next right beyond) (some_one (sym also ∙ word)) other) (stops_inside end stops) in
    continues chain last (subst (λ (read : Formula × List Token). Parse reader (after joint (joins joint so_far read.0)) depth read.1 formula rest) (sym same) end) stops

continues_from : {reader : Reader} {joint : Joint} {depth : ℕ} {left formula : Formula} {tokens middle next rest : List Token}
    → Parse reader (at (joined joint)) depth tokens left middle → behind_word (word_of joint) middle ≡ Some next
    → Parse reader (at (joined joint)) depth tokens formula rest → Stops (joined joint) rest → Continues reader joint depth next
continues_from {reader} {joint} {depth} {formula = formula} {rest = rest} (first item chain) word (first other whole) stops =
    let same = once item (stops_within chain word) other (stops_inside whole stops) in
    continues chain word (subst (λ (read : Formula × List Token). Parse reader (after joint read.0) depth read.1 formula rest) (sym same) whole) stops

either_way : {A B C P : Type 0} → A ⊎ (B ⊎ C) → (A → P) → (B → ⊥) → (C → ⊥) → P
either_way (inl one) this that other = this one
either_way (inr (inl two)) this that other = absurd (that two)
either_way (inr (inr three)) this that other = absurd (other three)

-- what is said as far as it goes doesn't break
said_whole : {reader : Reader} {level : Level} {depth : ℕ} {tokens rest : List Token} {formula : Formula} {fault : ConditionFault} → Breaks reader level depth tokens fault
    → Parse reader (at level) depth tokens formula rest → Stops level rest → ⊥
said_whole (not_compared no_not no_open misses) (one_compared is) stops = cc
said_whole (not_compared no_not no_open misses) (one_negated word part) stops = cc
said_whole (not_compared no_not no_open misses) (one_enclosed opens part closes) stops = cc
said_whole {reader} {tokens = tokens} (deep_not {inner = inner} word) (one_compared is) stops = let none = word_not_compared reader tokens inner word in cc
said_whole {reader} {tokens = tokens} (deep_open {inner = inner} opens) (one_compared is) stops = let none = open_not_compared reader tokens inner opens in cc
said_whole {reader} {tokens = tokens} (in_not {inner = inner} word breaks) (one_compared is) stops = let none = word_not_compared reader tokens inner word in cc
said_whole {reader} {rest = rest} (in_not {depth = less} word breaks) (one_negated {formula = formula} also part) stops =
    said_whole breaks (subst (λ (inner : List Token). Parse reader (at single) less inner formula rest) (some_one (sym also ∙ word)) part) tt
said_whole (in_not word breaks) (one_enclosed opens part closes) stops = not_open _ _ _ _ word opens
said_whole {reader} {tokens = tokens} (in_parentheses {inner = inner} opens breaks) (one_compared is) stops = let none = open_not_compared reader tokens inner opens in cc
said_whole (in_parentheses opens breaks) (one_negated word part) stops = not_open _ _ _ _ word opens
said_whole {reader} {rest = rest} (in_parentheses {depth = less} opens breaks) (one_enclosed {behind = beyond} {formula = formula} also part closes) stops =
    said_whole breaks (subst (λ (inner : List Token). Parse reader (at (joined Or)) less inner formula beyond) (some_one (sym also ∙ opens)) part) (closed_stops beyond rest closes)
said_whole {reader} {tokens = tokens} (unclosed {inner = inner} opens says halts none) (one_compared is) stops = let lacks = open_not_compared reader tokens inner opens in cc
said_whole (unclosed opens says halts none) (one_negated word part) stops = not_open _ _ _ _ word opens
said_whole {reader} {rest = rest} (unclosed {depth = less} {behind = behind} opens says halts none) (one_enclosed {behind = beyond} {formula = formula} also part closes) stops =
    let same = once (parsed says) halts
    (subst (λ (inner : List Token). Parse reader (at (joined Or)) less inner formula beyond) (some_one (sym also ∙ opens)) part) (closed_stops beyond rest closes) in
    let end : behind ≡ beyond = ap (λ (read : Formula × List Token). read.1) same in
    let shut = subst (λ (behind : List Token). behind_close behind ≡ Some rest) (sym end) closes in
    cc
said_whole (in_first breaks) (first item chain) stops = said_whole breaks item (stops_inside chain stops)
said_whole (in_next says word breaks) (first item chain) stops =
    let goes = continues_from (parsed says) word (first item chain) stops in
    said_whole breaks goes.item goes.stops

-- ---- one fault

-- what two chains that go on are to each other: they go on in one place, or the one goes further
compare_chains : {reader : Reader} {joint : Joint} {depth : ℕ} {so_far one two : Formula} {tokens middle other next beyond : List Token}
    → Parse reader (after joint so_far) depth tokens one middle → behind_word (word_of joint) middle ≡ Some next
    → Parse reader (after joint so_far) depth tokens two other → behind_word (word_of joint) other ≡ Some beyond
    → (next ≡ beyond) ⊎ (Continues reader joint depth next ⊎ Continues reader joint depth beyond)
compare_chains ends word ends last = inl (some_one (sym word ∙ last))
compare_chains {reader} {joint} {depth} ends word (goes {behind = behind} {right = right} also item chain) last =
    inr (inl (record {
      right = right;
      behind = behind;
      item = subst (λ (next : List Token). Parse reader (at (inside joint)) depth next right behind) (some_one (sym also ∙ word)) item;
      stops = stops_within chain last;
    }))
compare_chains {reader} {joint} {depth} (goes {behind = behind} {right = right} also item chain) word ends last =
    inr (inr (record {
      right = right;
      behind = behind;
      item = subst (λ (next : List Token). Parse reader (at (inside joint)) depth next right behind) (some_one (sym also ∙ last)) item;
      stops = stops_within chain word;
    }))
compare_chains {reader} {joint} {depth} {so_far} {two = two} {other = other} (goes starts item chain) word (goes {behind = beyond} {right = right} also more_item end) last =
    let same = once item (stops_within chain word)
    (subst (λ (next : List Token). Parse reader (at (inside joint)) depth next right beyond) (some_one (sym also ∙ starts)) more_item) (stops_within end last) in
    compare_chains chain word (subst (λ (read : Formula × List Token). Parse reader (after joint (joins joint so_far read.0)) depth read.1 two other) (sym same) end) last

compare_joined : {reader : Reader} {joint : Joint} {depth : ℕ} {one two : Formula} {tokens middle other next beyond : List Token}
    → Parse reader (at (joined joint)) depth tokens one middle → behind_word (word_of joint) middle ≡ Some next
    → Parse reader (at (joined joint)) depth tokens two other → behind_word (word_of joint) other ≡ Some beyond
    → (next ≡ beyond) ⊎ (Continues reader joint depth next ⊎ Continues reader joint depth beyond)
compare_joined {reader} {joint} {depth} {two = two} {other = other} (first item chain) word (first more_item end) last =
    let same = once item (stops_within chain word) more_item (stops_within end last) in
    compare_chains chain word (subst (λ (read : Formula × List Token). Parse reader (after joint read.0) depth read.1 two other) (sym same) end) last

-- the first of several conditions
starts_with : {reader : Reader} {joint : Joint} {depth : ℕ} {formula : Formula} {tokens middle next : List Token}
    → Parse reader (at (joined joint)) depth tokens formula middle → behind_word (word_of joint) middle ≡ Some next → Continues reader joint depth tokens
starts_with (first {behind = behind} {one = one} item chain) word = record { right = one; behind = behind; item = item; stops = stops_within chain word }

fault_is : {one two : ConditionFault} → ◌≡◌ {A = Found (Formula × List Token)} (missing one) (missing two) → one ≡ two
fault_is same = cc

-- tokens break in one place
one_fault : {reader : Reader} {level : Level} {depth : ℕ} {tokens : List Token} {one two : ConditionFault} → Breaks reader level depth tokens one
    → Breaks reader level depth tokens two → one ≡ two
one_fault (not_compared no_not no_open misses) (not_compared also_not also_open lacks) = fault_is (sym misses ∙ lacks)
one_fault (not_compared no_not no_open misses) (deep_not word) = cc
one_fault (not_compared no_not no_open misses) (deep_open opens) = cc
one_fault (not_compared no_not no_open misses) (in_not word breaks) = cc
one_fault (not_compared no_not no_open misses) (in_parentheses opens breaks) = cc
one_fault (not_compared no_not no_open misses) (unclosed opens says halts none) = cc
one_fault (deep_not word) (not_compared no_not no_open misses) = cc
one_fault (deep_not word) (deep_not also) = refl
one_fault (deep_not word) (deep_open opens) = refl
one_fault (deep_open opens) (not_compared no_not no_open misses) = cc
one_fault (deep_open opens) (deep_not word) = refl
one_fault (deep_open opens) (deep_open also) = refl
one_fault (in_not word breaks) (not_compared no_not no_open misses) = cc
one_fault {reader} {two = two} (in_not {depth = less} word breaks) (in_not also cracks) =
    one_fault breaks (subst (λ (inner : List Token). Breaks reader single less inner two) (some_one (sym also ∙ word)) cracks)
one_fault (in_not word breaks) (in_parentheses opens cracks) = absurd (not_open _ _ _ _ word opens)
one_fault (in_not word breaks) (unclosed opens says halts none) = absurd (not_open _ _ _ _ word opens)
one_fault (in_parentheses opens breaks) (not_compared no_not no_open misses) = cc
one_fault (in_parentheses opens breaks) (in_not word cracks) = absurd (not_open _ _ _ _ word opens)
one_fault {reader} {two = two} (in_parentheses {depth = less} opens breaks) (in_parentheses also cracks) =
    one_fault breaks (subst (λ (inner : List Token). Breaks reader (joined Or) less inner two) (some_one (sym also ∙ opens)) cracks)
one_fault {reader} (in_parentheses {depth = less} opens breaks) (unclosed {behind = behind} {formula = formula} also says halts none) =
    absurd (said_whole breaks (parsed (subst (λ (inner : List Token). Says reader (joined Or) less inner formula behind) (some_one (sym also ∙ opens)) says)) halts)
one_fault (unclosed opens says halts none) (not_compared no_not no_open misses) = cc
one_fault (unclosed opens says halts none) (in_not word cracks) = absurd (not_open _ _ _ _ word opens)
one_fault {reader} (unclosed {depth = less} {behind = behind} {formula = formula} opens says halts none) (in_parentheses also breaks) =
    absurd (said_whole breaks (parsed (subst (λ (inner : List Token). Says reader (joined Or) less inner formula behind) (some_one (sym opens ∙ also)) says)) halts)
one_fault {reader} (unclosed {depth = less} {behind = behind} {formula = formula} opens says halts none) (unclosed {behind = beyond} {formula = other} also reads stops lacks) =
    let same = once (parsed says) halts (parsed (subst (λ (inner : List Token). Says reader (joined Or) less inner other beyond) (some_one (sym also ∙ opens)) reads)) stops in
    ap (λ (read : Formula × List Token). fault_at reader Close read.1) same
one_fault (in_first breaks) (in_first cracks) = one_fault breaks cracks
one_fault (in_first breaks) (in_next says word cracks) =
    let begins = starts_with (parsed says) word in absurd (said_whole breaks begins.item begins.stops)
one_fault (in_next says word breaks) (in_first cracks) =
    let begins = starts_with (parsed says) word in absurd (said_whole cracks begins.item begins.stops)
one_fault {reader} {two = two} (in_next {joint = joint} {depth = depth} {next = next} says word breaks) (in_next {next = beyond} reads last cracks) =
    either_way (compare_joined (parsed says) word (parsed reads) last) (λ same. one_fault breaks (subst (λ (next : List Token). Breaks reader (inside joint) depth next two) (sym same) cracks))
    (λ goes. said_whole breaks goes.item goes.stops) (λ goes. said_whole cracks goes.item goes.stops)

-- ---- whole texts

no_more : Stops (joined Or) []
no_more = (refl, refl)

not_nothing : (token : Token) (rest : List Token) → token ∷ rest ≡ [] → ⊥
not_nothing token rest same = let long = ap length same in omega (arith, long)

-- a text that says a condition doesn't break
pub says_or_breaks : (scope : Scope) (text : List ℕ) (fault : ConditionFault) (formula : Formula) → TextBreaks scope text fault → TextSays scope text formula → ⊥
says_or_breaks scope text fault formula (within breaks) says = said_whole breaks (parsed says) no_more
says_or_breaks scope text fault formula (more_stands {token = token} {rest = rest} reads stops) says =
    let same = once (parsed reads) stops (parsed says) no_more in
    not_nothing token rest (ap (λ (read : Formula × List Token). read.1) same)

-- a text breaks in one place
pub breaks_once : (scope : Scope) (text : List ℕ) (one two : ConditionFault) → TextBreaks scope text one → TextBreaks scope text two → one ≡ two
breaks_once scope text one two (within breaks) (within cracks) = one_fault breaks cracks
breaks_once scope text one two (within breaks) (more_stands reads stops) = absurd (said_whole breaks (parsed reads) stops)
breaks_once scope text one two (more_stands reads stops) (within cracks) = absurd (said_whole cracks (parsed reads) stops)
breaks_once scope text one two (more_stands reads stops) (more_stands says halts) =
    ap (λ (read : Formula × List Token). fault_at (reader_of scope text) Joint' read.1) (once (parsed reads) stops (parsed says) halts)

-- so the fault of a text is what is answered of it
pub gives_fault : (scope : Scope) (text : List ℕ) (result : Result Condition Unread) → IfOk result (λ condition. TextSays scope text (formula_of condition))
    → IfFault result (λ fault. TextBreaks scope text fault) → (fault : ConditionFault) → TextBreaks scope text fault → Gives formula_of result (missing fault)
gives_fault scope text (Ok condition) said broken fault breaks = absurd (says_or_breaks scope text fault (formula_of condition) breaks said)
gives_fault scope text (Err (unread.Fault other)) said broken fault breaks = ap missing (breaks_once scope text fault other breaks broken)
gives_fault scope text (Err unread.NoMemory) said broken fault breaks = tt

pub all_said : (scope : Scope) (text : List ℕ) (tokens rest : List Token) (formula : Formula) → tokens ≡ tokens_below text (length text)
    → Says (reader_of scope text) (joined Or) 32 tokens formula rest → length rest ≡ 0 → TextSays scope text formula
all_said scope text tokens [] formula are says none = subst (λ (tokens : List Token). Says (reader_of scope text) (joined Or) 32 tokens formula []) are says
all_said scope text tokens (token ∷ rest) formula are says none = absurd (omega (arith, none))
