-- What readers of conditions answer.
use Rattle.std.proofs.Common.{ℕ, suc, ◌≡◌, refl, sym, ◌∙◌, ap, subst, List, [], ◌∷◌, length, Some, None, arith}
use Rattle.std.specs.Prelude.{Result, Ok, Err, IfOk, codes}
use Rattle.std.specs.Borrow.{Bor}
use Rattle.irp_condition.specs.declared.condition.Condition.{Condition}
use Rattle.irp_condition.specs.declared.fault.Unread.{Unread}
use Rattle.irp_condition.specs.declared.fault.Unread.TheVariants.{Fault, NoMemory}
use Rattle.irp_condition.specs.declared.fault.Expected.TheVariants.{Close, Shallower, Joint as Joint'}
use Rattle.irp_condition.specs.declared.naming.Joint.{Joint}
use Rattle.irp_condition.specs.declared.naming.Joint.TheVariants.{And, Or}
use Rattle.irp_condition.specs.declared.reading.Reader.{Reader}
use Rattle.irp_condition.specs.declared.scope.Scope.{Scope}
use Rattle.irp_condition.specs.declared.tokens.Token.{Token}
use Rattle.irp_condition.specs.Tokens.{tokens_below}
use Rattle.irp_condition.specs.Faults.{Found, found, fault_at, Gives, IfFault}
use Rattle.irp_condition.specs.Formulas.{Formula, formula_of, joins, no}
use Rattle.irp_condition.specs.Grammar.{single, joined, inside, Says, compared, negated, enclosed, more, Stops, Breaks, not_compared, deep_not, deep_open, in_not, in_parentheses, unclosed, in_first, in_next, reader_of, TextBreaks, within, behind as more_stands}
use Rattle.irp_condition.specs.Naming.{word_of}
use Rattle.irp_condition.specs.Parsing.{Reads, seen}
use Rattle.irp_condition.specs.Reading.{behind_word, behind_open, behind_close, compared_at}
use Rattle.irp_condition.proofs.Chains.{Chain, ends, goes_on, split, closed, or_not_and, some_one, found_one, only_compared, only_negated, only_enclosed}

suc_one : {m n : ℕ} → suc m ≡ suc n → m ≡ n
suc_one {m} {n} same = omega arith

no_suc : {n : ℕ} → suc n ≡ 0 → ⊥
no_suc same = omega arith

no_some : {A : Type 0} {a : A} → Some a ≡ None → ⊥
no_some same = cc

pair_is : {A B : Type 0} {a c : A} {b d : B} → a ≡ c → b ≡ d → ◌≡◌ {A = Found (A × B)} (found (a, b)) (found (c, d))
pair_is one two = cc

gives_err : (unread : Unread) (one two : Formula × List Token) → Gives seen (Err unread) (found one) → Gives seen (Err unread) (found two)
gives_err (Fault fault) one two gave = cc
gives_err NoMemory one two gave = tt

-- ---- comparisons

said_compared : (reader : Reader) (depth : ℕ) (tokens : List Token) (result : Result (Condition × Bor (List Token)) Unread)
    → Gives seen result (compared_at reader tokens) → IfOk result (λ read. Says reader single depth tokens (formula_of read.0) read.1.now)
said_compared reader depth tokens (Ok read) gave = compared gave
said_compared reader depth tokens (Err unread) gave = tt

stops_single : (result : Result (Condition × Bor (List Token)) Unread) → IfOk result (λ read. Stops single read.1.now)
stops_single (Ok read) = tt
stops_single (Err unread) = tt

breaks_compared : (reader : Reader) (depth : ℕ) (tokens : List Token) (result : Result (Condition × Bor (List Token)) Unread)
    → behind_word (codes "not") tokens ≡ None → behind_open tokens ≡ None
    → Gives seen result (compared_at reader tokens) → IfFault result (λ fault. Breaks reader single depth tokens fault)
breaks_compared reader depth tokens (Ok read) no_not no_open gave = tt
breaks_compared reader depth tokens (Err (Fault fault)) no_not no_open gave = not_compared no_not no_open gave
breaks_compared reader depth tokens (Err NoMemory) no_not no_open gave = tt

pub compared_reads : (reader : Reader) (depth : ℕ) (tokens : List Token) (result : Result (Condition × Bor (List Token)) Unread)
    → behind_word (codes "not") tokens ≡ None → behind_open tokens ≡ None → Gives seen result (compared_at reader tokens)
    → Reads reader single depth tokens result
compared_reads reader depth tokens result no_not no_open gave = record {
  said = said_compared reader depth tokens result gave;
  stops = stops_single result;
  broken = breaks_compared reader depth tokens result no_not no_open gave;
  whole = λ formula rest says stops. subst (λ (read : Found (Formula × List Token)). Gives seen result read) (only_compared no_not no_open says) gave;
}

-- ---- `not`

pub negated_reads : (reader : Reader) (less depth : ℕ) (tokens inner : List Token) (condition made : Condition) (rest : Bor (List Token)) → depth ≡ suc less
    → behind_word (codes "not") tokens ≡ Some inner → Reads reader single less inner (Ok (condition, rest)) → formula_of made ≡ no (formula_of condition)
    → Reads reader single depth tokens (Ok (made, rest))
negated_reads reader less depth tokens inner condition made rest is begins reads made_is = record {
  stops = tt;
  broken = tt;
  said =
      subst (λ (depth : ℕ). Says reader single depth tokens (formula_of made) rest.now) (sym is)
      (subst (λ (formula : Formula). Says reader single (suc less) tokens formula rest.now) (sym made_is) (negated begins reads.said));
  whole = λ formula end says stops.
      let part = only_negated begins says in
      let same : part.0 ≡ less = suc_one (sym part.2 ∙ is) in
      let gave = found_one (reads.whole part.1 end (subst (λ (less : ℕ). Says reader single less inner part.1 end) same part.4) tt) in
      let first : formula ≡ formula_of made = part.3 ∙ (ap (λ (read : Formula × List Token). no read.0) gave ∙ sym made_is) in
      let second : end ≡ rest.now = ap (λ (read : Formula × List Token). read.1) gave in
      pair_is first second;
}

-- ---- parentheses

pub enclosed_reads : (reader : Reader) (less depth : ℕ) (tokens inner : List Token) (condition : Condition) (behind rest : Bor (List Token)) → depth ≡ suc less
    → behind_open tokens ≡ Some inner → Reads reader (joined Or) less inner (Ok (condition, behind)) → behind_close behind.now ≡ Some rest.now
    → Reads reader single depth tokens (Ok (condition, rest))
enclosed_reads reader less depth tokens inner condition behind rest is begins reads closes = record {
  stops = tt;
  broken = tt;
  said =
      subst (λ (depth : ℕ). Says reader single depth tokens (formula_of condition) rest.now) (sym is) (enclosed begins reads.said closes);
  whole = λ formula end says stops.
      let part = only_enclosed begins says in
      let same : part.0 ≡ less = suc_one (sym part.2 ∙ is) in
      let gave = found_one (reads.whole formula part.1
      (subst (λ (less : ℕ). Says reader (joined Or) less inner formula part.1) same part.3) (closed (codes "and") part.1 end part.4, closed (codes "or") part.1 end part.4)) in
      let first : formula ≡ formula_of condition = ap (λ (read : Formula × List Token). read.0) gave in
      let here : part.1 ≡ behind.now = ap (λ (read : Formula × List Token). read.1) gave in
      let second : end ≡ rest.now = some_one (sym part.4 ∙ (ap behind_close here ∙ closes)) in
      pair_is first second;
}

pub enclosed_open : (reader : Reader) (less depth : ℕ) (tokens inner : List Token) (condition : Condition) (behind : Bor (List Token)) → depth ≡ suc less
    → behind_open tokens ≡ Some inner → Reads reader (joined Or) less inner (Ok (condition, behind)) → behind_close behind.now ≡ None
    → Reads reader single depth tokens (Err (Fault (fault_at reader Close behind.now)))
enclosed_open reader less depth tokens inner condition behind is begins reads closes = record {
  said = tt;
  stops = tt;
  broken =
      subst (λ (depth : ℕ). Breaks reader single depth tokens (fault_at reader Close behind.now)) (sym is)
      (unclosed begins reads.said reads.stops closes);
  whole = λ formula end says stops.
      let part = only_enclosed begins says in
      let same : part.0 ≡ less = suc_one (sym part.2 ∙ is) in
      let gave = found_one (reads.whole formula part.1
      (subst (λ (less : ℕ). Says reader (joined Or) less inner formula part.1) same part.3) (closed (codes "and") part.1 end part.4, closed (codes "or") part.1 end part.4)) in
      let here : part.1 ≡ behind.now = ap (λ (read : Formula × List Token). read.1) gave in
      absurd (no_some (sym part.4 ∙ (ap behind_close here ∙ closes)));
}

-- ---- what goes wrong in these

pub deep_not_reads : (reader : Reader) (depth : ℕ) (tokens inner : List Token) → depth ≡ 0 → behind_word (codes "not") tokens ≡ Some inner
    → Reads reader single depth tokens (Err (Fault (fault_at reader Shallower tokens)))
deep_not_reads reader depth tokens inner is begins = record {
  said = tt;
  stops = tt;
  whole = λ formula end says stops. let part = only_negated begins says in absurd (no_suc (sym part.2 ∙ is));
  broken =
      subst (λ (depth : ℕ). Breaks reader single depth tokens (fault_at reader Shallower tokens)) (sym is) (deep_not begins);
}

pub deep_open_reads : (reader : Reader) (depth : ℕ) (tokens inner : List Token) → depth ≡ 0 → behind_open tokens ≡ Some inner
    → Reads reader single depth tokens (Err (Fault (fault_at reader Shallower tokens)))
deep_open_reads reader depth tokens inner is begins = record {
  said = tt;
  stops = tt;
  whole = λ formula end says stops. let part = only_enclosed begins says in absurd (no_suc (sym part.2 ∙ is));
  broken =
      subst (λ (depth : ℕ). Breaks reader single depth tokens (fault_at reader Shallower tokens)) (sym is) (deep_open begins);
}

not_breaks : (reader : Reader) (less depth : ℕ) (tokens inner : List Token) (unread : Unread) → depth ≡ suc less
    → behind_word (codes "not") tokens ≡ Some inner
    → IfFault {A = Condition × Bor (List Token)} (Err unread) (λ fault. Breaks reader single less inner fault)
    → IfFault {A = Condition × Bor (List Token)} (Err unread) (λ fault. Breaks reader single depth tokens fault)
not_breaks reader less depth tokens inner (Fault fault) is begins breaks =
    subst (λ (depth : ℕ). Breaks reader single depth tokens fault) (sym is) (in_not begins breaks)
not_breaks reader less depth tokens inner NoMemory is begins breaks = tt

pub negated_fails : (reader : Reader) (less depth : ℕ) (tokens inner : List Token) (unread : Unread) → depth ≡ suc less
    → behind_word (codes "not") tokens ≡ Some inner → Reads reader single less inner (Err unread)
    → Reads reader single depth tokens (Err unread)
negated_fails reader less depth tokens inner unread is begins reads = record {
  said = tt;
  stops = tt;
  whole = λ formula end says stops.
      let part = only_negated begins says in
      let same : part.0 ≡ less = suc_one (sym part.2 ∙ is) in
      gives_err unread (part.1, end) (formula, end) (reads.whole part.1 end (subst (λ (less : ℕ). Says reader single less inner part.1 end) same part.4) tt);
  broken = not_breaks reader less depth tokens inner unread is begins reads.broken;
}

parentheses_break : (reader : Reader) (less depth : ℕ) (tokens inner : List Token) (unread : Unread) → depth ≡ suc less
    → behind_open tokens ≡ Some inner
    → IfFault {A = Condition × Bor (List Token)} (Err unread) (λ fault. Breaks reader (joined Or) less inner fault)
    → IfFault {A = Condition × Bor (List Token)} (Err unread) (λ fault. Breaks reader single depth tokens fault)
parentheses_break reader less depth tokens inner (Fault fault) is begins breaks =
    subst (λ (depth : ℕ). Breaks reader single depth tokens fault) (sym is) (in_parentheses begins breaks)
parentheses_break reader less depth tokens inner NoMemory is begins breaks = tt

pub enclosed_fails : (reader : Reader) (less depth : ℕ) (tokens inner : List Token) (unread : Unread) → depth ≡ suc less
    → behind_open tokens ≡ Some inner → Reads reader (joined Or) less inner (Err unread)
    → Reads reader single depth tokens (Err unread)
enclosed_fails reader less depth tokens inner unread is begins reads = record {
  said = tt;
  stops = tt;
  whole = λ formula end says stops.
      let part = only_enclosed begins says in
      let same : part.0 ≡ less = suc_one (sym part.2 ∙ is) in
      gives_err unread (formula, part.1) (formula, end)
      (reads.whole formula part.1
      (subst (λ (less : ℕ). Says reader (joined Or) less inner formula part.1) same part.3) (closed (codes "and") part.1 end part.4, closed (codes "or") part.1 end part.4));
  broken = parentheses_break reader less depth tokens inner unread is begins reads.broken;
}

-- ---- whole texts

pub text_breaks : (scope : Scope) (text : List ℕ) (tokens : List Token) (unread : Unread) → tokens ≡ tokens_below text (length text)
    → IfFault {A = Condition × Bor (List Token)} (Err unread) (λ fault. Breaks (reader_of scope text) (joined Or) 32 tokens fault)
    → IfFault {A = Condition} (Err unread) (λ fault. TextBreaks scope text fault)
text_breaks scope text tokens (Fault fault) are breaks =
    within (subst (λ (tokens : List Token). Breaks (reader_of scope text) (joined Or) 32 tokens fault) are breaks)
text_breaks scope text tokens NoMemory are breaks = tt

pub more_behind : (scope : Scope) (text : List ℕ) (tokens rest : List Token) (formula : Formula) → tokens ≡ tokens_below text (length text)
    → Says (reader_of scope text) (joined Or) 32 tokens formula rest → Stops (joined Or) rest → (rest ≡ [] → ⊥)
    → TextBreaks scope text (fault_at (reader_of scope text) Joint' rest)
more_behind scope text tokens [] formula are says stops goes = absurd (goes refl)
more_behind scope text tokens (token ∷ rest) formula are says stops goes =
    more_stands (subst (λ (tokens : List Token). Says (reader_of scope text) (joined Or) 32 tokens formula (token ∷ rest)) are says) stops

-- ---- what a joint joins

-- one of the conditions stops where the next joint or the end is
stops_inside : (reader : Reader) (joint : Joint) (depth : ℕ) {so_far formula : Formula} {rest end : List Token} → Chain reader joint depth so_far rest formula end
    → Stops (joined joint) end → Stops (inside joint) rest
stops_inside reader And depth chain stops = tt
stops_inside reader Or depth ends stops = stops.0
stops_inside reader Or depth {rest = rest} (goes_on {next = next} word item chain) stops = or_not_and rest next word

first_breaks : (reader : Reader) (joint : Joint) (depth : ℕ) (tokens : List Token) (unread : Unread)
    → IfFault {A = Condition × Bor (List Token)} (Err unread) (λ fault. Breaks reader (inside joint) depth tokens fault)
    → IfFault {A = Condition × Bor (List Token)} (Err unread) (λ fault. Breaks reader (joined joint) depth tokens fault)
first_breaks reader joint depth tokens (Fault fault) breaks = in_first breaks
first_breaks reader joint depth tokens NoMemory breaks = tt

next_breaks : (reader : Reader) (joint : Joint) (depth : ℕ) (tokens rest next : List Token) (so_far : Formula) (unread : Unread)
    → Says reader (joined joint) depth tokens so_far rest → behind_word (word_of joint) rest ≡ Some next
    → IfFault {A = Condition × Bor (List Token)} (Err unread) (λ fault. Breaks reader (inside joint) depth next fault)
    → IfFault {A = Condition × Bor (List Token)} (Err unread) (λ fault. Breaks reader (joined joint) depth tokens fault)
next_breaks reader joint depth tokens rest next so_far (Fault fault) said word breaks = in_next said word breaks
next_breaks reader joint depth tokens rest next so_far NoMemory said word breaks = tt

-- behind the last condition that this joint joins, where its word doesn't follow
stops_joined : (joint : Joint) (rest : List Token) → Stops (inside joint) rest → behind_word (word_of joint) rest ≡ None
    → Stops (joined joint) rest
stops_joined And rest stops none = none
stops_joined Or rest stops none = (stops, none)

pub joined_fails : (reader : Reader) (joint : Joint) (depth : ℕ) (tokens : List Token) (unread : Unread) → Reads reader (inside joint) depth tokens (Err unread)
    → Reads reader (joined joint) depth tokens (Err unread)
joined_fails reader joint depth tokens unread reads = record {
  said = tt;
  stops = tt;
  broken = first_breaks reader joint depth tokens unread reads.broken;
  whole = λ formula end says stops.
      let part = split says in
      gives_err unread (part.0, part.1) (formula, end) (reads.whole part.0 part.1 part.2 (stops_inside reader joint depth part.3 stops));
}

pub first_chain : (reader : Reader) (joint : Joint) (depth : ℕ) (tokens : List Token) (condition : Condition) (rest : Bor (List Token))
    → Reads reader (inside joint) depth tokens (Ok (condition, rest)) → (formula : Formula) (end : List Token)
    → Says reader (joined joint) depth tokens formula end → Stops (joined joint) end → Chain reader joint depth (formula_of condition) rest.now formula end
first_chain reader joint depth tokens condition rest reads formula end says stops =
    let part = split says in
    let gave = found_one (reads.whole part.0 part.1 part.2 (stops_inside reader joint depth part.3 stops)) in
    subst (λ (read : Formula × List Token). Chain reader joint depth read.0 read.1 formula end) gave part.3

no_end : (joint : Joint) (rest next : List Token) → Stops (joined joint) rest → behind_word (word_of joint) rest ≡ Some next → ⊥
no_end And rest next stops word = cc
no_end Or rest next stops word = let none = stops.1 in cc

next_item : (reader : Reader) (joint : Joint) (depth : ℕ) {so_far formula : Formula} {rest end : List Token} (next : List Token) → Chain reader joint depth so_far rest formula end
    → Stops (joined joint) end → behind_word (word_of joint) rest ≡ Some next
    → (right : Formula) × (behind : List Token) × Says reader (inside joint) depth next right behind
    × Chain reader joint depth (joins joint so_far right) behind formula end
next_item reader joint depth {rest = rest} next ends stops word = absurd (no_end joint rest next stops word)
next_item reader joint depth next (goes_on {right = right} {behind = behind} is item chain) stops word =
    (right, behind, subst (λ (next : List Token). Says reader (inside joint) depth next right behind) (some_one (sym is ∙ word)) item, chain)

pub next_fails : (reader : Reader) (joint : Joint) (depth : ℕ) (tokens rest next : List Token) (so_far : Formula) (unread : Unread)
    → Says reader (joined joint) depth tokens so_far rest
    → ((formula : Formula) (end : List Token) → Says reader (joined joint) depth tokens formula end → Stops (joined joint) end → Chain reader joint depth so_far rest formula end)
    → behind_word (word_of joint) rest ≡ Some next → Reads reader (inside joint) depth next (Err unread) → Reads reader (joined joint) depth tokens (Err unread)
next_fails reader joint depth tokens rest next so_far unread said chains word reads = record {
  said = tt;
  stops = tt;
  broken = next_breaks reader joint depth tokens rest next so_far unread said word reads.broken;
  whole = λ formula end says stops.
      let part = next_item reader joint depth next (chains formula end says stops) stops word in
      gives_err unread (part.0, part.1) (formula, end) (reads.whole part.0 part.1 part.2 (stops_inside reader joint depth part.3 stops));
}

pub next_chain : (reader : Reader) (joint : Joint) (depth : ℕ) (tokens rest next : List Token) (so_far all : Formula) (condition : Condition) (behind : Bor (List Token))
    → ((formula : Formula) (end : List Token) → Says reader (joined joint) depth tokens formula end → Stops (joined joint) end → Chain reader joint depth so_far rest formula end)
    → behind_word (word_of joint) rest ≡ Some next → Reads reader (inside joint) depth next (Ok (condition, behind)) → all ≡ joins joint so_far (formula_of condition)
    → (formula : Formula) (end : List Token) → Says reader (joined joint) depth tokens formula end → Stops (joined joint) end → Chain reader joint depth all behind.now formula end
next_chain reader joint depth tokens rest next so_far all condition behind chains word reads is formula end says stops =
    let part = next_item reader joint depth next (chains formula end says stops) stops word in
    let gave = found_one (reads.whole part.0 part.1 part.2 (stops_inside reader joint depth part.3 stops)) in
    subst (λ (all : Formula). Chain reader joint depth all behind.now formula end) (sym is)
    (subst (λ (read : Formula × List Token). Chain reader joint depth (joins joint so_far read.0) read.1 formula end) gave part.3)

pub next_said : (reader : Reader) (joint : Joint) (depth : ℕ) (tokens rest next : List Token) (so_far all : Formula) (condition : Condition) (behind : Bor (List Token))
    → Says reader (joined joint) depth tokens so_far rest → behind_word (word_of joint) rest ≡ Some next → Reads reader (inside joint) depth next (Ok (condition, behind))
    → all ≡ joins joint so_far (formula_of condition) → Says reader (joined joint) depth tokens all behind.now
next_said reader joint depth tokens rest next so_far all condition behind said word reads is =
    subst (λ (all : Formula). Says reader (joined joint) depth tokens all behind.now) (sym is) (more said word reads.said)

at_end : {reader : Reader} {joint : Joint} {depth : ℕ} {so_far formula : Formula} {rest end : List Token} → Chain reader joint depth so_far rest formula end
    → behind_word (word_of joint) rest ≡ None → (formula ≡ so_far) × (end ≡ rest)
at_end ends none = (refl, refl)
at_end (goes_on word item chain) none = cc

pub joined_reads : (reader : Reader) (joint : Joint) (depth : ℕ) (tokens : List Token) (condition : Condition) (rest : Bor (List Token))
    → Says reader (joined joint) depth tokens (formula_of condition) rest.now
    → Stops (inside joint) rest.now
    → ((formula : Formula) (end : List Token) → Says reader (joined joint) depth tokens formula end → Stops (joined joint) end → Chain reader joint depth (formula_of condition) rest.now formula end)
    → behind_word (word_of joint) rest.now ≡ None → Reads reader (joined joint) depth tokens (Ok (condition, rest))
joined_reads reader joint depth tokens condition rest said stopped chains none = record {
  said = said;
  stops = stops_joined joint rest.now stopped none;
  broken = tt;
  whole = λ formula end says stops. let same = at_end (chains formula end says stops) none in pair_is same.0 same.1;
}
