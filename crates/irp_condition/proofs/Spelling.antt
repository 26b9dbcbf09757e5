-- Which words write a value.
use Rattle.std.proofs.Common.{ℕ, zero, suc, ◌≡◌, ◌⊎◌, inl, inr, refl, sym, ◌∙◌, ap, subst, ◌+◌, ◌-◌, ◌*◌, ◌/◌, ◌%◌, ◌^◌, ◌<◌, ◌≤◌, ◌==◌, ◌&&◌, ◌||◌, nat_lt, nat_le, List, [], ◌∷◌, ◌++◌, length, get_or, Bool, true, false, Option, Some, None, Contains, arith, decimal, drop, bytes_eq}
use Rattle.std.proofs.lemmas.Fmt.{decimal_by_steps}
use Rattle.std.proofs.lemmas.Slice.Eq.{bytes_eq-Decides}
use Rattle.std.specs.Prelude.{codes, if◌then◌else◌, option_map}
use Rattle.std.specs.List.{find}
use Rattle.irp_condition.specs.declared.scope.Scope.{Scope}
use Rattle.irp_condition.specs.declared.naming.Sort.{Sort}
use Rattle.irp_condition.specs.declared.naming.Sort.TheVariants as of_sort
use Rattle.irp_condition.specs.declared.tokens.Kind.{Kind}
use Rattle.irp_condition.specs.declared.tokens.Kind.TheVariants as kind
use Rattle.irp_condition.specs.declared.value.Answer.{Answer}
use Rattle.irp_condition.specs.declared.value.Answer.TheVariants as answer
use Rattle.irp_condition.specs.declared.value.Named.{Named}
use Rattle.irp_condition.specs.declared.value.Value.{Value}
use Rattle.irp_condition.specs.declared.value.Value.TheVariants as of_value
use Rattle.irp_types.specs.declared.location.Owner.TheVariants as owner
use Rattle.irp_condition.specs.Tokens.{kind_of, goes_on, is_within}
use Rattle.irp_condition.specs.Words.{◌>>=◌, or_else, value_in, truth_value, answer_named, digit_of, number_behind, number_in, has_prefix, number_of, below, device_named, owner_value, number_value, answer_value, reply_value, value_named}
use Rattle.irp_condition.specs.Writing.{all_of_word, is_word_text, is_noun, ReadsAs, WritesValue, own_word, word_of_answer}
use Rattle.irp_condition.proofs.Chains.{some_one}

-- ---- numbers in decimal

-- these are decimal digits
abbrev pub AreDigits : List ℕ → Type 0
AreDigits [] = Unit {0}
AreDigits (byte ∷ bytes) = (48 ≤ byte) × (byte ≤ 57) × AreDigits bytes

pub digits_more : (bytes : List ℕ) (byte : ℕ) → AreDigits bytes → 48 ≤ byte → byte ≤ 57 → AreDigits (bytes ++ byte ∷ [])
digits_more [] byte are low high = (low, high, tt)
digits_more (first ∷ bytes) byte are low high = (are.0, are.1, digits_more bytes byte are.2 low high)

digit_is : (byte : ℕ) → 48 ≤ byte → byte ≤ 57 → digit_of byte ≡ byte - 48
digit_is byte low high = grind arith

word_byte : (byte : ℕ) → 48 ≤ byte → byte ≤ 57 → kind_of byte ≡ kind.Word
word_byte byte low high = grind arith

pub digits_are_words : (bytes : List ℕ) → AreDigits bytes → all_of_word bytes ≡ true
digits_are_words [] are = refl
digits_are_words (byte ∷ bytes) are =
    let here = word_byte byte are.0 are.1 in
    rw (here, digits_are_words bytes are.2) refl

pub was_met : (test : Bool) {A : Type 0} (read : Option A) (answer : A) → (if test then read else None) ≡ Some answer → test ≡ true
was_met true read answer is = refl
was_met false read answer is = cc

-- one more digit behind others
behind_more : (number last byte : ℕ) (bytes : List ℕ) → number_behind 10 number bytes ≡ Some last
    → (nat_lt (digit_of byte) 10 && nat_lt (last * 10 + digit_of byte) (2 ^ 64)) ≡ true
    → number_behind 10 number (bytes ++ byte ∷ []) ≡ Some (last * 10 + digit_of byte)
behind_more number last byte [] is fits =
    let same : number ≡ last = some_one is in
    subst (λ n. number_behind 10 n (byte ∷ []) ≡ Some (last * 10 + digit_of byte)) (sym same) (rw fits refl)
behind_more number last byte (first ∷ bytes) is fits =
    let met = was_met (nat_lt (digit_of first) 10 && nat_lt (number * 10 + digit_of first) (2 ^ 64)) (number_behind 10 (number * 10 + digit_of first) bytes) last is in
    let more : number_behind 10 (number * 10 + digit_of first) bytes ≡ Some last =
    subst (λ test. (if test then number_behind 10 (number * 10 + digit_of first) bytes else None) ≡ Some last) met is in
    rw met (behind_more (number * 10 + digit_of first) last byte bytes more fits)

-- what `decimal` writes of a number
pub record Spelled (number : ℕ) (bytes : List ℕ) : Type 0 where
  pub some : 0 < length bytes
  pub digits : AreDigits bytes
  pub reads : number < 2 ^ 64 → number_behind 10 0 bytes ≡ Some number

spelled_one : (n : ℕ) → n < 10 → Spelled n ((48 + n) ∷ [])
spelled_one n less =
    let digit : digit_of (48 + n) ≡ n = digit_is (48 + n) (omega arith) (omega (arith, less)) ∙ omega arith in
    let low : nat_lt n 10 ≡ true = grind (arith, less) in
    record {
      some = omega arith;
      digits = (omega arith, omega (arith, less), tt);
      reads = λ fits.
          let high : nat_lt n (2 ^ 64) ≡ true = grind (arith, fits) in
          let whole : 0 * 10 + n ≡ n = omega arith in
          let both : (nat_lt (digit_of (48 + n)) 10 && nat_lt (0 * 10 + digit_of (48 + n)) (2 ^ 64)) ≡ true = rw (digit, whole, low, high) refl in
          subst (λ m. number_behind 10 0 ((48 + n) ∷ []) ≡ Some m) (ap (λ d. 0 * 10 + d) digit ∙ whole)
          (behind_more 0 0 (48 + n) [] refl both);
    }

spelled_more : (n : ℕ) (bytes : List ℕ) → 10 ≤ n → Spelled (n / 10) bytes → Spelled n (bytes ++ (48 + n % 10) ∷ [])
spelled_more n bytes more spelled =
    let digit : digit_of (48 + n % 10) ≡ n % 10 = digit_is (48 + n % 10) (omega arith) (omega arith) ∙ omega arith in
    let whole : n / 10 * 10 + n % 10 ≡ n = omega arith in
    let low : nat_lt (n % 10) 10 ≡ true = grind arith in
    record {
      some = length_some bytes (48 + n % 10);
      digits = digits_more bytes (48 + n % 10) spelled.digits (omega arith) (omega arith);
      reads = λ fits.
          let high : nat_lt n (2 ^ 64) ≡ true = grind (arith, fits) in
          let both : (nat_lt (digit_of (48 + n % 10)) 10 && nat_lt (n / 10 * 10 + digit_of (48 + n % 10)) (2 ^ 64)) ≡ true = rw (digit, whole, low, high) refl in
          subst (λ m. number_behind 10 0 (bytes ++ (48 + n % 10) ∷ []) ≡ Some m) (ap (λ d. n / 10 * 10 + d) digit ∙ whole)
          (behind_more 0 (n / 10) (48 + n % 10) bytes (spelled.reads (omega (arith, fits))) both);
    }
  where
    length_some : (bytes : List ℕ) (byte : ℕ) → 0 < length (bytes ++ byte ∷ [])
    length_some [] byte = omega arith
    length_some (first ∷ bytes) byte = omega arith

pub spelled : (number : ℕ) → number < 2 ^ 64 → Spelled number (decimal number)
spelled number fits = decimal_by_steps Spelled spelled_one spelled_more number fits

read_in : (number : ℕ) (bytes : List ℕ) → 0 < length bytes → number_behind 10 0 bytes ≡ Some number → number_in 10 bytes ≡ Some number
read_in number [] some is = absurd (omega (arith, some))
read_in number (byte ∷ bytes) some is = is

no_prefix : (bytes : List ℕ) → AreDigits bytes → has_prefix bytes ≡ false
no_prefix [] are = refl
no_prefix (one ∷ []) are = refl
no_prefix (one ∷ two ∷ bytes) are =
    let other : (two == 120) ≡ false = grind (arith, are.2.0, are.2.1) in
    by (nat_le 2 (suc (suc (length bytes)))) (one == 48) (two == 120) other
  where
    by : (long first x : Bool) → x ≡ false → (long && (first && x)) ≡ false
    by true true x is = is
    by true false x is = refl
    by false first x is = refl

-- a number in decimal is read as this number
pub decimal_read : (number : ℕ) → number < 2 ^ 64 → number_of (decimal number) ≡ Some number
decimal_read number fits =
    let is = spelled number fits in
    rw (no_prefix (decimal number) is.digits) (read_in number (decimal number) is.some (is.reads fits))

pub below_is : (bound number place : ℕ) → below bound number ≡ Some place → (number ≡ place) × (number < bound)
below_is bound number place is = (some_one (subst (λ test. (if test then Some number else None) ≡ Some place) met is), grind (arith, met)) where
  met : nat_lt number bound ≡ true
  met = was_met (nat_lt number bound) (Some number) place is

-- a number that was read is below 2^64
behind_bound : (base number last : ℕ) (bytes : List ℕ) → number < 2 ^ 64 → number_behind base number bytes ≡ Some last → last < 2 ^ 64
behind_bound base number last [] fits is = subst (λ n. n < 2 ^ 64) (some_one is) fits
behind_bound base number last (byte ∷ bytes) fits is =
    behind_bound base (number * base + digit_of byte) last bytes (both (nat_lt (digit_of byte) base) (number * base + digit_of byte) met)
    (subst (λ test. (if test then number_behind base (number * base + digit_of byte) bytes else None) ≡ Some last) met is)
  where
    met : (nat_lt (digit_of byte) base && nat_lt (number * base + digit_of byte) (2 ^ 64)) ≡ true
    met = was_met (nat_lt (digit_of byte) base && nat_lt (number * base + digit_of byte) (2 ^ 64)) (number_behind base (number * base + digit_of byte) bytes) last is

    both : (test : Bool) (next : ℕ) → (test && nat_lt next (2 ^ 64)) ≡ true → next < 2 ^ 64
    both true next is = grind (arith, is)
    both false next is = cc

in_bound : (base last : ℕ) (bytes : List ℕ) → number_in base bytes ≡ Some last → last < 2 ^ 64
in_bound base last [] is = cc
in_bound base last (byte ∷ bytes) is = behind_bound base 0 last (byte ∷ bytes) (omega arith) is

pub number_bound : (word : List ℕ) (number : ℕ) → number_of word ≡ Some number → number < 2 ^ 64
number_bound word number is = by (has_prefix word) is where
  by : (test : Bool) → (if test then number_in 16 (drop 2 word) else number_in 10 word) ≡ Some number → number < 2 ^ 64
  by true is = in_bound 16 number (drop 2 word) is
  by false is = in_bound 10 number word is

-- ---- one test after another

-- a word that is this one writes the first, any other what the rest of the tests say
link : {A : Type 0} (word name : List ℕ) (here answer : A) (rest : Option A) (P : Type 0) → (word ≡ name → here ≡ answer → P)
    → (rest ≡ Some answer → P) → (if bytes_eq word name then Some here else rest) ≡ Some answer → P
link word name here answer rest P this other = by (bytes_eq word name) (bytes_eq-Decides word name).0 where
  by : (test : Bool) → (test ≡ true → word ≡ name) → (if test then Some here else rest) ≡ Some answer → P
  by true same is = this (same refl) (some_one is)
  by false same is = other is

or_link : {A : Type 0} (first second : Option A) (answer : A) (P : Type 0) → (first ≡ Some answer → P) → (second ≡ Some answer → P)
    → or_else first second ≡ Some answer → P
or_link (Some here) second answer P this other is = this is
or_link None second answer P this other is = other is

map_link : {A B : Type 0} (f : A → B) (read : Option A) (answer : B) → option_map f read ≡ Some answer
    → (here : A) × (read ≡ Some here) × (f here ≡ answer)
map_link f (Some here) answer is = (here, refl, some_one is)
map_link f None answer is = cc

pub bind_link : {A B : Type 0} (read : Option A) (next : A → Option B) (answer : B) → (read >>= next) ≡ Some answer
    → (here : A) × (read ≡ Some here) × (next here ≡ Some answer)
bind_link (Some here) next answer is = (here, refl, is)
bind_link None next answer is = cc

-- ---- values

-- where a word comes from that writes a value: it is the value's own word, or `ok`, or a name of a status or of a
-- refusal, or the value's own word writes it too
pub data Comes (scope : Scope) (sort : Sort) (word : List ℕ) (value : Value) : Type 0 where
  itself : word ≡ own_word value → Comes scope sort word value
  fine : word ≡ codes "ok" → Comes scope sort word value
  status : (one : Named) → Contains scope.statuses.now one → one.name.now ≡ word → Comes scope sort word value
  refusal : (one : Named) → Contains scope.refusals.now one → one.name.now ≡ word → Comes scope sort word value
  owned : ReadsAs scope sort (own_word value) value → Comes scope sort word value

found_name : (table : List Named) (word : List ℕ) (one : Named) → find (λ (one : Named). bytes_eq word one.name.now) table ≡ Some one
    → Contains table one × (one.name.now ≡ word)
found_name [] word one = λ is. cc
found_name (first ∷ table) word one =
    link word first.name.now first one (find (λ (one : Named). bytes_eq word one.name.now) table) (Contains (first ∷ table) one × (one.name.now ≡ word))
    (λ is same. subst (λ (one : Named). Contains (first ∷ table) one × (one.name.now ≡ word)) same ((0, omega arith, refl), sym is))
    (λ is. let more = found_name table word one is in ((suc more.0.0, omega (arith, more.0.1), more.0.2), more.1))

in_table : (table : List Named) (word : List ℕ) (value : Value) → value_in table word ≡ Some value
    → (one : Named) × Contains table one × (one.name.now ≡ word)
in_table table word value is =
    let found = map_link (λ (one : Named). one.value) (find (λ (one : Named). bytes_eq word one.name.now) table) value is in
    let named = found_name table word found.0 found.1 in
    (found.0, named.0, named.1)

-- the own word of an owner writes it
record Owns (value : Value) : Type 0 where
  named : owner_value (own_word value) ≡ Some value
  whole : is_word_text (own_word value) ≡ true
  bare : bytes_eq (own_word value) (codes "device") ≡ false

pub device_read : (device : ℕ) → device < 64 → device_named (codes "D" ++ decimal device) ≡ Some device
device_read device less =
    let is = spelled device (omega (arith, less)) in
    let some : nat_lt 0 (length (68 ∷ decimal device)) ≡ true = grind arith in
    let low : nat_lt device 64 ≡ true = grind (arith, less) in
    rw (some, read_in device (decimal device) is.some (is.reads (omega (arith, less))), low) refl

owns_device : (device : ℕ) → device < 64 → Owns (of_value.Owner (owner.Device (record { 0 = device })))
owns_device device less =
    let is = spelled device (omega (arith, less)) in
    record {
      named = rw (device_read device less) refl;
      whole = digits_are_words (decimal device) is.digits;
      bare = refl;
    }

pub device_bound : (word : List ℕ) (device : ℕ) → device_named word ≡ Some device → device < 64
device_bound word device is = by (nat_lt 0 (length word) && (get_or word 0 0 == 68)) is where
  by : (test : Bool) → (if test then number_in 10 (drop 1 word) >>= below 64 else None) ≡ Some device → device < 64
  by true is =
      let read = bind_link (number_in 10 (drop 1 word)) (below 64) device is in
      let low = below_is 64 read.0 device read.2 in
      subst (λ n. n < 64) low.0 low.1
  by false is = cc

owns : (word : List ℕ) (value : Value) → owner_value word ≡ Some value → Owns value
owns word value =
    link word (codes "originator") (of_value.Owner owner.Originator) value _ (Owns value)
    (λ is same. subst Owns same (record { named = refl; whole = refl; bare = refl }))
    (link word (codes "ended") (of_value.Owner owner.Ended) value _ (Owns value)
    (λ is same. subst Owns same (record { named = refl; whole = refl; bare = refl }))
    (link word (codes "none") of_value.Missing value _ (Owns value)
    (λ is same. subst Owns same (record { named = refl; whole = refl; bare = refl }))
    (λ is. let read = map_link (λ (device : ℕ). of_value.Owner (owner.Device (record { 0 = device }))) (device_named word) value is in
    subst Owns read.2 (owns_device read.0 (device_bound word read.0 read.1)))))

-- digits are no owner, no noun
digits_no_owner : (bytes : List ℕ) → 0 < length bytes → AreDigits bytes
    → (owner_value bytes ≡ None) × (is_word_text bytes ≡ true) × (bytes_eq bytes (codes "device") ≡ false)
digits_no_owner [] some are = absurd (omega (arith, some))
digits_no_owner (byte ∷ bytes) some are =
    let not_o : (byte == 111) ≡ false = grind (arith, are.0, are.1) in
    let not_e : (byte == 101) ≡ false = grind (arith, are.0, are.1) in
    let not_n : (byte == 110) ≡ false = grind (arith, are.0, are.1) in
    let not_D : (byte == 68) ≡ false = grind (arith, are.0, are.1) in
    let not_d : (byte == 100) ≡ false = grind (arith, are.0, are.1) in
    (rw (not_o, not_e, not_n, not_D) (none (nat_lt 0 (length (byte ∷ bytes)))), digits_are_words (byte ∷ bytes) are, rw not_d refl)
  where
    none : (test : Bool) → option_map (λ (device : ℕ). of_value.Owner (owner.Device (record { 0 = device }))) (if test && false then number_in 10 bytes >>= below 64 else None) ≡ None
    none true = refl
    none false = refl

number_owned : (scope : Scope) (sort : Sort) (word : List ℕ) (number : ℕ) (value : Value) → number_of word ≡ Some number
    → of_value.Number number ≡ value → (sort ≡ of_sort.Reply) ⊎ (sort ≡ of_sort.Number) → Comes scope sort word value
number_owned scope sort word number value is same which =
    subst (λ (value : Value). Comes scope sort word value) same (by which)
  where
    fits : number < 2 ^ 64
    fits = number_bound word number is

    digits : Spelled number (decimal number)
    digits = spelled number fits

    plain : (owner_value (decimal number) ≡ None) × (is_word_text (decimal number) ≡ true) × (bytes_eq (decimal number) (codes "device") ≡ false)
    plain = digits_no_owner (decimal number) digits.some digits.digits

    reply : ReadsAs scope of_sort.Reply (decimal number) (of_value.Number number)
    reply = record { whole = plain.1; bare = plain.2; named = rw (plain.0, decimal_read number fits) refl }

    numeral : ReadsAs scope of_sort.Number (decimal number) (of_value.Number number)
    numeral = record { whole = plain.1; bare = refl; named = rw (decimal_read number fits) refl }

    by : (sort ≡ of_sort.Reply) ⊎ (sort ≡ of_sort.Number) → Comes scope sort word (of_value.Number number)
    by (inl is) = subst (λ (sort : Sort). Comes scope sort word (of_value.Number number)) (sym is) (owned reply)
    by (inr is) = subst (λ (sort : Sort). Comes scope sort word (of_value.Number number)) (sym is) (owned numeral)

number_comes : (scope : Scope) (sort : Sort) (word : List ℕ) (value : Value) → (sort ≡ of_sort.Reply) ⊎ (sort ≡ of_sort.Number)
    → number_value scope.statuses.now word ≡ Some value → Comes scope sort word value
number_comes scope sort word value which =
    or_link (option_map of_value.Number (number_of word)) (value_in scope.statuses.now word) value (Comes scope sort word value)
    (λ is. let read = map_link of_value.Number (number_of word) value is in number_owned scope sort word read.0 value read.1 read.2 which)
    (λ is. let one = in_table scope.statuses.now word value is in status one.0 one.1 one.2)

truth_comes : (scope : Scope) (sort : Sort) (word : List ℕ) (value : Value) → truth_value word ≡ Some value → Comes scope sort word value
truth_comes scope sort word value =
    link word (codes "true") (of_value.Truth true) value _ (Comes scope sort word value)
    (λ is same. itself (is ∙ ap own_word same))
    (link word (codes "false") (of_value.Truth false) value _ (Comes scope sort word value) (λ is same. itself (is ∙ ap own_word same)) (λ is. cc))

-- the word is the answer's, or `ok`
abbrev Tells : List ℕ → Answer → Type 0
Tells word told = (word ≡ word_of_answer told) ⊎ (word ≡ codes "ok")

next : (word : List ℕ) (told here : Answer) (rest : Option Answer) → (rest ≡ Some told → Tells word told)
    → (if bytes_eq word (word_of_answer here) then Some here else rest) ≡ Some told → Tells word told
next word told here rest =
    link word (word_of_answer here) here told rest (Tells word told) (λ is same. inl (is ∙ ap word_of_answer same))

done_or_ok : (word : List ℕ) (told : Answer) (rest : Option Answer) → (rest ≡ Some told → Tells word told)
    → (if bytes_eq word (codes "done") || bytes_eq word (codes "ok") then Some answer.Done else rest) ≡ Some told → Tells word told
done_or_ok word told rest other =
    by (bytes_eq word (codes "done")) (bytes_eq word (codes "ok")) (bytes_eq-Decides word (codes "done")).0 (bytes_eq-Decides word (codes "ok")).0
  where
    by : (one two : Bool) → (one ≡ true → word ≡ codes "done") → (two ≡ true → word ≡ codes "ok")
        → (if one || two then Some answer.Done else rest) ≡ Some told → Tells word told
    by true two one_is two_is is = inl (one_is refl ∙ ap word_of_answer (some_one is))
    by false true one_is two_is is = inr (two_is refl)
    by false false one_is two_is is = other is

answer_tells : (word : List ℕ) (told : Answer) → answer_named word ≡ Some told → Tells word told
answer_tells word told =
    done_or_ok word told _ (next word told answer.SeatFull _ (next word told answer.NotHeld _
    (next word told answer.AlreadyRemoving _ (next word told answer.NoLock _ (next word told answer.Yes _
    (next word told answer.Busy _ (next word told answer.Standing _ (next word told answer.Taken _
    (next word told answer.Lost _ (next word told answer.Nothing _ (next word told answer.Used _
    (next word told answer.NotStanding _ (next word told answer.NoSlot _ (next word told answer.NoToken _ (λ is. cc)))))))))))))))

answer_comes : (scope : Scope) (sort : Sort) (word : List ℕ) (value : Value)
    → answer_value scope.refusals.now word ≡ Some value → Comes scope sort word value
answer_comes scope sort word value =
    or_link (value_in scope.refusals.now word) (option_map of_value.Answer (answer_named word)) value (Comes scope sort word value)
    (λ is. let one = in_table scope.refusals.now word value is in refusal one.0 one.1 one.2)
    (λ is. let read = map_link of_value.Answer (answer_named word) value is in by read.0 read.2 (answer_tells word read.0 read.1))
  where
    by : (told : Answer) → of_value.Answer told ≡ value → Tells word told → Comes scope sort word value
    by told same (inl is) = itself (is ∙ ap own_word same)
    by told same (inr is) = fine is

owner_comes : (scope : Scope) (word : List ℕ) (value : Value) → owner_value word ≡ Some value → ReadsAs scope of_sort.Owner (own_word value) value
owner_comes scope word value is =
    let own = owns word value is in record { whole = own.whole; bare = own.bare; named = own.named }

reply_owner_comes : (scope : Scope) (word : List ℕ) (value : Value) → owner_value word ≡ Some value → ReadsAs scope of_sort.Reply (own_word value) value
reply_owner_comes scope word value is =
    let own = owns word value is in record { whole = own.whole; bare = own.bare; named = rw own.named refl }

-- where the word comes from that is read as a value
pub comes : (scope : Scope) (sort : Sort) (word : List ℕ) (value : Value) → ReadsAs scope sort word value → Comes scope sort word value
comes scope of_sort.Owner word value reads = owned (owner_comes scope word value reads.named)
comes scope of_sort.Truth word value reads = truth_comes scope of_sort.Truth word value reads.named
comes scope of_sort.Number word value reads = number_comes scope of_sort.Number word value (inr refl) reads.named
comes scope of_sort.Reply word value reads =
    or_link (owner_value word) (or_else (number_value scope.statuses.now word) (or_else (truth_value word) (answer_value scope.refusals.now word))) value
    (Comes scope of_sort.Reply word value) (λ is. owned (reply_owner_comes scope word value is))
    (or_link (number_value scope.statuses.now word) (or_else (truth_value word) (answer_value scope.refusals.now word)) value
    (Comes scope of_sort.Reply word value) (number_comes scope of_sort.Reply word value (inl refl))
    (or_link (truth_value word) (answer_value scope.refusals.now word) value (Comes scope of_sort.Reply word value)
    (truth_comes scope of_sort.Reply word value) (answer_comes scope of_sort.Reply word value))) reads.named

-- a word that is read as a value wherever `ok` and the names are, where the value's own word isn't read as it
pub writes : (scope : Scope) (sort : Sort) (value : Value) (word : List ℕ) → (ReadsAs scope sort (own_word value) value → ⊥)
    → (ReadsAs scope sort (codes "ok") value → ReadsAs scope sort word value)
    → ((one : Named) → Contains scope.statuses.now one → ReadsAs scope sort one.name.now value → ReadsAs scope sort word value)
    → ((one : Named) → Contains scope.refusals.now one → ReadsAs scope sort one.name.now value → ReadsAs scope sort word value)
    → WritesValue scope sort value word
writes scope sort value word not_own ok statuses refusals other reads = by (comes scope sort other value reads) where
  at : (name : List ℕ) → other ≡ name → ReadsAs scope sort name value
  at name is = subst (λ (name : List ℕ). ReadsAs scope sort name value) is reads

  by : Comes scope sort other value → ReadsAs scope sort word value
  by (itself is) = absurd (not_own (at (own_word value) is))
  by (fine is) = ok (at (codes "ok") is)
  by (status one has is) = statuses one has (at one.name.now (sym is))
  by (refusal one has is) = refusals one has (at one.name.now (sym is))
  by (owned own) = absurd (not_own own)
