-- A text is cut at its first dots in one way.
use Rattle.std.proofs.Common.{arith, ◌≤◌, Bool, true, false, cond, drop, zero, suc, ◌≡◌, ◌<◌, ℕ, List, [], ◌∷◌, ◌++◌, Option, None, Some, IfSome, MatchOption, Bor, length, ◌≢◌, inl, inr, refl, sym, subst, ◌∙◌}
use lib.ListN.{get_or}
use Rattle.std.proofs.lemmas.Str.Pattern.{IsSplitOnceResult, split_after, split_parts}
use Rattle.std.proofs.lemmas.Str.Parse.{digit_at}
use Rattle.std.specs.Option.{is_some}
use Rattle.std.proofs.lemmas.Bool.{eqb-true}
use Rattle.std.proofs.Math.Dec.{eqb}
use Rattle.std.specs.Str.Parse.{AllDigits, without_leading_plus}
use Rattle.irp_view.specs.Joined.{IsJoined, IsNumber}
use Rattle.irp_command_line.specs.CommandLine.{Writes}
use Rattle.irp_view.specs.Spans.{HasNoDot, OrNone, IsParted, IsPlace, IsSpan, last_place}
use Rattle.irp_view.specs.declared.orders.Span.{Span}

-- where a text is parted, the cut at its first dot gives the text before it, and a dot before the text behind
pub cut_so : (text from to : List ℕ) (found : Option (Bor (List ℕ) × Bor (List ℕ))) → IsSplitOnceResult 46 text found → IsParted text from to
    → MatchOption found ⊥ (λ x. (x.0.now ≡ from) × (x.1.now ≡ 46 ∷ to))
cut_so text from to found cut parted = split_after 46 text from (46 ∷ to) found cut (omega arith) parted.0 parted.1

-- so it is cut
pub never_whole : (text from to : List ℕ) (found : Option (Bor (List ℕ) × Bor (List ℕ))) → IsSplitOnceResult 46 text found → IsParted text from to → found ≡ None → ⊥
never_whole text from to found cut parted none =
    subst (λ this. MatchOption this ⊥ (λ x. (x.0.now ≡ from) × (x.1.now ≡ 46 ∷ to))) none (cut_so text from to found cut parted)

pub cut_is : (text from to : List ℕ) (found : Option (Bor (List ℕ) × Bor (List ℕ))) (x : Bor (List ℕ) × Bor (List ℕ)) → IsSplitOnceResult 46 text found → IsParted text from to → found ≡ Some x
    → (x.0.now ≡ from) × (x.1.now ≡ 46 ∷ to)
cut_is text from to found x cut parted some =
    subst (λ this. MatchOption this ⊥ (λ x. (x.0.now ≡ from) × (x.1.now ≡ 46 ∷ to))) some (cut_so text from to found cut parted)

-- what the cut gives
pub cut_gives : (text : List ℕ) (found : Option (Bor (List ℕ) × Bor (List ℕ))) (x : Bor (List ℕ) × Bor (List ℕ)) → IsSplitOnceResult 46 text found → found ≡ Some x
    → (text ≡ x.0.now ++ (46 ∷ x.1.now)) × HasNoDot x.0.now
cut_gives text found x cut some =
    subst (λ this. MatchOption this ((i : ℕ) → i < length text → get_or text i 0 ≢ 46) (λ x. (text ≡ x.0.now ++ (46 ∷ x.1.now)) × HasNoDot x.0.now)) some (split_parts 46 text found cut (omega arith))

digits_have_no_dot : (text : List ℕ) → AllDigits 10 text → HasNoDot text
digits_have_no_dot text digits at within dot =
    let range = digit_at text at digits within in
    let low : get_or text at 0 ≤ 57 = range.1 in
    let high : 48 ≤ get_or text at 0 = range.0 in
    let is : get_or text at 0 ≡ 46 = dot in
    omega (arith, low, high, is)

behind_plus : (first : ℕ) (rest : List ℕ) → first ≡ 43 → AllDigits 10 rest → HasNoDot (first ∷ rest)
behind_plus first rest plus digits zero within dot = let is : first ≡ 46 = dot in omega (arith, plus, is)
behind_plus first rest plus digits (suc at) within dot =
    let less : suc at < suc (length rest) = within in
    digits_have_no_dot rest digits at (omega (arith, less)) dot

by_first : (first : ℕ) (rest : List ℕ) (is_plus : Bool) → eqb first 43 ≡ is_plus → AllDigits 10 (drop (cond is_plus 1 0) (first ∷ rest)) → HasNoDot (first ∷ rest)
by_first first rest true is digits = behind_plus first rest (eqb-true first 43 is) digits
by_first first rest false is digits = digits_have_no_dot (first ∷ rest) digits

number_has_no_dot : (text : List ℕ) → AllDigits 10 (without_leading_plus text) → HasNoDot text
number_has_no_dot [] digits at within dot = let none : at < 0 = within in absurd (omega (arith, none))
number_has_no_dot (first ∷ rest) digits at within dot = by_first first rest (eqb first 43) refl digits at within dot

-- a place is written without a dot
pub place_has_no_dot : (missing : ℕ) (text : List ℕ) (place : ℕ) → IsPlace missing text place → HasNoDot text
place_has_no_dot missing text place (inl (empty, is)) = subst HasNoDot (sym empty) (number_has_no_dot [] tt)
place_has_no_dot missing text place (inr written) = number_has_no_dot text written.0.1

-- the parts of a span's text are its first ones
pub span_is_parted : (text : List ℕ) (span : Span) (is : IsSpan text span) → IsParted text is.from is.to
span_is_parted text span is = (is.parts, place_has_no_dot 0 is.from span.from is.begins)

-- the parts that were found are those of any span of the text
pub parts_are : (text : List ℕ) (found : Option (Bor (List ℕ) × Bor (List ℕ))) (x : Bor (List ℕ) × Bor (List ℕ)) (span : Span) (is : IsSpan text span)
    → ((from to : List ℕ) → IsParted text from to → IfSome found (λ this. (this.0.now ≡ from) × (this.1.now ≡ to))) → found ≡ Some x
    → IsPlace 0 x.0.now span.from × IsPlace last_place x.1.now span.to
parts_are text found x span is alone some =
    let are : (x.0.now ≡ is.from) × (x.1.now ≡ is.to) =
    subst (λ this. IfSome this (λ this. (this.0.now ≡ is.from) × (this.1.now ≡ is.to))) some (alone is.from is.to (span_is_parted text span is)) in
    (subst (λ this. IsPlace 0 this span.from) (sym are.0) is.begins, subst (λ this. IsPlace last_place this span.to) (sym are.1) is.ends)

no_digits : (text : List ℕ) → text ≡ [] → 0 < length (without_leading_plus text) → ⊥
no_digits text empty some = let none : 0 < 0 = subst (λ this. 0 < length (without_leading_plus this)) empty some in omega (arith, none)

-- two places of a text are one
pub place_is : (missing : ℕ) (text : List ℕ) (one other : ℕ) → IsPlace missing text one → IsPlace missing text other → one ≡ other
place_is missing text one other (inl a) (inl b) = a.1 ∙ sym b.1
place_is missing text one other (inl a) (inr b) = absurd (no_digits text a.0 b.0.0)
place_is missing text one other (inr a) (inl b) = absurd (no_digits text b.0 a.0.0)
place_is missing text one other (inr a) (inr b) = a.2 ∙ sym b.2

-- where a part is no place, the text names no span
pub no_place : (missing : ℕ) (text : List ℕ) (found : Option ℕ) → OrNone (IsPlace missing text) found → found ≡ None → (place : ℕ) → IsPlace missing text place → ⊥
no_place missing text found first none = subst (OrNone (IsPlace missing text)) none first

-- a place that was found
pub found_place : (missing : ℕ) (text : List ℕ) (found : Option ℕ) (place : ℕ) → OrNone (IsPlace missing text) found → found ≡ Some place → IsPlace missing text place
found_place missing text found place first some = subst (OrNone (IsPlace missing text)) some first

-- a text that writes a number has no dot
pub number_text_has_no_dot : (text : List ℕ) → IsNumber text → HasNoDot text
number_text_has_no_dot text (number, (numeral, fits, is)) = number_has_no_dot text numeral.1

-- a word that names a use is cut so
pub joined_cut : (word slot use_no : List ℕ) (found : Option (Bor (List ℕ) × Bor (List ℕ))) → IsSplitOnceResult 46 word found → IsJoined word slot use_no
    → MatchOption found ⊥ (λ x. (x.0.now ≡ slot) × (x.1.now ≡ use_no))
joined_cut word slot use_no found cut (parts, slot_is, use_is) = split_after 46 word slot use_no found cut (omega arith) parts (number_text_has_no_dot slot slot_is)

pub never_joined : (word slot use_no : List ℕ) (found : Option (Bor (List ℕ) × Bor (List ℕ))) → IsSplitOnceResult 46 word found → IsJoined word slot use_no → found ≡ None → ⊥
never_joined word slot use_no found cut joined none =
    subst (λ this. MatchOption this ⊥ (λ x. (x.0.now ≡ slot) × (x.1.now ≡ use_no))) none (joined_cut word slot use_no found cut joined)

-- both halves of a word that names a use are numbers
pub halves_are : (word slot use_no : List ℕ) (found : Option (Bor (List ℕ) × Bor (List ℕ))) (x : Bor (List ℕ) × Bor (List ℕ)) → IsSplitOnceResult 46 word found → IsJoined word slot use_no → found ≡ Some x
    → IsNumber x.0.now × IsNumber x.1.now
halves_are word slot use_no found x cut joined some =
    let are : (x.0.now ≡ slot) × (x.1.now ≡ use_no) = subst (λ this. MatchOption this ⊥ (λ x. (x.0.now ≡ slot) × (x.1.now ≡ use_no))) some (joined_cut word slot use_no found cut joined) in
    (subst IsNumber (sym are.0) (slot_of joined), subst IsNumber (sym are.1) (use_of joined))
  where
    slot_of : IsJoined word slot use_no → IsNumber slot
    slot_of (parts, slot_is, use_is) = slot_is

    use_of : IsJoined word slot use_no → IsNumber use_no
    use_of (parts, slot_is, use_is) = use_is

abbrev is_so : Bool → Type 0
is_so true = Unit {0}
is_so false = ⊥

-- what isn't read as a number writes none
pub not_number : (text : List ℕ) (found : Option ℕ) → OrNone (Writes text) found → is_some found ≡ false → IsNumber text → ⊥
not_number text None first none (number, writes) = first number writes
not_number text (Some read) first none number = subst is_so none tt
