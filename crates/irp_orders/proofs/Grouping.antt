-- Outcomes that are joined in groups.
use Rattle.std.proofs.Common.{ℕ, zero, suc, ◌≡◌, ◌⊎◌, inl, inr, refl, sym, ◌∙◌, ap, subst, ◌+◌, ◌<◌, ◌==◌, min, List, [], ◌∷◌, ◌++◌, length, set, Bool, true, false, Option, Some, All, Global, arith, reverse, append_assoc, length-append}
use Rattle.std.specs.Prelude.{if◌then◌else◌, slice_get, Vec}
use Rattle.std.proofs.lemmas.List.{length-set}
use Rattle.std.proofs.lemmas.Option.{slice_get_within, slice_get-map, get_or_from_slice_get, slice_get-get_or}
use Rattle.std.proofs.lemmas.List.{append-nil, reverse-append, reverse-reverse}
use Rattle.std.proofs.lemmas.List.Elements.{All-push, All-weaker}
use Rattle.std.proofs.lemmas.List.Sorted.{Contains-permutation, IsPermutation-sym}
use Rattle.std.specs.List.Sorted.{IsPermutation}
use Rattle.std.specs.Option.{IsSomeAnd, option_map}
use Rattle.irp_machine.specs.declared.outcome.Outcome.{Outcome}
use Rattle.irp_plain.specs.declared.answered.Answered.{Answered}
use Rattle.irp_orders.specs.Alike.{AreAlike}
use Rattle.irp_orders.specs.Founds.{outcomes_of}
use Rattle.irp_orders.specs.Rows.{IsOwn, members_of, most_orders, all_orders, IsGroup, AreGroupedBy, AreGrouped, AreMadeOf, joined_row, Joins}
use Rattle.irp_orders.specs.declared.found.Found.{Found}

members_more : (group : ℕ) (founds : List Found) (numbers : List ℕ) (found : Found) (number : ℕ) → length numbers ≡ length founds
    → members_of group (founds ++ found ∷ []) (numbers ++ number ∷ []) ≡ members_of group founds numbers ++ (if number == group then found ∷ [] else [])
members_more group [] [] found number same = refl
members_more group [] (other ∷ numbers) found number same = absurd (omega (arith, same))
members_more group (one ∷ founds) [] found number same = absurd (omega (arith, same))
members_more group (one ∷ founds) (other ∷ numbers) found number same =
    by (other == group) (members_more group founds numbers found number (omega (arith, same)))
  where
    by : (test : Bool) → members_of group (founds ++ found ∷ []) (numbers ++ number ∷ []) ≡ members_of group founds numbers ++ (if number == group then found ∷ [] else [])
        → (if test then one ∷ members_of group (founds ++ found ∷ []) (numbers ++ number ∷ []) else members_of group (founds ++ found ∷ []) (numbers ++ number ∷ []))
        ≡ (if test then one ∷ members_of group founds numbers else members_of group founds numbers) ++ (if number == group then found ∷ [] else [])
    by true is = ap (λ (members : List Found). one ∷ members) is
    by false is = is

members_none : (group : ℕ) (founds : List Found) (numbers : List ℕ) → All (λ number. number < group) numbers → members_of group founds numbers ≡ []
members_none group [] numbers low = refl
members_none group (one ∷ founds) [] low = refl
members_none group (one ∷ founds) (other ∷ numbers) low =
    let here : other < group = low 0 other (omega arith) in
    let apart : (other == group) ≡ false = grind (arith, here) in
    rw apart (members_none group founds numbers (λ k d within. low (suc k) d (omega (arith, within))))

orders_more : (orders : ℕ) (founds : List Found) (found : Found) → all_orders orders (founds ++ found ∷ []) ≡ min (all_orders orders founds + found.orders) most_orders
orders_more orders [] found = refl
orders_more orders (one ∷ founds) found = orders_more (min (orders + one.orders) most_orders) founds found

-- what is alike a row is alike its first member
alike_first : (row first found : Found) → row.outcome ≡ first.outcome → row.answers ≡ first.answers → AreAlike row found → AreAlike first found
alike_first row first found outcome answers alike =
    let ended : AreAlike (record first { outcome = row.outcome; answers = row.answers }) found = record {
      same = record { answers = alike.same.answers; slots = alike.same.slots; locks = alike.same.locks; devices = alike.same.devices };
      pairs = alike.pairs;
      once = alike.once;
      uses = alike.uses;
      packets = alike.packets;
    } in
    subst (λ (outcome : Outcome). AreAlike (record first { outcome = outcome }) found) outcome
    (subst (λ (answers : Vec (Option Answered) Global). AreAlike (record first { outcome = row.outcome; answers = answers }) found) answers ended)

-- one more member of a row
member_more : (row found : Found) (members : List Found) → IsGroup row members → AreAlike row found
    → IsGroup (joined_row row found) (members ++ found ∷ [])
member_more row found members is alike =
    let long : length (members ++ found ∷ []) ≡ length members + 1 = length-append members (found ∷ []) in
    let told = is.joined in
    record {
      first = is.first;
      others = is.others ++ found ∷ [];
      members_are = ap (λ (members : List Found). members ++ found ∷ []) is.members_are;
      alike = All-push (AreAlike is.first) is.others found is.alike (alike_first row is.first found is.outcome is.answers alike);
      outcome = is.outcome;
      answers = is.answers;
      orders = ap (λ orders. min (orders + found.orders) most_orders) is.orders ∙ sym (orders_more is.first.orders is.others found);
      joined = omega (arith, long, told);
    }

alone : (found : Found) → IsOwn found → IsGroup found (found ∷ [])
alone found own =
    let one = own.joined in
    record {
      first = found;
      others = [];
      members_are = refl;
      alike = λ k d low. absurd (omega (arith, low));
      outcome = refl;
      answers = refl;
      orders = refl;
      joined = omega (arith, one);
    }

get_set : (rows : List Found) (number other : ℕ) (row : Found) → (number ≡ other → ⊥) → slice_get (set rows number row) other ≡ slice_get rows other
get_set [] number other row apart = refl
get_set (one ∷ rows) zero zero row apart = absurd (apart refl)
get_set (one ∷ rows) zero (suc other) row apart = refl
get_set (one ∷ rows) (suc number) zero row apart = refl
get_set (one ∷ rows) (suc number) (suc other) row apart = get_set rows number other row (λ same. apart (ap suc same))

get_at : (rows : List Found) (number : ℕ) (row other : Found) → slice_get (set rows number row) number ≡ Some other → other ≡ row
get_at [] number row other is = cc
get_at (one ∷ rows) zero row other is = sym (some_is is) where
  some_is : {one two : Found} → Some one ≡ Some two → one ≡ two
  some_is same = cc
get_at (one ∷ rows) (suc number) row other is = get_at rows number row other is

get_last : (rows : List Found) (found other : Found) (number : ℕ) → slice_get (rows ++ found ∷ []) number ≡ Some other
    → (slice_get rows number ≡ Some other) ⊎ ((number ≡ length rows) × (other ≡ found))
get_last [] found other zero is = inr (refl, cc)
get_last [] found other (suc number) is = cc
get_last (one ∷ rows) found other zero is = inl is
get_last (one ∷ rows) found other (suc number) is = by (get_last rows found other number is) where
  by : (slice_get rows number ≡ Some other) ⊎ ((number ≡ length rows) × (other ≡ found))
      → (slice_get rows number ≡ Some other) ⊎ ((suc number ≡ suc (length rows)) × (other ≡ found))
  by (inl is) = inl is
  by (inr is) = inr (ap suc is.0, is.1)

long_more : (founds : List Found) (numbers : List ℕ) (found : Found) (number : ℕ) → length numbers ≡ length founds
    → length (numbers ++ number ∷ []) ≡ length (founds ++ found ∷ [])
long_more founds numbers found number same =
    length-append numbers (number ∷ []) ∙ ap (λ n. n + 1) same ∙ sym (length-append founds (found ∷ []))

-- one more outcome in a group
grouped_in : (founds rows : List Found) (found : Found) (numbers : List ℕ) (number : ℕ) (row : Found) → AreGroupedBy founds rows numbers
    → slice_get rows number ≡ Some row → AreAlike row found
    → AreGroupedBy (founds ++ found ∷ []) (set rows number (joined_row row found)) (numbers ++ number ∷ [])
grouped_in founds rows found numbers number row grouped stands alike = record {
  each = long_more founds numbers found number grouped.each;
  within =
      subst (λ long. All (λ number. number < long) (numbers ++ number ∷ [])) (sym (length-set rows number (joined_row row found)))
      (All-push (λ (number : ℕ). number < length rows) numbers number grouped.within (slice_get_within rows number row stands));
  groups = λ k other is. by k other is (number == k) refl;
}
  where
    with_found : (k : ℕ) (test : Bool) → (number == k) ≡ test
        → members_of k (founds ++ found ∷ []) (numbers ++ number ∷ []) ≡ members_of k founds numbers ++ (if test then found ∷ [] else [])
    with_found k test same =
        members_more k founds numbers found number grouped.each ∙ ap (λ (test : Bool). members_of k founds numbers ++ (if test then found ∷ [] else [])) same

    by : (k : ℕ) (other : Found) → slice_get (set rows number (joined_row row found)) k ≡ Some other → (test : Bool) → (number == k) ≡ test
        → IsGroup other (members_of k (founds ++ found ∷ []) (numbers ++ number ∷ []))
    by k other is true same =
        let here : number ≡ k = grind (arith, same) in
        let other_is = get_at rows number (joined_row row found) other
        (subst (λ n. slice_get (set rows number (joined_row row found)) n ≡ Some other) (sym here) is) in
        subst (λ (row : Found). IsGroup row (members_of k (founds ++ found ∷ []) (numbers ++ number ∷ []))) (sym other_is)
        (subst (λ (members : List Found). IsGroup (joined_row row found) members) (sym (with_found k true same))
        (member_more row found (members_of k founds numbers)
        (subst (λ n. IsGroup row (members_of n founds numbers)) here (grouped.groups number row stands)) alike))
    by k other is false apart =
        let same = get_set rows number k (joined_row row found) (λ here. let met : (number == k) ≡ true = grind (arith, here) in cc) in
        subst (λ (members : List Found). IsGroup other members) (sym (with_found k false apart ∙ append-nil (members_of k founds numbers)))
        (grouped.groups k other (sym same ∙ is))

-- one more group, of one outcome
grouped_last : (founds rows : List Found) (found : Found) (numbers : List ℕ) → AreGroupedBy founds rows numbers → IsOwn found
    → AreGroupedBy (founds ++ found ∷ []) (rows ++ found ∷ []) (numbers ++ length rows ∷ [])
grouped_last founds rows found numbers grouped own = record {
  each = long_more founds numbers found (length rows) grouped.each;
  within =
      subst (λ long. All (λ number. number < long) (numbers ++ length rows ∷ [])) (sym (length-append rows (found ∷ [])))
      (All-push (λ (number : ℕ). number < length rows + 1) numbers (length rows)
      (All-weaker (λ (number : ℕ). number < length rows) (λ (number : ℕ). number < length rows + 1) (λ number low. omega (arith, low)) numbers grouped.within) (omega arith));
  groups = λ k other is. by k other (get_last rows found other k is);
}
  where
    with_found : (k : ℕ) (test : Bool) → (length rows == k) ≡ test
        → members_of k (founds ++ found ∷ []) (numbers ++ length rows ∷ []) ≡ members_of k founds numbers ++ (if test then found ∷ [] else [])
    with_found k test same =
        members_more k founds numbers found (length rows) grouped.each ∙ ap (λ (test : Bool). members_of k founds numbers ++ (if test then found ∷ [] else [])) same

    by : (k : ℕ) (other : Found) → (slice_get rows k ≡ Some other) ⊎ ((k ≡ length rows) × (other ≡ found))
        → IsGroup other (members_of k (founds ++ found ∷ []) (numbers ++ length rows ∷ []))
    by k other (inl is) =
        let low = slice_get_within rows k other is in
        let apart : (length rows == k) ≡ false = grind (arith, low) in
        subst (λ (members : List Found). IsGroup other members) (sym (with_found k false apart ∙ append-nil (members_of k founds numbers)))
        (grouped.groups k other is)
    by k other (inr is) =
        let here : (length rows == k) ≡ true = grind (arith, is.0) in
        let none = members_none k founds numbers (subst (λ n. All (λ number. number < n) numbers) (sym is.0) grouped.within) in
        subst (λ (row : Found). IsGroup row (members_of k (founds ++ found ∷ []) (numbers ++ length rows ∷ []))) (sym is.1)
        (subst (λ (members : List Found). IsGroup found members)
        (sym (with_found k true here ∙ ap (λ (members : List Found). members ++ found ∷ []) none)) (alone found own))

pub grouped_more : (founds rows new : List Found) (found : Found) → AreGrouped founds rows → IsOwn found → Joins rows found new
    → AreGrouped (founds ++ found ∷ []) new
grouped_more founds rows new found grouped own joins = by joins.made where
  by : ((row : Found) × (slice_get rows joins.number ≡ Some row) × AreAlike row found × (new ≡ set rows joins.number (joined_row row found)))
      ⊎ ((joins.number ≡ length rows) × (new ≡ rows ++ found ∷ [])) → AreGrouped (founds ++ found ∷ []) new
  by (inl made) =
      subst (λ (new : List Found). AreGrouped (founds ++ found ∷ []) new) (sym made.3)
      (grouped.0 ++ joins.number ∷ [], grouped_in founds rows found grouped.0 joins.number made.0 grouped.1 made.1 made.2)
  by (inr made) =
      subst (λ (new : List Found). AreGrouped (founds ++ found ∷ []) new) (sym made.1)
      (grouped.0 ++ length rows ∷ [], grouped_last founds rows found grouped.0 grouped.1 own)

pub grouped_none : AreGrouped [] []
grouped_none = ([], record { each = refl; within = λ k d less. absurd (omega (arith, less)); groups = λ k row is. none k row is })
  where
    none : (k : ℕ) (row : Found) → slice_get [] k ≡ Some row → IsGroup row (members_of k [] [])
    none k row is = cc

pub twice : (founds turned : List Found) → turned ≡ reverse founds → founds ≡ reverse turned
twice founds turned is = sym (reverse-reverse founds) ∙ ap (λ (founds : List Found). reverse founds) (sym is)

own_middle : (front back : List Found) (found : Found) → All IsOwn (front ++ found ∷ back) → IsOwn found
own_middle [] back found all = all 0 found (omega arith)
own_middle (one ∷ front) back found all = own_middle front back found (λ k d less. all (suc k) d (omega (arith, less)))

-- one more outcome was taken from the end, where the outcomes stand the other way round
pub taken : (all done before rest : List Found) (found : Found) (rows new : List Found) → all ≡ done ++ reverse before → before ≡ rest ++ found ∷ []
    → AreGrouped done rows → All IsOwn all → Joins rows found new → (more : List Found) × (all ≡ more ++ reverse rest) × AreGrouped more new
taken all done before rest found rows new are took grouped own joins =
    let turned : reverse before ≡ found ∷ reverse rest = ap (λ (founds : List Found). reverse founds) took ∙ reverse-append rest (found ∷ []) in
    let whole : all ≡ done ++ found ∷ reverse rest = are ∙ ap (λ (founds : List Found). done ++ founds) turned in (
      done ++ found ∷ [],
      whole ∙ sym (append_assoc done (found ∷ []) (reverse rest)),
      grouped_more done rows new found grouped (own_middle done (reverse rest) found (subst (λ (all : List Found). All IsOwn all) whole own)) joins,
    )

pub grouped_all : (all done rest rows : List Found) → all ≡ done ++ reverse rest → rest ≡ [] → AreGrouped done rows → AreGrouped all rows
grouped_all all done rest rows are none grouped =
    let same : all ≡ done = are ∙ ap (λ (founds : List Found). done ++ reverse founds) none ∙ append-nil done in
    subst (λ (all : List Found). AreGrouped all rows) (sym same) grouped

pub alike_at : (rows : List Found) (number : ℕ) (row found : Found) → slice_get rows number ≡ Some row
    → IsSomeAnd (slice_get rows number) (λ row. AreAlike row found) → AreAlike row found
alike_at rows number row found is alike = subst (λ (one : Option Found). IsSomeAnd one (λ row. AreAlike row found)) is alike

-- ---- which outcome a row shows

-- the outcome of a member is one of those that were put into groups
member_from : (group : ℕ) (founds : List Found) (numbers : List ℕ) (first : Found) (others : List Found) → members_of group founds numbers ≡ first ∷ others
    → (k : ℕ) × (slice_get founds k ≡ Some first)
member_from group [] numbers first others is = cc
member_from group (one ∷ founds) [] first others is = cc
member_from group (one ∷ founds) (number ∷ numbers) first others is =
    by (number == group) is (λ more. member_from group founds numbers first others more)
  where
    by : (test : Bool) → (if test then one ∷ members_of group founds numbers else members_of group founds numbers) ≡ first ∷ others
        → (members_of group founds numbers ≡ first ∷ others → (k : ℕ) × (slice_get founds k ≡ Some first))
        → (k : ℕ) × (slice_get (one ∷ founds) k ≡ Some first)
    by true is more = (0, cc)
    by false is more = let there = more is in (suc there.0, there.1)

outcome_at : (founds : List Found) (k : ℕ) (found : Found) → slice_get founds k ≡ Some found → slice_get (outcomes_of founds) k ≡ Some found.outcome
outcome_at founds k found is =
    slice_get-map (λ (found : Found). found.outcome) founds k ∙ ap (λ (one : Option Found). option_map (λ (found : Found). found.outcome) one) is

-- the outcome of each row is one of those that were found
pub row_from : (in_groups : Bool) (founds rows : List Found) (place : ℕ) (row : Found) → AreMadeOf in_groups founds rows → slice_get rows place ≡ Some row
    → (k : ℕ) × (slice_get (outcomes_of founds) k ≡ Some row.outcome)
row_from false founds rows place row same is = (place, outcome_at founds place row (subst (λ (rows : List Found). slice_get rows place ≡ Some row) same is))
row_from true founds rows place row made is =
    let at = permuted_at made.0 rows place row made.2 is in
    let group = made.1.1.groups at.0 row at.1 in
    let from = member_from at.0 founds made.1.0 group.first group.others group.members_are in
    (from.0, outcome_at founds from.0 group.first from.1 ∙ ap Some (sym group.outcome))
  where
    permuted_at : (groups rows : List Found) (place : ℕ) (row : Found) → IsPermutation groups rows → slice_get rows place ≡ Some row
        → (k : ℕ) × (slice_get groups k ≡ Some row)
    permuted_at groups rows place row permuted is =
        let has = Contains-permutation rows groups row (IsPermutation-sym groups rows permuted)
        (place, slice_get_within rows place row is, get_or_from_slice_get rows place row row is) in
        (has.0, slice_get-get_or groups has.0 row has.1 ∙ ap Some has.2)
