-- A script has one header.
use Rattle.std.proofs.Common.{◌≡◌, ◌+◌, ◌<◌, zero, suc, List, [], ◌∷◌, Contains, refl, sym, ap, subst, ◌∙◌, ◌⊎◌, inl, inr, arith}
use Rattle.std.specs.Prelude.{slice_index, IsPermutation}
use Rattle.std.specs.List.Sorted.{IsStrictlyIncreasing}
use Rattle.std.proofs.lemmas.List.Sorted.{Contains-permutation, IsPermutation-sym}
use Rattle.irp_types.specs.State.{Entrance}
use Rattle.irp_transcript.specs.Headers.{majors}
use Rattle.irp_transcript.specs.declared.header.Header.{Header}
use Rattle.irp_script_reader.specs.declared.script.ScriptParts.{ScriptParts}
use Rattle.irp_machine.specs.Headers.{AreSorted, IsHeaderOf}

-- each pair's code is below the next one's
abbrev Rise : List Entrance → Type 0
Rise [] = Unit {0}
Rise (one ∷ []) = Unit {0}
Rise (one ∷ next ∷ others) = (one.0 < next.0) × Rise (next ∷ others)

rise_of : (pairs : List Entrance) → IsStrictlyIncreasing (majors pairs) → Rise pairs
rise_of [] rising = tt
rise_of (one ∷ []) rising = tt
rise_of (one ∷ next ∷ others) rising = (
  rising 0 (omega arith),
  rise_of (next ∷ others) (λ place within.
      let moved : suc place + 1 ≡ suc (place + 1) = omega arith in
      subst (λ n. slice_index (majors (next ∷ others)) place < slice_index (majors (one ∷ next ∷ others)) n) moved (rising (suc place) (omega (arith, within)))),
)

rise_next : (one : Entrance) (others : List Entrance) → Rise (one ∷ others) → Rise others
rise_next one [] rise = tt
rise_next one (next ∷ others) rise = rise.1

-- a member is the first, or behind it
first_or : (one : Entrance) (others : List Entrance) (pair : Entrance) → Contains (one ∷ others) pair → (one ≡ pair) ⊎ Contains others pair
first_or one others pair (zero, below, is) = inl is
first_or one others pair (suc place, below, is) = inr (place, omega (arith, below), is)

first_in : (one : Entrance) (others : List Entrance) → Contains (one ∷ others) one
first_in one others = (zero, omega arith, refl)

behind_in : (one : Entrance) (others : List Entrance) (pair : Entrance) → Contains others pair → Contains (one ∷ others) pair
behind_in one others pair held = (suc held.0, (let within = held.1 in omega (arith, within)), held.2)

none_in : (pair : Entrance) → Contains [] pair → ⊥
none_in pair held = let within = held.1 in omega (arith, within)

-- the codes behind are higher
above : (one : Entrance) (others : List Entrance) (pair : Entrance) → Rise (one ∷ others) → Contains others pair → one.0 < pair.0
above one [] pair rise held = absurd (none_in pair held)
above one (next ∷ others) pair rise held =
    elim (first_or next others pair held) as (λ _. one.0 < pair.0) [
      | inl same ↦ subst (λ (pair : Entrance). one.0 < pair.0) same rise.0
      | inr later ↦ (let first = rise.0 in let second = above next others pair rise.1 later in omega (arith, first, second))
    ]

same_first : (one other : Entrance) (ones others : List Entrance) → Rise (one ∷ ones) → Rise (other ∷ others)
    → Contains (other ∷ others) one → Contains (one ∷ ones) other → one ≡ other
same_first one other ones others first second there back =
    elim (first_or other others one there) as (λ _. one ≡ other) [
      | inl same ↦ sym same
      | inr later ↦
          elim (first_or one ones other back) as (λ _. one ≡ other) [
            | inl same ↦ same
            | inr behind ↦ (let low = above other others one second later in let high = above one ones other first behind in absurd (omega (arith, low, high)))
          ]
    ]

behind_of : (one other : Entrance) (ones others : List Entrance) (pair : Entrance) → one ≡ other → Rise (one ∷ ones)
    → Contains ones pair → Contains (other ∷ others) pair → Contains others pair
behind_of one other ones others pair same rise held there =
    elim (first_or other others pair there) as (λ _. Contains others pair) [
      | inl is ↦ (let high = above one ones pair rise held in
          let code : one.0 ≡ pair.0 = ap (λ (pair : Entrance). pair.0) (same ∙ is) in absurd (omega (arith, high, code)))
      | inr later ↦ later
    ]

same_pairs : (ones others : List Entrance) → Rise ones → Rise others
    → ((pair : Entrance) → Contains ones pair → Contains others pair) → ((pair : Entrance) → Contains others pair → Contains ones pair) → ones ≡ others
same_pairs [] [] first second there back = refl
same_pairs [] (other ∷ others) first second there back = absurd (none_in other (back other (first_in other others)))
same_pairs (one ∷ ones) [] first second there back = absurd (none_in one (there one (first_in one ones)))
same_pairs (one ∷ ones) (other ∷ others) first second there back =
    let same = same_first one other ones others first second (there one (first_in one ones)) (back other (first_in other others)) in
    let rest = same_pairs ones others (rise_next one ones first) (rise_next other others second)
    (λ pair held. behind_of one other ones others pair same first held (there pair (behind_in one ones pair held)))
    (λ pair held. behind_of other one others ones pair (sym same) second held (back pair (behind_in other others pair held))) in
    ap (λ (first : Entrance). first ∷ ones) same ∙ ap (λ (rest : List Entrance). other ∷ rest) rest

-- two rising orders of the same pairs are one
sorted_once : (pairs one other : List Entrance) → IsPermutation pairs one → IsPermutation pairs other
    → IsStrictlyIncreasing (majors one) → IsStrictlyIncreasing (majors other) → one ≡ other
sorted_once pairs one other first second rising rising_too =
    same_pairs one other (rise_of one rising) (rise_of other rising_too)
    (λ pair held. Contains-permutation pairs other pair second (Contains-permutation one pairs pair (IsPermutation-sym pairs one first) held))
    (λ pair held. Contains-permutation pairs one pair first (Contains-permutation other pairs pair (IsPermutation-sym pairs other second) held))

drivers_once : (drivers ones others : List (List Entrance)) → AreSorted drivers ones → AreSorted drivers others → ones ≡ others
drivers_once [] [] [] sorted sorted_too = refl
drivers_once [] [] (other ∷ others) sorted sorted_too = absurd sorted_too
drivers_once [] (one ∷ ones) others sorted sorted_too = absurd sorted
drivers_once (driver ∷ drivers) [] others sorted sorted_too = absurd sorted
drivers_once (driver ∷ drivers) (one ∷ ones) [] sorted sorted_too = absurd sorted_too
drivers_once (driver ∷ drivers) (one ∷ ones) (other ∷ others) sorted sorted_too =
    let same = sorted_once driver one other sorted.0.pairs sorted_too.0.pairs sorted.0.rising sorted_too.0.rising in
    let rest = drivers_once drivers ones others sorted.1 sorted_too.1 in
    ap (λ (first : List Entrance). first ∷ ones) same ∙ ap (λ (rest : List (List Entrance)). other ∷ rest) rest

pub header_once : (script : ScriptParts) (one other : Header) → IsHeaderOf script one → IsHeaderOf script other → one ≡ other
header_once script one other is is_too =
    let cancels = is.cancels ∙ sym is_too.cancels in
    let completions = is.completions ∙ sym is_too.completions in
    let dispatches = is.dispatches ∙ sym is_too.dispatches in
    let drivers = drivers_once script.drivers one.drivers other.drivers is.drivers is_too.drivers in
    let form = is.form ∙ sym is_too.form in
    let locks = is.locks ∙ sym is_too.locks in
    let seats = is.seats ∙ sym is_too.seats in λ i. record {
      cancels = cancels i;
      completions = completions i;
      dispatches = dispatches i;
      drivers = drivers i;
      form = form i;
      locks = locks i;
      seats = seats i;
    }
