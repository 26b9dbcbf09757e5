-- Seats that have each number below a count once: a sum over them is a sum over the numbers, so every entry of a history
-- that they have whole is of one of them.
use Rattle.std.proofs.Common.{◌≡◌, ℕ, zero, suc, ◌+◌, ◌<◌, ◌≤◌, ◌==◌, ◌||◌, Bool, true, false, List, [], ◌∷◌, length, refl, sym, ap, ◌∙◌, cond, arith}
use Rattle.std.specs.Prelude.{All, sum_by, nat_lt}
use Rattle.std.specs.List.{list_any}
use Rattle.std.proofs.lemmas.List.Elements.{All-cons, All-head, All-nil, All-tail}
use Rattle.std.proofs.lemmas.List.Sums.{sum_by-cons, length-filter}
use Rattle.std.proofs.lemmas.Bool.Decides.{nat_tests}
use Rattle.irp_types.specs.Histories.{own_entries}
use Rattle.irp_types.specs.declared.entry.Entry.{Entry}
use Rattle.irp_manager.specs.Seats.{Seated}
use Rattle.irp_shared.specs.Closing.{AllHere, IsKept, count_of}
use Rattle.irp_transcript.proofs.Each.{no_truth}

-- the sum over the numbers below this one
sum_below : (ℕ → ℕ) → ℕ → ℕ
sum_below f zero = 0
sum_below f (suc n) = f n + sum_below f n

-- the list without the first item that passes
without : {T : Type 0} → (T → Bool) → List T → List T
without is [] = []
without is (item ∷ items) = cond (is item) items (item ∷ without is items)

or_second : (one other : Bool) → one ≡ false → (one || other) ≡ true → other ≡ true
or_second true other differs found = absurd (no_truth (sym differs))
or_second false other differs found = found

or_then : (one before after : Bool) → (before ≡ true → after ≡ true) → (one || before) ≡ true → (one || after) ≡ true
or_then true before after step found = refl
or_then false before after step found = step found

sum_at : {T : Type 0} (f : T → ℕ) (value : ℕ) (test : Bool) (item : T) (items fewer : List T) → (test ≡ true → f item ≡ value) → (test ≡ false → sum_by f items ≡ value + sum_by f fewer) → sum_by f (item ∷ items) ≡ value + sum_by f (cond test items (item ∷ fewer))
sum_at f value true item items fewer here there = omega (arith, sum_by-cons f item items, here refl)
sum_at f value false item items fewer here there = omega (arith, sum_by-cons f item items, sum_by-cons f item fewer, there refl)

sum_without : {T : Type 0} (f : T → ℕ) (value : ℕ) (is : T → Bool) (items : List T) → ((item : T) → is item ≡ true → f item ≡ value) → list_any is items ≡ true → sum_by f items ≡ value + sum_by f (without is items)
unfolding without
sum_without f value is [] same found = absurd (no_truth found)
sum_without f value is (item ∷ items) same found =
    sum_at f value (is item) item items (without is items) (same item) (λ fails. sum_without f value is items same (or_second (is item) (list_any is items) fails found))

length_at : {T : Type 0} (test : Bool) (item : T) (items fewer : List T) → (test ≡ false → length items ≡ suc (length fewer)) → suc (length items) ≡ suc (length (cond test items (item ∷ fewer)))
length_at true item items fewer there = refl
length_at false item items fewer there = ap suc (there refl)

length_without : {T : Type 0} (is : T → Bool) (items : List T) → list_any is items ≡ true → length items ≡ suc (length (without is items))
unfolding without
length_without is [] found = absurd (no_truth found)
length_without is (item ∷ items) found =
    length_at (is item) item items (without is items) (λ fails. length_without is items (or_second (is item) (list_any is items) fails found))

any_at : {T : Type 0} (other : T → Bool) (test : Bool) (item : T) (items fewer : List T) → (test ≡ true → other item ≡ false) → (list_any other items ≡ true → list_any other fewer ≡ true) → list_any other (item ∷ items) ≡ true → list_any other (cond test items (item ∷ fewer)) ≡ true
any_at other true item items fewer differs step found = or_second (other item) (list_any other items) (differs refl) found
any_at other false item items fewer differs step found = or_then (other item) (list_any other items) (list_any other fewer) step found

any_without : {T : Type 0} (other is : T → Bool) (items : List T) → ((item : T) → is item ≡ true → other item ≡ false) → list_any other items ≡ true → list_any other (without is items) ≡ true
unfolding without
any_without other is [] differs found = found
any_without other is (item ∷ items) differs found =
    any_at other (is item) item items (without is items) (differs item) (any_without other is items differs) found

same_number : (one other : ℕ) → (one == other) ≡ true → one ≡ other
same_number one other is = grind (arith, nat_tests)

other_number : (one most fewer : ℕ) → fewer < most → (one == most) ≡ true → (one == fewer) ≡ false
other_number one most fewer within is = grind (arith, nat_tests)

-- a sum over seats, each number of which is there once
sum_of_seats : (f : ℕ → ℕ) (count : ℕ) (seats : List Seated) → AllHere seats count → sum_by (λ (seat : Seated). f seat.number) seats ≡ sum_below f count
unfolding sum_below
sum_of_seats f zero [] here = refl
sum_of_seats f zero (seat ∷ seats) here = absurd (omega (arith, here.0))
sum_of_seats f (suc count) seats here =
    let has : Seated → Bool = λ (seat : Seated). seat.number == count in
    let found : list_any has seats ≡ true = here.1 count (omega arith) in
    let fewer : length (without has seats) ≡ count = omega (arith, length_without has seats found, here.0) in
    let each : (number : ℕ) → number < count → list_any (λ (seat : Seated). seat.number == number) (without has seats) ≡ true =
    λ number within. any_without (λ (seat : Seated). seat.number == number) has seats (λ (seat : Seated) is. other_number seat.number count number within is) (here.1 number (omega (arith, within))) in
    sum_without (λ (seat : Seated). f seat.number) (f count) has seats (λ (seat : Seated) is. ap f (same_number seat.number count is)) found
    ∙ ap (λ (rest : ℕ). f count + rest) (sum_of_seats f count (without has seats) (fewer, each))

-- how many entries have a seat below this number
count_below : ℕ → List Entry → ℕ
count_below count history = sum_by (λ (entry : Entry). cond (nat_lt entry.seat count) 1 0) history

sum_split : {T : Type 0} (all one other : T → ℕ) (items : List T) → ((item : T) → all item ≡ one item + other item) → sum_by all items ≡ sum_by one items + sum_by other items
sum_split all one other [] each = refl
sum_split all one other (item ∷ items) each =
    omega (arith, sum_by-cons all item items, sum_by-cons one item items, sum_by-cons other item items, each item, sum_split all one other items each)

none_at_zero : (number : ℕ) → cond {A = ℕ} (nat_lt number 0) 1 0 ≡ 0
none_at_zero number = grind (arith, nat_tests)

none_below : (history : List Entry) → 0 ≡ count_below 0 history
unfolding count_below
none_below [] = refl
none_below (entry ∷ entries) = omega (arith, sum_by-cons (λ (entry : Entry). cond (nat_lt entry.seat 0) 1 0) entry entries, none_at_zero entry.seat, none_below entries)

one_more : (number count : ℕ) → cond {A = ℕ} (nat_lt number (suc count)) 1 0 ≡ cond (number == count) 1 0 + cond (nat_lt number count) 1 0
one_more number count = grind (arith, nat_tests)

-- the entries of the seats below this number
own_below : (history : List Entry) (count : ℕ) → sum_below (λ seat. length (own_entries history seat)) count ≡ count_below count history
unfolding sum_below count_below
own_below history zero = none_below history
own_below history (suc count) =
    let one = λ (entry : Entry). cond (entry.seat == count) 1 0 in
    let fewer = λ (entry : Entry). cond (nat_lt entry.seat count) 1 0 in
    let all = λ (entry : Entry). cond (nat_lt entry.seat (suc count)) 1 0 in
    let own : length (own_entries history count) ≡ sum_by one history = length-filter (λ (entry : Entry). entry.seat == count) history in
    ap (λ (n : ℕ). n + sum_below (λ seat. length (own_entries history seat)) count) own
    ∙ ap (λ (n : ℕ). sum_by one history + n) (own_below history count)
    ∙ sym (sum_split all one fewer history (λ entry. one_more entry.seat count))

most_below : (count : ℕ) (history : List Entry) → count_below count history ≤ length history
unfolding count_below
most_below count [] = omega arith
most_below count (entry ∷ entries) =
    let step : (test : Bool) → cond {A = ℕ} test 1 0 ≤ 1 = λ test. grind arith in
    omega (arith, sum_by-cons (λ (entry : Entry). cond (nat_lt entry.seat count) 1 0) entry entries, step (nat_lt entry.seat count), most_below count entries)

counted : (test : Bool) (rest size : ℕ) → cond {A = ℕ} test 1 0 + rest ≡ suc size → rest ≤ size → (test ≡ true) × (rest ≡ size)
counted true rest size is most = (refl, omega (arith, is))
counted false rest size is most = absurd (omega (arith, is, most))

is_below : (number count : ℕ) → nat_lt number count ≡ true → number < count
is_below number count is = grind (arith, nat_tests)

all_below : (count : ℕ) (history : List Entry) → count_below count history ≡ length history → All (λ (entry : Entry). entry.seat < count) history
unfolding count_below
all_below count [] is = All-nil (λ (entry : Entry). entry.seat < count)
all_below count (entry ∷ entries) is =
    let first = counted (nat_lt entry.seat count) (count_below count entries) (length entries)
    (sym (sum_by-cons (λ (entry : Entry). cond (nat_lt entry.seat count) 1 0) entry entries) ∙ is) (most_below count entries) in
    All-cons (λ (entry : Entry). entry.seat < count) entry entries (is_below entry.seat count first.0) (all_below count entries first.1)

kept_counts : (history : List Entry) (seats : List Seated) → All (IsKept history) seats → sum_by count_of seats ≡ sum_by (λ (seat : Seated). length (own_entries history seat.number)) seats
kept_counts history [] kept = refl
kept_counts history (seat ∷ seats) kept =
    omega (
      arith,
      sum_by-cons count_of seat seats,
      sum_by-cons (λ (seat : Seated). length (own_entries history seat.number)) seat seats,
      ap length (All-head (IsKept history) seat seats kept),
      kept_counts history seats (All-tail (IsKept history) seat seats kept),
    )

-- each entry of a history that the seats have whole is of one of them
pub all_seated : (history : List Entry) (count : ℕ) (seats : List Seated) → AllHere seats count → All (IsKept history) seats → sum_by count_of seats ≡ length history
    → All (λ (entry : Entry). entry.seat < count) history
all_seated history count seats here kept counts =
    all_below count history
    (sym (own_below history count)
    ∙ sym (sum_of_seats (λ seat. length (own_entries history seat)) count seats here)
    ∙ sym (kept_counts history seats kept)
    ∙ counts)
