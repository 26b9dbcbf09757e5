-- What a step adds to the calls of seats.
use Rattle.std.proofs.Common.{◌≡◌, ◌≤◌, ◌<◌, ◌+◌, ◌==◌, ℕ, zero, suc, Bool, true, false, cond, eq-eqb, None, List, [], ◌∷◌, ◌++◌, length, map, get_or, set, refl, sym, ap, ◌∙◌, arith}
use Rattle.std.specs.List.{cons_option, count_by}
use Rattle.std.proofs.lemmas.List.{append-nil, append_assoc}
use Rattle.std.proofs.lemmas.List.Elements.{filter_map-append}
use Rattle.std.proofs.lemmas.List.Sums.{sum_by-cons}
use Rattle.irp_types.specs.Calls.{Call}
use Rattle.irp_steps.specs.StepKinds.{kind_of}
use Rattle.irp_script.specs.Made.{SeatCalls, NoneTwice, call_by, calls_of, once_made}
use Rattle.irp_script.specs.Outcomes.{Outcome, nameless_call}
use Rattle.irp_script.specs.Pairs.{Pair}

abbrev with_calls : SeatCalls → List Call → SeatCalls
with_calls before calls = record { pair = before.pair; calls = calls }

-- a step of another seat
other_call : (out : Outcome) (told : SeatCalls) → (told.pair.seat == out.step.seat) ≡ false → once_made (out ∷ []) told ≡ told
other_call out told other =
    ap (λ b. with_calls told (told.calls ++ cons_option (cond b (nameless_call (kind_of out.step.act) out.step.act out.way) None) [])) other
    ∙ ap (with_calls told) (append-nil told.calls)

none_counted : (b : Bool) → ◌≡◌ {A = ℕ} (cond b 1 0) 0 → b ≡ false
none_counted true is = absurd (omega arith)
none_counted false is = refl

count_first : {S : Type 0} (f : S → SeatCalls) (number : ℕ) (x : S) (xs : List S)
    → count_by (λ (pair : Pair). pair.seat == number) (map (λ s. (f s).pair) (x ∷ xs)) ≡ cond ((f x).pair.seat == number) 1 0 + count_by (λ (pair : Pair). pair.seat == number) (map (λ s. (f s).pair) xs)
count_first f number x xs = sum_by-cons _ ((f x).pair) (map (λ s. (f s).pair) xs)

counted_there : {S : Type 0} (f : S → SeatCalls) (seats : List S) (at : ℕ) (one : S) (number : ℕ) → at < length seats → (f (get_or seats at one)).pair.seat ≡ number
    → 1 ≤ count_by (λ (pair : Pair). pair.seat == number) (map (λ s. (f s).pair) seats)
counted_there f [] at one number lt is = absurd (omega arith)
counted_there f (x ∷ xs) zero one number lt is =
    let here : ◌≡◌ {A = ℕ} (cond ((f x).pair.seat == number) 1 0) 1 = ap (λ b. cond b 1 0) (eq-eqb (f x).pair.seat number is) in
    let sum = count_first f number x xs in
    omega (arith, here, sum)
counted_there f (x ∷ xs) (suc at) one number lt is =
    let rest : 1 ≤ count_by (λ (pair : Pair). pair.seat == number) (map (λ s. (f s).pair) xs) = counted_there f xs at one number (omega arith) is in
    let sum = count_first f number x xs in
    omega (arith, rest, sum)

others_stay : {S : Type 0} (f : S → SeatCalls) (seats : List S) (out : Outcome) → count_by (λ (pair : Pair). pair.seat == out.step.seat) (map (λ s. (f s).pair) seats) ≡ 0
    → map (once_made (out ∷ [])) (map f seats) ≡ map f seats
others_stay f [] out none = refl
others_stay f (x ∷ xs) out none =
    let sum = count_first f out.step.seat x xs in
    let first : ◌≡◌ {A = ℕ} (cond ((f x).pair.seat == out.step.seat) 1 0) 0 = omega (arith, sum, none) in
    let rest : count_by (λ (pair : Pair). pair.seat == out.step.seat) (map (λ s. (f s).pair) xs) ≡ 0 = omega (arith, sum, none) in
    ap (λ told. told ∷ map (once_made (out ∷ [])) (map f xs)) (other_call out (f x) (none_counted ((f x).pair.seat == out.step.seat) first)) ∙ ap (λ told. f x ∷ told) (others_stay f xs out rest)

once_behind : {S : Type 0} (f : S → SeatCalls) (x : S) (xs : List S) → NoneTwice (map (λ s. (f s).pair) (x ∷ xs)) → NoneTwice (map (λ s. (f s).pair) xs)
once_behind f x xs once number =
    let sum = count_first f number x xs in
    let few = once number in
    omega (arith, sum, few)

-- a step that its seat has made, where no other has its number
pub called_at : {S : Type 0} (f : S → SeatCalls) (seats : List S) (at : ℕ) (new one : S) (out : Outcome) → at < length seats
    → (f (get_or seats at one)).pair.seat ≡ out.step.seat → f new ≡ once_made (out ∷ []) (f (get_or seats at one))
    → NoneTwice (map (λ s. (f s).pair) seats) → map f (set seats at new) ≡ map (once_made (out ∷ [])) (map f seats)
called_at f [] at new one out lt own is once = absurd (omega arith)
called_at f (x ∷ xs) zero new one out lt own is once =
    let here : ◌≡◌ {A = ℕ} (cond ((f x).pair.seat == out.step.seat) 1 0) 1 = ap (λ b. cond b 1 0) (eq-eqb (f x).pair.seat out.step.seat own) in
    let sum = count_first f out.step.seat x xs in
    let few = once out.step.seat in
    let none : count_by (λ (pair : Pair). pair.seat == out.step.seat) (map (λ s. (f s).pair) xs) ≡ 0 = omega (arith, here, sum, few) in
    ap (λ told. told ∷ map f xs) is ∙ ap (λ told. once_made (out ∷ []) (f x) ∷ told) (sym (others_stay f xs out none))
called_at f (x ∷ xs) (suc at) new one out lt own is once =
    let some = counted_there f xs at one out.step.seat (omega arith) own in
    let sum = count_first f out.step.seat x xs in
    let few = once out.step.seat in
    let first : ◌≡◌ {A = ℕ} (cond ((f x).pair.seat == out.step.seat) 1 0) 0 = omega (arith, some, sum, few) in
    ap (λ told. told ∷ map f (set xs at new)) (sym (other_call out (f x) (none_counted ((f x).pair.seat == out.step.seat) first)))
    ∙ ap (λ told. once_made (out ∷ []) (f x) ∷ told) (called_at f xs at new one out (omega arith) own is (once_behind f x xs once))

-- no step, and some steps behind others
pub once_none : (all : List SeatCalls) → map (once_made []) all ≡ all
once_none [] = refl
once_none (x ∷ all) = ap (λ told. told ∷ map (once_made []) all) (ap (with_calls x) (append-nil x.calls)) ∙ ap (λ told. x ∷ told) (once_none all)

one_behind : (xs ys : List Outcome) (told : SeatCalls) → once_made (xs ++ ys) told ≡ once_made ys (once_made xs told)
one_behind xs ys told =
    ap (with_calls told) (ap (λ more. told.calls ++ more) (filter_map-append (call_by told.pair.seat) xs ys)
    ∙ sym (append_assoc told.calls (calls_of told.pair.seat xs) (calls_of told.pair.seat ys)))

pub once_both : (xs ys : List Outcome) (all : List SeatCalls) → map (once_made (xs ++ ys)) all ≡ map (once_made ys) (map (once_made xs) all)
once_both xs ys [] = refl
once_both xs ys (x ∷ all) = ap (λ told. told ∷ map (once_made (xs ++ ys)) all) (one_behind xs ys x) ∙ ap (λ told. once_made ys (once_made xs x) ∷ told) (once_both xs ys all)
