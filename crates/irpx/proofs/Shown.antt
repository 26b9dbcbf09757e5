-- What a transcript shows of its script follows of what ran.
use Rattle.std.proofs.Common.{◌≡◌, ◌≤◌, ◌<◌, ◌+◌, ◌==◌, ◌&&◌, ℕ, zero, suc, All, Bool, true, false, cond, Option, Some, List, [], ◌∷◌, ◌++◌, length, map, refl, sym, subst, ap, ◌∙◌, arith}
use Rattle.std.specs.Prelude.{slice_get}
use Rattle.std.specs.Bool.{Decides}
use Rattle.std.specs.Cmp.Lexicographic.{pointwise}
use Rattle.std.specs.List.{count_by}
use Rattle.std.proofs.lemmas.Bool.Decides.{Decides-and, Decides-eqb}
use Rattle.std.proofs.lemmas.List.Elements.{All-head, All-tail}
use Rattle.std.proofs.lemmas.List.Sums.{sum_by-cons}
use Rattle.std.proofs.lemmas.Slice.Eq.{slice_eq-Decides}
use Rattle.irp_types.specs.Calls.{Call}
use Rattle.irp_types.specs.Histories.{own_entries}
use Rattle.irp_types.specs.State.{Fixed}
use Rattle.irp_types.specs.declared.entry.Entry.{Entry}
use Rattle.irp_types.proofs.Deciding.{call, same_call}
use Rattle.irp_manager.specs.Seats.{Seated}
use Rattle.irp_shared.specs.Closing.{IsKept}
use Rattle.irp_shared.specs.Opening.{AreNew}
use Rattle.irp_transcript.specs.Transcripts.{TranscriptValue}
use Rattle.irp_script_reader.specs.declared.script.Script.{Script}
use Rattle.irp_script.specs.Accounts.{called_once, calls_at, pair_at}
use Rattle.irp_script.specs.Made.{NoneTwice, SeatCalls, calls_in, calls_of}
use Rattle.irp_script.specs.Numbers.{EachAsOften}
use Rattle.irp_script.specs.Outcomes.{Outcome, outcomes}
use Rattle.irp_script.specs.Pairs.{Pair}
use Rattle.irp_script.specs.Ran.{Ran, seats_in}
use Rattle.irp_script.specs.Stops.{terms_of}
use Rattle.irp_script.specs.Told.{IsTold}
use Rattle.irp_script.specs.Working.{AtWork}
use Rattle.irp_script.specs.declared.stop.Stop.{Stop}
use Rattle.irp_script.proofs.Accounted.{accounted}
use Rattle.irp_script.proofs.Numbers.{count_map}
use Rattle.irpx.specs.Running.{MakesCalls, ShowsSteps}

-- ---- no two new seats have one number

-- the seats from this number on, each numbered by its place
abbrev NumberedFrom : ℕ → List Seated → Type 0
NumberedFrom first seats = (k : ℕ) (seat : Seated) → slice_get seats k ≡ Some seat → seat.number ≡ first + k

abbrev counted : ℕ → List Seated → ℕ
counted number seats = count_by (λ (seat : Seated). seat.number == number) seats

-- at most one has a number, and none has a lower one than the first
once_from : (number first : ℕ) (seats : List Seated) → NumberedFrom first seats → (counted number seats ≤ 1) × (number < first → counted number seats ≤ 0)
once_from number first [] each = (omega arith, λ lt. omega arith)
once_from number first (seat ∷ seats) each =
    let own : seat.number ≡ first + 0 = each 0 seat refl in
    let rest = once_from number (suc first) seats (λ k one is. let next = each (suc k) one is in omega (arith, next)) in
    elim (seat.number == number) as (λ (b : Bool). (b ≡ true → seat.number ≡ number) → counted number (seat ∷ seats) ≡ cond b 1 0 + counted number seats
    → (counted number (seat ∷ seats) ≤ 1) × (number < first → counted number (seat ∷ seats) ≤ 0)) [
      | true ↦ λ tells all.
          let same = tells refl in
          let none = rest.1 (omega (arith, own, same)) in
          (omega (arith, all, none), λ lt. absurd (omega (arith, own, same, lt)))
      | false ↦ λ tells all.
          let few = rest.0 in
          (omega (arith, all, few), λ lt. let none = rest.1 (omega (arith, lt)) in omega (arith, all, none))
    ] (Decides-eqb seat.number number).0 (sum_by-cons (λ (one : Seated). cond (one.number == number) 1 0) seat seats)

new_once : (number count : ℕ) (seats : List Seated) → AreNew count seats → counted number seats ≤ 1
new_once number count seats new = (once_from number 0 seats (λ k seat is. let own = (new.each k seat is).numbered in omega (arith, own))).0

-- ---- what passes a test among as many

counted_at : {X : Type 0} (test : X → Bool) (xs : List X) (k : ℕ) → k < length xs → ((x : X) → slice_get xs k ≡ Some x → test x ≡ true) → 1 ≤ count_by test xs
counted_at test [] k lt passes = absurd (omega (arith, lt))
counted_at test (x ∷ xs) zero lt passes =
    let all = sum_by-cons (λ y. cond (test y) 1 0) x xs in
    let here : ◌≡◌ {A = ℕ} (cond (test x) 1 0) 1 = ap (λ b. cond b 1 0) (passes x refl) in
    omega (arith, all, here)
counted_at test (x ∷ xs) (suc k) lt passes =
    let all = sum_by-cons (λ y. cond (test y) 1 0) x xs in
    let rest = counted_at test xs k (omega (arith, lt)) passes in
    omega (arith, all, rest)

one_counted : {X : Type 0} (test : X → Bool) (P : X → Type 0) (xs : List X) → All P xs → 1 ≤ count_by test xs → (x : X) × (test x ≡ true) × P x
one_counted test P [] each some = absurd (omega (arith, some))
one_counted {X} test P (x ∷ xs) each some =
    let all = sum_by-cons (λ y. cond (test y) 1 0) x xs in
    let found : (b : Bool) → test x ≡ b → (y : X) × (test y ≡ true) × P y =
    (λ b is. elim b as (λ (b : Bool). test x ≡ b → (y : X) × (test y ≡ true) × P y) [
      | true ↦ λ is. (x, is, All-head P x xs each)
      | false ↦ λ is.
          let none : ◌≡◌ {A = ℕ} (cond (test x) 1 0) 0 = ap (λ b. cond b 1 0) is in
          one_counted test P xs (All-tail P x xs each) (omega (arith, all, none, some))
    ] is) in
    found (test x) refl

-- ---- what each has made

abbrev same_calls : List Call → List Call → Bool
same_calls one other = pointwise same_call one other

-- a seat has this number and has made these calls
abbrev has_made : ℕ → List Call → ℕ → List Call → Bool
has_made number calls own made = own == number && same_calls made calls

made_tells : (number : ℕ) (calls : List Call) (own : ℕ) (made : List Call) → Decides (has_made number calls own made) ((own ≡ number) × (made ≡ calls))
made_tells number calls own made = Decides-and (own == number) (same_calls made calls) (Decides-eqb own number) (slice_eq-Decides call made calls (same_calls made calls) refl)

-- new seats that worked and were closed have made the calls of their own steps, and so has the history
made_own : (count : ℕ) (outs : List Outcome) (before after : List AtWork) (closed : List Seated) (entries : List Entry) → AreNew count (seats_in before)
    → (NoneTwice (map pair_at before) → EachAsOften (map (called_once outs) before) (map calls_at after))
    → EachAsOften (seats_in after) closed → All (IsKept entries) closed → MakesCalls count outs entries
made_own count outs before after closed entries new called back kept number lt =
    let calls : List Call = calls_of number outs in
    let once : NoneTwice (map pair_at before) =
    (λ other.
    let pairs = count_map pair_at (λ (pair : Pair). pair.seat == other) before in
    let seats = count_map (λ own. own.seat) (λ (seat : Seated). seat.number == other) before in
    let few = new_once other count (seats_in before) new in
    omega (arith, pairs, seats, few)) in
    let test : SeatCalls → Bool = λ told. has_made number calls told.pair.seat told.calls in
    let make : Seated → Bool = λ seat. has_made number calls seat.number (calls_in seat.entries ++ calls_of seat.number outs) in
    let made : Seated → Bool = λ seat. has_made number calls seat.number (calls_in seat.entries) in
    let there : 1 ≤ count_by make (seats_in before) =
    counted_at make (seats_in before) number (omega (arith, lt, new.counted)) (λ seat is.
    let one = new.each number seat is in
    (made_tells number calls seat.number (calls_in seat.entries ++ calls_of seat.number outs)).1
    (one.numbered, ap (λ (own : List Entry). calls_in own ++ calls_of seat.number outs) one.empty ∙ ap (λ k. calls_of k outs) one.numbered)) in
    let same : count_by made closed ≡ count_by make (seats_in before) =
    back made ∙ count_map (λ own. own.seat) made after ∙ sym (count_map calls_at test after) ∙ called once test
    ∙ count_map (called_once outs) test before ∙ sym (count_map (λ own. own.seat) make before) in
    let found = one_counted made (IsKept entries) closed kept (subst (λ n. 1 ≤ n) (sym same) there) in
    let seat : Seated = found.0 in
    let is = (made_tells number calls seat.number (calls_in seat.entries)).0 found.1 in
    ap (λ k. calls_in (own_entries entries k)) (sym is.0) ∙ ap calls_in found.2 ∙ is.1

-- so is what so many workers ran
pub ran_shows : (workers : ℕ) (script : Script) (fixed : Fixed) (transcript : TranscriptValue) (stop : Option Stop) → 0 < workers → Ran workers script fixed transcript stop → ShowsSteps script transcript stop
ran_shows workers script fixed transcript stop some ran =
    let accounts = accounted (terms_of fixed (IsTold script)) workers (length script.labels) script.setup script.steps ran.before ran.after transcript.words stop some ran.made in
    record {
      ways_first = accounts.ways_first;
      ways = accounts.ways;
      told = accounts.told;
      all_told = accounts.all_told;
      all_made = λ going.
          made_own script.seats (outcomes accounts.ways_first script.setup ++ outcomes accounts.ways script.steps) ran.before ran.after ran.closed transcript.entries
          ran.opened.new (accounts.all_called going) ran.back ran.kept;
    }
