-- What ran accounts for the steps.
use Rattle.std.proofs.Common.{◌≡◌, ◌≤◌, ◌<◌, ◌+◌, ◌==◌, ◌%◌, ℕ, zero, suc, All, Bool, true, cond, eq-eqb, Option, Some, None, List, [], ◌∷◌, ◌++◌, length, map, take, get_or, refl, sym, subst, ap, ◌∙◌, arith}
use Rattle.std.specs.Prelude.{sum_by}
use Rattle.std.specs.List.{count_by, enumerate_from, filter, flat_map}
use Rattle.std.proofs.lemmas.List.{take_all}
use Rattle.std.proofs.lemmas.List.Elements.{All-head, All-tail}
use Rattle.std.proofs.lemmas.Option.{none-some, slice_get-get_or}
use Rattle.irp_transcript.specs.declared.word_line.WordLine.{WordLine}
use Rattle.irp_script_reader.specs.declared.act.Step.{Step}
use Rattle.irp_script.specs.Accounts.{Accounts, calls_at, pair_at}
use Rattle.irp_script.specs.Made.{NoneTwice, SeatCalls, once_made}
use Rattle.irp_script.specs.Numbers.{AreSame, EachAsOften}
use Rattle.irp_script.specs.Outcomes.{Outcome, Made, Ways, is_own_placed, outcome, outcomes, own_placed}
use Rattle.irp_script.specs.Pairs.{Pair}
use Rattle.irp_script.specs.Words.{WordStep, told_by, word_steps}
use Rattle.irp_script.specs.declared.stop.Stop.{Stop}
use Rattle.irp_steps.specs.Conditions.{Heard, none_heard}
use Rattle.irp_script.specs.Labels.{Known, known_to, none_bound}
use Rattle.irp_script.specs.Stops.{Terms}
use Rattle.irp_script.specs.Working.{AtWork, IsOwn, Left, MakesOwn, RunsScript, WorkAfter, WorkApart, Working, working}
use Rattle.irp_script.proofs.Chains.{chained, rising}
use Rattle.irp_script.proofs.Making.{once_both}
use Rattle.irp_script.proofs.Numbers.{count_map, sum_at, sum_at_most, sum_from, sum_same}
use Rattle.irp_script.proofs.Stopping.{none_stopped}
use Rattle.irp_script.proofs.Shares.{calls_own, chosen, count_flat, count_words, first_at_most, own_same, part_at_most, shares, weight, whole}

-- how a worker's own steps came out
record Share (number workers : ℕ) (steps : List Step) (dealt : List AtWork) (one : Left) (ways : Ways) : Type 0 where
  reached : ℕ
  all : one.stop ≡ None → reached ≡ length steps
  told : map told_by one.work.lines ≡ word_steps (map (outcome ways) (own_placed number workers (take reached steps)))
  pairs : map pair_at one.work.seats ≡ map pair_at dealt
  called : NoneTwice (map pair_at dealt) → map calls_at one.work.seats ≡ map (once_made (map (outcome ways) (own_placed number workers (take reached steps)))) (map calls_at dealt)

share_of : (terms : Terms) (number workers : ℕ) (steps : List Step) (known : Known) (heard : Heard) (dealt : List AtWork) (one : Left) → MakesOwn terms number workers steps (working dealt [] known heard) one.work one.stop
    → (ways : Ways) × Share number workers steps dealt one ways
share_of terms number workers steps known heard dealt one made =
    let chain = chained terms.fixed.locks 0 (own_placed number workers (take made.reached steps)) (working dealt [] known heard) one.work (rising (is_own_placed number workers) 0 (take made.reached steps)) made.each in
    (chain.ways, record { reached = made.reached; all = made.all; told = chain.told; pairs = chain.pairs; called = chain.called })

abbrev nothing_left : Left
nothing_left = record { work = working [] [] (none_bound 0) []; stop = None }

abbrev Shares : (workers : ℕ) (steps : List Step) (dealt : List (List AtWork)) (left : List Left) (each : ℕ → Ways) → Type 0
Shares workers steps dealt left each = (k : ℕ) → k < workers → Share k workers steps (get_or dealt k []) (get_or left k nothing_left) (each k)

all_shares : (terms : Terms) (workers : ℕ) (steps : List Step) (known : Known) (ready after : List AtWork) (lines : List WordLine) (stopped : Option Stop) (work : WorkApart terms workers steps known ready after lines stopped)
    → (each : ℕ → Ways) × Shares workers steps work.dealt work.left each
all_shares terms workers steps known ready after lines stopped work =
    chosen (λ k ways. Share k workers steps (get_or work.dealt k []) (get_or work.left k nothing_left) ways) (λ seat place. Made) workers
    (λ k lt. share_of terms k workers steps (known_to k workers steps known) (none_heard steps) (get_or work.dealt k []) (get_or work.left k nothing_left)
    (work.made k (get_or work.dealt k []) (get_or work.left k nothing_left)
    (slice_get-get_or work.dealt k [] (omega (arith, lt, work.many.0))) (slice_get-get_or work.left k nothing_left (omega (arith, lt, work.many.1)))))

-- the words of a worker's own first steps
share_words : (number workers : ℕ) (steps : List Step) (dealt : List AtWork) (one : Left) (each : ℕ → Ways) (share : Share number workers steps dealt one (each number)) (test : WordStep → Bool)
    → count_by (λ line. test (told_by line)) one.work.lines ≡ sum_by (weight test (whole each workers)) (own_placed number workers (take share.reached steps))
share_words number workers steps dealt one each share test =
    sym (count_map told_by test one.work.lines) ∙ ap (count_by test) share.told
    ∙ ap (λ outs. count_by test (word_steps outs)) (own_same each number workers (enumerate_from 0 (take share.reached steps)))
    ∙ count_words test (whole each workers) (own_placed number workers (take share.reached steps))

all_words : (workers : ℕ) (steps : List Step) (each : ℕ → Ways) (test : WordStep → Bool) → 0 < workers
    → sum_from (λ number. sum_by (weight test (whole each workers)) (own_placed number workers steps)) 0 workers ≡ count_by test (word_steps (outcomes (whole each workers) steps))
all_words workers steps each test some =
    shares (weight test (whole each workers)) workers some (enumerate_from 0 steps) ∙ sym (count_words test (whole each workers) (enumerate_from 0 steps))

gathered_words : (left : List Left) (lines : List WordLine) (test : WordStep → Bool) → EachAsOften (flat_map (λ (one : Left). one.work.lines) left) lines
    → count_by test (map told_by lines) ≡ sum_by (λ (one : Left). count_by (λ line. test (told_by line)) one.work.lines) left
gathered_words left lines test told = count_map told_by test lines ∙ told (λ line. test (told_by line)) ∙ count_flat (λ line. test (told_by line)) (λ (one : Left). one.work.lines) left

get_or_any : {A : Type 0} (xs : List A) (k : ℕ) (d e : A) → k < length xs → get_or xs k d ≡ get_or xs k e
get_or_any [] k d e lt = absurd (omega arith)
get_or_any (x ∷ xs) zero d e lt = refl
get_or_any (x ∷ xs) (suc k) d e lt = get_or_any xs k d e (omega arith)

at_this : (k : ℕ) → 0 + k ≡ k
at_this k = omega arith

-- no step has two lines
apart_told : (terms : Terms) (workers : ℕ) (steps : List Step) (known : Known) (ready after : List AtWork) (lines : List WordLine) (stopped : Option Stop) (work : WorkApart terms workers steps known ready after lines stopped)
    (each : ℕ → Ways) → Shares workers steps work.dealt work.left each → 0 < workers → (test : WordStep → Bool)
    → count_by test (map told_by lines) ≤ count_by test (word_steps (outcomes (whole each workers) steps))
apart_told terms workers steps known ready after lines stopped work each share some test =
    let w = weight test (whole each workers) in
    let sum : sum_by (λ (one : Left). count_by (λ line. test (told_by line)) one.work.lines) work.left ≤ sum_from (λ number. sum_by w (own_placed number workers steps)) 0 (length work.left) =
    sum_at_most (λ (one : Left). count_by (λ line. test (told_by line)) one.work.lines) (λ number. sum_by w (own_placed number workers steps)) 0 work.left (λ k one lt.
    let within : k < workers = omega (arith, lt, work.many.1) in
    let here = share k within in
    let words : count_by (λ line. test (told_by line)) (get_or work.left k nothing_left).work.lines ≡ sum_by w (own_placed k workers (take here.reached steps)) = share_words k workers steps (get_or work.dealt k []) (get_or work.left k nothing_left) each here test in
    let most : sum_by w (own_placed k workers (take here.reached steps)) ≤ sum_by w (own_placed k workers steps) = first_at_most w (is_own_placed k workers) here.reached steps in
    let same : get_or work.left k one ≡ get_or work.left k nothing_left = get_or_any work.left k one nothing_left lt in
    let count : count_by (λ line. test (told_by line)) (get_or work.left k one).work.lines ≡ count_by (λ line. test (told_by line)) (get_or work.left k nothing_left).work.lines = ap (λ (one : Left). count_by (λ line. test (told_by line)) one.work.lines) same in
    let place : sum_by w (own_placed (0 + k) workers steps) ≡ sum_by w (own_placed k workers steps) = ap (λ n. sum_by w (own_placed n workers steps)) (at_this k) in
    omega (arith, words, most, count, place)) in
    let long : sum_from (λ number. sum_by w (own_placed number workers steps)) 0 (length work.left) ≡ sum_from (λ number. sum_by w (own_placed number workers steps)) 0 workers = ap (sum_from (λ number. sum_by w (own_placed number workers steps)) 0) work.many.1 in
    let all = all_words workers steps each test some in
    let found = gathered_words work.left lines test work.told in
    omega (arith, sum, long, all, found)

-- each step has its lines, where none was stopped
apart_all_told : (terms : Terms) (workers : ℕ) (steps : List Step) (known : Known) (ready after : List AtWork) (lines : List WordLine) (stopped : Option Stop) (work : WorkApart terms workers steps known ready after lines stopped)
    (each : ℕ → Ways) → Shares workers steps work.dealt work.left each → 0 < workers → stopped ≡ None → (test : WordStep → Bool)
    → count_by test (map told_by lines) ≡ count_by test (word_steps (outcomes (whole each workers) steps))
apart_all_told terms workers steps known ready after lines stopped work each share some going test =
    let w = weight test (whole each workers) in
    gathered_words work.left lines test work.told
    ∙ sum_at (λ (one : Left). count_by (λ line. test (told_by line)) one.work.lines) (λ number. sum_by w (own_placed number workers steps)) 0 work.left (λ k one lt.
    let within : k < workers = omega (arith, lt, work.many.1) in
    let here = share k within in
    let runs = none_stopped (λ (one : Left). one.stop) work.left (sym work.halted ∙ going) k nothing_left lt in
    let all : length steps ≤ here.reached = omega (arith, here.all runs) in
    ap (λ (one : Left). count_by (λ line. test (told_by line)) one.work.lines) (get_or_any work.left k one nothing_left lt)
    ∙ share_words k workers steps (get_or work.dealt k []) (get_or work.left k nothing_left) each here test
    ∙ ap (λ some. sum_by w (own_placed k workers some)) (take_all here.reached steps all)
    ∙ ap (λ n. sum_by w (own_placed n workers steps)) (sym (at_this k)))
    ∙ ap (sum_from (λ number. sum_by w (own_placed number workers steps)) 0) work.many.1
    ∙ all_words workers steps each test some

-- no two of a worker's seats have one number where no two of all have
once_dealt : (terms : Terms) (workers : ℕ) (steps : List Step) (known : Known) (ready after : List AtWork) (lines : List WordLine) (stopped : Option Stop) (work : WorkApart terms workers steps known ready after lines stopped)
    (k : ℕ) → k < workers → NoneTwice (map pair_at ready) → NoneTwice (map pair_at (get_or work.dealt k []))
once_dealt terms workers steps known ready after lines stopped work k lt once number =
    let test : AtWork → Bool = λ own. own.seat.number == number in
    let here = part_at_most (λ seats. count_by test seats) work.dealt k [] (omega (arith, lt, work.many.0)) in
    let flat = count_flat test (λ seats. seats) work.dealt in
    let all = work.seats test in
    let few = once number in
    let pairs = count_map pair_at (λ (pair : Pair). pair.seat == number) (get_or work.dealt k []) in
    let all_pairs = count_map pair_at (λ (pair : Pair). pair.seat == number) ready in
    omega (arith, here, flat, all, few, pairs, all_pairs)

-- a worker's own seats, once all steps are made
once_all : (ways : Ways) (number workers : ℕ) (steps : List Step) (seats : List AtWork) → All (IsOwn number workers) seats
    → map (once_made (map (outcome ways) (own_placed number workers steps))) (map calls_at seats) ≡ map (once_made (outcomes ways steps)) (map calls_at seats)
once_all ways number workers steps [] own = refl
once_all ways number workers steps (seat ∷ seats) own =
    let first : IsOwn number workers seat = All-head (IsOwn number workers) seat seats own in
    let more = once_all ways number workers steps seats (All-tail (IsOwn number workers) seat seats own) in
    let calls = calls_own ways seat.seat.number number workers (enumerate_from 0 steps) first in
    λ i. record { pair = pair_at seat; calls = (calls_at seat).calls ++ calls i } ∷ more i

-- the seats of all workers have made the calls of all steps, where none was stopped
apart_called : (terms : Terms) (workers : ℕ) (steps : List Step) (known : Known) (ready after : List AtWork) (lines : List WordLine) (stopped : Option Stop) (work : WorkApart terms workers steps known ready after lines stopped)
    (each : ℕ → Ways) → Shares workers steps work.dealt work.left each → stopped ≡ None → NoneTwice (map pair_at ready) → (test : SeatCalls → Bool)
    → count_by test (map calls_at after) ≡ count_by (λ (told : SeatCalls). test (once_made (outcomes (whole each workers) steps) told)) (map calls_at ready)
apart_called terms workers steps known ready after lines stopped work each share going once test =
    let outs = outcomes (whole each workers) steps in
    count_map calls_at test after ∙ work.back (λ own. test (calls_at own)) ∙ count_flat (λ own. test (calls_at own)) (λ (one : Left). one.work.seats) work.left
    ∙ sum_same (λ seats. count_by (λ own. test (once_made outs (calls_at own))) seats) (λ (one : Left). count_by (λ own. test (calls_at own)) one.work.seats) work.dealt work.left (work.many.1 ∙ sym work.many.0)
    (λ k d e lt.
    let within : k < workers = omega (arith, lt, work.many.0) in
    let here = share k within in
    let there : k < length work.left = omega (arith, within, work.many.1) in
    let dealt = get_or work.dealt k [] in
    let one = get_or work.left k nothing_left in
    let runs = none_stopped (λ (one : Left). one.stop) work.left (sym work.halted ∙ going) k nothing_left there in
    let all : length steps ≤ here.reached = omega (arith, here.all runs) in
    let own = work.own k dealt (slice_get-get_or work.dealt k [] lt) in
    let calls : map calls_at one.work.seats ≡ map (once_made outs) (map calls_at dealt) =
    here.called (once_dealt terms workers steps known ready after lines stopped work k within once)
    ∙ ap (λ some. map (once_made (map (outcome (each k)) (own_placed k workers some))) (map calls_at dealt)) (take_all here.reached steps all)
    ∙ ap (λ some. map (once_made some) (map calls_at dealt)) (own_same each k workers (enumerate_from 0 steps))
    ∙ once_all (whole each workers) k workers steps dealt own in
    ap (λ (one : Left). count_by (λ own. test (calls_at own)) one.work.seats) (get_or_any work.left k e nothing_left there)
    ∙ sym (count_map calls_at test one.work.seats) ∙ ap (count_by test) calls
    ∙ count_map (once_made outs) test (map calls_at dealt)
    ∙ count_map calls_at (λ (told : SeatCalls). test (once_made outs told)) dealt
    ∙ ap (λ seats. count_by (λ own. test (once_made outs (calls_at own))) seats) (get_or_any work.dealt k [] d lt))
    ∙ sym (count_flat (λ own. test (once_made outs (calls_at own))) (λ seats. seats) work.dealt)
    ∙ work.seats (λ own. test (once_made outs (calls_at own)))
    ∙ sym (count_map calls_at (λ (told : SeatCalls). test (once_made outs told)) ready)

-- the one worker of the setup has all steps
alone_all : (all : List (ℕ × Step)) → filter (is_own_placed 0 1) all ≡ all
alone_all [] = refl
alone_all (x ∷ xs) =
    let own : (x.1.seat % 1 == 0) ≡ true = eq-eqb (x.1.seat % 1) 0 (none_left x.1.seat) in
    ap (λ b. cond b (x ∷ filter (is_own_placed 0 1) xs) (filter (is_own_placed 0 1) xs)) own ∙ ap (λ rest. x ∷ rest) (alone_all xs)
  where
    none_left : (n : ℕ) → n % 1 ≡ 0
    none_left n = omega arith

-- the calls of the setup and then of the steps
both_made : (first last : List Outcome) (seats : List AtWork) (test : SeatCalls → Bool)
    → count_by (λ (told : SeatCalls). test (once_made last told)) (map (once_made first) (map calls_at seats)) ≡ count_by test (map (λ own. once_made (first ++ last) (calls_at own)) seats)
both_made first last seats test =
    sym (count_map (once_made last) test (map (once_made first) (map calls_at seats)))
    ∙ ap (count_by test) (sym (once_both first last (map calls_at seats)) ∙ map_twice (once_made (first ++ last)) calls_at seats)
  where
    map_twice : {A B C : Type 0} (g : B → C) (f : A → B) (xs : List A) → map g (map f xs) ≡ map (λ x. g (f x)) xs
    map_twice g f [] = refl
    map_twice g f (x ∷ xs) = ap (λ rest. g (f x) ∷ rest) (map_twice g f xs)

-- the setup was made whole
setup_called : (terms : Terms) (setup : List Step) (known : Known) (before : List AtWork) (ready : Working) (share : MakesOwn terms 0 1 setup (working before [] known []) ready None)
    → (ways : Ways) × (map pair_at ready.seats ≡ map pair_at before)
    × (NoneTwice (map pair_at before) → map calls_at ready.seats ≡ map (once_made (outcomes ways setup)) (map calls_at before))
setup_called terms setup known before ready made =
    let both = share_of terms 0 1 setup known [] before (record { work = ready; stop = None }) made in
    let share = both.1 in
    let all : length setup ≤ share.reached = omega (arith, share.all refl) in (
      both.0,
      share.pairs,
      λ once.
          share.called once
          ∙ ap (λ some. map (once_made (map (outcome both.0) (own_placed 0 1 some))) (map calls_at before)) (take_all share.reached setup all)
          ∙ ap (λ some. map (once_made (map (outcome both.0) some)) (map calls_at before)) (alone_all (enumerate_from 0 setup)),
    )

accounted_after : (terms : Terms) (workers : ℕ) (setup steps : List Step) (known : Known) (before after : List AtWork) (lines : List WordLine) (stopped : Option Stop) (ready : Working) (halted : Option Stop) → 0 < workers
    → MakesOwn terms 0 1 setup (working before [] known []) ready halted → WorkAfter halted terms workers steps ready.known ready.seats after lines stopped
    → Accounts setup steps before after lines stopped
accounted_after terms workers setup steps known before after lines stopped ready (Some told) some first rest = record {
  ways_first = λ seat place. Made;
  ways = λ seat place. Made;
  told = λ test. let none : count_by test (map told_by lines) ≡ 0 = ap (λ some. count_by test (map told_by some)) rest.1 in omega (arith, none);
  all_told = λ going. absurd (none-some told (sym going ∙ rest.2));
  all_called = λ going. absurd (none-some told (sym going ∙ rest.2));
}
accounted_after terms workers setup steps known before after lines stopped ready None some first rest =
    let shared = all_shares terms workers steps ready.known ready.seats after lines stopped rest in
    let begun = setup_called terms setup known before ready first in
    let ways = whole shared.0 workers in
    record {
      ways_first = begun.0;
      ways = ways;
      told = apart_told terms workers steps ready.known ready.seats after lines stopped rest shared.0 shared.1 some;
      all_told = λ going. apart_all_told terms workers steps ready.known ready.seats after lines stopped rest shared.0 shared.1 some going;
      all_called = λ going once test.
          apart_called terms workers steps ready.known ready.seats after lines stopped rest shared.0 shared.1 going (subst NoneTwice (sym begun.1) once) test
          ∙ ap (count_by (λ (told : SeatCalls). test (once_made (outcomes ways steps) told))) (begun.2 once)
          ∙ both_made (outcomes begun.0 setup) (outcomes ways steps) before test;
    }

pub accounted : (terms : Terms) (workers labels : ℕ) (setup steps : List Step) (before after : List AtWork) (lines : List WordLine) (stopped : Option Stop) → 0 < workers
    → RunsScript terms workers labels setup steps before after lines stopped → Accounts setup steps before after lines stopped
accounted terms workers labels setup steps before after lines stopped some ran =
    accounted_after terms workers setup steps (none_bound labels) before after lines stopped ran.ready ran.halted some ran.first ran.rest

-- each seat is one of those that were handed in
after_pairs : (terms : Terms) (workers : ℕ) (setup steps : List Step) (before after : List AtWork) (lines : List WordLine) (stopped : Option Stop) (ready : Working) (halted : Option Stop)
    → map pair_at ready.seats ≡ map pair_at before → WorkAfter halted terms workers steps ready.known ready.seats after lines stopped
    → EachAsOften (map pair_at before) (map pair_at after)
after_pairs terms workers setup steps before after lines stopped ready (Some told) same rest = λ test. ap (count_by test) (ap (map pair_at) rest.0 ∙ same)
after_pairs terms workers setup steps before after lines stopped ready None same rest = λ test.
    let shared = all_shares terms workers steps ready.known ready.seats after lines stopped rest in
    count_map pair_at test after ∙ rest.back (λ own. test (pair_at own)) ∙ count_flat (λ own. test (pair_at own)) (λ (one : Left). one.work.seats) rest.left
    ∙ sum_same (λ seats. count_by (λ own. test (pair_at own)) seats) (λ (one : Left). count_by (λ own. test (pair_at own)) one.work.seats) rest.dealt rest.left (rest.many.1 ∙ sym rest.many.0)
    (λ k d e lt.
    let there : k < length rest.left = omega (arith, lt, rest.many.0, rest.many.1) in
    let here = shared.1 k (omega (arith, lt, rest.many.0)) in
    ap (λ (one : Left). count_by (λ own. test (pair_at own)) one.work.seats) (get_or_any rest.left k e nothing_left there)
    ∙ sym (count_map pair_at test (get_or rest.left k nothing_left).work.seats) ∙ ap (count_by test) here.pairs
    ∙ count_map pair_at test (get_or rest.dealt k [])
    ∙ ap (λ seats. count_by (λ own. test (pair_at own)) seats) (get_or_any rest.dealt k [] d lt))
    ∙ sym (count_flat (λ own. test (pair_at own)) (λ seats. seats) rest.dealt)
    ∙ rest.seats (λ own. test (pair_at own))
    ∙ sym (count_map pair_at test ready.seats) ∙ ap (count_by test) same

pub same_pairs : (terms : Terms) (workers labels : ℕ) (setup steps : List Step) (before after : List AtWork) (lines : List WordLine) (stopped : Option Stop)
    → RunsScript terms workers labels setup steps before after lines stopped → EachAsOften (map pair_at before) (map pair_at after)
same_pairs terms workers labels setup steps before after lines stopped ran =
    let made = share_of terms 0 1 setup (none_bound labels) [] before (record { work = ran.ready; stop = ran.halted }) ran.first in
    after_pairs terms workers setup steps before after lines stopped ran.ready ran.halted made.1.pairs ran.rest

-- what is said of seats at work is said of the seats
pub pairs_of_items : {S : Type 0} (before after : List S) (f : S → AtWork) → EachAsOften (map pair_at (map f before)) (map pair_at (map f after))
    → EachAsOften (map (λ s. pair_at (f s)) before) (map (λ s. pair_at (f s)) after)
pairs_of_items before after f same = λ test.
    count_map (λ s. pair_at (f s)) test after ∙ sym (count_map f (λ own. test (pair_at own)) after) ∙ sym (count_map pair_at test (map f after))
    ∙ same test ∙ count_map pair_at test (map f before) ∙ count_map f (λ own. test (pair_at own)) before ∙ sym (count_map (λ s. pair_at (f s)) test before)

pub numbers_of : {S : Type 0} (before after : List S) (g : S → Pair) → EachAsOften (map g before) (map g after) → AreSame (map (λ s. (g s).seat) before) (map (λ s. (g s).seat) after)
numbers_of before after g same = λ number.
    count_map (λ s. (g s).seat) (λ each. each == number) after ∙ sym (count_map g (λ pair. pair.seat == number) after) ∙ same (λ pair. pair.seat == number)
    ∙ count_map g (λ pair. pair.seat == number) before ∙ sym (count_map (λ s. (g s).seat) (λ each. each == number) before)
