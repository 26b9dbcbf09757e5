-- What workers share: the steps of all are each worker's own, together.
use Rattle.std.proofs.Common.{◌≡◌, ◌≢◌, ◌≤◌, ◌<◌, ◌+◌, ◌==◌, ◌%◌, ℕ, zero, suc, Bool, true, false, cond, None, List, [], ◌∷◌, ◌++◌, length, map, take, drop, get_or, refl, sym, subst, ap, ◌∙◌, arith, inl, inr}
use Rattle.std.specs.Prelude.{sum_by}
use Rattle.std.specs.List.{cons_option, count_by, enumerate_from, filter, flat_map}
use Rattle.std.specs.Option.{option_to_list}
use Rattle.std.proofs.lemmas.Bool.Decides.{nat_tests, eqb_tells}
use Rattle.std.proofs.lemmas.List.{take-append-drop}
use Rattle.std.proofs.lemmas.List.Concat.{flat_map-cons}
use Rattle.std.proofs.lemmas.List.Elements.{filter-append}
use Rattle.std.proofs.lemmas.List.Sums.{sum_by-append, sum_by-cons}
use Rattle.irp_script_reader.specs.declared.act.Step.{Step}
use Rattle.irp_steps.specs.StepKinds.{kind_of}
use Rattle.irp_script.specs.Made.{call_by, calls_of}
use Rattle.irp_script.specs.Outcomes.{Ways, is_own_placed, nameless_call, outcome, way_of}
use Rattle.irp_script.specs.Words.{WordStep, word_step_of, word_steps}
use Rattle.irp_script.proofs.Chains.{enumerate-append, one_word}
use Rattle.irp_script.proofs.Numbers.{sum_from, sum_from_both, sum_from_none}

-- the ways of all steps, of those of each worker's own
abbrev pub whole : (ℕ → Ways) → ℕ → Ways
whole each workers seat place = each (seat % workers) seat place

pub own_same : (each : ℕ → Ways) (number workers : ℕ) (all : List (ℕ × Step))
    → map (outcome (each number)) (filter (is_own_placed number workers) all) ≡ map (outcome (whole each workers)) (filter (is_own_placed number workers) all)
own_same each number workers [] = refl
own_same each number workers (x ∷ xs) =
    let rest = filter (is_own_placed number workers) xs in
    let more = own_same each number workers xs in
    elim (eqb_tells (x.1.seat % workers) number) as (λ _. map (outcome (each number)) (cond (x.1.seat % workers == number) (x ∷ rest) rest) ≡ map (outcome (whole each workers)) (cond (x.1.seat % workers == number) (x ∷ rest) rest)) [
      | inl is ↦
          let here : outcome (each number) x ≡ outcome (whole each workers) x = ap (λ k. outcome (each k) x) (sym is.1) in
          subst (λ b. map (outcome (each number)) (cond b (x ∷ rest) rest) ≡ map (outcome (whole each workers)) (cond b (x ∷ rest) rest)) (sym is.0) (λ i. here i ∷ more i)
      | inr other ↦
          subst (λ b. map (outcome (each number)) (cond b (x ∷ rest) rest) ≡ map (outcome (whole each workers)) (cond b (x ∷ rest) rest)) (sym other.0) more
    ]

-- the calls of a worker's own seat are all among those of its own steps
pub calls_own : (ways : Ways) (seat number workers : ℕ) (all : List (ℕ × Step)) → seat % workers ≡ number
    → calls_of seat (map (outcome ways) (filter (is_own_placed number workers) all)) ≡ calls_of seat (map (outcome ways) all)
calls_own ways seat number workers [] own = refl
calls_own ways seat number workers (x ∷ xs) own =
    let rest = filter (is_own_placed number workers) xs in
    let more = calls_own ways seat number workers xs own in
    let made = nameless_call (kind_of x.1.act) x.1.act (way_of x.1.condition (ways x.1.seat x.0)) in
    elim (eqb_tells (x.1.seat % workers) number) as (λ _. calls_of seat (map (outcome ways) (cond (x.1.seat % workers == number) (x ∷ rest) rest)) ≡ calls_of seat (map (outcome ways) (x ∷ xs))) [
      | inl is ↦
          subst (λ b. calls_of seat (map (outcome ways) (cond b (x ∷ rest) rest)) ≡ calls_of seat (map (outcome ways) (x ∷ xs))) (sym is.0)
          (ap (cons_option (call_by seat (outcome ways x))) more)
      | inr other ↦
          let apart : (seat == x.1.seat) ≡ false = seat_apart seat x.1.seat number workers own other.1 in
          subst (λ b. calls_of seat (map (outcome ways) (cond b (x ∷ rest) rest)) ≡ calls_of seat (map (outcome ways) (x ∷ xs))) (sym other.0)
          (more ∙ sym (ap (λ b. cons_option (cond b made None) (calls_of seat (map (outcome ways) xs))) apart))
    ]
  where
    seat_apart : (seat other number workers : ℕ) → seat % workers ≡ number → other % workers ≢ number → (seat == other) ≡ false
    seat_apart seat other number workers own not = elim (eqb_tells seat other) as (λ _. (seat == other) ≡ false) [
      | inl is ↦ absurd (not (ap (λ k. k % workers) (sym is.1) ∙ own))
      | inr apart ↦ apart.0
    ]

-- how often a test passes in the words of one step
abbrev pub weight : (WordStep → Bool) → Ways → ℕ × Step → ℕ
weight test ways each = count_by test (option_to_list (word_step_of (outcome ways each)))

pub count_words : (test : WordStep → Bool) (ways : Ways) (all : List (ℕ × Step)) → count_by test (word_steps (map (outcome ways) all)) ≡ sum_by (weight test ways) all
count_words test ways [] = refl
count_words test ways (x ∷ xs) =
    let both : count_by test (word_steps (map (outcome ways) (x ∷ xs))) ≡ weight test ways x + count_by test (word_steps (map (outcome ways) xs)) =
    ap (count_by test) (one_word (outcome ways x) (map (outcome ways) xs)) ∙ sum_by-append _ (option_to_list (word_step_of (outcome ways x))) (word_steps (map (outcome ways) xs)) in
    let rest = count_words test ways xs in
    let sum = sum_by-cons (weight test ways) x xs in
    omega (arith, both, rest, sum)

sum-cond : {X : Type 0} (w : X → ℕ) (b : Bool) (x : X) (ys : List X) → sum_by w (cond b (x ∷ ys) ys) ≡ cond b (w x) 0 + sum_by w ys
sum-cond w true x ys = sum_by-cons w x ys
sum-cond w false x ys = omega arith

alone_here : (m k c : ℕ) → m ≡ k → cond (m == k) c 0 ≡ c
alone_here m k c is = grind (arith, nat_tests)

alone_there : (m k c : ℕ) → m ≢ k → cond (m == k) c 0 ≡ 0
alone_there m k c other = grind (arith, nat_tests)

alone : (m c a n : ℕ) → a ≤ m → m < a + n → sum_from (λ k. cond (m == k) c 0) a n ≡ c
alone m c a zero le lt = absurd (omega arith)
alone m c a (suc n) le lt = elim (eqb_tells m a) as (λ _. sum_from (λ k. cond (m == k) c 0) a (suc n) ≡ c) [
  | inl is ↦
      let here : cond (m == a) c 0 ≡ c = alone_here m a c is.1 in
      let rest : sum_from (λ k. cond (m == k) c 0) (suc a) n ≡ 0 = sum_from_none (λ k. cond (m == k) c 0) (suc a) n (λ k le. alone_there m k c (omega (arith, is.1))) in
      omega (arith, here, rest)
  | inr other ↦
      let here : cond (m == a) c 0 ≡ 0 = alone_there m a c other.1 in
      let rest : sum_from (λ k. cond (m == k) c 0) (suc a) n ≡ c = alone m c (suc a) n (omega (arith, other.1)) (omega arith) in
      omega (arith, here, rest)
]

-- the workers' own steps are together all steps
pub shares : (w : ℕ × Step → ℕ) (workers : ℕ) → 0 < workers → (all : List (ℕ × Step)) → sum_from (λ number. sum_by w (filter (is_own_placed number workers) all)) 0 workers ≡ sum_by w all
shares w workers some [] = sum_from_none (λ number. 0) 0 workers (λ k le. refl)
shares w workers some (x ∷ xs) =
    let both : sum_from (λ number. sum_by w (filter (is_own_placed number workers) (x ∷ xs))) 0 workers ≡ sum_from (λ number. cond (x.1.seat % workers == number) (w x) 0) 0 workers + sum_from (λ number. sum_by w (filter (is_own_placed number workers) xs)) 0 workers =
    sum_from_both (λ number. cond (x.1.seat % workers == number) (w x) 0) (λ number. sum_by w (filter (is_own_placed number workers) xs)) (λ number. sum_by w (filter (is_own_placed number workers) (x ∷ xs))) (λ number. sum-cond w (x.1.seat % workers == number) x (filter (is_own_placed number workers) xs)) 0 workers in
    let one : sum_from (λ number. cond (x.1.seat % workers == number) (w x) 0) 0 workers ≡ w x = alone (x.1.seat % workers) (w x) 0 workers (omega arith) (omega arith) in
    let rest : sum_from (λ number. sum_by w (filter (is_own_placed number workers) xs)) 0 workers ≡ sum_by w xs = shares w workers some xs in
    let sum : sum_by w (x ∷ xs) ≡ w x + sum_by w xs = sum_by-cons w x xs in
    omega (arith, both, one, rest, sum)

-- the first steps weigh at most what all do
pub first_at_most : (w : ℕ × Step → ℕ) (test : ℕ × Step → Bool) (reached : ℕ) (steps : List Step)
    → sum_by w (filter test (enumerate_from 0 (take reached steps))) ≤ sum_by w (filter test (enumerate_from 0 steps))
first_at_most w test reached steps =
    let first = enumerate_from 0 (take reached steps) in
    let last = enumerate_from (0 + length (take reached steps)) (drop reached steps) in
    let all : filter test (enumerate_from 0 steps) ≡ filter test first ++ filter test last =
    ap (λ some. filter test (enumerate_from 0 some)) (sym (take-append-drop reached steps))
    ∙ ap (filter test) (enumerate-append 0 (take reached steps) (drop reached steps))
    ∙ filter-append test first last in
    let sum : sum_by w (filter test (enumerate_from 0 steps)) ≡ sum_by w (filter test first) + sum_by w (filter test last) =
    ap (sum_by w) all ∙ sum_by-append w (filter test first) (filter test last) in
    omega (arith, sum)

-- what is counted in pieces
pub count_flat : {P X : Type 0} (test : X → Bool) (piece : P → List X) (ps : List P) → count_by test (flat_map piece ps) ≡ sum_by (λ p. count_by test (piece p)) ps
count_flat test piece [] = refl
count_flat test piece (p ∷ ps) =
    let both : count_by test (flat_map piece (p ∷ ps)) ≡ count_by test (piece p) + count_by test (flat_map piece ps) =
    ap (count_by test) (flat_map-cons piece p ps) ∙ sum_by-append _ (piece p) (flat_map piece ps) in
    let rest = count_flat test piece ps in
    let sum = sum_by-cons (λ p. count_by test (piece p)) p ps in
    omega (arith, both, rest, sum)

-- one of several is at most all
pub part_at_most : {A : Type 0} (g : A → ℕ) (xs : List A) (k : ℕ) (one : A) → k < length xs → g (get_or xs k one) ≤ sum_by g xs
part_at_most g [] k one lt = absurd (omega arith)
part_at_most g (x ∷ xs) zero one lt = let sum : sum_by g (x ∷ xs) ≡ g x + sum_by g xs = sum_by-cons g x xs in omega (arith, sum)
part_at_most g (x ∷ xs) (suc k) one lt =
    let rest : g (get_or xs k one) ≤ sum_by g xs = part_at_most g xs k one (omega arith) in
    let sum : sum_by g (x ∷ xs) ≡ g x + sum_by g xs = sum_by-cons g x xs in
    omega (arith, rest, sum)

-- what there is for each number below a limit is there for a choice of them
pub chosen : {T : Type 0} (P : ℕ → T → Type 0) (d : T) (n : ℕ) → ((k : ℕ) → k < n → (t : T) × P k t) → (pick : ℕ → T) × ((k : ℕ) → k < n → P k (pick k))
chosen P d zero each = (λ k. d, λ k lt. absurd (omega arith))
chosen P d (suc n) each =
    let before = chosen P d n (λ k lt. each k (omega arith)) in
    let here = each n (omega arith) in (
      λ k. cond (k == n) here.0 (before.0 k),
      λ k lt.
          elim (eqb_tells k n) as (λ _. P k (cond (k == n) here.0 (before.0 k))) [
            | inl is ↦ subst (λ b. P k (cond b here.0 (before.0 k))) (sym is.0) (subst (λ j. P j here.0) (sym is.1) here.1)
            | inr other ↦ subst (λ b. P k (cond b here.0 (before.0 k))) (sym other.0) (before.1 k (omega (arith, other.1)))
          ],
    )
