-- How the steps of a chain come out, one after the other.
use Rattle.std.proofs.Common.{◌≡◌, ◌≤◌, ◌+◌, ◌==◌, ℕ, suc, Bool, true, false, cond, eq-eqb, ne_eqb, Option, Some, None, List, [], ◌∷◌, ◌++◌, length, map, refl, sym, subst, ap, ◌∙◌, arith}
use Rattle.std.specs.List.{cons_option, enumerate_from, filter}
use Rattle.std.specs.Option.{option_to_list}
use Rattle.std.proofs.lemmas.List.{append-nil, append_assoc}
use Rattle.irp_script_reader.specs.declared.act.Step.{Step}
use Rattle.irp_script.specs.Accounts.{calls_at, pair_at}
use Rattle.irp_script.specs.Made.{NoneTwice, once_made}
use Rattle.irp_script.specs.Outcomes.{Outcome, Way, Made, Ways, outcome, way_of}
use Rattle.irp_script.specs.Words.{WordStep, told_by, word_step_of, word_steps}
use Rattle.irp_script.specs.Working.{MakesEach, Working}
use Rattle.irp_script.proofs.Making.{once_both, once_none}
use Rattle.irp_script.proofs.Outcomes.{comes, out_of}

-- the places rise from this one on
abbrev pub Rising : ℕ → List (ℕ × Step) → Type 0
Rising n [] = Unit {0}
Rising n (each ∷ rest) = (n ≤ each.0) × Rising (each.0 + 1) rest

rising_from : (n m : ℕ) (all : List (ℕ × Step)) → n ≤ m → Rising m all → Rising n all
rising_from n m [] le rises = tt
rising_from n m (each ∷ rest) le rises = (omega (arith, le, rises.0), rises.1)

rising_if : (b : Bool) (n : ℕ) (step : Step) (rest : List (ℕ × Step)) → Rising (n + 1) rest → Rising n (cond b ((n, step) ∷ rest) rest)
rising_if true n step rest rises = (omega arith, rises)
rising_if false n step rest rises = rising_from n (n + 1) rest (omega arith) rises

pub rising : (test : ℕ × Step → Bool) (n : ℕ) (steps : List Step) → Rising n (filter test (enumerate_from n steps))
rising test n [] = tt
rising test n (step ∷ steps) = rising_if (test (n, step)) n step (filter test (enumerate_from (n + 1) steps)) (rising test (n + 1) steps)

-- ways that agree from a place on
agreeing : (one other : Ways) (n : ℕ) (all : List (ℕ × Step)) → Rising n all → ((seat place : ℕ) → n ≤ place → one seat place ≡ other seat place) → map (outcome one) all ≡ map (outcome other) all
agreeing one other n [] rises same = refl
agreeing one other n (each ∷ rest) rises same =
    let here = same each.1.seat each.0 rises.0 in
    ap (λ way. out_of each.0 each.1 (way_of each.1.condition way) ∷ map (outcome one) rest) here
    ∙ ap (λ more. outcome other each ∷ more) (agreeing one other (each.0 + 1) rest rises.1 (λ seat place le. same seat place (omega (arith, le, rises.0))))

-- what the seats and the lines tell of some steps
pub record Chained (all : List (ℕ × Step)) (before after : Working) : Type 0 where
  pub ways : Ways
  pub told : map told_by after.lines ≡ map told_by before.lines ++ word_steps (map (outcome ways) all)
  pub pairs : map pair_at after.seats ≡ map pair_at before.seats
  pub called : NoneTwice (map pair_at before.seats) → map calls_at after.seats ≡ map (once_made (map (outcome ways) all)) (map calls_at before.seats)

abbrev pub with_first : ℕ → Way → Ways → Ways
with_first here way rest seat place = cond (place == here) way (rest seat place)

pub one_word : (out : Outcome) (outs : List Outcome) → word_steps (out ∷ outs) ≡ option_to_list (word_step_of out) ++ word_steps outs
one_word out outs = by (word_step_of out)
  where
    by : (found : Option WordStep) → cons_option found (word_steps outs) ≡ option_to_list found ++ word_steps outs
    by None = refl
    by (Some one) = refl

pub chained : (count n : ℕ) (all : List (ℕ × Step)) (before after : Working) → Rising n all → MakesEach count all before after → Chained all before after
chained count n [] before after rises same = record {
  ways = λ seat place. Made;
  told = ap (λ work. map told_by work.lines) same ∙ sym (append-nil (map told_by before.lines));
  pairs = ap (λ work. map pair_at work.seats) same;
  called = λ once. ap (λ work. map calls_at work.seats) same ∙ sym (once_none (map calls_at before.seats));
}
chained count n (each ∷ rest) before after rises made =
    let first = comes count each.0 each.1 before made.0 made.1 in
    let later = chained count (each.0 + 1) rest made.0 after rises.1 made.2 in
    let ways = with_first each.0 first.0 later.ways in
    let one : outcome ways each ≡ out_of each.0 each.1 first.0 =
    ap (λ b. out_of each.0 each.1 (way_of each.1.condition (cond b first.0 (later.ways each.1.seat each.0)))) (eq-eqb each.0 each.0 refl)
    ∙ ap (out_of each.0 each.1) first.1.own in
    let more : map (outcome ways) rest ≡ map (outcome later.ways) rest =
    agreeing ways later.ways (each.0 + 1) rest rises.1
    (λ seat place le. ap (λ b. cond b first.0 (later.ways seat place)) (ne_eqb place each.0 (λ is. absurd (omega (arith, is, le))))) in
    let both : map (outcome ways) (each ∷ rest) ≡ out_of each.0 each.1 first.0 ∷ map (outcome later.ways) rest = λ i. one i ∷ more i in
    record {
      ways = ways;
      told = later.told ∙ ap (λ told. told ++ word_steps (map (outcome later.ways) rest)) first.1.told
          ∙ append_assoc (map told_by before.lines) (option_to_list (word_step_of (out_of each.0 each.1 first.0))) (word_steps (map (outcome later.ways) rest))
          ∙ ap (λ more. map told_by before.lines ++ more) (sym (one_word (out_of each.0 each.1 first.0) (map (outcome later.ways) rest)) ∙ ap word_steps (sym both));
      pairs = later.pairs ∙ first.1.pairs;
      called = λ once.
          later.called (subst NoneTwice (sym first.1.pairs) once)
          ∙ ap (map (once_made (map (outcome later.ways) rest))) (first.1.called once)
          ∙ sym (once_both (out_of each.0 each.1 first.0 ∷ []) (map (outcome later.ways) rest) (map calls_at before.seats))
          ∙ ap (λ outs. map (once_made outs) (map calls_at before.seats)) (sym both);
    }

pub enumerate-append : {X : Type 0} (n : ℕ) (xs ys : List X) → enumerate_from n (xs ++ ys) ≡ enumerate_from n xs ++ enumerate_from (n + length xs) ys
enumerate-append n [] ys = let none : n ≡ n + 0 = omega arith in ap (λ k. enumerate_from k ys) none
enumerate-append n (x ∷ xs) ys =
    let more : n + 1 + length xs ≡ n + suc (length xs) = omega arith in
    ap (λ rest. (n, x) ∷ rest) (enumerate-append (n + 1) xs ys ∙ ap (λ k. enumerate_from (n + 1) xs ++ enumerate_from k ys) more)
