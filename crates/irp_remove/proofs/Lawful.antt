-- What follows from the rule in each state, and what an observer never forgets.
use Rattle.std.proofs.Common.{◌≡◌, ℕ, zero, suc, ◌%◌, ◌≤◌, Bool, true, false, List, [], ◌∷◌, set, if◌then◌else◌, nat_eq, refl, ap, arith}
use Rattle.irp_remove.specs.declared.views.Watch.{Watch}
use Rattle.irp_remove.specs.declared.views.View.TheVariants.{First, Observer, Stake}
use Rattle.irp_remove.specs.Core.{one_if, flag, held, saw, knows_drained}
use Rattle.irp_remove.specs.Laws.{WordLaw, DrainedLaw, IsHeldByNobody, IsKnownForGood, IsOwnView}
use Rattle.irp_remove.proofs.Totals.{part_of_total}
use Rattle.irp_remove.proofs.Steps.{word_facts}

pub word_law : WordLaw
word_law key s lock r inside =
    let facts = word_facts key s r lock inside in
    let is = facts.0 in
    let bit = facts.1 in
    let few = facts.2 in (
      is,
      omega arith,
      omega arith,
      λ id v at some_saw. let p = part_of_total (saw lock) s.views id v at in r.seen lock (omega arith),
    )

held_by_nobody : IsHeldByNobody
held_by_nobody key s lock r id v at knows =
    let p = part_of_total (knows_drained lock) s.views id v at in
    let d = r.drained lock (omega arith) in
    let none = d.1 in (
      d.0,
      λ other u there. let q = part_of_total (held lock) s.views other u there in omega arith,
    )

-- setting a flag clears none
flag_stays : (xs : List Bool) (place lock : ℕ) → one_if (flag xs lock) ≤ one_if (flag (set xs place true) lock)
flag_stays [] place lock = omega arith
flag_stays (x ∷ xs) zero zero = one_most x
  where
    one_most : (b : Bool) → one_if b ≤ 1
    one_most true = omega arith
    one_most false = omega arith
flag_stays (x ∷ xs) zero (suc lock) = omega arith
flag_stays (x ∷ xs) (suc place) zero = omega arith
flag_stays (x ∷ xs) (suc place) (suc lock) = flag_stays xs place lock

-- a look clears no flag
look_keeps : (b : Bool) (xs : List Bool) (place lock : ℕ) → one_if (flag xs lock) ≤ one_if (flag (if b then set xs place true else xs) lock)
look_keeps true xs place lock = flag_stays xs place lock
look_keeps false xs place lock = omega arith

-- the removed bit changes nothing that is known drained
begin_keeps : (b : Bool) (watch : Watch) (place lock : ℕ)
    → knows_drained lock (Observer (if b then record watch { began = set watch.began place true } else record watch { saw = set watch.saw place true })) ≡ one_if (flag watch.drained lock)
begin_keeps true watch place lock = refl
begin_keeps false watch place lock = refl

known_for_good : IsKnownForGood
known_for_good lock (First o s) knows tag other word = absurd (omega arith)
known_for_good lock (Observer watch) knows tag other word =
    let kept = look_keeps (nat_eq word 1) watch.drained other lock in
    let same = begin_keeps (nat_eq (word % 2) 0) watch other lock in (
      knows,
      knows,
      omega arith,
      omega arith,
    )
known_for_good lock (Stake stage seen) knows tag other word = absurd (omega arith)

own_view : IsOwnView
own_view [] party other w ne = refl
own_view (v ∷ vs) zero zero w ne = absurd (ne refl)
own_view (v ∷ vs) zero (suc other) w ne = refl
own_view (v ∷ vs) (suc party) zero w ne = refl
own_view (v ∷ vs) (suc party) (suc other) w ne = own_view vs party other w (λ e. ne (ap suc e))

pub drained_law : DrainedLaw
drained_law = (held_by_nobody, known_for_good, own_view)
