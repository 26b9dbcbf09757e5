-- Why steps aren't made.
use Rattle.std.proofs.Common.{◌≡◌, ◌<◌, ℕ, zero, suc, OnOk, take, ◌++◌, true, false, get_or, arith, Option, Some, None, List, [], ◌∷◌, Contains, length, map, refl, sym, subst, ap, ◌∙◌, inr}
use mathlib.Core.Bool.{true≢false}
use Rattle.std.specs.Prelude.{IfNone, MatchResult, Ok, Err, Result, slice_get, is_some}
use Rattle.std.specs.Option.{option_or, unwrap_or}
use Rattle.std.proofs.lemmas.Option.{get_or_from_slice_get, none-some, same_Some, slice_get-get_or, slice_get_within}
use Rattle.std.proofs.lemmas.Simd.{map-map}
use Rattle.irp_manager.specs.declared.not_recorded.NotRecorded.{NotRecorded}
use Rattle.irp_manager.specs.declared.not_recorded.NotRecorded.TheVariants as not_recorded
use Rattle.irp_shared.specs.Sharing.{FindsFull}
use Rattle.irp_script_reader.specs.declared.act.Step.{Step}
use Rattle.irp_script.specs.Outcomes.{own_placed}
use Rattle.irp_steps.specs.StepKinds.{kind_of}
use Rattle.irp_script.specs.Stops.{IsUnmade, IsUnrecorded, Terms, unrecorded}
use Rattle.irp_script.specs.Working.{AloneStops, AtWork, HasSeat, IsStopAt, MakesEach, MakesOwn, StopsAt, StopsBy, Working, first_stop}
use Rattle.irp_steps.specs.declared.step_kind.StepKind.{StepKind}
use Rattle.irp_steps.specs.declared.step_kind.StepKind.TheVariants.{Calls, OnLock, Hands, OnSlot, Finishes}
use Rattle.irp_script.specs.declared.stop.Stop.{Stop}
use Rattle.irp_script.specs.declared.stop.StopReason.{StopReason}

-- ---- of a seat

-- a call that isn't recorded, of a seat that has seen so many entries
pub unrecorded_so : (terms : Terms) (error : NotRecorded) (seen : ℕ) → ((told : ℕ) → error ≡ not_recorded.Behind told → told < seen)
    → (error ≡ not_recorded.HistoryFull → FindsFull terms.fixed terms.may seen) → IsUnrecorded terms seen (unrecorded error)
unrecorded_so terms not_recorded.Memory seen behind full = tt
unrecorded_so terms (not_recorded.Behind told) seen behind full = behind told refl
unrecorded_so terms not_recorded.HistoryFull seen behind full = full refl

-- ---- of a worker

numbers_in : {S : Type 0} (f : S → AtWork) (seats : List S) → map (λ (own : AtWork). own.seat.number) (map f seats) ≡ map (λ s. (f s).seat.number) seats
numbers_in f seats = map-map (λ (own : AtWork). own.seat.number) f seats

-- no seat, or one, has the number
pub no_seat : {S : Type 0} (f : S → AtWork) (seats : List S) (number : ℕ) → ¬ Contains (map (λ s. (f s).seat.number) seats) number → ¬ HasSeat (map f seats) number
no_seat f seats number none there = none (subst (λ all. Contains all number) (numbers_in f seats) there)

contained : (xs : List ℕ) (k x : ℕ) → slice_get xs k ≡ Some x → Contains xs x
contained xs k x is = (k, slice_get_within xs k x is, get_or_from_slice_get xs k x x is)

pub has_seat : {S : Type 0} (f : S → AtWork) (seats : List S) (at number : ℕ) → slice_get (map (λ s. (f s).seat.number) seats) at ≡ Some number → HasSeat (map f seats) number
has_seat f seats at number is = subst (λ all. Contains all number) (sym (numbers_in f seats)) (contained (map (λ s. (f s).seat.number) seats) at number is)

pub none_of_them : {A P : Type 0} (found : Option A) → found ≡ None → IfNone found P → P
none_of_them None is none = none
none_of_them (Some one) is none = absurd (none-some one (sym is))

-- what stands at one place is one number
pub one_number : (xs : List ℕ) (a b m n : ℕ) → slice_get xs a ≡ Some m → slice_get xs b ≡ Some n → a ≡ b → n ≡ m
one_number xs a b m n here there same = ap (λ found. unwrap_or found n) (sym there ∙ ap (slice_get xs) (sym same) ∙ here)

-- a step that isn't a hand is one that stops as such
pub by_alone : (terms : Terms) (step : Step) (kind : StepKind) (seats : List AtWork) (reason : StopReason) → ((hand : _) → kind ≡ Hands hand → ⊥)
    → AloneStops terms kind step seats reason → StopsBy terms kind step seats reason
by_alone terms step (Hands hand) seats reason other stops = absurd (other hand refl)
by_alone terms step Calls seats reason other stops = stops
by_alone terms step (OnLock on) seats reason other stops = stops
by_alone terms step (OnSlot on) seats reason other stops = stops
by_alone terms step (Finishes slot status information) seats reason other stops = stops

pub by_unmade : (terms : Terms) (step : Step) (kind : StepKind) (seats : List AtWork) (reason : StopReason) (at : ℕ) (own : AtWork) → slice_get seats at ≡ Some own → own.seat.number ≡ step.seat
    → IsUnmade terms kind own.seat.seen own.parties reason → StopsBy terms kind step seats reason
by_unmade terms step (Hands hand) seats reason at own there named unmade = absurd unmade
by_unmade terms step Calls seats reason at own there named unmade = inr (at, own, there, named, unmade)
by_unmade terms step (OnLock on) seats reason at own there named unmade = inr (at, own, there, named, unmade)
by_unmade terms step (OnSlot on) seats reason at own there named unmade = inr (at, own, there, named, unmade)
by_unmade terms step (Finishes slot status information) seats reason at own there named unmade = inr (at, own, there, named, unmade)

-- a step at a place
pub at_place : {T : Type 0} (terms : Terms) (P A : Type 0) (result : Result T StopReason) (place : ℕ) (step : Step) (seats : List AtWork)
    → MatchResult result (λ _. P) (λ why. A × StopsBy terms (kind_of step.act) step seats why)
    → MatchResult result (λ _. P) (λ why. A × StopsAt terms place step seats why)
at_place terms P A (Ok done) place step seats made = made
at_place terms P A (Err why) place step seats made = (made.0, inr made.1)

-- what is so of an answer that is no fault
pub when_ok : {T E : Type 0} (P : Type 0) (result : Result T E) → ((fault : E) → result ≡ Err fault → ⊥) → OnOk result P → P
when_ok P (Ok done) other holds = holds
when_ok P (Err fault) other holds = absurd (other fault refl)

-- it stopped in front of a step
pub stops_own : (terms : Terms) (number workers : ℕ) (steps : List Step) (i : ℕ) (d : Step) (before old new : Working) (n w : ℕ) (stop : Stop) (given : Option Stop) → i < length steps
    → MakesEach terms.fixed.locks (own_placed number workers (take i steps)) before old → n ≡ number → w ≡ workers → new ≡ old
    → IsStopAt terms n w i (get_or steps i d) old stop → given ≡ Some stop → MakesOwn terms number workers steps before new given
stops_own terms number workers steps i d before old new n w stop given lt made same_number same_workers stays here is = record {
  reached = i;
  within = omega (arith, lt);
  each = subst (MakesEach terms.fixed.locks (own_placed number workers (take i steps)) before) (sym stays) made;
  all = λ none. absurd (none-some stop (sym none ∙ is));
  next = λ told is_told. (
    get_or steps i d,
    slice_get-get_or steps i d lt,
    subst (IsStopAt terms number workers i (get_or steps i d) new) (same_Some stop told (sym is ∙ is_told))
        (subst (λ (work : Working). IsStopAt terms number workers i (get_or steps i d) work stop) (sym stays)
        (subst (λ k. IsStopAt terms number k i (get_or steps i d) old stop) same_workers
        (subst (λ k. IsStopAt terms k w i (get_or steps i d) old stop) same_number here))),
  );
}

-- ---- of all workers

or_none : (stop : Option Stop) → option_or stop None ≡ stop
or_none None = refl
or_none (Some stop) = refl

or_apart : (a b c : Option Stop) → option_or (option_or a b) c ≡ option_or a (option_or b c)
or_apart None b c = refl
or_apart (Some a) b c = refl

pub none_yet : {W : Type 0} (told_by : W → Option Stop) (ws : List W) → option_or (first_stop told_by ws) None ≡ first_stop told_by ws
none_yet told_by ws = or_none (first_stop told_by ws)

-- the first stop of those in front, or else of one behind them
pub first_last : {W : Type 0} (told_by : W → Option Stop) (front : List W) (last : W) (so_far : Option Stop)
    → option_or (first_stop told_by (front ++ last ∷ [])) so_far ≡ option_or (first_stop told_by front) (option_or (told_by last) so_far)
first_last told_by [] last so_far = ap (λ one. option_or one so_far) (or_none (told_by last))
first_last told_by (w ∷ ws) last so_far =
    or_apart (told_by w) (first_stop told_by (ws ++ last ∷ [])) so_far
    ∙ ap (option_or (told_by w)) (first_last told_by ws last so_far)
    ∙ sym (or_apart (told_by w) (first_stop told_by ws) (option_or (told_by last) so_far))

pub first_map : {W P : Type 0} (told_by : P → Option Stop) (h : W → P) (ws : List W) → first_stop told_by (map h ws) ≡ first_stop (λ w. told_by (h w)) ws
first_map told_by h [] = refl
first_map told_by h (w ∷ ws) = ap (option_or (told_by (h w))) (first_map told_by h ws)

-- whether there is a stop
pub not_some : (stop : Option Stop) → is_some stop ≡ false → stop ≡ None
not_some None is = refl
not_some (Some told) is = absurd (true≢false is)

pub some_stop : (stop : Option Stop) → is_some stop ≡ true → (told : Stop) × (stop ≡ Some told)
some_stop None is = absurd (true≢false (sym is))
some_stop (Some told) is = (told, refl)

left_none : (a b : Option Stop) → option_or a b ≡ None → a ≡ None
left_none None b none = refl
left_none (Some stop) b none = absurd (none-some stop (sym none))

right_none : (a b : Option Stop) → option_or a b ≡ None → b ≡ None
right_none None b none = none
right_none (Some stop) b none = absurd (none-some stop (sym none))

-- where none stopped, each didn't
pub none_stopped : {W : Type 0} (told_by : W → Option Stop) (ws : List W) → first_stop told_by ws ≡ None → (k : ℕ) (d : W) → k < length ws → told_by (get_or ws k d) ≡ None
none_stopped told_by [] none k d lt = absurd (omega arith)
none_stopped told_by (w ∷ ws) none zero d lt = left_none (told_by w) (first_stop told_by ws) none
none_stopped told_by (w ∷ ws) none (suc k) d lt = none_stopped told_by ws (right_none (told_by w) (first_stop told_by ws) none) k d (omega arith)
