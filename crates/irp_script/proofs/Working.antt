-- What a worker makes of its seats and lines, step by step, and what the workers of a script make together.
use Rattle.std.proofs.Common.{◌≡◌, ◌<◌, ◌+◌, ◌%◌, ◌==◌, ℕ, zero, suc, All, Bool, true, false, cond, eq-eqb, Option, Some, None, List, [], ◌∷◌, ◌++◌, length, map, take, get_or, set, refl, sym, subst, ap, ◌∙◌, arith}
use Rattle.std.specs.Prelude.{IfOk, MatchResult, Result, Ok, Err, nat_lt, slice_get, slice_set, sum_by}
use Rattle.std.specs.Option.{option_map, unwrap_or}
use Rattle.std.specs.List.{count_by, enumerate_from, filter, flat_map}
use Rattle.std.proofs.lemmas.Bool.{le-ltb}
use Rattle.std.proofs.lemmas.List.{get_or-map, length-map, length-take-le, map-set, set-get_or, take_more}
use Rattle.std.proofs.lemmas.List.Elements.{All-nil, All-cons, All-head, All-tail, filter-append}
use Rattle.std.proofs.lemmas.List.Concat.{flat_map-cons}
use Rattle.std.proofs.lemmas.List.Sums.{sum_by-append, sum_by-cons}
use Rattle.std.proofs.lemmas.Simd.{map-map}
use Rattle.std.proofs.lemmas.Option.{get_or_from_slice_get, none-some, slice_get-get_or, slice_get-map, slice_get_within}
use Rattle.irp_types.specs.declared.names.LockNo.{LockNo}
use Rattle.irp_types.specs.declared.reply.Reply.{Reply}
use Rattle.irp_types.specs.declared.status.Status.{Status}
use Rattle.irp_types.specs.Calls.{Call}
use Rattle.irp_types.specs.declared.call.Call.TheVariants.{FinishTaken}
use Rattle.irp_manager.specs.Booked.{Receipted}
use Rattle.irp_manager.specs.Seats.{Seated}
use Rattle.irp_remove.specs.Seats.{Holder}
use Rattle.irp_slots.specs.declared.answers.Token.{Token}
use Rattle.irp_shared.specs.Sharing.{Called, IsAsBefore, given_back}
use Rattle.irp_transcript.specs.declared.word_line.WordLine.{WordLine}
use Rattle.irp_script_reader.specs.declared.act.Step.{Step}
use Rattle.irp_steps.specs.declared.step_kind.StepKind.{StepKind}
use Rattle.irp_steps.specs.declared.step_kind.StepKind.TheVariants.{Calls, OnLock, Hands, OnSlot, Finishes}
use Rattle.irp_script.specs.declared.binding.NamedPacket.{NamedPacket}
use Rattle.irp_script.specs.declared.taken.Taken.{Taken}
use Rattle.irp_script.specs.AtSlots.{AtSlots, fresh}
use Rattle.irp_script.specs.Calling.{CallsFor, found_drained}
use Rattle.irp_steps.specs.Conditions.{Heard, none_heard, with_answer}
use Rattle.irp_steps.specs.declared.answered.Answered.{Answered}
use Rattle.irp_script.specs.Labels.{AreFounded, IsNamed, Known, known_reading, known_to}
use Rattle.irp_steps.specs.StepKinds.{kind_of}
use Rattle.irp_script.specs.Stops.{IsUnmade, IsUnrecorded, Terms}
use Rattle.irp_script.specs.declared.stop.Stop.{Stop}
use Rattle.irp_script.specs.declared.stop.StopReason.{StopReason}
use Rattle.irp_script.specs.Outcomes.{is_own_placed, own_placed}
use Rattle.irp_script.specs.Working.{AtWork, Does, FinishesTaken, IsOwn, Left, Makes, MakesAlone, MakesBy, MakesCall, MakesEach, MakesOwn, Stays, StopsBy, TurnsBy, WorkApart, Working, applies, at_work, caught_up, first_stop, if_own, news, roomless, working}
use Rattle.irp_script.proofs.Chains.{enumerate-append}
use Rattle.irp_script.proofs.Numbers.{count_map, map_set_same}
use Rattle.irp_script.proofs.Stopping.{by_unmade, first_map}

set_twice : {A : Type 0} (xs : List A) (i : ℕ) (one other : A) → set (set xs i one) i other ≡ set xs i other
set_twice [] i one other = refl
set_twice (x ∷ xs) zero one other = refl
set_twice (x ∷ xs) (suc i) one other = ap (λ rest. x ∷ rest) (set_twice xs i one other)

-- what a seat says doesn't tell its room
pub roomless_same : (before after : Seated) → IsAsBefore before after → roomless after ≡ roomless before
roomless_same before after same = λ i. record { number = same.number i; seen = same.seen i; entries = same.entries i; room = 0 }

pub roomless_called : (before after : Seated) (call : Call) (knows : LockNo → Bool) (receipt : Receipted) → Called before call knows receipt after → Called (roomless before) call knows receipt (roomless after)
roomless_called before after call knows receipt called =
    let recorded = called.recorded in
    let kept = recorded.kept in
    let of_call = recorded.of_call in
    record {
      before = called.before;
      recorded = record {
        entry = recorded.entry;
        appended = recorded.appended;
        numbered = recorded.numbered;
        of_call = record { within = of_call.within; after = of_call.after; by = of_call.by; asks = of_call.asks; noted = of_call.noted; deletes = of_call.deletes; few = of_call.few };
        told = recorded.told;
        kept = record { number = kept.number; entries = kept.entries; seen = kept.seen };
      };
    }

-- a call that wasn't recorded, and one that was
pub call_stays : (before after : Seated) (remove remove_after : Holder) (parties parties_after : AtSlots) → IsAsBefore before after → remove_after ≡ remove → parties_after ≡ parties
    → at_work after remove_after parties_after ≡ at_work before remove parties
call_stays before after remove remove_after parties parties_after same same_remove same_parties =
    λ i. record { seat = roomless_same before after same i; remove = same_remove i; parties = same_parties i }

pub call_made : (terms : Terms) (result : Result Reply StopReason) (place : ℕ) (step : Step) (before after : Seated) (remove remove_after : Holder) (parties parties_after : AtSlots) (lines longer : List WordLine) (known learnt : Known)
    → MatchResult result (λ reply. CallsFor place step.act remove before after known learnt reply) (λ why. IsAsBefore before after × IsUnrecorded terms before.seen why) → remove_after ≡ remove → parties_after ≡ parties → longer ≡ lines
    → MatchResult result (λ reply. MakesCall place step (at_work before remove parties) (at_work after remove_after parties_after) lines longer known learnt reply)
    (λ why. Stays (at_work before remove parties) (at_work after remove_after parties_after) lines longer × IsUnrecorded terms before.seen why)
call_made terms (Err why) place step before after remove remove_after parties parties_after lines longer known learnt same same_remove same_parties silent =
    ((call_stays before after remove remove_after parties parties_after same.0 same_remove same_parties, silent), same.1)
call_made terms (Ok one) place step before after remove remove_after parties parties_after lines longer known learnt calls same_remove same_parties silent = record {
  called = record { call = calls.call; receipt = calls.receipt; of_act = calls.of_act; recorded = roomless_called before after calls.call (found_drained remove) calls.receipt calls.recorded; told = calls.told; bound = calls.bound };
  rest = λ i. record { seat = roomless after; remove = same_remove i; parties = same_parties i };
  silent = silent;
}

abbrev with_taken : AtSlots → List Taken → AtSlots
with_taken parties taken = record parties { taken = taken }

abbrev held_token : ℕ → Option Token → Taken
held_token slot token = record { slot = slot; token = token }

-- a token in the place where one was put before
put_again : (slot place : ℕ) (parties between after : AtSlots) (one back given : Option Token)
    → between ≡ with_taken parties (slice_set parties.taken place (held_token slot one))
    → after ≡ with_taken between (slice_set between.taken place (held_token slot back)) → back ≡ given
    → after ≡ with_taken parties (slice_set parties.taken place (held_token slot given))
put_again slot place parties between after one back given out in_again same =
    in_again
    ∙ ap (λ (some : AtSlots). with_taken some (slice_set some.taken place (held_token slot back))) out
    ∙ ap (with_taken parties) (set_twice parties.taken place (held_token slot one) (held_token slot back))
    ∙ ap (λ (token : Option Token). with_taken parties (slice_set parties.taken place (held_token slot token))) same

-- a finish that was recorded
pub finish_made : (index : ℕ) (step : Step) (slot : ℕ) (status : Status) (information : ℕ) (before after : Seated) (remove remove_after : Holder) (parties between parties_after : AtSlots) (lines longer : List WordLine) (known learnt : Known)
    (place : ℕ) (token : Token) (packet : NamedPacket) (receipt : Receipted) (back : Option Token) (reply : Reply)
    → slice_get parties.taken place ≡ Some (fresh slot token) → IsNamed known step.act packet → learnt ≡ known_reading index known step.act packet → Called before (FinishTaken packet.irp token.use_no status information) (λ lock. false) receipt after
    → back ≡ given_back receipt.reply token → remove_after ≡ remove
    → between ≡ record parties { taken = slice_set parties.taken place (record { slot = slot; token = None }) }
    → parties_after ≡ record between { taken = slice_set between.taken place (record { slot = slot; token = back }) }
    → longer ≡ lines → reply ≡ receipt.reply
    → FinishesTaken index step slot status information (at_work before remove parties) (at_work after remove_after parties_after) lines longer known learnt reply
finish_made index step slot status information before after remove remove_after parties between parties_after lines longer known learnt place token packet receipt back reply there named noted recorded given same_remove out in_again silent told =
    record {
      taken_at = place;
      token = token;
      packet = packet;
      receipt = receipt;
      there = there;
      named = named;
      noted = noted;
      recorded = roomless_called before after (FinishTaken packet.irp token.use_no status information) (λ lock. false) receipt recorded;
      told = told;
      rest =
          let left : parties_after ≡ with_taken parties (slice_set parties.taken place (held_token slot (given_back receipt.reply token))) =
          put_again slot place parties between parties_after None back (given_back receipt.reply token) out in_again given in
          λ i. record { seat = roomless after; remove = same_remove i; parties = left i };
      silent = silent;
    }

-- a finish that wasn't recorded: the token is back in its place
pub finish_stays : (slot : ℕ) (before after : Seated) (remove remove_after : Holder) (parties between parties_after : AtSlots) (place : ℕ) (token : Token) (back : Option Token)
    → slice_get parties.taken place ≡ Some (fresh slot token) → IsAsBefore before after → back ≡ Some token → remove_after ≡ remove
    → between ≡ record parties { taken = slice_set parties.taken place (record { slot = slot; token = None }) }
    → parties_after ≡ record between { taken = slice_set between.taken place (record { slot = slot; token = back }) }
    → at_work after remove_after parties_after ≡ at_work before remove parties
finish_stays slot before after remove remove_after parties between parties_after place token back there same given same_remove out in_again =
    let here = get_or_from_slice_get parties.taken place (fresh slot token) (fresh slot token) there in
    let left : parties_after ≡ parties =
    put_again slot place parties between parties_after None back (Some token) out in_again given
    ∙ ap (λ (one : Taken). with_taken parties (slice_set parties.taken place one)) (sym here)
    ∙ ap (with_taken parties) (set-get_or parties.taken place (fresh slot token)) in
    call_stays before after remove remove_after parties parties_after same same_remove left

-- what one seat makes of a step that isn't a hand is what a worker makes that has it
by_alone : (count place : ℕ) (step : Step) (kind : StepKind) (before after : Working) → MakesAlone count place step kind before after → MakesBy count place step kind before after
by_alone count place step (Hands hand) before after made = absurd made.did
by_alone count place step Calls before after made = made
by_alone count place step (OnLock on) before after made = made
by_alone count place step (OnSlot on) before after made = made
by_alone count place step (Finishes slot status information) before after made = made

-- nothing to learn
none_below : (n : ℕ) → nat_lt n 0 ≡ false
none_below n = le-ltb n 0 (omega arith)

none_learned : (seats : List AtWork) → map (caught_up 0) seats ≡ seats
none_learned [] = refl
none_learned (own ∷ seats) =
    let same : caught_up 0 own ≡ own = ap (λ b. record own { seat = record own.seat { seen = cond b 0 own.seat.seen } }) (none_below own.seat.seen) in
    λ i. same i ∷ none_learned seats i

no_news : (n : ℕ) → news n n ≡ 0
no_news n = ap (λ b. cond b 0 n) (eq-eqb n n refl)

-- what one seat makes of a step, and all have seen what was recorded
pub made_one : {S : Type 0} (f : S → AtWork) (seats after : List S) (at : ℕ) (new old : S) (lines longer : List WordLine) (known learnt : Known) (heard kept : Heard) (count place : ℕ) (step : Step) (answer : Answered) (shows : ℕ)
    → at < length seats → old ≡ get_or seats at old → (f old).seat.number ≡ step.seat
    → shows ≡ news (f old).seat.seen (f new).seat.seen
    → map f after ≡ map (caught_up shows) (map f (set seats at new))
    → Does count place step (kind_of step.act) (f old) (f new) lines longer known learnt answer
    → kept ≡ with_answer heard place answer
    → Makes count place step (working (map f seats) lines known heard) (working (map f after) longer learnt kept)
made_one f seats after at new old lines longer known learnt heard kept count place step answer shows lt there named shown saw did keeps = by_alone count place step (kind_of step.act) _ _ record {
  at = at;
  old = f old;
  new = f new;
  there =
      slice_get-get_or (map f seats) at (f old) (omega (arith, lt, length-map seats f))
      ∙ ap Some (get_or-map f seats at old (f old) lt ∙ ap f (sym there));
  named = named;
  answer = answer;
  did = did;
  heard = keeps;
  others = saw ∙ ap (λ n. map (caught_up n) (map f (set seats at new))) shown ∙ ap (map (caught_up (news (f old).seat.seen (f new).seat.seen))) (map-set f seats at new);
}

-- a step that wasn't made leaves all as they are
pub made_none : {S : Type 0} (terms : Terms) (f : S → AtWork) (seats after : List S) (at : ℕ) (new old : S) (lines longer : List WordLine) (known learnt : Known) (heard : Heard) (step : Step) (why : StopReason) (shows : ℕ)
    → at < length seats → old ≡ get_or seats at old → (f old).seat.number ≡ step.seat
    → shows ≡ news (f old).seat.seen (f new).seat.seen
    → map f after ≡ map (caught_up shows) (map f (set seats at new))
    → learnt ≡ known
    → Stays (f old) (f new) lines longer × IsUnmade terms (kind_of step.act) (f old).seat.seen (f old).parties why
    → (working (map f after) longer learnt heard ≡ working (map f seats) lines known heard) × StopsBy terms (kind_of step.act) step (map f seats) why
made_none terms f seats after at new old lines longer known learnt heard step why shows lt there named shown saw unlearnt unmade =
    let stays : Stays (f old) (f new) lines longer = unmade.0 in
    let none : shows ≡ 0 = shown ∙ ap (λ (own : AtWork). news (f old).seat.seen own.seat.seen) stays.0 ∙ no_news (f old).seat.seen in
    let all : map f after ≡ map f seats =
    saw ∙ ap (λ n. map (caught_up n) (map f (set seats at new))) none ∙ none_learned (map f (set seats at new))
    ∙ map_set_same f seats at new old (stays.0 ∙ ap f there) lt in
    let here : slice_get (map f seats) at ≡ Some (f old) =
    slice_get-get_or (map f seats) at (f old) (omega (arith, lt, length-map seats f))
    ∙ ap Some (get_or-map f seats at old (f old) lt ∙ ap f (sym there)) in
    ((λ i. working (all i) (stays.1 i) (unlearnt i) heard), by_unmade terms step (kind_of step.act) (map f seats) why at (f old) here named unmade.1)

-- a turn of the worker: it makes the step if it is its own and its condition holds
pub turn_skips : (count number workers place : ℕ) (step : Step) (work : Working) → (step.seat % workers == number) ≡ false → MakesEach count (if_own number workers place step) work work
turn_skips count number workers place step work other = subst (λ b. MakesEach count (cond b ((place, step) ∷ []) []) work work) (sym other) refl

own_turn : (count number workers place : ℕ) (step : Step) (before after : Working) (due : Bool) → (step.seat % workers == number) ≡ true → applies step before ≡ due → TurnsBy due count place step before after
    → MakesEach count (if_own number workers place step) before after
own_turn count number workers place step before after due own is turns =
    subst (λ b. MakesEach count (cond b ((place, step) ∷ []) []) before after) (sym own) (after, subst (λ b. TurnsBy b count place step before after) (sym is) turns, refl)

pub turn_passes : (count number workers place : ℕ) (step : Step) (work : Working) → (step.seat % workers == number) ≡ true → applies step work ≡ false → MakesEach count (if_own number workers place step) work work
turn_passes count number workers place step work own fails = own_turn count number workers place step work work false own fails refl

pub turn_makes : (count number workers place : ℕ) (step : Step) (before after : Working) → (step.seat % workers == number) ≡ true → applies step before ≡ true → Makes count place step before after
    → MakesEach count (if_own number workers place step) before after
turn_makes count number workers place step before after own due made = own_turn count number workers place step before after true own due made

-- some steps and then others
both_make : (count : ℕ) (xs ys : List (ℕ × Step)) (before between after : Working) → MakesEach count xs before between → MakesEach count ys between after → MakesEach count (xs ++ ys) before after
both_make count [] ys before between after first second = subst (λ from. MakesEach count ys from after) first second
both_make count (x ∷ xs) ys before between after first second = (first.0, first.1, both_make count xs ys first.0 between after first.2 second)

placed_more : (number workers : ℕ) (steps : List Step) (i : ℕ) (d : Step) → i < length steps
    → own_placed number workers (take (i + 1) steps) ≡ own_placed number workers (take i steps) ++ if_own number workers i (get_or steps i d)
placed_more number workers steps i d lt =
    let first = take i steps in
    let here : 0 + length first ≡ i = omega (arith, length-take-le i steps (omega arith)) in
    ap (own_placed number workers) (take_more steps i d lt)
    ∙ ap (filter (is_own_placed number workers)) (enumerate-append 0 first (get_or steps i d ∷ []))
    ∙ filter-append (is_own_placed number workers) (enumerate_from 0 first) (enumerate_from (0 + length first) (get_or steps i d ∷ []))
    ∙ ap (λ k. own_placed number workers first ++ if_own number workers k (get_or steps i d)) here

pub makes_more : (count number workers : ℕ) (steps : List Step) (i : ℕ) (d : Step) (before old new : Working) (n w : ℕ) → i < length steps
    → MakesEach count (own_placed number workers (take i steps)) before old → n ≡ number → w ≡ workers
    → MakesEach count (if_own n w i (get_or steps i d)) old new
    → MakesEach count (own_placed number workers (take (i + 1) steps)) before new
makes_more count number workers steps i d before old new n w lt so_far same_number same_workers more =
    let one = subst (λ k. MakesEach count (if_own number k i (get_or steps i d)) old new) same_workers (subst (λ k. MakesEach count (if_own k w i (get_or steps i d)) old new) same_number more) in
    subst (λ all. MakesEach count all before new) (sym (placed_more number workers steps i d lt)) (both_make count _ _ before old new so_far one)

-- the same of a worker that is known to be this one and to have begun so
pub own_from : (terms : Terms) (number workers : ℕ) (steps : List Step) (before : Working) (halted : Option Stop) (other_number other_workers : ℕ) (given : List Step) (from after : Working) (stopped : Option Stop)
    → MakesOwn terms other_number other_workers given from after stopped → other_number ≡ number → other_workers ≡ workers → given ≡ steps → from ≡ before → stopped ≡ halted
    → MakesOwn terms number workers steps before after halted
own_from terms number workers steps before halted other_number other_workers given from after stopped made same_number same_workers same_steps same_before same_halt =
    subst (λ it. MakesOwn terms number workers steps before after it) same_halt
    (subst (λ it. MakesOwn terms number workers steps it after stopped) same_before
    (subst (λ it. MakesOwn terms number workers it from after stopped) same_steps
    (subst (λ it. MakesOwn terms number it given from after stopped) same_workers
    (subst (λ it. MakesOwn terms it other_workers given from after stopped) same_number made))))

pub begun : {S : Type 0} (f : S → AtWork) (seats given : List S) (lines : List WordLine) (known knows : Known) (heard hears : Heard) → seats ≡ given → lines ≡ [] → known ≡ knows → heard ≡ hears
    → working (map f seats) lines known heard ≡ working (map f given) [] knows hears
begun f seats given lines known knows heard hears same none knowing hearing = λ i. working (map f (same i)) (none i) (knowing i) (hearing i)

-- what is counted in the pieces that some tell
count_pieces : {W P X : Type 0} (test : X → Bool) (piece : P → List X) (h : W → P) (g : W → ℕ) → ((w : W) → count_by test (piece (h w)) ≡ g w) → (ws : List W)
    → count_by test (flat_map piece (map h ws)) ≡ sum_by g ws
count_pieces test piece h g each [] = refl
count_pieces test piece h g each (w ∷ ws) =
    let both : count_by test (flat_map piece (h w ∷ map h ws)) ≡ count_by test (piece (h w)) + count_by test (flat_map piece (map h ws)) =
    ap (count_by test) (flat_map-cons piece (h w) (map h ws)) ∙ sum_by-append _ (piece (h w)) (flat_map piece (map h ws)) in
    let here : count_by test (piece (h w)) ≡ g w = each w in
    let rest : count_by test (flat_map piece (map h ws)) ≡ sum_by g ws = count_pieces test piece h g each ws in
    let sum : sum_by g (w ∷ ws) ≡ g w + sum_by g ws = sum_by-cons g w ws in
    omega (arith, both, here, rest, sum)

told_from : {W P : Type 0} (h : W → P) (o : Option W) (p : P) → option_map h o ≡ Some p → (w : W) × (o ≡ Some w) × (h w ≡ p)
told_from h None p is = absurd (none-some p is)
told_from h (Some w) p is = (w, refl, ap (λ found. unwrap_or found p) is)

pub found_in : {W P : Type 0} (h : W → P) (ws : List W) (k : ℕ) (p : P) → slice_get (map h ws) k ≡ Some p → (w : W) × (slice_get ws k ≡ Some w) × (h w ≡ p)
found_in h ws k p is = told_from h (slice_get ws k) p (sym (slice_get-map h ws k) ∙ is)

All-mapped : {S X : Type 0} (f : S → X) (P : X → Type 0) (xs : List S) → All (λ s. P (f s)) xs → All P (map f xs)
All-mapped f P [] each = All-nil P
All-mapped f P (x ∷ xs) each = All-cons P (f x) (map f xs) (All-head (λ s. P (f s)) x xs each) (All-mapped f P xs (All-tail (λ s. P (f s)) x xs each))

abbrev left_of : {S W : Type 0} → (S → AtWork) → (W → List S) → (W → List WordLine) → (W → Known) → (W → Heard) → (W → Option Stop) → W → Left
left_of f seats_of lines_of known_of heard_of stopped_of w = record { work = working (map f (seats_of w)) (lines_of w) (known_of w) (heard_of w); stop = stopped_of w }

-- what follows of each answer by four facts follows where there is one
pub if_ok_all : {T E : Type 0} (result : Result T E) {P Q R N S : T → Type 0} → ((value : T) → P value → Q value → R value → N value → S value) → IfOk result P → IfOk result Q → IfOk result R → IfOk result N → IfOk result S
if_ok_all (Ok value) step one two three four = step value one two three four
if_ok_all (Err fault) step one two three four = one

-- workers that seats were dealt to, and what is gathered of what they left
pub work_apart : {S W : Type 0} (f : S → AtWork) (seats_of : W → List S) (lines_of : W → List WordLine) (known_of : W → Known) (heard_of : W → Heard) (stopped_of : W → Option Stop) (terms : Terms) (workers : ℕ) (steps : List Step) (known : Known) (ready : List S) (groups done : List W) (after : List S) (lines : List WordLine) (stopped : Option Stop)
    → length groups ≡ workers → length done ≡ workers
    → ((test : S → Bool) → sum_by (λ worker. count_by test (seats_of worker)) groups ≡ count_by test ready)
    → ((k : ℕ) (one : W) → k < workers → All (λ s. IsOwn k workers (f s)) (seats_of (get_or groups k one)))
    → ((k : ℕ) (one other : W) → k < workers → MakesOwn terms k workers steps (working (map f (seats_of (get_or groups k other))) [] (known_to k workers steps known) (none_heard steps)) (left_of f seats_of lines_of known_of heard_of stopped_of (get_or done k one)).work (stopped_of (get_or done k one)))
    → ((test : S → Bool) → count_by test after ≡ sum_by (λ worker. count_by test (seats_of worker)) done)
    → ((test : WordLine → Bool) → count_by test lines ≡ sum_by (λ worker. count_by test (lines_of worker)) done)
    → stopped ≡ first_stop stopped_of done
    → AreFounded (map known_of done)
    → WorkApart terms workers steps known (map f ready) (map f after) lines stopped
work_apart f seats_of lines_of known_of heard_of stopped_of terms workers steps known ready groups done after lines stopped grouped counted dealt own made gathered told halted founded =
    record {
      dealt = map (λ w. map f (seats_of w)) groups;
      left = map (left_of f seats_of lines_of known_of heard_of stopped_of) done;
      many = (length-map groups (λ w. map f (seats_of w)) ∙ grouped, length-map done (left_of f seats_of lines_of known_of heard_of stopped_of) ∙ counted);
      seats = λ test.
          count_pieces test (λ seats. seats) (λ w. map f (seats_of w)) (λ w. count_by (λ s. test (f s)) (seats_of w)) (λ w. count_map f test (seats_of w)) groups ∙ dealt (λ s. test (f s)) ∙ sym (count_map f test ready);
      own = λ number seats there.
          let group = found_in (λ w. map f (seats_of w)) groups number seats there in
          let within : number < workers = omega (arith, slice_get_within groups number group.0 group.1, grouped) in
          subst (All (IsOwn number workers)) group.2 (All-mapped f (IsOwn number workers) (seats_of group.0)
          (subst (λ w. All (λ s. IsOwn number workers (f s)) (seats_of w)) (get_or_from_slice_get groups number group.0 group.0 group.1) (own number group.0 within)));
      made = λ number seats one there here.
          let group = found_in (λ w. map f (seats_of w)) groups number seats there in
          let left = found_in (left_of f seats_of lines_of known_of heard_of stopped_of) done number one here in
          let within : number < workers = omega (arith, slice_get_within groups number group.0 group.1, grouped) in
          let first = get_or_from_slice_get groups number group.0 group.0 group.1 in
          let last = get_or_from_slice_get done number left.0 left.0 left.1 in
          let knows = known_to number workers steps known in
          subst (λ (one : Left). MakesOwn terms number workers steps (working seats [] knows (none_heard steps)) one.work one.stop) left.2
          (subst (λ seats. MakesOwn terms number workers steps (working seats [] knows (none_heard steps)) (left_of f seats_of lines_of known_of heard_of stopped_of left.0).work (stopped_of left.0)) group.2
          (subst (λ w. MakesOwn terms number workers steps (working (map f (seats_of group.0)) [] knows (none_heard steps)) (left_of f seats_of lines_of known_of heard_of stopped_of w).work (stopped_of w)) last
          (subst (λ w. MakesOwn terms number workers steps (working (map f (seats_of w)) [] knows (none_heard steps)) (left_of f seats_of lines_of known_of heard_of stopped_of (get_or done number left.0)).work (stopped_of (get_or done number left.0))) first
          (made number left.0 group.0 within))));
      back = λ test.
          count_map f test after ∙ gathered (λ s. test (f s))
          ∙ sym (count_pieces test (λ (one : Left). one.work.seats) (left_of f seats_of lines_of known_of heard_of stopped_of) (λ w. count_by (λ s. test (f s)) (seats_of w)) (λ w. count_map f test (seats_of w)) done);
      told = λ test. told test ∙ sym (count_pieces test (λ (one : Left). one.work.lines) (left_of f seats_of lines_of known_of heard_of stopped_of) (λ w. count_by test (lines_of w)) (λ w. refl) done);
      halted = halted ∙ sym (first_map (λ (one : Left). one.stop) (left_of f seats_of lines_of known_of heard_of stopped_of) done);
      labels = subst AreFounded (sym (map-map (λ (one : Left). one.work.known) (left_of f seats_of lines_of known_of heard_of stopped_of) done)) founded;
    }
