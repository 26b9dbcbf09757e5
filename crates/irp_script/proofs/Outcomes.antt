-- How one step comes out: what it adds to the word lines and to the calls of seats.
use Rattle.std.proofs.Common.{◌≡◌, ◌≢◌, ◌<◌, ◌==◌, ℕ, Bool, true, false, cond, eq-eqb, Option, Some, None, List, [], ◌∷◌, ◌++◌, length, map, get_or, set, refl, sym, subst, ap, ◌∙◌, arith}
use Rattle.std.specs.Option.{option_to_list}
use Rattle.std.specs.List.{cons_option}
use Rattle.std.proofs.lemmas.List.{append-nil, get_or-set_other, length-set, map_push}
use Rattle.std.proofs.lemmas.Option.{get_or_from_slice_get, slice_get_within}
use Rattle.std.proofs.lemmas.Simd.{map-map}
use Rattle.irp_types.specs.declared.seat_act.Hand.{Hand}
use Rattle.irp_types.specs.Calls.{Call}
use Rattle.irp_types.specs.declared.entry.Entry.{Entry}
use Rattle.irp_transcript.specs.declared.word_line.WordLine.{WordLine}
use mathlib.Core.Bool.{true≢false}
use Rattle.irp_script_reader.specs.declared.act.Step.{Step}
use Rattle.irp_script_reader.specs.declared.condition.Condition.{Condition}
use Rattle.irp_steps.specs.declared.step_kind.StepKind.{StepKind}
use Rattle.irp_steps.specs.declared.step_kind.StepKind.TheVariants.{Calls, OnLock, Hands, OnSlot, Finishes}
use Rattle.irp_script.specs.Accounts.{calls_at, pair_at}
use Rattle.irp_steps.specs.Conditions.{Heard, holds}
use Rattle.irp_script.specs.Labels.{Known}
use Rattle.irp_steps.specs.declared.answered.Answered.{Answered}
use Rattle.irp_steps.specs.declared.answered.Answered.TheVariants as answer
use Rattle.irp_steps.specs.StepKinds.{kind_of}
use Rattle.irp_script.specs.Made.{NoneTwice, SeatCalls, calls_in, nameless, once_made}
use Rattle.irp_script.specs.Outcomes.{Outcome, Way, Made, Tokenless, Passed, nameless_call, told_act, way_of}
use Rattle.irp_script.specs.Words.{told_by, word_step, word_step_of}
use Rattle.irp_script.specs.Working.{AtWork, Does, MakesAlone, MakesBy, MakesHand, Turns, TurnsBy, Working, applies, caught_up, news}
use Rattle.irp_script.proofs.Making.{called_at}
use Rattle.irp_script.proofs.Numbers.{map_set_same}
use Rattle.irp_script.proofs.StepCalls.{nameless_of}

-- what one seat and the lines tell of a step, which is made in any case
record CameOut (place : ℕ) (step : Step) (kind : StepKind) (old new : AtWork) (lines longer : List WordLine) : Type 0 where
  way : Way
  always : way_of None way ≡ way
  told : map told_by longer ≡ map told_by lines ++ option_to_list (word_step step.seat place (told_act kind way))
  pair : pair_at new ≡ pair_at old
  calls : calls_in new.seat.entries ≡ calls_in old.seat.entries ++ option_to_list (nameless_call kind step.act way)

-- one entry more
one_call : (old new : List Entry) (entry : Entry) (made : Call) → new ≡ old ++ entry ∷ [] → entry.call ≡ made → calls_in new ≡ calls_in old ++ nameless made ∷ []
one_call old new entry made more is =
    ap calls_in more ∙ map_push (λ (entry : Entry). nameless entry.call) old entry ∙ ap (λ call. calls_in old ++ nameless call ∷ []) is

none_told : (lines longer : List WordLine) → longer ≡ lines → map told_by longer ≡ map told_by lines ++ []
none_told lines longer is = ap (map told_by) is ∙ sym (append-nil (map told_by lines))

one_told : (lines longer : List WordLine) (line : WordLine) → longer ≡ lines ++ line ∷ [] → map told_by longer ≡ map told_by lines ++ told_by line ∷ []
one_told lines longer line is = ap (map told_by) is ∙ map_push told_by lines line

no_call_more : (old new : AtWork) → new.seat ≡ old.seat → calls_in new.seat.entries ≡ calls_in old.seat.entries ++ []
no_call_more old new same = ap (λ seat. calls_in seat.entries) same ∙ sym (append-nil (calls_in old.seat.entries))

came_out : (count place : ℕ) (step : Step) (kind : StepKind) (old new : AtWork) (lines longer : List WordLine) (known learnt : Known) (given : Answered)
    → Does count place step kind old new lines longer known learnt given → CameOut place step kind old new lines longer
came_out count place step Calls old new lines longer known learnt (answer.Reply reply) did = record {
  way = Made;
  always = refl;
  told = none_told lines longer did.silent;
  pair = λ i. record { seat = did.called.recorded.recorded.kept.number i; table = (did.rest i).remove.table; remove = (did.rest i).remove.number };
  calls = one_call old.seat.entries new.seat.entries did.called.recorded.recorded.entry did.called.call did.called.recorded.recorded.kept.entries did.called.recorded.recorded.of_call.asks
      ∙ ap (λ made. calls_in old.seat.entries ++ option_to_list made) (sym (nameless_of step.act did.called.of_act.packet.irp did.called.call did.called.of_act.made));
}
came_out count place step Calls old new lines longer known learnt (answer.Word reply) did = absurd did
came_out count place step (OnLock on) old new lines longer known learnt (answer.Reply reply) did = absurd did
came_out count place step (OnLock on) old new lines longer known learnt (answer.Word reply) (unlearnt, did) = record {
  way = Made;
  always = refl;
  told = one_told lines longer _ did.told;
  pair = λ i. record { seat = (did.rest i).seat.number; table = did.same.0 i; remove = did.same.1 i };
  calls = no_call_more old new (ap (λ own. own.seat) did.rest);
}
came_out count place step (OnSlot on) old new lines longer known learnt (answer.Reply reply) did = absurd did
came_out count place step (OnSlot on) old new lines longer known learnt (answer.Word reply) did = record {
  way = Made;
  always = refl;
  told = one_told lines longer _ did.told;
  pair = ap pair_at did.rest;
  calls = no_call_more old new (ap (λ own. own.seat) did.rest);
}
came_out count place step (Finishes slot status information) old new lines longer known learnt (answer.Reply reply) did = record {
  way = Made;
  always = refl;
  told = none_told lines longer did.silent;
  pair = λ i. record { seat = did.recorded.recorded.kept.number i; table = (did.rest i).remove.table; remove = (did.rest i).remove.number };
  calls = one_call old.seat.entries new.seat.entries did.recorded.recorded.entry _ did.recorded.recorded.kept.entries did.recorded.recorded.of_call.asks;
}
came_out count place step (Finishes slot status information) old new lines longer known learnt (answer.Word reply) (unlearnt, no_token, did) = record {
  way = Tokenless;
  always = refl;
  told = one_told lines longer _ did.told;
  pair = ap pair_at did.rest;
  calls = no_call_more old new (ap (λ own. own.seat) did.rest);
}
came_out count place step (Hands hand) old new lines longer known learnt given did = absurd did

-- what a worker's seats and lines tell of a step
pub record Comes (out : Outcome) (before after : Working) : Type 0 where
  pub own : way_of out.step.condition out.way ≡ out.way
  pub told : map told_by after.lines ≡ map told_by before.lines ++ option_to_list (word_step_of out)
  pub pairs : map pair_at after.seats ≡ map pair_at before.seats
  pub called : NoneTwice (map pair_at before.seats) → map calls_at after.seats ≡ map (once_made (out ∷ [])) (map calls_at before.seats)

abbrev pub out_of : ℕ → Step → Way → Outcome
out_of place step way = record { place = place; step = step; way = way }

-- what is made in any case is, whatever it hangs on
in_any_case : (condition : Option Condition) (way : Way) → way_of None way ≡ way → way_of condition way ≡ way
in_any_case None way always = always
in_any_case (Some condition) way always = refl

cons_none : {X : Type 0} (o : Option X) → cons_option o [] ≡ option_to_list o
cons_none None = refl
cons_none (Some x) = refl

-- the seat that made a step has made its call
once_own : (place : ℕ) (step : Step) (way : Way) (old new : AtWork) → pair_at new ≡ pair_at old → old.seat.number ≡ step.seat
    → calls_in new.seat.entries ≡ calls_in old.seat.entries ++ option_to_list (nameless_call (kind_of step.act) step.act way)
    → calls_at new ≡ once_made (out_of place step way ∷ []) (calls_at old)
once_own place step way old new pair named calls =
    let made = nameless_call (kind_of step.act) step.act way in
    let all : calls_in new.seat.entries ≡ calls_in old.seat.entries ++ cons_option (cond (old.seat.number == step.seat) made None) [] =
    calls ∙ ap (λ more. calls_in old.seat.entries ++ more) (sym (ap (λ b. cons_option (cond b made None) []) (eq-eqb old.seat.number step.seat named) ∙ cons_none made)) in
    λ i. record { pair = pair i; calls = all i }

alone : (count place : ℕ) (step : Step) (before after : Working) → MakesAlone count place step (kind_of step.act) before after
    → (way : Way) × Comes (out_of place step way) before after
alone count place step before after made =
    let out = came_out count place step (kind_of step.act) made.old made.new before.lines after.lines before.known after.known made.answer made.did in
    let lt = slice_get_within before.seats made.at made.old made.there in
    let here = get_or_from_slice_get before.seats made.at made.old made.old made.there in
    let length = news made.old.seat.seen made.new.seat.seen in (
      out.way,
      record {
        own = in_any_case step.condition out.way out.always;
        told = out.told;
        pairs = ap (map pair_at) made.others ∙ map-map pair_at (caught_up length) (set before.seats made.at made.new) ∙ map_set_same pair_at before.seats made.at made.new made.old (out.pair ∙ ap pair_at (sym here)) lt;
        called = λ once.
            ap (map calls_at) made.others ∙ map-map calls_at (caught_up length) (set before.seats made.at made.new)
            ∙ called_at calls_at before.seats made.at made.new made.old (out_of place step out.way) lt (ap (λ own. own.seat.number) here ∙ made.named)
            (once_own place step out.way made.old made.new out.pair made.named out.calls ∙ ap (λ own. once_made (out_of place step out.way ∷ []) (calls_at own)) (sym here)) once;
      },
    )

-- two that tell the same in the places of two
two_set_same : {A B : Type 0} (f : A → B) (xs : List A) (a b : ℕ) (one other one_after other_after : A) → a ≢ b → a < length xs → b < length xs
    → get_or xs a one ≡ one → get_or xs b other ≡ other → f one_after ≡ f one → f other_after ≡ f other
    → map f (set (set xs a one_after) b other_after) ≡ map f xs
two_set_same f xs a b one other one_after other_after apart lt_a lt_b here there same_one same_other =
    let still : get_or (set xs a one_after) b other ≡ get_or xs b other = get_or-set_other xs a b one_after other (λ is. apart (sym is)) in
    map_set_same f (set xs a one_after) b other_after other (same_other ∙ ap f (sym (still ∙ there))) (omega (arith, lt_b, length-set xs a one_after))
    ∙ map_set_same f xs a one_after one (same_one ∙ ap f (sym here)) lt_a

no_call : (b : Bool) → ◌≡◌ {A = Option Call} (cond b None None) None
no_call true = refl
no_call false = refl

uncalled : (place : ℕ) (step : Step) (way : Way) → nameless_call (kind_of step.act) step.act way ≡ None → (all : List SeatCalls) → map (once_made (out_of place step way ∷ [])) all ≡ all
uncalled place step way none [] = refl
uncalled place step way none (told ∷ all) =
    let here : told.calls ++ cons_option (cond (told.pair.seat == step.seat) (nameless_call (kind_of step.act) step.act way) None) [] ≡ told.calls =
    ap (λ made. told.calls ++ cons_option (cond (told.pair.seat == step.seat) made None) []) none
    ∙ ap (λ made. told.calls ++ cons_option made []) (no_call (told.pair.seat == step.seat)) ∙ append-nil told.calls in
    λ i. record { pair = told.pair; calls = here i } ∷ uncalled place step way none all i

handed : (count place : ℕ) (step : Step) (before after : Working) (hand : Hand) → kind_of step.act ≡ Hands hand → MakesHand count place step hand before after
    → Comes (out_of place step Made) before after
handed count place step before after hand is made =
    let two = made.between in
    let from_lt = slice_get_within before.seats made.from_at two.giver two.giver_there in
    let to_lt = slice_get_within before.seats made.to_at two.taker two.taker_there in
    let from_here = get_or_from_slice_get before.seats made.from_at two.giver two.giver two.giver_there in
    let to_here = get_or_from_slice_get before.seats made.to_at two.taker two.taker two.taker_there in
    let giver_pair : pair_at two.giver_after ≡ pair_at two.giver =
    λ i. record { seat = (two.handed.giver_rest i).seat.number; table = two.handed.giver_same.0 i; remove = two.handed.giver_same.1 i } in
    let taker_pair : pair_at two.taker_after ≡ pair_at two.taker =
    λ i. record { seat = (two.handed.taker_rest i).seat.number; table = two.handed.taker_same.0 i; remove = two.handed.taker_same.1 i } in
    let giver_calls : calls_at two.giver_after ≡ calls_at two.giver =
    λ i. record { pair = giver_pair i; calls = calls_in (two.handed.giver_rest i).seat.entries } in
    let taker_calls : calls_at two.taker_after ≡ calls_at two.taker =
    λ i. record { pair = taker_pair i; calls = calls_in (two.handed.taker_rest i).seat.entries } in
    record {
      own = in_any_case step.condition Made refl;
      told = one_told before.lines after.lines _ made.told ∙ ap (λ kind. map told_by before.lines ++ option_to_list (word_step step.seat place (told_act kind Made))) (sym is);
      pairs = ap (map pair_at) two.others
          ∙ two_set_same pair_at before.seats made.from_at made.to_at two.giver two.taker two.giver_after two.taker_after made.apart from_lt to_lt from_here to_here giver_pair taker_pair;
      called = λ once.
          ap (map calls_at) two.others
          ∙ two_set_same calls_at before.seats made.from_at made.to_at two.giver two.taker two.giver_after two.taker_after made.apart from_lt to_lt from_here to_here giver_calls taker_calls
          ∙ sym (uncalled place step Made (ap (λ kind. nameless_call kind step.act Made) is) (map calls_at before.seats));
    }

-- the same of a kind that is known to be the step's
alone_by : (count place : ℕ) (step : Step) (before after : Working) (kind : StepKind) → kind_of step.act ≡ kind → MakesAlone count place step kind before after
    → MakesAlone count place step (kind_of step.act) before after
alone_by count place step before after kind is made = subst (λ some. MakesAlone count place step some before after) (sym is) made

by_deed : (count place : ℕ) (step : Step) (before after : Working) (kind : StepKind) → kind_of step.act ≡ kind → MakesBy count place step kind before after
    → (way : Way) × Comes (out_of place step way) before after
by_deed count place step before after (Hands hand) is made = (Made, handed count place step before after hand is made)
by_deed count place step before after Calls is made = alone count place step before after (alone_by count place step before after Calls is made)
by_deed count place step before after (OnLock on) is made = alone count place step before after (alone_by count place step before after (OnLock on) is made)
by_deed count place step before after (OnSlot on) is made = alone count place step before after (alone_by count place step before after (OnSlot on) is made)
by_deed count place step before after (Finishes slot status information) is made =
    alone count place step before after (alone_by count place step before after (Finishes slot status information) is made)

-- a step that was passed over has a condition, and did nothing
passed_one : (heard : Heard) (condition : Option Condition) → holds heard condition ≡ false → way_of condition Passed ≡ Passed
passed_one heard None fails = absurd (true≢false fails)
passed_one heard (Some condition) fails = refl

passed_over : (place : ℕ) (step : Step) (before after : Working) → applies step before ≡ false → after ≡ before → Comes (out_of place step Passed) before after
passed_over place step before after fails same = record {
  own = passed_one before.heard step.condition fails;
  told = none_told before.lines after.lines (ap (λ work. work.lines) same);
  pairs = ap (λ work. map pair_at work.seats) same;
  called = λ once. ap (λ work. map calls_at work.seats) same ∙ sym (uncalled place step Passed refl (map calls_at before.seats));
}

by_turn : (count place : ℕ) (step : Step) (before after : Working) (due : Bool) → applies step before ≡ due → TurnsBy due count place step before after
    → (way : Way) × Comes (out_of place step way) before after
by_turn count place step before after true is made = by_deed count place step before after (kind_of step.act) refl made
by_turn count place step before after false is same = (Passed, passed_over place step before after is same)

-- a step comes out in one way
pub comes : (count place : ℕ) (step : Step) (before after : Working) → Turns count place step before after
    → (way : Way) × Comes (out_of place step way) before after
comes count place step before after turns = by_turn count place step before after (applies step before) refl turns
