-- What a hand does to two of several seats, of which the one is taken out meanwhile.
use Rattle.std.proofs.Common.{◌≡◌, ◌≢◌, ◌<◌, ◌≤◌, ◌+◌, ℕ, zero, suc, All, cond, Some, List, [], ◌∷◌, length, map, get_or, set, refl, sym, subst, ap, ◌∙◌, arith, inl, inr}
use Rattle.std.specs.Prelude.{IsOk, Result, slice_get}
use Rattle.std.specs.Result.{is_ok}
use Rattle.std.specs.List.{insert, remove}
use Rattle.std.specs.Option.{option_map, unwrap_or}
use Rattle.std.proofs.lemmas.Bool.Decides.{leb_tells}
use Rattle.std.proofs.lemmas.List.{get_or-map, length-map, map-set}
use Rattle.std.proofs.lemmas.List.Elements.{All-set}
use Rattle.std.proofs.lemmas.Option.{slice_get-get_or, slice_get-map}
use Rattle.atomic_table.specs.Seated.{TableId}
use Rattle.irp_types.specs.declared.names.LockNo.{LockNo}
use Rattle.irp_types.specs.declared.seat_act.Hand.{Hand}
use Rattle.irp_transcript.specs.declared.word_line.Act.TheVariants as act
use Rattle.irp_transcript.specs.declared.word_line.WordLine.{WordLine}
use Rattle.irp_transcript.specs.declared.word_line.WordReply.{WordReply}
use Rattle.irp_script_reader.specs.declared.act.Step.{Step}
use Rattle.irp_steps.specs.Conditions.{Heard, with_answer}
use Rattle.irp_script.specs.Labels.{Known}
use Rattle.irp_steps.specs.declared.answered.Answered.TheVariants as answer
use Rattle.irp_script.specs.Working.{AtWork, HandsBetween, HandsOver, MakesHand, Tells, working}

-- one is taken out and put in again
put_in : {S : Type 0} (xs : List S) (a : ℕ) (one : S) → a < length xs → insert (remove xs a) a one ≡ set xs a one
put_in [] a one lt = absurd (omega arith)
put_in (x ∷ xs) zero one lt = refl
put_in (x ∷ xs) (suc a) one lt = ap (λ rest. x ∷ rest) (put_in xs a one (omega arith))

-- meanwhile one before it changed
before_it : {S : Type 0} (xs : List S) (a b : ℕ) (one other : S) → b < a → a < length xs → insert (set (remove xs a) b other) a one ≡ set (set xs a one) b other
before_it [] a b one other less lt = absurd (omega arith)
before_it (x ∷ xs) zero b one other less lt = absurd (omega arith)
before_it (x ∷ xs) (suc a) zero one other less lt = ap (λ rest. other ∷ rest) (put_in xs a one (omega arith))
before_it (x ∷ xs) (suc a) (suc b) one other less lt = ap (λ rest. x ∷ rest) (before_it xs a b one other (omega arith) (omega arith))

-- or one behind it
behind_it : {S : Type 0} (xs : List S) (a c : ℕ) (one other : S) → a ≤ c → c + 1 < length xs → insert (set (remove xs a) c other) a one ≡ set (set xs a one) (suc c) other
behind_it [] a c one other less lt = absurd (omega arith)
behind_it (x ∷ xs) zero c one other less lt = refl
behind_it (x ∷ xs) (suc a) zero one other less lt = absurd (omega arith)
behind_it (x ∷ xs) (suc a) (suc c) one other less lt = ap (λ rest. x ∷ rest) (behind_it xs a c one other (omega arith) (omega arith))

pub changed_two : {S : Type 0} (xs : List S) (a b c : ℕ) (one other : S) → a < length xs → b < length xs → b ≢ a → (b < a → c ≡ b) → (a < b → c + 1 ≡ b)
    → insert (set (remove xs a) c other) a one ≡ set (set xs a one) b other
changed_two xs a b c one other lt lt_b apart before behind = elim (leb_tells a b) as (λ _. insert (set (remove xs a) c other) a one ≡ set (set xs a one) b other) [
  | inl is ↦
      let less : a < b = omega (arith, is.1, apart) in
      let place : suc c ≡ b = omega (arith, behind less) in
      behind_it xs a c one other (omega (arith, less, place)) (omega (arith, place, lt_b)) ∙ ap (λ k. set (set xs a one) k other) place
  | inr other_way ↦
      let less : b < a = omega (arith, other_way.1) in
      ap (λ k. insert (set (remove xs a) k other) a one) (before less) ∙ before_it xs a b one other less lt
]

-- what an insertion that succeeds gives
pub inserted : {S T E : Type 0} (result : Result T E) (all other : List S) → IsOk result → cond (is_ok result) all other ≡ all
inserted result all other is = ap (λ b. cond b all other) is

-- what stands at a place once another one is taken out
there_before : {S : Type 0} (xs : List S) (a b : ℕ) (d : S) → b < a → get_or (remove xs a) b d ≡ get_or xs b d
there_before [] zero b d less = absurd (omega arith)
there_before [] (suc a) b d less = refl
there_before (x ∷ xs) zero b d less = absurd (omega arith)
there_before (x ∷ xs) (suc a) zero d less = refl
there_before (x ∷ xs) (suc a) (suc b) d less = there_before xs a b d (omega arith)

there_behind : {S : Type 0} (xs : List S) (a c : ℕ) (d : S) → a ≤ c → get_or (remove xs a) c d ≡ get_or xs (suc c) d
there_behind [] zero c d less = refl
there_behind [] (suc a) c d less = refl
there_behind (x ∷ xs) zero c d less = refl
there_behind (x ∷ xs) (suc a) zero d less = absurd (omega arith)
there_behind (x ∷ xs) (suc a) (suc c) d less = there_behind xs a c d (omega arith)

pub there_still : {S : Type 0} (xs : List S) (a b c : ℕ) (d : S) → b ≢ a → (b < a → c ≡ b) → (a < b → c + 1 ≡ b) → get_or (remove xs a) c d ≡ get_or xs b d
there_still xs a b c d apart before behind = elim (leb_tells a b) as (λ _. get_or (remove xs a) c d ≡ get_or xs b d) [
  | inl is ↦
      let less : a < b = omega (arith, is.1, apart) in
      let place : suc c ≡ b = omega (arith, behind less) in
      there_behind xs a c d (omega (arith, less, place)) ∙ ap (λ k. get_or xs k d) place
  | inr other_way ↦
      let less : b < a = omega (arith, other_way.1) in
      ap (λ k. get_or (remove xs a) k d) (before less) ∙ there_before xs a b d less
]

-- what stands at a place of what is said
there_mapped : {S : Type 0} (f : S → AtWork) (seats : List S) (k : ℕ) (one d : S) → k < length seats → one ≡ get_or seats k d → slice_get (map f seats) k ≡ Some (f one)
there_mapped f seats k one d lt is =
    slice_get-get_or (map f seats) k (f d) (omega (arith, lt, length-map seats f)) ∙ ap Some (get_or-map f seats k d (f d) lt ∙ ap f (sym is))

pub hands_two : {S : Type 0} (f : S → AtWork) (count : ℕ) (lock : LockNo) (tag from_at to_at : ℕ) (seats new : List S) (giver giver_after taker taker_after : S) (reply : WordReply)
    → from_at < length seats → to_at < length seats → giver ≡ get_or seats from_at giver → taker ≡ get_or seats to_at taker
    → new ≡ set (set seats from_at giver_after) to_at taker_after
    → HandsOver count lock tag (f giver) (f giver_after) (f taker) (f taker_after) reply
    → HandsBetween count lock tag from_at to_at (map f seats) (map f new) reply
hands_two f count lock tag from_at to_at seats new giver giver_after taker taker_after reply from_lt to_lt giver_here taker_here changed handed = record {
  giver = f giver;
  giver_after = f giver_after;
  taker = f taker;
  taker_after = f taker_after;
  giver_there = there_mapped f seats from_at giver giver from_lt giver_here;
  taker_there = there_mapped f seats to_at taker taker to_lt taker_here;
  handed = handed;
  others = ap (map f) changed ∙ map-set f (set seats from_at giver_after) to_at taker_after ∙ ap (λ all. set all to_at (f taker_after)) (map-set f seats from_at giver_after);
}

-- where all fit, the two that changed fit still
abbrev pub Fits : {S : Type 0} → (S → AtWork) → TableId → S → Type 0
Fits f table seat = (f seat).remove.table ≡ table

pub two_fit : {S : Type 0} (f : S → AtWork) (table : TableId) (count : ℕ) (lock : LockNo) (tag from_at to_at : ℕ) (seats new : List S) (giver giver_after taker taker_after : S) (reply : WordReply)
    → from_at < length seats → to_at < length seats → giver ≡ get_or seats from_at giver → taker ≡ get_or seats to_at taker
    → new ≡ set (set seats from_at giver_after) to_at taker_after
    → HandsOver count lock tag (f giver) (f giver_after) (f taker) (f taker_after) reply
    → All (Fits f table) seats → All (Fits f table) new
two_fit f table count lock tag from_at to_at seats new giver giver_after taker taker_after reply from_lt to_lt giver_here taker_here changed handed each =
    let gives = ap (λ s. (f s).remove.table) giver_here ∙ each from_at giver from_lt in
    let takes = ap (λ s. (f s).remove.table) taker_here ∙ each to_at taker to_lt in
    subst (All (Fits f table)) (sym changed)
    (All-set (Fits f table) (set seats from_at giver_after) to_at taker_after (handed.taker_same.0 ∙ takes)
    (All-set (Fits f table) seats from_at giver_after (handed.giver_same.0 ∙ gives) each))

-- two seats that fit are of one table
pub same_table : {S : Type 0} (f : S → AtWork) (table : TableId) (from_at to_at : ℕ) (seats : List S) (giver taker : S)
    → from_at < length seats → to_at < length seats → giver ≡ get_or seats from_at giver → taker ≡ get_or seats to_at taker
    → All (Fits f table) seats → (f taker).remove.table ≡ (f giver).remove.table
same_table f table from_at to_at seats giver taker from_lt to_lt giver_here taker_here each =
    ap (λ s. (f s).remove.table) taker_here ∙ each to_at taker to_lt ∙ sym (ap (λ s. (f s).remove.table) giver_here ∙ each from_at giver from_lt)

-- the seat at a place where its number was found
named_at : {S : Type 0} (f : S → AtWork) (seats : List S) (at number : ℕ) (own : AtWork) → slice_get (map (λ s. (f s).seat.number) seats) at ≡ Some number → slice_get (map f seats) at ≡ Some own → own.seat.number ≡ number
named_at f seats at number own is there =
    let g : AtWork → ℕ = λ own. own.seat.number in
    let found : option_map g (Some own) ≡ Some number =
    ap (option_map g) (sym there) ∙ sym (slice_get-map g (map f seats) at) ∙ ap (λ numbers. slice_get numbers at) (map_twice g f seats) ∙ is in
    ap (λ one. unwrap_or one number) found
  where
    map_twice : {A B C : Type 0} (g : B → C) (f : A → B) (xs : List A) → map g (map f xs) ≡ map (λ x. g (f x)) xs
    map_twice g f [] = refl
    map_twice g f (x ∷ xs) = ap (λ rest. g (f x) ∷ rest) (map_twice g f xs)

-- a hand of two seats is what a worker makes that has them
pub makes_hand : {S : Type 0} (f : S → AtWork) (count place : ℕ) (step : Step) (hand : Hand) (from_at to_at : ℕ) (seats new : List S) (lines room longer : List WordLine) (known : Known) (heard kept : Heard) (reply : WordReply)
    → slice_get (map (λ s. (f s).seat.number) seats) from_at ≡ Some step.seat → slice_get (map (λ s. (f s).seat.number) seats) to_at ≡ Some hand.to → from_at ≢ to_at
    → room ≡ lines → HandsBetween count hand.lock hand.tag from_at to_at (map f seats) (map f new) reply → Tells place step (act.Hand hand) reply room longer
    → kept ≡ with_answer heard place (answer.Word reply)
    → MakesHand count place step hand (working (map f seats) lines known heard) (working (map f new) longer known kept)
makes_hand f count place step hand from_at to_at seats new lines room longer known heard kept reply from_found to_found apart roomy hands told keeps = record {
  from_at = from_at;
  to_at = to_at;
  apart = apart;
  reply = reply;
  between = hands;
  giver_named = named_at f seats from_at step.seat hands.giver from_found hands.giver_there;
  taker_named = named_at f seats to_at hand.to hands.taker to_found hands.taker_there;
  told = subst (λ all. Tells place step (act.Hand hand) reply all longer) roomy told;
  unlearnt = refl;
  heard = keeps;
}
