-- The acts of the seats.
use Rattle.std.proofs.Common.{◌≡◌, ℕ, ◌+◌, ◌<◌, ◌≤◌, ◌==◌, zero, suc, Bool, true, false, List, [], ◌∷◌, ◌++◌, drop, length, get_or, Option, Some, None, refl, sym, ap, ◌∙◌, inl, inr, arith, if◌then◌else◌}
use Rattle.std.specs.Prelude.{slice_get}
use Rattle.std.specs.Option.{option_and_then}
use Rattle.std.proofs.Math.ListN.{get_or-append}
use Rattle.std.proofs.Math.Seq.{get_or-append_seam}
use Rattle.std.proofs.lemmas.Bool.{cases_lt}
use Rattle.std.proofs.lemmas.List.{length-append}
use Rattle.std.proofs.lemmas.Option.{none-some, slice_get-get_or, slice_get_within}
use Rattle.irp_script_reader.specs.declared.act.Step.{Step}
use Rattle.irp_plain.specs.Seats.{SeatValue}
use Rattle.irp_machine.specs.declared.parts.Planned.{Planned}
use Rattle.irp_machine.specs.Conditions.{act_now}
use Rattle.irp_machine.specs.Machine.{RulesValue, act_of}
use Rattle.irp_machine.specs.Planning.{acts_below, own_acts, planned}
use Rattle.irp_machine.specs.Standings.{StandingValue}

-- a seat that has an act is there
seated : (rules : RulesValue) (standing : StandingValue) (seat : ℕ) (planned : Planned) (own : Option SeatValue) → slice_get standing.seats seat ≡ own
    → option_and_then (λ (own : SeatValue). option_and_then (λ (acts : List Planned). act_now acts own) (slice_get rules.acts seat)) own ≡ Some planned
    → seat < length standing.seats
seated rules standing seat planned None at is = absurd (none-some planned is)
seated rules standing seat planned (Some own) at is = slice_get_within standing.seats seat own at

pub seat_there : (rules : RulesValue) (standing : StandingValue) (seat : ℕ) (planned : Planned) → act_of rules standing seat ≡ Some planned → seat < length standing.seats
seat_there rules standing seat planned is = seated rules standing seat planned (slice_get standing.seats seat) refl is

-- as many lists of acts as seats
pub acts_long : (rivals steps : List Step) (seats : ℕ) → length (acts_below rivals steps seats) ≡ seats
acts_long rivals steps zero = refl
acts_long rivals steps (suc seats) =
    let front = acts_long rivals steps seats in
    let whole = length-append (acts_below rivals steps seats) (own_acts rivals steps 0 0 seats ∷ []) in
    omega (arith, front, whole)

-- each seat's acts stand at its place
acts_in : (rivals steps : List Step) (seats seat : ℕ) (d : List Planned) → seat < seats → get_or (acts_below rivals steps seats) seat d ≡ own_acts rivals steps 0 0 seat
acts_in rivals steps zero seat d below = absurd (omega (arith, below))
acts_in rivals steps (suc seats) seat d below =
    let front = acts_below rivals steps seats in
    let long = acts_long rivals steps seats in
    elim (cases_lt seat seats) as (λ _. get_or (front ++ own_acts rivals steps 0 0 seats ∷ []) seat d ≡ own_acts rivals steps 0 0 seat) [
      | inl before ↦ get_or-append front (own_acts rivals steps 0 0 seats ∷ []) d seat (omega (arith, before, long)) ∙ acts_in rivals steps seats seat d before
      | inr past ↦
          (let last : seat ≡ seats = omega (arith, past, below) in
          ap (λ seat. get_or (front ++ own_acts rivals steps 0 0 seats ∷ []) seat d) (last ∙ sym long)
          ∙ get_or-append_seam front (own_acts rivals steps 0 0 seats) [] d ∙ ap (λ seat. own_acts rivals steps 0 0 seat) (sym last))
    ]

pub acts_at : (rivals steps : List Step) (seats seat : ℕ) → seat < seats → slice_get (acts_below rivals steps seats) seat ≡ Some (own_acts rivals steps 0 0 seat)
acts_at rivals steps seats seat below =
    let long = acts_long rivals steps seats in
    slice_get-get_or (acts_below rivals steps seats) seat [] (omega (arith, below, long))
    ∙ ap (λ (acts : List Planned). Some acts) (acts_in rivals steps seats seat [] below)

-- a seat has no more acts than there are steps
own_by : (rivals rest : List Step) (step : Step) (place at seat : ℕ) (own : Bool) → length (own_acts rivals rest (place + 1) (at + 1) seat) ≤ length rest
    → length (own_acts rivals rest (place + 1) at seat) ≤ length rest
    → length (if own then planned rivals place at step ∷ own_acts rivals rest (place + 1) (at + 1) seat else own_acts rivals rest (place + 1) at seat) ≤ length (step ∷ rest)
own_by rivals rest step place at seat true few other = omega (arith, few)
own_by rivals rest step place at seat false few other = omega (arith, other)

pub own_few : (rivals steps : List Step) (place at seat : ℕ) → length (own_acts rivals steps place at seat) ≤ length steps
own_few rivals [] place at seat = omega arith
own_few rivals (step ∷ rest) place at seat = own_by rivals rest step place at seat (step.seat == seat) (own_few rivals rest (place + 1) (at + 1) seat) (own_few rivals rest (place + 1) at seat)

-- ---- what is left of a list

-- where something is left, the list goes on there
pub left_within : {X : Type 0} (items : List X) (k : ℕ) (first : X) (rest : List X) → drop k items ≡ first ∷ rest → k < length items
left_within [] zero first rest is = (let bad : ⊥ = cc in absurd bad)
left_within [] (suc k) first rest is = (let bad : ⊥ = cc in absurd bad)
left_within (one ∷ items) zero first rest is = omega arith
left_within (one ∷ items) (suc k) first rest is = (let low = left_within items k first rest is in omega (arith, low))

pub left_rest : {X : Type 0} (items : List X) (k : ℕ) (first : X) (rest : List X) → drop k items ≡ first ∷ rest → drop (suc k) items ≡ rest
left_rest [] zero first rest is = (let bad : ⊥ = cc in absurd bad)
left_rest [] (suc k) first rest is = (let bad : ⊥ = cc in absurd bad)
left_rest {X} (one ∷ items) zero first rest is = ap (λ (items : List X). drop 1 items) is
left_rest (one ∷ items) (suc k) first rest is = left_rest items k first rest is
