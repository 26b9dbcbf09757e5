-- Where the steps of seats stop, step by step.
use Rattle.std.proofs.Common.{◌≡◌, ℕ, List, [], ◌∷◌, ◌++◌, Some, None, refl, sym, ap, subst, ◌⊎◌, inl, inr}
use Rattle.irp_machine.specs.Machine.{RulesValue, StepsTo, act_of}
use Rattle.irp_machine.specs.Openings.{IsStuck, MakesAll}
use Rattle.irp_machine.specs.Standings.{StandingValue}

-- the first seat has no step left, or the others stop behind its step
abbrev pub Stops : RulesValue → StandingValue → List ℕ → Type 0
Stops rules old [] = ⊥
Stops rules old (seat ∷ path) =
    (act_of rules old seat ≡ None)
    ⊎ ((middle : StandingValue) × StepsTo rules old seat (act_of rules old seat) (Some middle) × Stops rules middle path)

pub stuck_of : (rules : RulesValue) (old : StandingValue) (path : List ℕ) → Stops rules old path → IsStuck rules old path
stuck_of rules old [] stops = absurd stops
stuck_of rules old (seat ∷ path) (inl none) = record {
  front = [];
  seat = seat;
  rest = path;
  parts = refl;
  middle = old;
  makes = refl;
  none = none;
}
stuck_of rules old (seat ∷ path) (inr (middle, steps, stops)) =
    let others = stuck_of rules middle path stops in
    record {
      front = seat ∷ others.front;
      seat = others.seat;
      rest = others.rest;
      parts = ap (λ (path : List ℕ). seat ∷ path) others.parts;
      middle = others.middle;
      makes = (middle, steps, others.makes);
      none = others.none;
    }

stops_at : (rules : RulesValue) (old middle : StandingValue) (front : List ℕ) (seat : ℕ) (rest : List ℕ) → MakesAll rules old front middle
    → act_of rules middle seat ≡ None → Stops rules old (front ++ seat ∷ rest)
stops_at rules old middle [] seat rest makes none =
    inl (subst (λ (standing : StandingValue). act_of rules standing seat ≡ None) (sym makes) none)
stops_at rules old middle (first ∷ front) seat rest makes none = inr (makes.0, makes.1, stops_at rules makes.0 middle front seat rest makes.2 none)

pub stops_of : (rules : RulesValue) (old : StandingValue) (path : List ℕ) → IsStuck rules old path → Stops rules old path
stops_of rules old path stuck =
    subst (λ (path : List ℕ). Stops rules old path) (sym stuck.parts)
    (stops_at rules old stuck.middle stuck.front stuck.seat stuck.rest stuck.makes stuck.none)
