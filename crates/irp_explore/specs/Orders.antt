-- Orders of the steps of several seats, one after another, and where they lead.
use Rattle.std.specs.Prelude.{ℕ, zero, suc, ◌≡◌, ◌<◌, List, [], ◌∷◌, ◌++◌, length, sum_by, Option, Some, None}
use Rattle.std.specs.Option.{option_to_list}

-- what the next step of a seat makes of a state: another state, or none where the seat has no step left
abbrev pub Moves : Type 0 → Type 1
Moves S = S → ℕ → Option S → Type 0

-- an order of steps: the next steps of these seats, one after another, lead from one state to another
abbrev pub Leads : {S : Type 0} → Moves S → ℕ → S → List ℕ → S → Type 0
Leads moves seats start [] last = start ≡ last
Leads {S} moves seats start (seat ∷ path) last =
    (middle : S) × (seat < seats) × moves start seat (Some middle) × Leads moves seats middle path last

-- no seat has a step left
abbrev pub HasEnded : {S : Type 0} → Moves S → ℕ → S → Type 0
HasEnded moves seats state = (seat : ℕ) → seat < seats → moves state seat None

-- the states to which the seats lead in one step each, in the order of the seats
abbrev pub AreSuccessors : {S : Type 0} → Moves S → ℕ → S → List S → Type 0
AreSuccessors moves zero state successors = successors ≡ []
AreSuccessors {S} moves (suc seats) state successors =
    (after : Option S) × (front : List S) × moves state seats after × AreSuccessors moves seats state front
    × (successors ≡ front ++ option_to_list after)

-- a number that each state with a step left shares out among its successors, such as how many orders lead from it to
-- some end
abbrev pub IsSharedOut : {S : Type 0} → Moves S → ℕ → (S → ℕ) → Type 0
IsSharedOut {S} moves seats number =
    (state : S) (successors : List S) → AreSuccessors moves seats state successors → 0 < length successors
    → number state ≡ sum_by number successors

-- in a state a seat has one next step at most
abbrev pub IsSettled : {S : Type 0} → Moves S → Type 0
IsSettled {S} moves =
    (state : S) (seat : ℕ) (one other : Option S) → moves state seat one → moves state seat other → one ≡ other
