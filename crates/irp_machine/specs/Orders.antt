-- What is found of the orders of a script's atomic steps.
use Rattle.std.specs.Prelude.{ℕ, ◌≡◌, ◌≢◌, ◌+◌, ◌*◌, ◌<◌, ◌≤◌, Bool, true, false, List, ◌∷◌, [], ◌++◌, length, map, sum_by, All, AllPairs, Contains, Some}
use Rattle.irp_transcript.specs.Headers.{IsHeader}
use Rattle.irp_transcript.specs.declared.header.Header.{Header}
use Rattle.irp_explore.specs.Orders.{Moves, Leads, HasEnded, IsSharedOut}
use Rattle.irp_explore.specs.Counted.{AreCounted}
use Rattle.irp_explore.specs.Nodes.{IsFound, IsMatched, AreApart, states_of, weigh}
use Rattle.irp_explore.specs.Paths.{changes_of}
use Rattle.irp_explore.specs.declared.node.Node.{Node}
use Rattle.irp_script_reader.specs.declared.script.ScriptParts.{ScriptParts}
use Rattle.irp_machine.specs.declared.outcome.End.{End}
use Rattle.irp_machine.specs.declared.outcome.Outcome.{Outcome}
use Rattle.irp_machine.specs.declared.place.Place.{Place}
use Rattle.irp_machine.specs.declared.place.Place.TheVariants.{Running, Over}
use Rattle.irp_machine.specs.Headers.{IsHeaderOf}
use Rattle.irp_machine.specs.Machine.{RulesValue, PlaceSteps, ClosesTo}
use Rattle.irp_machine.specs.Openings.{MakesAll, Opens, rules_of}
use Rattle.irp_machine.specs.Standings.{StandingValue}

-- each that is found is the end of an order; each order that ends, ends in one that is found, which keeps an order that
-- is as good; none is found twice; as many different orders as are told lead to each; and a number that each state
-- shares out among those that follow, such as how many orders end somewhere, adds up
pub record AreOrders {S : Type 0} (moves : Moves S) (seats : ℕ) (start : S) (found : List (Node S)) : Type 0 where
  pub sound : All (IsFound moves seats start) found
  pub once : AreApart found
  pub complete :
      (path : List ℕ) (last : S) → Leads moves seats start path last → HasEnded moves seats last
      → Contains (states_of found) last
  pub fewest :
      (path : List ℕ) (last : S) → Leads moves seats start path last → HasEnded moves seats last
      → IsMatched found last path
  pub counted : AreCounted moves seats start found
  pub orders : (number : S → ℕ) → IsSharedOut moves seats number → weigh number found ≡ number start

-- orders end in more states than so many
abbrev pub HasMoreEnds : {S : Type 0} → Moves S → ℕ → S → ℕ → Type 0
HasMoreEnds {S} moves seats start most =
    (found : List (Node S)) × AreOrders moves seats start found × (most < length found)

-- an order of the seats' atomic steps from a start, after which no seat has an act left, and what is told of its end
abbrev pub IsOrder : RulesValue → StandingValue → List ℕ → End → Type 0
IsOrder rules start path end =
    (last : StandingValue) × MakesAll rules start path last × ClosesTo rules last (Some end)

-- the ends of outcomes
abbrev pub ends_of : List Outcome → List End
ends_of outcomes = map (λ (outcome : Outcome). outcome.end) outcomes

-- as many different orders as an outcome tells end so
abbrev pub IsCounted : RulesValue → StandingValue → Outcome → Type 0
IsCounted rules start outcome =
    (paths : List (List ℕ)) × (length paths ≡ outcome.orders)
    × All (λ path. IsOrder rules start path outcome.end) paths
    × AllPairs (λ one other. one ≢ other) paths

-- what a number that each place has adds up to over outcomes, each as often as orders lead to it
abbrev pub weigh_outcomes : (Place → ℕ) → List Outcome → ℕ
weigh_outcomes number outcomes = sum_by (λ (outcome : Outcome). outcome.orders * number (Over outcome.end)) outcomes

-- each outcome's path is an order that ends so, and no order that ends so changes its seat less often; each order ends
-- in an outcome; no two outcomes end alike; each counts different orders; and a number that each place shares out among
-- those that follow, such as how many orders there are, adds up to the start's
pub record AreOutcomes (rules : RulesValue) (start : StandingValue) (outcomes : List Outcome) : Type 0 where
  pub sound : All (λ outcome. IsOrder rules start outcome.path.items outcome.end) outcomes
  pub fewest :
      All (λ outcome. (path : List ℕ) → IsOrder rules start path outcome.end
      → changes_of outcome.path.items ≤ changes_of path) outcomes
  pub complete : (path : List ℕ) (end : End) → IsOrder rules start path end → Contains (ends_of outcomes) end
  pub once : AllPairs (λ one other. one.end ≢ other.end) outcomes
  pub counted : All (IsCounted rules start) outcomes
  pub orders :
      (number : Place → ℕ) → IsSharedOut (PlaceSteps rules) (length rules.acts + 1) number
      → weigh_outcomes number outcomes ≡ number (Running start)

-- these are the outcomes of a script, by a header of its own, from where it stands behind its setup
pub record AreOutcomesOf (script : ScriptParts) (tells : Bool) (outcomes : List Outcome) : Type 0 where
  pub header : Header
  pub headed : IsHeaderOf script header
  pub accepted : IsHeader header
  pub start : StandingValue
  pub opens : Opens header script start
  pub whole : AreOutcomes (rules_of header script script.steps script.steps tells) start outcomes

-- the orders of a script meet a bound, by a header of its own, from where it stands behind its setup
pub record IsMet (script : ScriptParts) (tells : Bool) (bound : Moves Place → ℕ → Place → Type 0) : Type 0 where
  pub header : Header
  pub headed : IsHeaderOf script header
  pub accepted : IsHeader header
  pub start : StandingValue
  pub opens : Opens header script start
  pub met :
      let rules : RulesValue = rules_of header script script.steps script.steps tells in
      bound (PlaceSteps rules) (length rules.acts + 1) (Running start)

-- the script has ended
abbrev pub is_over : Place → Bool
is_over (Running standing) = false
is_over (Over end) = true

-- a node's state is an end; the node keeps an order, and each that it keeps has a step
pub record IsClosed (node : Node Place) : Type 0 where
  pub over : is_over node.state ≡ true
  pub some : 0 < length node.fewest.items
  pub closed : All (λ path. 0 < length path) node.fewest.items

-- one of these orders, without its last step, which closes it; none of them changes its seat less often
pub record IsOpened (orders : List (List ℕ)) (path : List ℕ) : Type 0 where
  pub closing : ℕ
  pub held : Contains orders (path ++ closing ∷ [])
  pub fewest : All (λ other. changes_of (path ++ closing ∷ []) ≤ changes_of other) orders

-- an outcome tells a state that was found: its end, how many orders lead there, and one with the fewest changes of
-- seat, without the last step, which closes it
pub record Tells (node : Node Place) (outcome : Outcome) : Type 0 where
  pub state : node.state ≡ Over outcome.end
  pub orders : node.orders ≡ outcome.orders
  pub path : IsOpened node.fewest.items outcome.path.items

-- each outcome tells the state at its place
abbrev pub AllTell : List (Node Place) → List Outcome → Type 0
AllTell [] [] = Unit {0}
AllTell (node ∷ nodes) (outcome ∷ outcomes) = Tells node outcome × AllTell nodes outcomes
AllTell nodes outcomes = ⊥
