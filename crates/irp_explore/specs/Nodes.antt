-- Nodes: how orders lead to them, what they weigh, and what lies ahead of them.
use Rattle.std.specs.Prelude.{ℕ, ◌≡◌, ◌≢◌, ◌<◌, ◌≤◌, Some, ◌+◌, ◌*◌, Option, IfSome, IfNone, List, [], ◌∷◌, ◌++◌, map, length, sum_by, All, AllPairs, Contains}
use Rattle.irp_explore.specs.Paths.{HasAsGood}
use Rattle.irp_explore.specs.Orders.{Moves, Leads, HasEnded, AreSuccessors}
use Rattle.irp_explore.specs.declared.node.Node.{Node}

-- what was found: the node keeps an order, and each that it keeps leads to its state, in which no seat has a step left
pub record IsFound {S : Type 0} (moves : Moves S) (seats : ℕ) (start : S) (node : Node S) : Type 0 where
  pub some : 0 < length node.fewest.items
  pub fewest : All (λ path. Leads moves seats start path node.state) node.fewest.items
  pub ended : HasEnded moves seats node.state

-- what a number that each state has adds up to over nodes, each as often as orders lead to it
abbrev pub weigh : {S : Type 0} → (S → ℕ) → List (Node S) → ℕ
weigh number nodes = sum_by (λ node. node.orders * number node.state) nodes

-- the states of nodes
abbrev pub states_of : {S : Type 0} → List (Node S) → List S
states_of nodes = map (λ node. node.state) nodes

-- no two nodes have one state
abbrev pub AreApart : {S : Type 0} → List (Node S) → Type 0
AreApart nodes = AllPairs (λ one other. one.state ≢ other.state) nodes

-- some order has this many steps
abbrev pub HasOrderOf : {S : Type 0} → Moves S → ℕ → S → ℕ → Type 0
HasOrderOf {S} moves seats start steps =
    (path : List ℕ) × (last : S) × Leads moves seats start path last × (length path ≡ steps)

-- a node keeps an order, each that it keeps leads to its state, and its mark is the state's. In a layer each order has
-- the same number of steps; where no number is given, the state has ended
pub record IsReached {S : Type 0} (moves : Moves S) (seats : ℕ) (mark : S → ℕ) (start : S) (steps : Option ℕ)
    (node : Node S) : Type 0 where
  pub some : 0 < length node.fewest.items
  pub fewest : All (λ path. Leads moves seats start path node.state) node.fewest.items
  pub long : All (λ path. IfSome steps (λ steps. length path ≡ steps)) node.fewest.items
  pub ended : IfNone steps (HasEnded moves seats node.state)
  pub marked : node.mark ≡ mark node.state

-- a node of the state keeps an order that is as good as this one
abbrev pub IsMatched : {S : Type 0} → List (Node S) → S → List ℕ → Type 0
IsMatched {S} nodes state path =
    (node : Node S) × Contains nodes node × (node.state ≡ state) × HasAsGood node.fewest.items path

-- the nodes come in the order of falling marks
abbrev pub AreFalling : {S : Type 0} → List (Node S) → Type 0
AreFalling nodes = AllPairs (λ one other. other.mark ≤ one.mark) nodes

-- no node's mark is below this one
abbrev pub IsFloor : {S : Type 0} → ℕ → List (Node S) → Type 0
IsFloor mark nodes = All (λ node. mark ≤ node.mark) nodes

-- orders of equally many steps, or orders that have ended, lead to more different states than so many
abbrev pub HasMoreStates : {S : Type 0} → Moves S → ℕ → (S → ℕ) → S → ℕ → Type 0
HasMoreStates {S} moves seats mark start most =
    (steps : Option ℕ) × (nodes : List (Node S)) × (most < length nodes)
    × All (IsReached moves seats mark start steps) nodes
    × AreApart nodes

-- so many steps lead from one of the nodes to a state
abbrev pub IsAhead : {S : Type 0} → Moves S → ℕ → List (Node S) → ℕ → S → Type 0
IsAhead {S} moves seats nodes steps last =
    (state : S) × (path : List ℕ) × Contains (states_of nodes) state × Leads moves seats state path last
    × (length path ≡ steps)

-- behind the old nodes there is a node for each successor of a node
pub record AddsSuccessors {S : Type 0} (moves : Moves S) (seats : ℕ) (node : Node S)
    (old new : List (Node S)) : Type 0 where
  pub states : List S
  pub follow : AreSuccessors moves seats node.state states
  pub listed : states_of new ≡ states_of old ++ states
  pub weight : (number : S → ℕ) → weigh number new ≡ weigh number old + node.orders * sum_by number states

-- an order that leads to a state is matched one step further in the next layer, and is matched where it has ended
pub record IsMatchedOn {S : Type 0} (moves : Moves S) (seats : ℕ) (found nexts : List (Node S)) (state : S)
    (path : List ℕ) : Type 0 where
  pub follow :
      (seat : ℕ) (after : S) → seat < seats → moves state seat (Some after) → IsMatched nexts after (path ++ seat ∷ [])
  pub ended : HasEnded moves seats state → IsMatched found state path

-- each successor of a state is in the next layer, and the state is found where it has ended
pub record IsExpanded {S : Type 0} (moves : Moves S) (seats : ℕ) (found nexts : List (Node S))
    (state : S) : Type 0 where
  pub follow : (seat : ℕ) (after : S) → seat < seats → moves state seat (Some after) → Contains (states_of nexts) after
  pub ended : HasEnded moves seats state → Contains (states_of found) state
