-- How many different orders lead to a state.
use Rattle.std.specs.Prelude.{ℕ, ◌≡◌, ◌≢◌, ◌<◌, ◌≤◌, ◌^◌, Some, List, ◌∷◌, ◌++◌, map, length, All, AllPairs}
use Rattle.irp_explore.specs.Orders.{Moves, Leads}
use Rattle.irp_explore.specs.declared.node.Node.{Node}

-- 2^128 orders or more, no two the same, lead to one state
abbrev pub HasManyOrders : {S : Type 0} → Moves S → ℕ → S → Type 0
HasManyOrders {S} moves seats start =
    (state : S) × (orders : List (List ℕ)) × (2 ^ 128 ≤ length orders)
    × All (λ order. Leads moves seats start order state) orders
    × AllPairs (λ one other. one ≢ other) orders

-- two orders begin alike and then go on by different seats, so neither is the beginning of the other
abbrev pub AreParted : List ℕ → List ℕ → Type 0
AreParted one other =
    (front : List ℕ) × (seat other_seat : ℕ) × (rest other_rest : List ℕ)
    × (one ≡ front ++ seat ∷ rest) × (other ≡ front ++ other_seat ∷ other_rest)
    × (seat ≢ other_seat)

-- these orders, as many as a node counts, lead to its state, and each two of them part
pub record IsCount {S : Type 0} (moves : Moves S) (seats : ℕ) (start : S) (node : Node S)
    (orders : List (List ℕ)) : Type 0 where
  pub many : length orders ≡ node.orders
  pub lead : All (λ order. Leads moves seats start order node.state) orders
  pub part : AllPairs AreParted orders

-- each of some orders parts from each of others
abbrev pub AreAllParted : List (List ℕ) → List (List ℕ) → Type 0
AreAllParted orders others = All (λ order. All (AreParted order) others) orders

-- to each node's state as many orders lead as the node counts, and of all these orders each two part
pub record AreCounted {S : Type 0} (moves : Moves S) (seats : ℕ) (start : S)
    (nodes : List (Node S)) : Type 0 where
  pub counts : List (Node S × List (List ℕ))
  pub nodes_are : map (λ count. count.0) counts ≡ nodes
  pub counted : All (λ count. IsCount moves seats start count.0 count.1) counts
  pub part : AllPairs (λ one other. AreAllParted one.1 other.1) counts

-- behind the old nodes there are new ones, in the order of the seats: each has the state that a seat's step leads to
-- from a node's state, and counts as many orders as that node
pub record AddsSteps {S : Type 0} (moves : Moves S) (seats : ℕ) (node : Node S)
    (old new : List (Node S)) : Type 0 where
  pub steps : List (Node S × ℕ)
  pub listed : new ≡ old ++ map (λ step. step.0) steps
  pub below : All (λ step. step.1 < seats) steps
  pub moved : All (λ step. moves node.state step.1 (Some step.0.state)) steps
  pub orders : All (λ step. step.0.orders ≡ node.orders) steps
  pub rising : AllPairs (λ one other. one.1 < other.1) steps
