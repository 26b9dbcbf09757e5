-- Lemmas on weights of nodes, and on the states that follow.
use Rattle.std.proofs.Common.{ℕ, ◌≡◌, ◌+◌, ◌*◌, ◌<◌, List, [], ◌∷◌, ◌++◌, length, get_or, set, sum_by, Some, None, refl, ap, sym, ◌∙◌, arith, add-one, append_assoc}
use Rattle.std.proofs.lemmas.List.Sums.{sum_by-set, sum_by_push}
use Rattle.std.proofs.lemmas.List.{append-nil, nil_from_length, map_push, map-set, get_or-map, set-get_or}
use Rattle.irp_explore.specs.declared.node.Node.{Node}
use Rattle.irp_explore.specs.Orders.{Moves, IsSharedOut}
use Rattle.irp_explore.specs.Nodes.{weigh, states_of, AddsSuccessors}

-- before the first seat
pub added_none : {S : Type 0} (moves : Moves S) (node : Node S) (nodes : List (Node S)) → AddsSuccessors moves 0 node nodes nodes
added_none moves node nodes = record {
  states = [];
  follow = refl;
  listed = sym (append-nil (states_of nodes));
  weight = λ number. omega arith;
}

-- a seat that has a step
pub added_yes : {S : Type 0} (moves : Moves S) (seat : ℕ) (node after : Node S) (old new latest : List (Node S)) → AddsSuccessors moves seat node old new → moves node.state seat (Some after.state) → after.orders ≡ node.orders → latest ≡ new ++ after ∷ [] → AddsSuccessors moves (seat + 1) node old latest
added_yes {S} moves seat node after old new latest so_far steps orders is = rw add-one (record {
  states = so_far.states ++ after.state ∷ [];
  follow = (Some after.state, so_far.states, steps, so_far.follow, refl);
  listed = ap states_of is ∙ map_push (λ (node : Node S). node.state) new after ∙ ap (λ states. states ++ after.state ∷ []) so_far.listed ∙ append_assoc (states_of old) so_far.states (after.state ∷ []);
  weight = λ number.
      let whole = sum_by_push (λ (node : Node S). node.orders * number node.state) new after in
      let part = sum_by_push number so_far.states after.state in
      let same = ap (λ orders. orders * number after.state) orders in
      let items = ap (weigh number) is in
      let parts = ap (λ n. node.orders * n) part in
      omega (arith, whole, parts, same, items, so_far.weight number);
})

-- a seat that has none
pub added_no : {S : Type 0} (moves : Moves S) (seat : ℕ) (node : Node S) (old new latest : List (Node S)) → AddsSuccessors moves seat node old new → moves node.state seat None → latest ≡ new → AddsSuccessors moves (seat + 1) node old latest
added_no moves seat node old new latest so_far steps is = rw add-one (record {
  states = so_far.states;
  follow = (None, so_far.states, steps, so_far.follow, sym (append-nil so_far.states));
  listed = ap states_of is ∙ so_far.listed;
  weight = λ number. ap (weigh number) is ∙ so_far.weight number;
})

-- nodes of which one is joined with one more
pub joined_weight : {S : Type 0} (number : S → ℕ) (nodes : List (Node S)) (place : ℕ) (other node both : Node S) → place < length nodes → other ≡ get_or nodes place other → other.state ≡ node.state → both.state ≡ other.state → both.orders ≡ other.orders + node.orders → weigh number (set nodes place both) ≡ weigh number nodes + node.orders * number node.state
joined_weight {S} number nodes place other node both there read one same orders =
    let f : Node S → ℕ = λ node. node.orders * number node.state in
    let change = sum_by-set f nodes place both other there in
    let was = ap f read in
    let now = ap (λ n. n * number both.state) orders ∙ ap (λ state. (other.orders + node.orders) * number state) same in
    let mine = ap (λ state. node.orders * number state) one in
    omega (arith, change, was, now, mine)

-- the states stay where one is joined
pub joined_states : {S : Type 0} (nodes : List (Node S)) (place : ℕ) (other both : Node S) → place < length nodes → other ≡ get_or nodes place other → both.state ≡ other.state → states_of (set nodes place both) ≡ states_of nodes
joined_states {S} nodes place other both there read same =
    let state : Node S → S = λ node. node.state in
    map-set state nodes place both
    ∙ ap (λ one. set (states_of nodes) place one) (same ∙ ap state read ∙ sym (get_or-map state nodes place other other.state there))
    ∙ set-get_or (states_of nodes) place other.state

-- the states of nodes with one more
pub pushed_states : {S : Type 0} (nodes new : List (Node S)) (node : Node S) → new ≡ nodes ++ node ∷ [] → states_of new ≡ states_of nodes ++ node.state ∷ []
pushed_states {S} nodes new node is = ap states_of is ∙ map_push (λ (node : Node S). node.state) nodes node

-- a node that has no successor is found
pub expand_weight_done : {S : Type 0} (moves : Moves S) (seats : ℕ) (number : S → ℕ) (found found_after nexts spread : List (Node S)) (node : Node S)
    → found_after ≡ found ++ node ∷ [] → (added : AddsSuccessors moves seats node nexts spread) → length added.states ≡ 0
    → weigh number found_after + weigh number spread ≡ weigh number found + weigh number nexts + node.orders * number node.state
expand_weight_done {S} moves seats number found found_after nexts spread node pushed added none =
    let a = ap (weigh number) pushed ∙ sum_by_push (λ (node : Node S). node.orders * number node.state) found node in
    let nothing = ap (λ states. node.orders * sum_by number states) (nil_from_length added.states none) in
    omega (arith, a, nothing, added.weight number)

-- a node that has some shares its number out among them
pub expand_weight_on : {S : Type 0} (moves : Moves S) (seats : ℕ) (number : S → ℕ) (found nexts spread : List (Node S)) (node : Node S)
    → (added : AddsSuccessors moves seats node nexts spread) → 0 < length added.states → IsSharedOut moves seats number
    → weigh number found + weigh number spread ≡ weigh number found + weigh number nexts + node.orders * number node.state
expand_weight_on {S} moves seats number found nexts spread node added some shared =
    let split = ap (λ n. node.orders * n) (shared node.state added.states added.follow some) in
    omega (arith, split, added.weight number)

-- what nodes weigh with one more
pub weigh_push : {S : Type 0} (number : S → ℕ) (nodes front : List (Node S)) (node : Node S) → nodes ≡ front ++ node ∷ []
    → weigh number nodes ≡ weigh number front + node.orders * number node.state
weigh_push {S} number nodes front node is = ap (weigh number) is ∙ sum_by_push (λ (node : Node S). node.orders * number node.state) front node
