-- Lemmas on the layer of the order that has no step.
use Rattle.std.proofs.Common.{arith, ℕ, ◌≡◌, ◌*◌, ◌∷◌, [], List, All, Contains, Some, length, ap, sym, subst, ◌∙◌, refl}
use Rattle.std.proofs.lemmas.List.Elements.{All-nil, All-push, All-same}
use Rattle.std.proofs.lemmas.List.Sums.{sum_by-cons}
use Rattle.irp_explore.specs.declared.node.Node.{Node}
use Rattle.irp_explore.specs.Orders.{Moves, Leads}
use Rattle.irp_explore.specs.Nodes.{IsMatched, IsReached, states_of, weigh}
use Rattle.irp_explore.proofs.Changing.{as_itself}

pub first_weight : {S : Type 0} (number : S → ℕ) (layer : List (Node S)) (node : Node S) → layer ≡ node ∷ [] → node.orders ≡ 1
    → weigh number layer ≡ number node.state
first_weight {S} number layer node is once =
    let whole = ap (weigh number) is ∙ sum_by-cons (λ (node : Node S). node.orders * number node.state) node [] in
    let one = ap (λ orders. orders * number node.state) once in
    omega (arith, whole, one)

pub first_reached : {S : Type 0} (moves : Moves S) (seats : ℕ) (mark : S → ℕ) (start : S) (layer : List (Node S)) (node : Node S)
    → layer ≡ node ∷ [] → node.state ≡ start → node.mark ≡ mark start → node.fewest.items ≡ [] ∷ []
    → All (IsReached moves seats mark start (Some 0)) layer
first_reached {S} moves seats mark start layer node is state marked fewest =
    let here : Leads moves seats start [] node.state = sym state in
    let reached : IsReached moves seats mark start (Some 0) node = record {
      some = rw fewest (omega arith);
      fewest = rw fewest (All-push (λ (path : List ℕ). Leads moves seats start path node.state) [] [] (All-nil (λ (path : List ℕ). Leads moves seats start path node.state)) here);
      long = rw fewest (All-push (λ (path : List ℕ). length path ≡ 0) [] [] (All-nil (λ (path : List ℕ). length path ≡ 0)) refl);
      ended = tt;
      marked = marked ∙ ap mark (sym state);
    } in
    All-same (IsReached moves seats mark start (Some 0)) layer (node ∷ []) is
    (All-push (IsReached moves seats mark start (Some 0)) [] node (All-nil (IsReached moves seats mark start (Some 0))) reached)

pub first_held : {S : Type 0} (start : S) (layer : List (Node S)) (node : Node S) → layer ≡ node ∷ [] → node.state ≡ start
    → Contains (states_of layer) start
first_held start layer node is state = rw is (0, omega arith, state)

pub first_matched : {S : Type 0} (start : S) (layer : List (Node S)) (node : Node S) → layer ≡ node ∷ [] → node.state ≡ start
    → node.fewest.items ≡ [] ∷ [] → IsMatched layer start []
first_matched {S} start layer node is state fewest =
    let held : Contains node.fewest.items [] = rw fewest (0, omega arith, refl) in
    subst (λ (layer : List (Node S)). IsMatched layer start []) (sym is) (node, (0, omega arith, refl), state, ([], held, as_itself []))
