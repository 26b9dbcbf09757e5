-- Lemmas on orders of steps and the states that they reach.
use Rattle.std.proofs.Common.{ℕ, zero, suc, ◌≡◌, ◌+◌, ◌<◌, ◌⊎◌, All, inl, inr, List, [], ◌∷◌, ◌++◌, length, get_or, Contains, Option, Some, None, refl, ap, sym, subst, ◌∙◌, arith}
use Rattle.std.specs.Option.{option_to_list}
use Rattle.std.proofs.lemmas.Bool.{cases_eq}
use Rattle.std.proofs.lemmas.List.{length-append, length_push}
use Rattle.std.proofs.lemmas.List.Elements.{All-contains, All-head, All-weaker, Contains-append_left, Contains-push}
use Rattle.irp_explore.specs.declared.node.Node.{Node}
use Rattle.irp_explore.specs.Orders.{Moves, Leads, HasEnded, AreSuccessors, IsSettled}
use Rattle.irp_explore.specs.Nodes.{IsFound, IsReached, HasOrderOf}

-- one step more
pub leads_more : {S : Type 0} (moves : Moves S) (seats : ℕ) (start : S) (path : List ℕ) (middle last : S) (seat : ℕ) → Leads moves seats start path middle → seat < seats → moves middle seat (Some last) → Leads moves seats start (path ++ seat ∷ []) last
leads_more moves seats start [] middle last seat leads below steps = (last, below, subst (λ state. moves state seat (Some last)) (sym leads) steps, refl)
leads_more moves seats start (first ∷ path) middle last seat leads below steps =
    (leads.0, leads.1, leads.2, leads_more moves seats leads.0 path middle last seat leads.3 below steps)

-- a node that comes one step after another
pub reached_more : {S : Type 0} (moves : Moves S) (seats : ℕ) (mark : S → ℕ) (start : S) (node after : Node S) (seat steps : ℕ) → IsReached moves seats mark start (Some steps) node → seat < seats → moves node.state seat (Some after.state) → 0 < length after.fewest.items
    → All (λ one. (before : List ℕ) × Contains node.fewest.items before × (one ≡ before ++ seat ∷ [])) after.fewest.items
    → after.mark ≡ mark after.state → IsReached moves seats mark start (Some (steps + 1)) after
reached_more moves seats mark start node after seat steps reached below moved some fewest marked = record {
  some = some;
  fewest =
      All-weaker (λ one. (before : List ℕ) × Contains node.fewest.items before × (one ≡ before ++ seat ∷ [])) (λ one. Leads moves seats start one after.state)
      (λ one from.
      let before = All-contains (λ one. Leads moves seats start one node.state) node.fewest.items from.0 reached.fewest from.1 in
      subst (λ (path : List ℕ). Leads moves seats start path after.state) (sym from.2) (leads_more moves seats start from.0 node.state after.state seat before below moved))
      after.fewest.items fewest;
  long =
      All-weaker (λ one. (before : List ℕ) × Contains node.fewest.items before × (one ≡ before ++ seat ∷ [])) (λ one. length one ≡ steps + 1)
      (λ one from.
      let before : length from.0 ≡ steps = All-contains (λ (one : List ℕ). length one ≡ steps) node.fewest.items from.0 reached.long from.1 in
      omega (arith, ap length from.2, length_push from.0 seat, before))
      after.fewest.items fewest;
  ended = tt;
  marked = marked;
}

-- what follows holds each state that a seat leads to
pub follow_contains : {S : Type 0} (moves : Moves S) → IsSettled moves → (seats : ℕ) (state : S) (states : List S) → AreSuccessors moves seats state states → (seat : ℕ) (after : S) → seat < seats → moves state seat (Some after) → Contains states after
follow_contains moves settled zero state states follow seat after below steps = absurd (omega arith)
follow_contains {S} moves settled (suc seats) state states follow seat after below steps =
    elim (cases_eq seat seats) as (λ _. Contains states after) [
      | inl same ↦
          (let now : follow.0 ≡ Some after = settled state seats follow.0 (Some after) follow.2 (subst (λ seat. moves state seat (Some after)) same steps) in
          let listed : states ≡ follow.1 ++ after ∷ [] = follow.4 ∙ ap (λ found. follow.1 ++ option_to_list found) now in
          subst (λ states. Contains states after) (sym listed) (Contains-push follow.1 after))
      | inr apart ↦
          subst (λ states. Contains states after) (sym follow.4)
          (Contains-append_left follow.1 (option_to_list follow.0) after (follow_contains moves settled seats state follow.1 follow.3 seat after (omega arith) steps))
    ]

none_from_list : {S : Type 0} (found : Option S) → length (option_to_list found) ≡ 0 → found ≡ None
none_from_list None none = refl
none_from_list (Some state) none = absurd (omega arith)

-- where nothing follows, no seat has a step
pub ended_from_none : {S : Type 0} (moves : Moves S) (seats : ℕ) (state : S) (states : List S) → AreSuccessors moves seats state states → length states ≡ 0 → HasEnded moves seats state
ended_from_none moves zero state states follow none seat below = absurd (omega arith)
ended_from_none {S} moves (suc seats) state states follow none seat below =
    let long = ap length follow.4 ∙ length-append follow.1 (option_to_list follow.0) in
    let front : length follow.1 ≡ 0 = omega (arith, long, none) in
    let back : length (option_to_list follow.0) ≡ 0 = omega (arith, long, none) in
    elim (cases_eq seat seats) as (λ _. moves state seat None) [
      | inl same ↦ subst (λ seat. moves state seat None) (sym same) (subst (λ after. moves state seats after) (none_from_list follow.0 back) follow.2)
      | inr apart ↦ ended_from_none moves seats state follow.1 follow.3 front seat (omega arith)
    ]

-- where no seat has a step, nothing follows
pub none_from_ended : {S : Type 0} (moves : Moves S) → IsSettled moves → (seats : ℕ) (state : S) (states : List S) → AreSuccessors moves seats state states → HasEnded moves seats state → states ≡ []
none_from_ended moves settled zero state states follow ended = follow
none_from_ended moves settled (suc seats) state states follow ended =
    let front : follow.1 ≡ [] = none_from_ended moves settled seats state follow.1 follow.3 (λ seat below. ended seat (omega arith)) in
    let back : follow.0 ≡ None = settled state seats follow.0 None follow.2 (ended seats (omega arith)) in
    follow.4 ∙ ap (λ front. front ++ option_to_list follow.0) front ∙ ap (λ found. option_to_list found) back

-- a node that has no successor has ended
pub reached_done : {S : Type 0} (moves : Moves S) (seats : ℕ) (mark : S → ℕ) (start : S) (steps : ℕ) (node : Node S) → HasEnded moves seats node.state → IsReached moves seats mark start (Some steps) node → IsReached moves seats mark start None node
reached_done moves seats mark start steps node ended reached = record { some = reached.some; fewest = reached.fewest; long = λ k d below. tt; ended = ended; marked = reached.marked }

-- what is reached and has ended is found
pub found_from_reached : {S : Type 0} (moves : Moves S) (seats : ℕ) (mark : S → ℕ) (start : S) (nodes : List (Node S)) → All (IsReached moves seats mark start None) nodes → All (IsFound moves seats start) nodes
found_from_reached moves seats mark start nodes all =
    All-weaker (IsReached moves seats mark start None) (IsFound moves seats start) (λ node reached. record { some = reached.some; fewest = reached.fewest; ended = reached.ended }) nodes all

-- a layer that has a node tells of an order
pub order_from_layer : {S : Type 0} (moves : Moves S) (seats : ℕ) (mark : S → ℕ) (start : S) (steps : ℕ) (nodes : List (Node S)) → 0 < length nodes → All (IsReached moves seats mark start (Some steps)) nodes → HasOrderOf moves seats start steps
order_from_layer moves seats mark start steps [] some all = absurd (omega (arith, some))
order_from_layer moves seats mark start steps (node ∷ nodes) some all =
    let reached = All-head (IsReached moves seats mark start (Some steps)) node nodes all in
    (get_or node.fewest.items 0 [], node.state, reached.fewest 0 [] reached.some, reached.long 0 [] reached.some)

-- a state has ended, or something follows
pub never_both : {S : Type 0} (moves : Moves S) → IsSettled moves → (seats : ℕ) (state : S) (states : List S) → AreSuccessors moves seats state states → HasEnded moves seats state → 0 < length states → ⊥
never_both moves settled seats state states follow ended some =
    let none = ap length (none_from_ended moves settled seats state states follow ended) in omega (arith, none, some)

-- what is true of each of some orders and of each of others is true of those that are kept of both
pub both_kept : (P : List ℕ → Type 0) (paths others both : List (List ℕ)) → All P paths → All P others
    → All (λ one. Contains paths one ⊎ Contains others one) both → All P both
both_kept P paths others both one other from =
    All-weaker (λ one. Contains paths one ⊎ Contains others one) P
    (λ path held. elim held as (λ _. P path) [
      | inl was ↦ All-contains P paths path one was
      | inr is ↦ All-contains P others path other is
    ]) both from
