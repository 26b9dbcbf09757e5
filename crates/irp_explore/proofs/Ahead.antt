-- Lemmas on what lies ahead of nodes.
use Rattle.std.proofs.Common.{ℕ, ◌≡◌, ◌+◌, ◌-◌, ◌<◌, ◌≤◌, ◌⊎◌, inl, inr, List, [], ◌∷◌, ◌++◌, length, Contains, refl, ap, sym, subst, ◌∙◌, arith}
use Rattle.std.proofs.lemmas.List.{length-append, length-map}
use Rattle.std.proofs.lemmas.List.Elements.{Contains-append_right, Contains-push_cases}
use Rattle.irp_explore.specs.declared.node.Node.{Node}
use Rattle.irp_explore.specs.Orders.{Moves, Leads, HasEnded, IsSettled}
use Rattle.irp_explore.specs.Nodes.{states_of, IsAhead, IsExpanded, AddsSuccessors}
use Rattle.irp_explore.proofs.Weighing.{pushed_states}
use Rattle.irp_explore.proofs.Reaching.{follow_contains}

-- what was done stays done
pub done_more : {S : Type 0} (moves : Moves S) (seats : ℕ) (found found_after nexts nexts_after : List (Node S)) (state : S)
    → ((state : S) → Contains (states_of found) state → Contains (states_of found_after) state)
    → ((state : S) → Contains (states_of nexts) state → Contains (states_of nexts_after) state)
    → IsExpanded moves seats found nexts state → IsExpanded moves seats found_after nexts_after state
done_more moves seats found found_after nexts nexts_after state more most before = record {
  follow = λ seat after below steps. most after (before.follow seat after below steps);
  ended = λ ended. more state (before.ended ended);
}

pub none_contained : {S : Type 0} (state : S) → Contains [] state → ⊥
none_contained state contained = omega (arith, contained.1)

ahead_step_from : {S : Type 0} (moves : Moves S) (seats : ℕ) (layer nexts found : List (Node S)) → ((state : S) → Contains (states_of layer) state → IsExpanded moves seats found nexts state) → (steps : ℕ) (last state : S) (path : List ℕ) → Contains (states_of layer) state → Leads moves seats state path last → length path ≡ steps + 1 → IsAhead moves seats nexts steps last
ahead_step_from moves seats layer nexts found done steps last state [] held leads long = absurd (omega (arith, long))
ahead_step_from moves seats layer nexts found done steps last state (seat ∷ path) held leads long =
    (leads.0, path, (done state held).follow seat leads.0 leads.1 leads.2, leads.3, omega (arith, long))

-- one step on
pub ahead_step : {S : Type 0} (moves : Moves S) (seats : ℕ) (layer nexts found : List (Node S)) → ((state : S) → Contains (states_of layer) state → IsExpanded moves seats found nexts state) → (steps : ℕ) (last : S) → IsAhead moves seats layer (steps + 1) last → IsAhead moves seats nexts steps last
ahead_step {S} moves seats layer nexts found done steps last ahead = ahead_step_from moves seats layer nexts found done steps last ahead.0 ahead.1 ahead.2 ahead.3 ahead.4

-- nothing lies ahead of no nodes
pub nothing_contained : {S : Type 0} (nodes : List (Node S)) (state : S) → length nodes ≡ 0 → Contains (states_of nodes) state → ⊥
nothing_contained [] state none contained = none_contained state contained
nothing_contained (node ∷ nodes) state none contained = omega (arith, none)

-- as many more nodes as states that follow
pub added_count : {S : Type 0} (moves : Moves S) (seats : ℕ) (node : Node S) (old new : List (Node S)) (added : AddsSuccessors moves seats node old new) → length new ≡ length old + length added.states
added_count {S} moves seats node old new added =
    let state : Node S → S = λ node. node.state in
    let a = ap length added.listed ∙ length-append (states_of old) added.states in
    omega (arith, a, length-map new state, length-map old state)

-- a node is expanded
pub expanded_by : {S : Type 0} (moves : Moves S) → IsSettled moves → (seats : ℕ) (found_after nexts spread : List (Node S)) (node : Node S)
    → AddsSuccessors moves seats node nexts spread → (HasEnded moves seats node.state → Contains (states_of found_after) node.state)
    → IsExpanded moves seats found_after spread node.state
expanded_by moves settled seats found_after nexts spread node added ended = record {
  follow = λ seat after below moved.
      subst (λ states. Contains states after) (sym added.listed)
      (Contains-append_right (states_of nexts) added.states after (follow_contains moves settled seats node.state added.states added.follow seat after below moved));
  ended = ended;
}

-- the last node of what is left of a layer is expanded
pub layer_expanded : {S : Type 0} (moves : Moves S) (seats : ℕ) (found found_after nexts nexts_after layer front : List (Node S)) (node : Node S) (state : S)
    → layer ≡ front ++ node ∷ []
    → ((state : S) → Contains (states_of found) state → Contains (states_of found_after) state)
    → ((state : S) → Contains (states_of nexts) state → Contains (states_of nexts_after) state)
    → IsExpanded moves seats found_after nexts_after node.state
    → Contains (states_of layer) state ⊎ IsExpanded moves seats found nexts state
    → Contains (states_of front) state ⊎ IsExpanded moves seats found_after nexts_after state
layer_expanded moves seats found found_after nexts nexts_after layer front node state popped kept most done before =
    elim before as (λ _. Contains (states_of front) state ⊎ IsExpanded moves seats found_after nexts_after state) [
      | inl held ↦
          (elim (Contains-push_cases (states_of front) node.state state (subst (λ states. Contains states state) (pushed_states front layer node popped) held))
          as (λ _. Contains (states_of front) state ⊎ IsExpanded moves seats found_after nexts_after state) [
            | inl still ↦ inl still
            | inr same ↦ inr (subst (λ state. IsExpanded moves seats found_after nexts_after state) same done)
          ])
      | inr was ↦ inr (done_more moves seats found found_after nexts nexts_after state kept most was)
    ]

reach_from : {S : Type 0} (moves : Moves S) (seats : ℕ) (layer nexts joined found_after : List (Node S)) (most left less : ℕ) (path : List ℕ) (last : S)
    → left ≤ most → left ≡ less + 1
    → ((steps : ℕ) (last : S) → IsAhead moves seats layer (steps + 1) last → IsAhead moves seats nexts steps last)
    → ((state : S) → Contains (states_of layer) state → HasEnded moves seats state → Contains (states_of found_after) state)
    → ((state : S) → Contains (states_of nexts) state → Contains (states_of joined) state)
    → (state : S) (rest : List ℕ) → Contains (states_of layer) state → Leads moves seats state rest last → length rest ≡ length path - (most - left)
    → ((length path < most - less) × (HasEnded moves seats last → Contains (states_of found_after) last)) ⊎ IsAhead moves seats joined (length path - (most - less)) last
reach_from {S} moves seats layer nexts joined found_after most left less path last within one ahead ended held state [] there leads long =
    inl (omega (arith, long), λ done. ended last (subst (λ state. Contains (states_of layer) state) leads there) done)
reach_from {S} moves seats layer nexts joined found_after most left less path last within one ahead ended held state (seat ∷ rest) there leads long =
    let next = ahead (length rest) last (state, seat ∷ rest, there, leads, omega arith) in
    inr (next.0, next.1, held next.0 next.2, next.3, omega (arith, long, next.4))

-- one more round
pub reach_step : {S : Type 0} (moves : Moves S) (seats : ℕ) (layer nexts joined found found_after : List (Node S)) (most left less : ℕ) (path : List ℕ) (last : S)
    → left ≤ most → left ≡ less + 1
    → ((steps : ℕ) (last : S) → IsAhead moves seats layer (steps + 1) last → IsAhead moves seats nexts steps last)
    → ((state : S) → Contains (states_of layer) state → HasEnded moves seats state → Contains (states_of found_after) state)
    → ((state : S) → Contains (states_of found) state → Contains (states_of found_after) state)
    → ((state : S) → Contains (states_of nexts) state → Contains (states_of joined) state)
    → ((length path < most - left) × (HasEnded moves seats last → Contains (states_of found) last)) ⊎ IsAhead moves seats layer (length path - (most - left)) last
    → ((length path < most - less) × (HasEnded moves seats last → Contains (states_of found_after) last)) ⊎ IsAhead moves seats joined (length path - (most - less)) last
reach_step {S} moves seats layer nexts joined found found_after most left less path last within one ahead ended kept held before =
    elim before as (λ _. ((length path < most - less) × (HasEnded moves seats last → Contains (states_of found_after) last)) ⊎ IsAhead moves seats joined (length path - (most - less)) last) [
      | inl was ↦ inl (omega (arith, was.0), λ done. kept last (was.1 done))
      | inr there ↦ reach_from moves seats layer nexts joined found_after most left less path last within one ahead ended held there.0 there.1 there.2 there.3 there.4
    ]

-- a path of one node
pub reach_first : {S : Type 0} (moves : Moves S) (seats : ℕ) (nodes : List (Node S)) (node : Node S) (path : List ℕ) (last : S) (steps : ℕ) → nodes ≡ node ∷ [] → Leads moves seats node.state path last → length path ≡ steps → IsAhead moves seats nodes steps last
reach_first {S} moves seats nodes node path last steps is leads long =
    rw is (node.state, path, (0, omega arith, refl), leads, long)
