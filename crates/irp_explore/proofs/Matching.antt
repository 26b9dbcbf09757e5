-- Lemmas on orders that are matched: a node of their state keeps one that is as good.
use Rattle.std.proofs.Common.{ℕ, ◌≡◌, ◌+◌, ◌<◌, ◌⊎◌, inl, inr, List, [], ◌∷◌, ◌++◌, Contains, length, get_or, set, Some, None, refl, ap, sym, subst, ◌∙◌, arith}
use Rattle.std.proofs.lemmas.Bool.{cases_eq}
use Rattle.std.proofs.lemmas.List.{get_or-set_same, get_or-set_other, length-set, get_or_read}
use Rattle.std.proofs.lemmas.Option.{none-some, same_Some}
use Rattle.std.proofs.lemmas.List.Elements.{Contains-append_left, Contains-push, Contains-push_cases}
use Rattle.irp_explore.specs.declared.node.Node.{Node}
use Rattle.irp_explore.specs.Orders.{Moves, Leads, HasEnded, IsSettled}
use Rattle.irp_explore.specs.Paths.{HasAsGood}
use Rattle.irp_explore.specs.Nodes.{IsMatched, IsMatchedOn}

-- ---- a node more

pub push_matched : {S : Type 0} (nodes new : List (Node S)) (node : Node S) (path : List ℕ) → new ≡ nodes ++ node ∷ []
    → HasAsGood node.fewest.items path → IsMatched new node.state path
push_matched {S} nodes new node path is good =
    subst (λ (nodes : List (Node S)). IsMatched nodes node.state path) (sym is) (node, Contains-push nodes node, refl, good)

pub push_still : {S : Type 0} (nodes new : List (Node S)) (node : Node S) (state : S) (path : List ℕ) → new ≡ nodes ++ node ∷ []
    → IsMatched nodes state path → IsMatched new state path
push_still {S} nodes new node state path is held =
    subst (λ (nodes : List (Node S)). IsMatched nodes state path) (sym is)
    (held.0, Contains-append_left nodes (node ∷ []) held.0 held.1, held.2, held.3)

-- ---- a node joined with another

pub set_matched : {S : Type 0} (nodes : List (Node S)) (place : ℕ) (both : Node S) (state : S) (path : List ℕ) → place < length nodes
    → both.state ≡ state → HasAsGood both.fewest.items path → IsMatched (set nodes place both) state path
set_matched nodes place both state path below same good =
    let long = length-set nodes place both in
    (both, (place, omega (arith, below, long), get_or-set_same nodes place both both below), same, good)

pub set_still : {S : Type 0} (nodes : List (Node S)) (place : ℕ) (other both : Node S) (state : S) (path : List ℕ) → place < length nodes
    → other ≡ get_or nodes place other → both.state ≡ other.state
    → ((path : List ℕ) → HasAsGood other.fewest.items path → HasAsGood both.fewest.items path)
    → IsMatched nodes state path → IsMatched (set nodes place both) state path
set_still {S} nodes place other both state path below is same kept held =
    let long = length-set nodes place both in
    let one = held.0 in
    let k = held.1.0 in
    let within : k < length (set nodes place both) = omega (arith, held.1.1, long) in
    elim (cases_eq k place) as (λ _. IsMatched (set nodes place both) state path) [
      | inl here ↦
          let read : other ≡ one = get_or_read nodes place other below is one ∙ ap (λ (k : ℕ). get_or nodes k one) (sym here) ∙ held.1.2 in
          let good : HasAsGood other.fewest.items path = subst (λ (one : Node S). HasAsGood one.fewest.items path) (sym read) held.3 in
          set_matched nodes place both state path below (same ∙ ap (λ (one : Node S). one.state) read ∙ held.2) (kept path good)
      | inr elsewhere ↦ (one, (k, within, get_or-set_other nodes place k both one elsewhere ∙ held.1.2), held.2, held.3)
    ]

-- ---- a node less

pub matched_popped : {S : Type 0} (nodes rest : List (Node S)) (node : Node S) (state : S) (path : List ℕ) → nodes ≡ rest ++ node ∷ []
    → IsMatched nodes state path → IsMatched rest state path ⊎ ((node.state ≡ state) × HasAsGood node.fewest.items path)
matched_popped {S} nodes rest node state path is held =
    let there : Contains (rest ++ node ∷ []) held.0 = subst (λ (nodes : List (Node S)). Contains nodes held.0) is held.1 in
    let same : held.0.state ≡ state = held.2 in
    let good : HasAsGood held.0.fewest.items path = held.3 in
    elim (Contains-push_cases rest node held.0 there) as (λ _. IsMatched rest state path ⊎ ((node.state ≡ state) × HasAsGood node.fewest.items path)) [
      | inl still ↦ inl (held.0, still, same, good)
      | inr one ↦ inr (ap (λ (node : Node S). node.state) one ∙ same, subst (λ (node : Node S). HasAsGood node.fewest.items path) (sym one) good)
    ]

pub none_matched : {S : Type 0} (nodes : List (Node S)) (state : S) (path : List ℕ) → length nodes ≡ 0 → IsMatched nodes state path → ⊥
none_matched nodes state path none held = let below = held.1.1 in omega (arith, none, below)

-- ---- layers

-- what is matched on stays so
pub matched_on_more : {S : Type 0} (moves : Moves S) (seats : ℕ) (found found_after nexts nexts_after : List (Node S)) (state : S) (path : List ℕ)
    → ((state : S) (path : List ℕ) → IsMatched found state path → IsMatched found_after state path)
    → ((state : S) (path : List ℕ) → IsMatched nexts state path → IsMatched nexts_after state path)
    → IsMatchedOn moves seats found nexts state path → IsMatchedOn moves seats found_after nexts_after state path
matched_on_more moves seats found found_after nexts nexts_after state path more most before = record {
  follow = λ seat after below steps. most after (path ++ seat ∷ []) (before.follow seat after below steps);
  ended = λ ended. more state path (before.ended ended);
}

-- the last node of what is left of a layer is matched on
pub layer_matched : {S : Type 0} (moves : Moves S) (seats : ℕ) (found found_after nexts nexts_after layer front : List (Node S)) (node : Node S) (state : S) (path : List ℕ)
    → layer ≡ front ++ node ∷ []
    → ((state : S) (path : List ℕ) → IsMatched found state path → IsMatched found_after state path)
    → ((state : S) (path : List ℕ) → IsMatched nexts state path → IsMatched nexts_after state path)
    → ((path : List ℕ) → HasAsGood node.fewest.items path → IsMatchedOn moves seats found_after nexts_after node.state path)
    → IsMatched layer state path ⊎ IsMatchedOn moves seats found nexts state path
    → IsMatched front state path ⊎ IsMatchedOn moves seats found_after nexts_after state path
layer_matched {S} moves seats found found_after nexts nexts_after layer front node state path popped kept most done before =
    elim before as (λ _. IsMatched front state path ⊎ IsMatchedOn moves seats found_after nexts_after state path) [
      | inl held ↦
          (elim (matched_popped layer front node state path popped held)
          as (λ _. IsMatched front state path ⊎ IsMatchedOn moves seats found_after nexts_after state path) [
            | inl still ↦ inl still
            | inr now ↦ inr (subst (λ (state : S). IsMatchedOn moves seats found_after nexts_after state path) now.0 (done path now.1))
          ])
      | inr was ↦ inr (matched_on_more moves seats found found_after nexts nexts_after state path kept most was)
    ]

-- ---- one more step of a node's orders

-- a seat that has a step
pub matched_more : {S : Type 0} (moves : Moves S) → IsSettled moves → (node : Node S) (nodes new : List (Node S)) (next : Node S) (at : ℕ) (path : List ℕ) (seat : ℕ) (after : S)
    → new ≡ nodes ++ next ∷ [] → moves node.state at (Some next.state) → seat < at + 1 → moves node.state seat (Some after)
    → HasAsGood next.fewest.items (path ++ at ∷ []) → (seat < at → moves node.state seat (Some after) → IsMatched nodes after (path ++ seat ∷ []))
    → IsMatched new after (path ++ seat ∷ [])
matched_more {S} moves settled node nodes new next at path seat after is moved below steps good before =
    elim (cases_eq seat at) as (λ _. IsMatched new after (path ++ seat ∷ [])) [
      | inl here ↦
          (let same : Some next.state ≡ Some after = settled node.state at (Some next.state) (Some after) moved (subst (λ (seat : ℕ). moves node.state seat (Some after)) here steps) in
          subst (λ (state : S). IsMatched new state (path ++ seat ∷ [])) (same_Some next.state after same)
          (subst (λ (seat : ℕ). IsMatched new next.state (path ++ seat ∷ [])) (sym here) (push_matched nodes new next (path ++ at ∷ []) is good)))
      | inr earlier ↦ push_still nodes new next after (path ++ seat ∷ []) is (before (omega (arith, below, earlier)) steps)
    ]

-- a seat that has none
pub matched_past : {S : Type 0} (moves : Moves S) → IsSettled moves → (node : Node S) (nodes : List (Node S)) (at : ℕ) (path : List ℕ) (seat : ℕ) (after : S)
    → moves node.state at None → seat < at + 1 → moves node.state seat (Some after)
    → (seat < at → moves node.state seat (Some after) → IsMatched nodes after (path ++ seat ∷ []))
    → IsMatched nodes after (path ++ seat ∷ [])
matched_past {S} moves settled node nodes at path seat after moved below steps before =
    elim (cases_eq seat at) as (λ _. IsMatched nodes after (path ++ seat ∷ [])) [
      | inl here ↦
          absurd (none-some after (settled node.state at None (Some after) moved (subst (λ (seat : ℕ). moves node.state seat (Some after)) here steps)))
      | inr earlier ↦ before (omega (arith, below, earlier)) steps
    ]

-- ---- orders by their last step

-- an order that has a step has a last one
pub last_of : (path : List ℕ) → 0 < length path
    → (front : List ℕ) × (seat : ℕ) × (path ≡ front ++ seat ∷ []) × (length front + 1 ≡ length path)
last_of [] some = absurd (omega (arith, some))
last_of (seat ∷ []) some = ([], seat, refl, refl)
last_of (first ∷ next ∷ path) some =
    let rest = last_of (next ∷ path) (omega arith) in
    let long = rest.3 in
    (first ∷ rest.0, rest.1, ap (λ (path : List ℕ). first ∷ path) rest.2, omega (arith, long))

pub leads_last : {S : Type 0} (moves : Moves S) (seats : ℕ) (start last : S) (path : List ℕ) (seat : ℕ) → Leads moves seats start (path ++ seat ∷ []) last
    → (middle : S) × Leads moves seats start path middle × (seat < seats) × moves middle seat (Some last)
leads_last {S} moves seats start last [] seat leads =
    (start, refl, leads.1, subst (λ (last : S). moves start seat (Some last)) leads.3 leads.2)
leads_last moves seats start last (first ∷ path) seat leads =
    let rest = leads_last moves seats leads.0 last path seat leads.3 in
    (rest.0, (leads.0, leads.1, leads.2, rest.1), rest.2, rest.3)

-- one more round: the orders of a layer
pub match_layer : {S : Type 0} (moves : Moves S) (seats : ℕ) (start : S) (layer nexts found_after : List (Node S)) (steps : ℕ)
    → ((path : List ℕ) (last : S) → Leads moves seats start path last → length path ≡ steps → IsMatched layer last path)
    → ((state : S) (path : List ℕ) → IsMatched layer state path → IsMatchedOn moves seats found_after nexts state path)
    → (path : List ℕ) (last : S) → Leads moves seats start path last → length path ≡ steps + 1 → IsMatched nexts last path
match_layer {S} moves seats start layer nexts found_after steps matched on path last leads long =
    let parts = last_of path (omega (arith, long)) in
    let front = leads_last moves seats start last parts.0 parts.1 (subst (λ (path : List ℕ). Leads moves seats start path last) parts.2 leads) in
    let size = parts.3 in
    let here = matched parts.0 front.0 front.1 (omega (arith, long, size)) in
    subst (λ (path : List ℕ). IsMatched nexts last path) (sym parts.2) ((on front.0 parts.0 here).follow parts.1 last front.2 front.3)

-- and those that have ended
pub match_found : {S : Type 0} (moves : Moves S) (seats : ℕ) (start : S) (layer nexts found found_after : List (Node S)) (steps : ℕ)
    → ((path : List ℕ) (last : S) → Leads moves seats start path last → length path ≡ steps → IsMatched layer last path)
    → ((state : S) (path : List ℕ) → IsMatched layer state path → IsMatchedOn moves seats found_after nexts state path)
    → ((path : List ℕ) (last : S) → Leads moves seats start path last → length path < steps → HasEnded moves seats last → IsMatched found last path)
    → ((state : S) (path : List ℕ) → IsMatched found state path → IsMatched found_after state path)
    → (path : List ℕ) (last : S) → Leads moves seats start path last → length path < steps + 1 → HasEnded moves seats last → IsMatched found_after last path
match_found moves seats start layer nexts found found_after steps matched on before kept path last leads short ended =
    elim (cases_eq (length path) steps) as (λ _. IsMatched found_after last path) [
      | inl now ↦ (on last path (matched path last leads now)).ended ended
      | inr earlier ↦ kept last path (before path last leads (omega (arith, short, earlier)) ended)
    ]

-- the order that has no step
pub match_first : {S : Type 0} (moves : Moves S) (seats : ℕ) (start : S) (layer : List (Node S)) → IsMatched layer start []
    → (path : List ℕ) (last : S) → Leads moves seats start path last → length path ≡ 0 → IsMatched layer last path
match_first {S} moves seats start layer matched [] last leads none = subst (λ (state : S). IsMatched layer state []) leads matched
match_first moves seats start layer matched (seat ∷ path) last leads none = absurd (omega (arith, none))
