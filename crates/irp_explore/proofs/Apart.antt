-- Lemmas on nodes of which no two have one state.
use Rattle.std.proofs.Common.{ℕ, ◌≡◌, ◌≢◌, ◌+◌, ◌<◌, ◌≤◌, Option, subst, inl, inr, List, [], ◌∷◌, ◌++◌, All, length, get_or, set, ap, sym, refl, ◌∙◌, arith}
use Rattle.std.proofs.lemmas.Bool.{cases_eq, cases_lt}
use Rattle.std.proofs.lemmas.List.{get_or_append_left, get_or_push, length_push, get_or-set_same, get_or-set_other, length-set, get_or_read}
use Rattle.irp_explore.specs.declared.node.Node.{Node}
use Rattle.std.specs.List.Sorted.{IsNonDecreasingBy}
use Rattle.irp_explore.specs.Orders.{Moves}
use Rattle.irp_explore.specs.Nodes.{AreApart, AreFalling, IsFloor, IsReached}

pub apart_none : {S : Type 0} → AreApart {S = S} []
apart_none i j d before below = absurd (omega arith)

-- one more
pub apart_push : {S : Type 0} (nodes : List (Node S)) (node : Node S) → AreApart nodes → All (λ other. other.state ≢ node.state) nodes → AreApart (nodes ++ node ∷ [])
apart_push {S} nodes node apart all i j d before below =
    let long = length_push nodes node in
    let first : get_or (nodes ++ node ∷ []) i d ≡ get_or nodes i d = get_or_append_left nodes (node ∷ []) d i (omega (arith, long)) in
    elim (cases_lt j (length nodes)) as (λ _. (get_or (nodes ++ node ∷ []) i d).state ≢ (get_or (nodes ++ node ∷ []) j d).state) [
      | inl low ↦
          (let second : get_or (nodes ++ node ∷ []) j d ≡ get_or nodes j d = get_or_append_left nodes (node ∷ []) d j low in
          λ equal. apart i j d before low (ap (λ node. node.state) (sym first) ∙ equal ∙ ap (λ node. node.state) second))
      | inr high ↦
          (let second : get_or (nodes ++ node ∷ []) j d ≡ node = get_or_push nodes node d j (omega (arith, long)) in
          λ equal. all i d (omega (arith, long)) (ap (λ node. node.state) (sym first) ∙ equal ∙ ap (λ node. node.state) second))
    ]

-- a node changed, its state not
states_stay : {S : Type 0} (nodes : List (Node S)) (place : ℕ) (other both : Node S) → place < length nodes → other ≡ get_or nodes place other → both.state ≡ other.state → (k : ℕ) (d : Node S) → (get_or (set nodes place both) k d).state ≡ (get_or nodes k d).state
states_stay {S} nodes place other both there read same k d =
    elim (cases_eq k place) as (λ _. (get_or (set nodes place both) k d).state ≡ (get_or nodes k d).state) [
      | inl here ↦
          (ap (λ k. (get_or (set nodes place both) k d).state) here ∙ ap (λ node. node.state) (get_or-set_same nodes place both d there) ∙ same
          ∙ ap (λ node. node.state) (get_or_read nodes place other there read d) ∙ ap (λ k. (get_or nodes k d).state) (sym here))
      | inr elsewhere ↦ ap (λ node. node.state) (get_or-set_other nodes place k both d elsewhere)
    ]

pub apart_set : {S : Type 0} (nodes : List (Node S)) (place : ℕ) (other both : Node S) → place < length nodes → other ≡ get_or nodes place other → both.state ≡ other.state → AreApart nodes → AreApart (set nodes place both)
apart_set nodes place other both there read same apart i j d before below =
    let long = length-set nodes place both in
    λ equal. apart i j d before (omega (arith, long)) (sym (states_stay nodes place other both there read same i d) ∙ equal ∙ states_stay nodes place other both there read same j d)

-- the same marks keep an order and a floor
pub falling_none : {S : Type 0} → AreFalling {S = S} []
falling_none i j d before below = absurd (omega arith)

pub falling_push : {S : Type 0} (nodes : List (Node S)) (node : Node S) → AreFalling nodes → IsFloor node.mark nodes → AreFalling (nodes ++ node ∷ [])
falling_push {S} nodes node falling floor i j d before below =
    let long = length_push nodes node in
    let first : get_or (nodes ++ node ∷ []) i d ≡ get_or nodes i d = get_or_append_left nodes (node ∷ []) d i (omega (arith, long)) in
    elim (cases_lt j (length nodes)) as (λ _. (get_or (nodes ++ node ∷ []) j d).mark ≤ (get_or (nodes ++ node ∷ []) i d).mark) [
      | inl low ↦
          (let second : get_or (nodes ++ node ∷ []) j d ≡ get_or nodes j d = get_or_append_left nodes (node ∷ []) d j low in
          rw (first, second) (falling i j d before low))
      | inr high ↦
          (let second : get_or (nodes ++ node ∷ []) j d ≡ node = get_or_push nodes node d j (omega (arith, long)) in
          rw (first, second) (floor i d (omega (arith, long))))
    ]

marks_stay : {S : Type 0} (nodes : List (Node S)) (place : ℕ) (other both : Node S) → place < length nodes → other ≡ get_or nodes place other → both.mark ≡ other.mark → (k : ℕ) (d : Node S) → (get_or (set nodes place both) k d).mark ≡ (get_or nodes k d).mark
marks_stay {S} nodes place other both there read same k d =
    elim (cases_eq k place) as (λ _. (get_or (set nodes place both) k d).mark ≡ (get_or nodes k d).mark) [
      | inl here ↦
          (ap (λ k. (get_or (set nodes place both) k d).mark) here ∙ ap (λ node. node.mark) (get_or-set_same nodes place both d there) ∙ same
          ∙ ap (λ node. node.mark) (get_or_read nodes place other there read d) ∙ ap (λ k. (get_or nodes k d).mark) (sym here))
      | inr elsewhere ↦ ap (λ node. node.mark) (get_or-set_other nodes place k both d elsewhere)
    ]

pub falling_set : {S : Type 0} (nodes : List (Node S)) (place : ℕ) (other both : Node S) → place < length nodes → other ≡ get_or nodes place other → both.mark ≡ other.mark → AreFalling nodes → AreFalling (set nodes place both)
falling_set nodes place other both there read same falling i j d before below =
    let long = length-set nodes place both in
    let a = marks_stay nodes place other both there read same i d in
    let b = marks_stay nodes place other both there read same j d in
    let was = falling i j d before (omega (arith, long)) in
    omega (arith, a, b, was)

pub floor_set : {S : Type 0} (mark : ℕ) (nodes : List (Node S)) (place : ℕ) (other both : Node S) → place < length nodes → other ≡ get_or nodes place other → both.mark ≡ other.mark → IsFloor mark nodes → IsFloor mark (set nodes place both)
floor_set mark nodes place other both there read same floor i d below =
    let long = length-set nodes place both in
    let a = marks_stay nodes place other both there read same i d in
    let was = floor i d (omega (arith, long)) in
    omega (arith, a, was)

-- Where marks fall down to a node's, and from some place on no state is the node's, while the mark before that place is
-- another: then no state is the node's.
pub none_before : {S : Type 0} (moves : Moves S) (seats : ℕ) (mark : S → ℕ) (start : S) (steps : Option ℕ) (nodes : List (Node S)) (node other : Node S) (place : ℕ)
    → place < length nodes → other ≡ get_or nodes place other → other.mark ≢ node.mark
    → All (IsReached moves seats mark start steps) nodes → IsReached moves seats mark start steps node → AreFalling nodes → IsFloor node.mark nodes
    → ((k : ℕ) (d : Node S) → place + 1 ≤ k → k < length nodes → (get_or nodes k d).state ≢ node.state)
    → All (λ one. one.state ≢ node.state) nodes
none_before moves seats mark start steps nodes node other place there read differs all reached falling floor behind i d below =
    elim (cases_lt place i) as (λ _. (get_or nodes i d).state ≢ node.state) [
      | inl after ↦ behind i d (omega (arith, after)) below
      | inr before ↦
          λ equal.
          let at = ap (λ one. one.mark) (get_or_read nodes place other there read d) in
          let bottom = floor place d there in
          let here = (all i d below).marked in
          let one : mark (get_or nodes i d).state ≡ mark node.state = ap mark equal in
          let high : (get_or nodes place d).mark ≤ (get_or nodes i d).mark = at_least nodes i place d before there falling in
          differs (omega (arith, at, bottom, here, one, reached.marked, high))
    ]
  where
    at_least : {S : Type 0} (nodes : List (Node S)) (i place : ℕ) (d : Node S) → i ≤ place → place < length nodes → AreFalling nodes → (get_or nodes place d).mark ≤ (get_or nodes i d).mark
    at_least nodes i place d before there falling =
        elim (cases_lt i place) as (λ _. (get_or nodes place d).mark ≤ (get_or nodes i d).mark) [
          | inl less ↦ falling i place d less there
          | inr not ↦
              let same : i ≡ place = omega (arith, not, before) in
              subst (λ (at : ℕ). (get_or nodes place d).mark ≤ (get_or nodes at d).mark) (sym same) (omega arith)
        ]

-- what rises still does without its last, which none is above
pub rising_rest : {S : Type 0} (nodes rest : List (Node S)) (node : Node S) → nodes ≡ rest ++ node ∷ [] → IsNonDecreasingBy (λ (node : Node S). node.mark) nodes → IsNonDecreasingBy (λ (node : Node S). node.mark) rest
rising_rest {S} nodes rest node is rising i j d before below =
    let long = ap length is ∙ length_push rest node in
    let one : get_or nodes i d ≡ get_or rest i d = ap (λ (nodes : List (Node S)). get_or nodes i d) is ∙ get_or_append_left rest (node ∷ []) d i (omega (arith, before, below)) in
    let two : get_or nodes j d ≡ get_or rest j d = ap (λ (nodes : List (Node S)). get_or nodes j d) is ∙ get_or_append_left rest (node ∷ []) d j below in
    let was = rising i j d before (omega (arith, below, long)) in
    omega (arith, ap (λ (node : Node S). node.mark) one, ap (λ (node : Node S). node.mark) two, was)

pub rest_below : {S : Type 0} (nodes rest : List (Node S)) (node : Node S) → nodes ≡ rest ++ node ∷ [] → IsNonDecreasingBy (λ (node : Node S). node.mark) nodes → All (λ (one : Node S). one.mark ≤ node.mark) rest
rest_below {S} nodes rest node is rising i d below =
    let long = ap length is ∙ length_push rest node in
    let one : get_or nodes i d ≡ get_or rest i d = ap (λ (nodes : List (Node S)). get_or nodes i d) is ∙ get_or_append_left rest (node ∷ []) d i below in
    let last : get_or nodes (length rest) d ≡ node = ap (λ (nodes : List (Node S)). get_or nodes (length rest) d) is ∙ get_or_push rest node d (length rest) refl in
    let was = rising i (length rest) d (omega (arith, below)) (omega (arith, long)) in
    omega (arith, ap (λ (node : Node S). node.mark) one, ap (λ (node : Node S). node.mark) last, was)
