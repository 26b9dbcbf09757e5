-- Lemmas on how many different orders lead to a state.
use Rattle.std.proofs.Common.{ℕ, suc, ◌≡◌, ◌≢◌, ◌+◌, ◌<◌, ◌≤◌, ◌^◌, All, Some, inl, inr, List, [], ◌∷◌, ◌++◌, map, length, get_or, set, take, drop, refl, ap, sym, subst, ◌∙◌, arith, append_assoc}
use Rattle.std.specs.Prelude.{AllPairs}
use Rattle.std.specs.List.Sorted.{IsPermutation}
use Rattle.std.proofs.lemmas.Bool.{cases_eq}
use Rattle.std.proofs.lemmas.Simd.{map-map}
use Rattle.std.proofs.lemmas.List.{set-get_or, append_cancel_left, append-nil, length-map, get_or-map, map-append, map_push, nil_from_length, length-append}
use Rattle.std.proofs.lemmas.List.Elements.{All-nil, All-cons, All-head, All-tail, All-append, All-map, All-weaker, All-push}
use Rattle.std.proofs.lemmas.List.Kept.{AllPairs-cons}
use Rattle.std.proofs.lemmas.List.Quantifiers.{all_pairs_push}
use Rattle.std.proofs.lemmas.List.Sorted.{All-permutation, IsPermutation-sym, IsPermutation-middle, IsPermutation-append_comm, IsPermutation-append_left, IsPermutation-append_right, IsPermutation-cons}
use Rattle.irp_explore.specs.declared.node.Node.{Node}
use Rattle.irp_explore.specs.Orders.{Moves, Leads}
use Rattle.irp_explore.specs.Counted.{HasManyOrders, AreParted, IsCount, AreAllParted, AreCounted, AddsSteps}
use Rattle.irp_explore.proofs.Reaching.{leads_more}
use Rattle.irp_explore.proofs.Permuting.{one_in, one_out, pairs_append, pairs_either, pairs_head, pairs_map, pairs_permuted, pairs_tail, pairs_weaker, permuted_before, second_first, set_first}

-- orders that part, either way round, are different
part_flips : (one other : List ℕ) → AreParted one other → AreParted other one
part_flips one other part = (part.0, part.2, part.1, part.4, part.3, part.6, part.5, λ same. part.7 (sym same))

pub part_differs : (one other : List ℕ) → AreParted one other → one ≢ other
part_differs one other part same =
    let on = append_cancel_left part.0 (part.1 ∷ part.3) (part.2 ∷ part.4) (sym part.5 ∙ same ∙ part.6) in
    part.7 (cc on)

-- orders that part still do when one goes on
part_longer : (one other more : List ℕ) → AreParted one other → AreParted (one ++ more) other
part_longer one other more part =
    (part.0, part.1, part.2, part.3 ++ more, part.4, ap (λ path. path ++ more) part.5 ∙ append_assoc part.0 (part.1 ∷ part.3) more, part.6, part.7)

part_both : (one other more other_more : List ℕ) → AreParted one other → AreParted (one ++ more) (other ++ other_more)
part_both one other more other_more part =
    part_longer one (other ++ other_more) more (part_flips (other ++ other_more) one (part_longer other one other_more (part_flips one other part)))

all_part_flips : (orders others : List (List ℕ)) → AreAllParted orders others → AreAllParted others orders
all_part_flips orders others all k d here l e there = part_flips _ _ (all l e there k d here)

-- before the first seat
pub steps_none : {S : Type 0} (moves : Moves S) (node : Node S) (nodes : List (Node S)) → AddsSteps moves 0 node nodes nodes
steps_none moves node nodes = record {
  steps = [];
  listed = sym (append-nil nodes);
  below = λ k d within. absurd (omega arith);
  moved = λ k d within. absurd (omega arith);
  orders = λ k d within. absurd (omega arith);
  rising = λ i j d before within. absurd (omega arith);
}

-- a seat that has a step
pub steps_yes : {S : Type 0} (moves : Moves S) (seat : ℕ) (node after : Node S) (old new latest : List (Node S)) → AddsSteps moves seat node old new → moves node.state seat (Some after.state)
    → after.orders ≡ node.orders → latest ≡ new ++ after ∷ [] → AddsSteps moves (seat + 1) node old latest
steps_yes {S} moves seat node after old new latest so_far moved same is =
    let name : Node S × ℕ → Node S = λ step. step.0 in
    record {
      steps = so_far.steps ++ (after, seat) ∷ [];
      listed =
          is ∙ ap (λ (nodes : List (Node S)). nodes ++ after ∷ []) so_far.listed ∙ append_assoc old (map name so_far.steps) (after ∷ [])
          ∙ ap (λ (nodes : List (Node S)). old ++ nodes) (sym (map_push name so_far.steps (after, seat)));
      below = All-push (λ (step : Node S × ℕ). step.1 < seat + 1) so_far.steps (after, seat) (λ k d within. omega (arith, so_far.below k d within)) (omega arith);
      moved = All-push (λ (step : Node S × ℕ). moves node.state step.1 (Some step.0.state)) so_far.steps (after, seat) so_far.moved moved;
      orders = All-push (λ (step : Node S × ℕ). step.0.orders ≡ node.orders) so_far.steps (after, seat) so_far.orders same;
      rising = all_pairs_push (λ (one other : Node S × ℕ). one.1 < other.1) so_far.steps (after, seat) so_far.rising (λ k d within. so_far.below k d within);
    }

-- a seat that has none
pub steps_no : {S : Type 0} (moves : Moves S) (seat : ℕ) (node : Node S) (old new latest : List (Node S)) → AddsSteps moves seat node old new → latest ≡ new → AddsSteps moves (seat + 1) node old latest
steps_no moves seat node old new latest so_far is = record {
  steps = so_far.steps;
  listed = is ∙ so_far.listed;
  below = λ k d within. omega (arith, so_far.below k d within);
  moved = so_far.moved;
  orders = so_far.orders;
  rising = so_far.rising;
}

module _ {S : Type 0} (moves : Moves S) (seats : ℕ) (start : S) where
  -- nodes in another order
  pub counted_permuted : (nodes others : List (Node S)) → IsPermutation nodes others → AreCounted moves seats start nodes → AreCounted moves seats start others
  counted_permuted nodes others permuted before =
      let name : Node S × List (List ℕ) → Node S = λ count. count.0 in
      let found = permuted_before name before.counts nodes others before.nodes_are permuted in
      record {
        counts = found.0;
        nodes_are = found.2;
        counted = All-permutation (λ (count : Node S × List (List ℕ)). IsCount moves seats start count.0 count.1) before.counts found.0 found.1 before.counted;
        part = pairs_permuted (λ (one other : Node S × List (List ℕ)). AreAllParted one.1 other.1) (λ one other. all_part_flips one.1 other.1) before.counts found.0 found.1 before.part;
      }

  -- the last of some nodes goes to the front
  pub counted_taken : (layer rest others : List (Node S)) (node : Node S) → layer ≡ rest ++ node ∷ []
      → AreCounted moves seats start (layer ++ others) → AreCounted moves seats start (node ∷ (rest ++ others))
  counted_taken layer rest others node is before =
      counted_permuted ((rest ++ node ∷ []) ++ others) (node ∷ (rest ++ others)) (one_out node rest others)
      (subst (λ (nodes : List (Node S)). AreCounted moves seats start (nodes ++ others)) is before)

  -- the last of some nodes goes to the front of all, behind it come others and then what is left
  pub counted_popped : (nodes rest joined others : List (Node S)) (node : Node S) → nodes ≡ rest ++ node ∷ []
      → AreCounted moves seats start (nodes ++ (joined ++ others)) → AreCounted moves seats start (node ∷ (joined ++ (rest ++ others)))
  counted_popped nodes rest joined others node is before =
      counted_permuted (node ∷ (rest ++ (joined ++ others))) (node ∷ (joined ++ (rest ++ others)))
      (IsPermutation-cons node (rest ++ (joined ++ others)) (joined ++ (rest ++ others)) (second_first rest joined others))
      (counted_taken nodes rest (joined ++ others) node is before)

  -- what is counted of the first node, and of the others
  record Split (node : Node S) (rest : List (Node S)) : Type 0 where
    orders : List (List ℕ)
    counts : List (Node S × List (List ℕ))
    nodes_are : map (λ count. count.0) counts ≡ rest
    first : IsCount moves seats start node orders
    counted : All (λ count. IsCount moves seats start count.0 count.1) counts
    across : All (λ count. AreAllParted orders count.1) counts
    part : AllPairs (λ one other. AreAllParted one.1 other.1) counts

  split_from : (node : Node S) (rest : List (Node S)) (counts : List (Node S × List (List ℕ))) → map (λ count. count.0) counts ≡ node ∷ rest
      → All (λ count. IsCount moves seats start count.0 count.1) counts → AllPairs (λ one other. AreAllParted one.1 other.1) counts → Split node rest
  split_from node rest [] is counted part = absurd (cc)
  split_from node rest (count ∷ counts) is counted part =
      let name : count.0 ≡ node = cc in
      let names : map (λ count. count.0) counts ≡ rest = cc in
      let P : Node S × List (List ℕ) → Type 0 = λ count. IsCount moves seats start count.0 count.1 in
      let R : Node S × List (List ℕ) → Node S × List (List ℕ) → Type 0 = λ one other. AreAllParted one.1 other.1 in
      record {
        orders = count.1;
        counts = counts;
        nodes_are = names;
        first = subst (λ (node : Node S). IsCount moves seats start node count.1) name (All-head P count counts counted);
        counted = All-tail P count counts counted;
        across = pairs_head R count counts part;
        part = pairs_tail R count counts part;
      }

  -- what is counted of two nodes of one state together, and of the others
  record Merged (state : S) (size : ℕ) (rest : List (Node S)) : Type 0 where
    orders : List (List ℕ)
    counts : List (Node S × List (List ℕ))
    many : length orders ≡ size
    lead : All (λ order. Leads moves seats start order state) orders
    own : AllPairs AreParted orders
    nodes_are : map (λ count. count.0) counts ≡ rest
    counted : All (λ count. IsCount moves seats start count.0 count.1) counts
    across : All (λ count. AreAllParted orders count.1) counts
    part : AllPairs (λ one other. AreAllParted one.1 other.1) counts

  merged_from : (node other : Node S) (rest : List (Node S)) (counts : List (Node S × List (List ℕ))) → other.state ≡ node.state → map (λ count. count.0) counts ≡ node ∷ other ∷ rest
      → All (λ count. IsCount moves seats start count.0 count.1) counts → AllPairs (λ one other. AreAllParted one.1 other.1) counts → Merged other.state (other.orders + node.orders) rest
  merged_from node other rest [] same is counted part = absurd (cc)
  merged_from node other rest (one ∷ []) same is counted part = absurd (cc)
  merged_from node other rest (one ∷ two ∷ counts) same is counted part =
      let P : Node S × List (List ℕ) → Type 0 = λ count. IsCount moves seats start count.0 count.1 in
      let R : Node S × List (List ℕ) → Node S × List (List ℕ) → Type 0 = λ one other. AreAllParted one.1 other.1 in
      let name : one.0 ≡ node = cc in
      let name_two : two.0 ≡ other = cc in
      let names : map (λ count. count.0) counts ≡ rest = cc in
      let rest_counted = All-tail P one (two ∷ counts) counted in
      let rest_part = pairs_tail R one (two ∷ counts) part in
      let one_across = pairs_head R one (two ∷ counts) part in
      let first = subst (λ (node : Node S). IsCount moves seats start node one.1) name (All-head P one (two ∷ counts) counted) in
      let second = subst (λ (node : Node S). IsCount moves seats start node two.1) name_two (All-head P two counts rest_counted) in
      let led = subst (λ (state : S). All (λ order. Leads moves seats start order state) one.1) (sym same) first.lead in
      record {
        orders = one.1 ++ two.1;
        counts = counts;
        many = omega (arith, length-append one.1 two.1, first.many, second.many);
        lead = All-append (λ order. Leads moves seats start order other.state) one.1 two.1 led second.lead;
        own = pairs_append AreParted one.1 two.1 first.part second.part (All-head (R one) two counts one_across);
        nodes_are = names;
        counted = All-tail P two counts rest_counted;
        across = λ k d within.
            All-append (λ order. All (AreParted order) (get_or counts k d).1) one.1 two.1
            (All-tail (R one) two counts one_across k d within) (pairs_head R two counts rest_part k d within);
        part = pairs_tail R two counts rest_part;
      }

  -- two nodes of one state are joined
  counted_joined : (node other both : Node S) (rest : List (Node S)) → other.state ≡ node.state → both.state ≡ other.state → both.orders ≡ other.orders + node.orders
      → AreCounted moves seats start (node ∷ other ∷ rest) → AreCounted moves seats start (both ∷ rest)
  counted_joined node other both rest same state orders before =
      let P : Node S × List (List ℕ) → Type 0 = λ count. IsCount moves seats start count.0 count.1 in
      let R : Node S × List (List ℕ) → Node S × List (List ℕ) → Type 0 = λ one other. AreAllParted one.1 other.1 in
      let merged = merged_from node other rest before.counts same before.nodes_are before.counted before.part in
      let lead = subst (λ (state : S). All (λ order. Leads moves seats start order state) merged.orders) (sym state) merged.lead in
      let first : IsCount moves seats start both merged.orders = record { many = merged.many ∙ sym orders; lead = lead; part = merged.own } in
      record {
        counts = (both, merged.orders) ∷ merged.counts;
        nodes_are = ap (λ (nodes : List (Node S)). both ∷ nodes) merged.nodes_are;
        counted = All-cons P (both, merged.orders) merged.counts first merged.counted;
        part = AllPairs-cons R (both, merged.orders) merged.counts merged.across merged.part;
      }

  -- two nodes of one state to which too many orders lead
  many_from : (node other : Node S) (rest : List (Node S)) → other.state ≡ node.state → 2 ^ 128 ≤ other.orders + node.orders
      → AreCounted moves seats start (node ∷ other ∷ rest) → HasManyOrders moves seats start
  many_from node other rest same many before =
      let merged = merged_from node other rest before.counts same before.nodes_are before.counted before.part in
      (other.state, merged.orders, omega (arith, many, merged.many), merged.lead, pairs_weaker AreParted (λ one other. one ≢ other) part_differs merged.orders merged.own)

  -- the order that has no step
  pub counted_first : (nodes : List (Node S)) (node : Node S) → nodes ≡ node ∷ [] → node.state ≡ start → node.orders ≡ 1 → AreCounted moves seats start nodes
  counted_first nodes node is state once =
      let P : Node S × List (List ℕ) → Type 0 = λ count. IsCount moves seats start count.0 count.1 in
      let here : Leads moves seats start [] node.state = sym state in
      let first : IsCount moves seats start node ([] ∷ []) = record {
        many = sym once;
        lead = All-cons (λ (order : List ℕ). Leads moves seats start order node.state) [] [] here (All-nil (λ (order : List ℕ). Leads moves seats start order node.state));
        part = λ i j d before within. absurd (omega arith);
      } in
      record {
        counts = (node, [] ∷ []) ∷ [];
        nodes_are = sym is;
        counted = All-cons P (node, [] ∷ []) [] first (All-nil P);
        part = λ i j d before within. absurd (omega arith);
      }

  -- a node joined with one of others
  pub counted_set : (nodes others : List (Node S)) (place : ℕ) (other node both : Node S) → place < length nodes → other ≡ get_or nodes place other → other.state ≡ node.state → both.state ≡ other.state
      → both.orders ≡ other.orders + node.orders → AreCounted moves seats start (node ∷ (nodes ++ others)) → AreCounted moves seats start (set nodes place both ++ others)
  counted_set nodes others place other node both there read same state orders before =
      let left = take place nodes ++ drop (suc place) nodes in
      let whole : set nodes place other ≡ nodes = ap (set nodes place) read ∙ set-get_or nodes place other in
      let out : IsPermutation nodes (other ∷ left) = subst (λ (l : List (Node S)). IsPermutation l (other ∷ left)) whole (set_first nodes place other there) in
      let back : IsPermutation (both ∷ left) (set nodes place both) = IsPermutation-sym (set nodes place both) (both ∷ left) (set_first nodes place both there) in
      counted_permuted (both ∷ (left ++ others)) (set nodes place both ++ others) (IsPermutation-append_left others (both ∷ left) (set nodes place both) back)
      (counted_joined node other both (left ++ others) same state orders
      (counted_permuted (node ∷ (nodes ++ others)) (node ∷ other ∷ (left ++ others)) (IsPermutation-cons node (nodes ++ others) (other ∷ (left ++ others)) (IsPermutation-append_left others nodes (other ∷ left) out)) before))

  -- a node of the state of one of others, where too many orders lead to both
  pub many_at : (nodes others : List (Node S)) (place : ℕ) (other node : Node S) → place < length nodes → other ≡ get_or nodes place other → other.state ≡ node.state
      → 2 ^ 128 ≤ other.orders + node.orders → AreCounted moves seats start (node ∷ (nodes ++ others)) → HasManyOrders moves seats start
  many_at nodes others place other node there read same many before =
      let left = take place nodes ++ drop (suc place) nodes in
      let whole : set nodes place other ≡ nodes = ap (set nodes place) read ∙ set-get_or nodes place other in
      let out : IsPermutation nodes (other ∷ left) = subst (λ (l : List (Node S)). IsPermutation l (other ∷ left)) whole (set_first nodes place other there) in
      many_from node other (left ++ others) same many
      (counted_permuted (node ∷ (nodes ++ others)) (node ∷ other ∷ (left ++ others)) (IsPermutation-cons node (nodes ++ others) (other ∷ (left ++ others)) (IsPermutation-append_left others nodes (other ∷ left) out)) before)

  -- orders that go on by two seats part, whatever they part from before
  gone_on : (orders : List (List ℕ)) (seat other_seat : ℕ) → AllPairs AreParted orders → seat ≢ other_seat → AreAllParted (map (λ order. order ++ seat ∷ []) orders) (map (λ order. order ++ other_seat ∷ []) orders)
  gone_on orders seat other_seat part differ k d here l e there =
      let on : List ℕ → List ℕ = λ order. order ++ seat ∷ [] in
      let other_on : List ℕ → List ℕ = λ order. order ++ other_seat ∷ [] in
      let one : k < length orders = omega (arith, here, length-map orders on) in
      let two : l < length orders = omega (arith, there, length-map orders other_on) in
      let first = get_or-map on orders k d d one in
      let second = get_or-map other_on orders l d e two in
      let both : AreParted (get_or orders k d ++ seat ∷ []) (get_or orders l d ++ other_seat ∷ []) =
      elim (cases_eq k l) as (λ _. AreParted (get_or orders k d ++ seat ∷ []) (get_or orders l d ++ other_seat ∷ [])) [
        | inl same ↦ (get_or orders k d, seat, other_seat, [], [], refl, ap (λ (k : ℕ). get_or orders k d ++ other_seat ∷ []) (sym same), differ)
        | inr apart ↦ part_both (get_or orders k d) (get_or orders l d) (seat ∷ []) (other_seat ∷ []) (pairs_either AreParted part_flips orders k l d part apart one two)
      ] in
      rw (first, second) both

  -- a node gives way to its successors
  counted_on : (node : Node S) (rest old new : List (Node S)) → (added : AddsSteps moves seats node old new) → AreCounted moves seats start (node ∷ rest)
      → AreCounted moves seats start (map (λ step. step.0) added.steps ++ rest)
  counted_on node rest old new are before =
      let steps = are.steps in
      let P : Node S × List (List ℕ) → Type 0 = λ count. IsCount moves seats start count.0 count.1 in
      let R : Node S × List (List ℕ) → Node S × List (List ℕ) → Type 0 = λ one other. AreAllParted one.1 other.1 in
      let split = split_from node rest before.counts before.nodes_are before.counted before.part in
      let name : Node S × List (List ℕ) → Node S = λ count. count.0 in
      let on : ℕ → List ℕ → List ℕ = λ seat order. order ++ seat ∷ [] in
      let go : Node S × ℕ → Node S × List (List ℕ) = λ step. (step.0, map (on step.1) split.orders) in
      let gone = map go steps in
      record {
        counts = gone ++ split.counts;
        nodes_are =
            map-append name gone split.counts ∙ ap (λ (nodes : List (Node S)). map name gone ++ nodes) split.nodes_are
            ∙ ap (λ (nodes : List (Node S)). nodes ++ rest) (map-map name go steps);
        counted =
            All-append P gone split.counts
            (All-map P go steps (λ k d within.
            counted_step node (get_or steps k d).0 (get_or steps k d).1 split.orders split.first (are.below k d within) (are.moved k d within) (are.orders k d within)))
            split.counted;
        part =
            pairs_append R gone split.counts
            (pairs_map R go steps (λ i j d less within.
            gone_on split.orders (get_or steps i d).1 (get_or steps j d).1 split.first.part (λ same. omega (arith, same, are.rising i j d less within))))
            split.part
            (All-map (λ one. All (R one) split.counts) go steps (λ k d within.
            λ l e there. All-map (λ order. All (AreParted order) (get_or split.counts l e).1) (on (get_or steps k d).1) split.orders
            (λ m f here. λ n h other. part_longer _ _ ((get_or steps k d).1 ∷ []) (split.across l e there m f here n h other))));
      }
    where
      counted_step : (node after : Node S) (seat : ℕ) (orders : List (List ℕ)) → IsCount moves seats start node orders → seat < seats → moves node.state seat (Some after.state) → after.orders ≡ node.orders
          → IsCount moves seats start after (map (λ order. order ++ seat ∷ []) orders)
      counted_step node after seat orders count below moved same =
          let on : List ℕ → List ℕ = λ order. order ++ seat ∷ [] in
          record {
            many = length-map orders on ∙ count.many ∙ sym same;
            lead =
                All-map (λ (order : List ℕ). Leads moves seats start order after.state) on orders
                (All-weaker (λ (order : List ℕ). Leads moves seats start order node.state) (λ (order : List ℕ). Leads moves seats start (order ++ seat ∷ []) after.state)
                (λ order leads. leads_more moves seats start order node.state after.state seat leads below moved) orders count.lead);
            part =
                pairs_map AreParted on orders
                (pairs_weaker AreParted (λ one other. AreParted (one ++ seat ∷ []) (other ++ seat ∷ [])) (λ one other part. part_both one other (seat ∷ []) (seat ∷ []) part) orders count.part);
          }

  -- a node that has successors gives way to them
  pub counted_expanded : (node : Node S) (others found nexts spread : List (Node S)) → AddsSteps moves seats node nexts spread
      → AreCounted moves seats start (node ∷ (others ++ (found ++ nexts))) → AreCounted moves seats start (others ++ (found ++ spread))
  counted_expanded node others found nexts spread added before =
      let news = map (λ (step : Node S × ℕ). step.0) added.steps in
      let same : (others ++ (found ++ nexts)) ++ news ≡ others ++ (found ++ spread) =
      append_assoc others (found ++ nexts) news
      ∙ ap (λ (nodes : List (Node S)). others ++ nodes) (append_assoc found nexts news ∙ ap (λ (nodes : List (Node S)). found ++ nodes) (sym added.listed)) in
      subst (AreCounted moves seats start) same
      (counted_permuted (news ++ (others ++ (found ++ nexts))) ((others ++ (found ++ nexts)) ++ news) (IsPermutation-append_comm news (others ++ (found ++ nexts)))
      (counted_on node (others ++ (found ++ nexts)) nexts spread added before))

  -- a node that has none is found
  pub counted_found : (node : Node S) (others found found_after nexts spread : List (Node S)) → AddsSteps moves seats node nexts spread
      → length spread ≡ length nexts → found_after ≡ found ++ node ∷ []
      → AreCounted moves seats start (node ∷ (others ++ (found ++ nexts))) → AreCounted moves seats start (others ++ (found_after ++ spread))
  counted_found node others found found_after nexts spread added none pushed before =
      let name : Node S × ℕ → Node S = λ step. step.0 in
      let long = ap length added.listed ∙ length-append nexts (map name added.steps) in
      let nothing : map name added.steps ≡ [] = nil_from_length (map name added.steps) (omega (arith, long, none)) in
      let same : spread ≡ nexts = added.listed ∙ ap (λ (nodes : List (Node S)). nexts ++ nodes) nothing ∙ append-nil nexts in
      rw (same, pushed)
      (counted_permuted (others ++ node ∷ (found ++ nexts)) (others ++ ((found ++ node ∷ []) ++ nexts))
      (IsPermutation-append_right others (node ∷ (found ++ nexts)) ((found ++ node ∷ []) ++ nexts) (one_in node found nexts))
      (counted_permuted (node ∷ (others ++ (found ++ nexts))) (others ++ node ∷ (found ++ nexts))
      (IsPermutation-sym (others ++ node ∷ (found ++ nexts)) (node ∷ (others ++ (found ++ nexts))) (IsPermutation-middle others node (found ++ nexts))) before))

  pub counted_flipped : (nodes others : List (Node S)) → AreCounted moves seats start (nodes ++ others) → AreCounted moves seats start (others ++ nodes)
  counted_flipped nodes others before = counted_permuted (nodes ++ others) (others ++ nodes) (IsPermutation-append_comm nodes others) before
