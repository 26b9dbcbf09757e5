use Rattle.std.proofs.Common.{arith, rules, ◌+◌, ◌*◌, ◌++◌, ◌⊎◌, inl, inr, [], Some, Contains, ap, sym, subst, ◌∙◌}
use Rattle.std.proofs.lemmas.List.{nil_from_length}
use Rattle.std.proofs.lemmas.Result.{err_from_is_err_and}
use Rattle.std.proofs.lemmas.List.Elements.{All-nil, All-pop, All-same, Contains-push_cases}
use Rattle.std.proofs.lemmas.List.Sums.{sum_by_push}
use Rattle.std.proofs.lemmas.List.Sorted.{All-permutation, Contains-permutation, IsPermutation-append_left, IsPermutation-map, sum_by-IsPermutation, IsNonDecreasingBy-from_sort_by_key}
use Rattle.irp_explore.specs.declared.node.Node.{Node}
use Rattle.irp_explore.specs.Nodes.{weigh, states_of, IsReached, IsFloor, IsMatched}
use Rattle.irp_explore.proofs.Weighing.{pushed_states}
use Rattle.irp_explore.proofs.Apart.{apart_none, falling_none, rising_rest, rest_below}
use Rattle.irp_explore.proofs.Ahead.{nothing_contained}
use Rattle.irp_explore.proofs.Matching.{matched_popped, none_matched}
use Rattle.irp_explore.proofs.Permuting.{second_first}
use Rattle.irp_explore.proofs.Counting.{counted_permuted, counted_popped}
use Rattle.irp_explore.proofs.joining.join_equal.Goals as goal

pub loop-node-init : goal.loop-node-init
loop-node-init g c =
    let moves = g.M.Machine.moves c.args.machine.now in
    let seats = g.M.Machine.seats c.args.machine.now in
    let mark = g.M.Machine.mark c.args.machine.now in
    record {
      weight = λ number.
          ap (λ items. weigh number items + weigh number c.sort_by_key.new.self.items) c.new-joined.ensures.items
          ∙ omega (arith, sum_by-IsPermutation (λ (node : Node _). node.orders * number node.state) c.args.nodes.items c.sort_by_key.new.self.items c.in_ok-sort_by_key.ensures.permutation);
      reached = λ start steps all. (
        All-permutation (IsReached moves seats mark start steps) c.args.nodes.items c.sort_by_key.new.self.items c.in_ok-sort_by_key.ensures.permutation all,
        All-same (IsReached moves seats mark start steps) c.new-joined.result.items [] c.new-joined.ensures.items (All-nil (IsReached moves seats mark start steps)),
      );
      kept = λ state held. inl (Contains-permutation (states_of c.args.nodes.items) (states_of c.sort_by_key.new.self.items) state
          (IsPermutation-map (λ (node : Node g.row.M-State.Denot). node.state) c.args.nodes.items c.sort_by_key.new.self.items c.in_ok-sort_by_key.ensures.permutation) held);
      matched = λ state path held. inl (held.0, Contains-permutation c.args.nodes.items c.sort_by_key.new.self.items held.0 c.in_ok-sort_by_key.ensures.permutation held.1, held.2, held.3);
      rising = IsNonDecreasingBy-from_sort_by_key (λ (node : Node g.row.M-State.Denot). node.mark) _ c.in_ok-sort_by_key.ensures.sorted (λ a r q k. search rules);
      floor = λ i d below. rw c.new-joined.ensures.items (All-nil (λ (node : Node g.row.M-State.Denot). _));
      falling = rw c.new-joined.ensures.items falling_none;
      apart = λ start steps all. rw c.new-joined.ensures.items apart_none;
      counted = λ start others before.
          rw c.new-joined.ensures.items
          (counted_permuted moves seats start (c.args.nodes.items ++ others) (c.sort_by_key.new.self.items ++ others)
          (IsPermutation-append_left others c.args.nodes.items c.sort_by_key.new.self.items c.in_ok-sort_by_key.ensures.permutation) before);
    }

pub loop-node-preserved : goal.loop-node-preserved
loop-node-preserved g c =
    let moves = g.M.Machine.moves c.args.machine.now in
    let seats = g.M.Machine.seats c.args.machine.now in
    let mark = g.M.Machine.mark c.args.machine.now in
    let floors = All-pop (λ (node : Node g.row.M-State.Denot). IsFloor node.mark c.loop-node.joined.items) c.loop-node.nodes.items c.pop.new.self.items (Some c.in-Some.node) c.in-Some.ensures.items c.loop-node.invariant.floor in
    record {
      weight = λ number.
          let popped = ap (weigh number) c.in-Some.ensures.items in
          let split = sum_by_push (λ (node : Node _). node.orders * number node.state) c.pop.new.self.items c.in-Some.node in
          omega (arith, popped, split, c.in_ok-join_one.ensures.weight number, c.loop-node.invariant.weight number);
      reached = λ start steps all.
          let before = c.loop-node.invariant.reached start steps all in
          let parts = All-pop (IsReached moves seats mark start steps) c.loop-node.nodes.items c.pop.new.self.items (Some c.in-Some.node) c.in-Some.ensures.items before.0 in
          (parts.0, c.in_ok-join_one.ensures.reached start steps before.1 parts.1);
      kept = λ state held.
          elim (c.loop-node.invariant.kept state held) as (λ _. Contains (states_of c.pop.new.self.items) state ⊎ Contains (states_of c.join_one.new.joined.items) state) [
            | inl left ↦
                (elim (Contains-push_cases (states_of c.pop.new.self.items) c.in-Some.node.state state
                (subst (λ states. Contains states state) (pushed_states c.pop.new.self.items c.loop-node.nodes.items c.in-Some.node c.in-Some.ensures.items) left))
                as (λ _. Contains (states_of c.pop.new.self.items) state ⊎ Contains (states_of c.join_one.new.joined.items) state) [
                  | inl still ↦ inl still
                  | inr same ↦ inr (subst (λ state. Contains (states_of c.join_one.new.joined.items) state) same c.in_ok-join_one.ensures.held)
                ])
            | inr there ↦ inr (c.in_ok-join_one.ensures.kept state there)
          ];
      matched = λ state path held.
          elim (c.loop-node.invariant.matched state path held) as (λ _. IsMatched c.pop.new.self.items state path ⊎ IsMatched c.join_one.new.joined.items state path) [
            | inl left ↦
                (elim (matched_popped c.loop-node.nodes.items c.pop.new.self.items c.in-Some.node state path c.in-Some.ensures.items left)
                as (λ _. IsMatched c.pop.new.self.items state path ⊎ IsMatched c.join_one.new.joined.items state path) [
                  | inl still ↦ inl still
                  | inr now ↦ inr (subst (λ state. IsMatched c.join_one.new.joined.items state path) now.0 (c.in_ok-join_one.ensures.matched path now.1))
                ])
            | inr there ↦ inr (c.in_ok-join_one.ensures.matched_still state path there)
          ];
      rising = rising_rest c.loop-node.nodes.items c.pop.new.self.items c.in-Some.node c.in-Some.ensures.items c.loop-node.invariant.rising;
      floor = λ i d below.
          c.in_ok-join_one.ensures.floor _ (rest_below c.loop-node.nodes.items c.pop.new.self.items c.in-Some.node c.in-Some.ensures.items c.loop-node.invariant.rising i d below)
          (floors.0 i d below);
      falling = c.in_ok-join_one.ensures.falling c.loop-node.invariant.falling floors.1;
      apart = λ start steps all.
          let before = c.loop-node.invariant.reached start steps all in
          let parts = All-pop (IsReached moves seats mark start steps) c.loop-node.nodes.items c.pop.new.self.items (Some c.in-Some.node) c.in-Some.ensures.items before.0 in
          c.in_ok-join_one.ensures.apart start steps before.1 parts.1 c.loop-node.invariant.falling floors.1 (c.loop-node.invariant.apart start steps all);
      counted = λ start others before.
          let rest = c.pop.new.self.items in
          counted_permuted moves seats start (c.join_one.new.joined.items ++ (rest ++ others)) (rest ++ (c.join_one.new.joined.items ++ others)) (second_first c.join_one.new.joined.items rest others)
          (c.in_ok-join_one.ensures.counted start (rest ++ others)
          (counted_popped moves seats start c.loop-node.nodes.items rest c.loop-node.joined.items others c.in-Some.node c.in-Some.ensures.items (c.loop-node.invariant.counted start others before)));
    }

pub returns-clause-kept : goal.returns-clause-kept
returns-clause-kept g c = λ state held.
    elim (c.loop-node.invariant.kept state held) as (λ _. Contains (states_of c.loop-node.joined.items) state) [
      | inl left ↦ absurd (nothing_contained c.loop-node.nodes.items state (omega (arith, c.in_default.ensures.cases.0)) left)
      | inr there ↦ there
    ]

pub returns-clause-matched : goal.returns-clause-matched
returns-clause-matched g c = λ state path held.
    elim (c.loop-node.invariant.matched state path held) as (λ _. IsMatched c.loop-node.joined.items state path) [
      | inl left ↦ absurd (none_matched c.loop-node.nodes.items state path (omega (arith, c.in_default.ensures.cases.0)) left)
      | inr there ↦ there
    ]

pub returns-then-len-most_states-clause-too_many : goal.returns-then-len-most_states-clause-too_many
returns-then-len-most_states-clause-too_many g c = λ same start steps all. (
  steps,
  c.loop-node.joined.items,
  omega (arith, c.if-len-most_states.true, c.len.ensures),
  (c.loop-node.invariant.reached start steps all).1,
  c.loop-node.invariant.apart start steps all,
)

pub returns-clause-apart : goal.returns-clause-apart
returns-clause-apart g c = λ start steps all. c.loop-node.invariant.apart start steps all

pub returns-clause-reached : goal.returns-clause-reached
returns-clause-reached g c = λ start steps all. (c.loop-node.invariant.reached start steps all).1

pub returns-clause-counted : goal.returns-clause-counted
returns-clause-counted g c = λ start others before.
    let none = nil_from_length c.loop-node.nodes.items (omega (arith, c.in_default.ensures.cases.0)) in
    rw none at (c.loop-node.invariant.counted start others before)

pub returns-in_err-join_one-clause-too_many_orders : goal.returns-in_err-join_one-clause-too_many_orders
returns-in_err-join_one-clause-too_many_orders g c =
    let p = err_from_is_err_and c.from_residual-in_err-join_one.result c.from_residual-in_err-join_one.ensures.1 in
    rw p.1 (λ same start others before.
    c.in_err-join_one.ensures.too_many_orders (sym p.2 ∙ same) start (c.pop.new.self.items ++ others)
    (counted_popped (g.M.Machine.moves c.args.machine.now) (g.M.Machine.seats c.args.machine.now) start c.loop-node.nodes.items c.pop.new.self.items c.loop-node.joined.items others c.in-Some.node c.in-Some.ensures.items
    (c.loop-node.invariant.counted start others before)))
